-- The laws for authors of drivers.
use Prim.Native.Nat.{ℕ, zero, suc, ◌+◌, ◌-◌, ◌*◌, ◌^◌, ◌<◌, ◌≤◌, ◌%◌}
use native.Mathlib.Omega.{arith}
use mathlib.Core.Path.{◌≡◌, refl, ap, sym, ◌∙◌, subst}
use mathlib.Core.Bool.{Bool, true, false, cond, not, ◌&&◌, ◌||◌, true≢false, false≢true}
use mathlib.Core.List.{List, [], ◌∷◌}
use mathlib.Core.Option.{Option, none, some}
use lib.Dec.{eqb, ltb}
use lib.ListN.{length, get_or, set, drop}
use lib.Seq.{get_or-set_same}
use borrow.Author.Tests.{eq-eqb, eqb-true, eqb-false, not-true, not-false}
use Rattle.ring.specs.declared.Ring.{Ring}
use Rattle.ring.specs.Ring.{entries}
use Rattle.ring.proofs.Laws.{entries_length, entries_take}
use Rattle.bank.specs.Fives.{Counts}
use Rattle.bank.specs.declared.Control.{Control}
use Rattle.bank.specs.declared.Phase.{Phase}
use Rattle.bank.specs.Queues.{Queues, queues_in}
use Rattle.bank.specs.Phases.{idle, transfer}
use Rattle.bank.specs.SetUp.{total, cleared}
use Rattle.bank.specs.Formed.{queues_clear, latest_clear, control_clear, ring_clear, reset_ok, well_formed}
use Rattle.bank.proofs.Bools.{and-true, three, five}
use Rattle.bank.proofs.Laws.{Formed, formed_is, formed_of, ready}
use Rattle.registers.specs.Map.{named, entry_at, register_at}
use Rattle.model.specs.declared.Call.{Call}
use Rattle.model.specs.declared.Call.TheVariants.{Read, Write, Finish}
use Rattle.bank.specs.Bits.{bit, bits}
use Rattle.model.specs.View.{View}
use Rattle.queues.specs.declared.Queue.{Queue}
use Rattle.queues.specs.declared.Queue.TheVariants.{Cmd, Cmdr, Sdo, Sdi, Ibi}
use Rattle.queues.specs.Each.{of}
use Rattle.model.specs.Decision.{QueueOp, take, only, Effect, Decision, does, ◌⇒◌∣◌, first, effect}
use Rattle.model.specs.Commands.{receipt_word}
use Rattle.model.specs.Registers.{Cell, scratch, mask, ops, ibi_config, dev_char, watermark, offload_cmd, offload_sdo, Row, absent, shows, holds, pushes, takes, enables, acknowledges, row, shown, clears, released, remembered, taken_first, count_of, counts_with, burst_holds, above_capacity, enable, read, write}
use Rattle.model.specs.Calls.{allowed, finish}
use Rattle.model.specs.Bursts.{short_in_burst, decide}
use Rattle.bank.specs.Bursts.{bursting}
use Rattle.model.specs.Engine.{Step, outcome, step, Lent, lending, final}
use Rattle.model.specs.Rings.{Area, Controller, areas, words_in, view_rings, on_rings, on_ring, on_store, settle_rings, guard_rings, rings}
use Rattle.model.specs.Lists.{Lists, view_lists, settle_lists, lists}
use Rattle.model.specs.Laws.{fresh_controller, fresh_lists, same_queue, RefusalChangesNothing, StaysWellFormed}
use Rattle.model.specs.Driver.{held_words, finish_lacks_room, shown_of, Within, PlainWriteTaken, ReadBack, PushesReadZero, RoomAndWords, takes_word, ReadChangesNothing, ControlAfter, ReadTook, ReadTakesOne, Clean, ReleasedClean, Outlives, ResetKeeps, reads, RefusedFinishAgain}
use Rattle.model.proofs.Tests.{of_take, Refusal, Passed}
use Rattle.model.proofs.Room.{by_queue}
use Rattle.model.proofs.Formed.{read_untouched}
use Rattle.model.proofs.Simulation.{stays_sound, same_final, stays_well_formed}
use Rattle.model.proofs.Rings.{listed, on_area, base_same}
use Rattle.model.proofs.Laws.{by_outcome, fresh_sound, refusal_changes_nothing}

abbrev settled : Controller → Call → Step Controller
settled l c = let e = effect (decide (view_rings l) c) in outcome none e l (settle_rings l e)

-- ── A call answered 0 was served ──────────────────────────────────────────────────────────────────────────────
pub not_zero : (n : ℕ) → Refusal n → n ≡ 0 → ⊥
not_zero n r e = true≢false (sym (eq-eqb n 0 e) ∙ r.not0)

pub served : (l : Controller) (c : Call) → (step rings l c).answer.number ≡ 0 → (well_formed l.bank ≡ true) × (eqb (length l.store) (total l.bank.state.caps) ≡ true) × (step rings l c ≡ settled l c)
served l c = by_outcome (λ r. r.answer.number ≡ 0 → (well_formed l.bank ≡ true) × (eqb (length l.store) (total l.bank.state.caps) ≡ true) × (r ≡ settled l c)) l c (λ n k e. absurd (not_zero n k e)) (λ f z p e. (f, eq-eqb (length l.store) (total l.bank.state.caps) z, refl))

-- ── A register that is read without a test ────────────────────────────────────────────────────────────────────
abbrev RightLength : Controller → Type 0
RightLength l = length l.store ≡ total l.bank.state.caps

read_held : (l : Controller) (o : ℕ) (c : Cell) → well_formed l.bank ≡ true → eqb (length l.store) (total l.bank.state.caps) ≡ true → row (register_at o) ≡ holds c → (step rings l (Read o)).answer ≡ record { value = shown c (view_rings l); number = 0 }
unfolding step guard_rings
read_held l o c f z e = rw (f, z, e)

pub plain_write_taken : PlainWriteTaken
unfolding PlainWriteTaken step guard_rings
plain_write_taken l o v c e f z = rw (f, eq-eqb (length l.store) (total l.bank.state.caps) z, e) (by_tests (burst_holds c && bursting l.bank.state.control) (above_capacity c v (view_rings l)))
  where
    by_tests : (a b : Bool) → (let x = effect (write (holds c) (view_rings l) v) in (outcome (cond a (some 6) (cond b (some 30) none)) x l (settle_rings l x)).answer ≡ record { value = 0; number = cond a 6 (cond b 30 0) })
    by_tests true b = refl
    by_tests false true = refl
    by_tests false false = refl

-- ── Read back ─────────────────────────────────────────────────────────────────────────────────────────────────
abbrev stored : Controller → Cell → ℕ → Controller
stored l c v = settle_rings l (effect (write (holds c) (view_rings l) v))

flags_back : (b : Bool) (t : List ℕ) (a w : ℕ) → a < length t → get_or (cond b (set t a w) t) a 0 ≡ cond b w (get_or t a 0)
flags_back true t a w h = get_or-set_same t a w 0 h
flags_back false t a w h = refl

count_back : (q : Queue) (x : ℕ) (m : Counts) → count_of q (counts_with q x m) ≡ x
count_back Cmd x m = refl
count_back Cmdr x m = refl
count_back Sdo x m = refl
count_back Sdi x m = refl
count_back Ibi x m = refl

stored_shown : (l : Controller) (c : Cell) (v : ℕ) → Within c v l → shown c (view_rings (stored l c v)) ≡ shown_of c v l
stored_shown l scratch v w = refl
stored_shown l mask v w = refl
stored_shown l ops v w = refl
stored_shown l ibi_config v w = refl
stored_shown l dev_char v w = ap (λ (x : ℕ). bits 15 9 v * 2 ^ 9 + x * 2) (flags_back (bit 8 v) l.bank.flags (bits 15 9 v) (bits 3 1 v) w)
stored_shown l (watermark q) v w = count_back q (v % 2 ^ 16) l.bank.state.regs.marks
stored_shown l (offload_cmd i) v w = get_or-set_same l.bank.commands i v 0 w
stored_shown l (offload_sdo i) v w = get_or-set_same l.bank.payloads i v 0 w

stored_size : (l : Controller) (c : Cell) (v : ℕ) (b : Bool) → eqb (length l.store) (total l.bank.state.caps) ≡ b → eqb (length (stored l c v).store) (total (stored l c v).bank.state.caps) ≡ b
unfolding on_ring on_store
stored_size l c v b z = z

pub read_back : ReadBack
unfolding ReadBack StaysWellFormed
read_back l o v c e w n =
    let h = served l (Write o v) n in
    let at : (step rings l (Write o v)).next ≡ stored l c v = ap (λ (r : Step Controller). r.next) h.2 ∙ ap (λ (x : Row). settle_rings l (effect (write x (view_rings l) v))) e in
    let f = subst (λ (m : Controller). well_formed m.bank ≡ true) at (stays_well_formed l (Write o v) h.0) in
    subst (λ (m : Controller). (step rings m (Read o)).answer ≡ record { value = shown_of c v l; number = 0 }) (sym at)
    (read_held (stored l c v) o c f (stored_size l c v true h.1) e ∙ ap (λ (x : ℕ). record { value = x; number = 0 }) (stored_shown l c v w))

pub pushes_read_zero : PushesReadZero
unfolding PushesReadZero
pushes_read_zero l o q e = by_outcome (λ r. r.answer.value ≡ 0) l (Read o) (λ n k. refl) (λ f z p. ap (λ (x : Row). (effect (read x (view_rings l))).value) e)

-- ── Room ──────────────────────────────────────────────────────────────────────────────────────────────────────
caps_settled : (k : Queue) (m : Lists) (n : Option ℕ) (e : Effect) → (of k (outcome n e m (settle_lists m e)).next.queues).cap ≡ (of k m.queues).cap
caps_settled k m (some n) e = refl
caps_settled Cmd m none e = refl
caps_settled Cmdr m none e = refl
caps_settled Sdo m none e = refl
caps_settled Sdi m none e = refl
caps_settled Ibi m none e = refl

caps_kept : (k : Queue) (cs : List Lent) (m : Lists) → (of k (final lists m cs).queues).cap ≡ (of k m.queues).cap
unfolding final step
caps_kept k [] m = refl
caps_kept k (c ∷ cs) m =
    let n = lists.lend c.output m in
    let d = decide (view_lists n) c.call in
    caps_kept k cs (step lists n c.call).next ∙ caps_settled k n (first d) (effect d)

room_read : (l : Controller) → Formed l.bank → RightLength l → ((step rings l (Read 0x0c0)).answer.value ≡ (queues_in l.bank).cmd.cap.0 - (queues_in l.bank).cmd.level.0) × ((step rings l (Read 0x0c8)).answer.value ≡ (queues_in l.bank).sdo.cap.0 - (queues_in l.bank).sdo.level.0)
unfolding step guard_rings named entry_at
room_read l f z = (rw (formed_is l.bank f, eq-eqb (length l.store) (total l.bank.state.caps) z), rw (formed_is l.bank f, eq-eqb (length l.store) (total l.bank.state.caps) z))

whole_room : (value cap level count want : ℕ) → value ≡ cap - level → count ≡ level → level ≤ cap → cap ≡ want → value + count ≡ want
whole_room value cap level count want a b c d = omega arith

pub room_and_words : RoomAndWords
unfolding RoomAndWords
room_and_words caps marks id store cs n z =
    let s = same_final cs (fresh_controller caps marks id store) (fresh_lists caps marks id) (fresh_sound caps marks id store n z) in
    let l = final rings (fresh_controller caps marks id store) cs in
    let q = queues_in l.bank in
    let a = areas q in
    let r = ready q l.store s.formed.queues s.size in
    let v = room_read l s.formed s.size in
    record {
      cmd = whole_room _ q.cmd.cap.0 q.cmd.level.0 _ caps.cmd v.0 (entries_length q.cmd a.cmd.base l.store) r.cmd.level_most (ap (λ (m : Lists). m.queues.cmd.cap) s.is ∙ caps_kept Cmd cs (fresh_lists caps marks id));
      sdo = whole_room _ q.sdo.cap.0 q.sdo.level.0 _ caps.sdo v.1 (entries_length q.sdo a.sdo.base l.store) r.sdo.level_most (ap (λ (m : Lists). m.queues.sdo.cap) s.is ∙ caps_kept Sdo cs (fresh_lists caps marks id));
    }

-- ── What a read changes ───────────────────────────────────────────────────────────────────────────────────────
plain_read : (l : Controller) (x : Row) → takes_word x ≡ false → settle_rings l (effect (read x (view_rings l))) ≡ l
unfolding on_ring on_store
plain_read l absent h = refl
plain_read l (shows f) h = refl
plain_read l (holds c) h = refl
plain_read l (pushes q) h = refl
plain_read l (takes q) h = absurd (true≢false h)
plain_read l enables h = refl
plain_read l acknowledges h = refl

pub read_changes_nothing : ReadChangesNothing
unfolding ReadChangesNothing
read_changes_nothing l o h = by_outcome (λ r. r.next ≡ l) l (Read o) (λ n k. refl) (λ f z p. plain_read l (row (register_at o)) h)

take_stores_none : (l : Controller) (q : Queue) → (settle_rings l (taken_first q (view_rings l))).store ≡ l.store
unfolding on_store
take_stores_none l Cmd = refl
take_stores_none l Cmdr = refl
take_stores_none l Sdo = refl
take_stores_none l Sdi = refl
take_stores_none l Ibi = refl

cleared_if : (b old : Bool) → (not b && old) ≡ cond b false old
cleared_if true old = refl
cleared_if false old = refl

control_after : (q : Queue) (b : Bool) (v : ℕ) (c : Control) → same_queue Sdo q ≡ false → ControlAfter q b v c (remembered q v (clears q b c))
control_after Cmd b v c h = record { held = refl; sync = refl; ibisync = refl; cmdrpending = refl; ibipending = refl; daapending = refl; burst = refl; latest = refl }
control_after Cmdr b v c h = record { held = refl; sync = refl; ibisync = refl; cmdrpending = cleared_if b c.cmdrpending; ibipending = refl; daapending = refl; burst = refl; latest = refl }
control_after Sdo b v c h = absurd (true≢false h)
control_after Sdi b v c h = record { held = refl; sync = refl; ibisync = refl; cmdrpending = refl; ibipending = refl; daapending = refl; burst = refl; latest = refl }
control_after Ibi b v c h = record { held = refl; sync = refl; ibisync = refl; cmdrpending = refl; ibipending = cleared_if b c.ibipending; daapending = refl; burst = refl; latest = refl }

only_takes : (q : Queue) → of q (only q (take 1)) ≡ take 1
only_takes Cmd = refl
only_takes Cmdr = refl
only_takes Sdo = refl
only_takes Sdi = refl
only_takes Ibi = refl

pub level_of : (l : Controller) (q : Queue) → (of q (view_rings l).queues).level ≡ (of q (areas (queues_in l.bank))).ring.level.0
level_of l Cmd = refl
level_of l Cmdr = refl
level_of l Sdo = refl
level_of l Sdi = refl
level_of l Ibi = refl

first_of : (l : Controller) (q : Queue) → (of q (view_rings l).queues).first ≡ get_or (held_words q l) 0 0
first_of l Cmd = refl
first_of l Cmdr = refl
first_of l Sdo = refl
first_of l Sdi = refl
first_of l Ibi = refl

some_left : (n m : ℕ) → n ≡ m → (n ≡ 0 → ⊥) → 1 ≤ m
some_left zero m e k = absurd (k refl)
some_left (suc n) m e k = omega (arith, e)

one_less : (l : Controller) (q : Queue) → well_formed l.bank ≡ true → RightLength l → eqb (of q (view_rings l).queues).level 0 ≡ false → held_words q (settle_rings l (taken_first q (view_rings l))) ≡ drop 1 (held_words q l)
unfolding on_ring
one_less l q f z h =
    let k = queues_in l.bank in
    let a = of q (areas k) in
    let at = base_same k l.store (only q (take 1)) (ready k l.store (formed_of l.bank f).queues z) q ∙ ap (λ (o : QueueOp). on_area o a) (only_takes q) in
    let some = eqb-false (of q (view_rings l).queues).level 0 h in
    let same_queue = level_of l q in
    ap (λ (s : List ℕ). words_in (of q (areas (on_rings (only q (take 1)) k))) s) (take_stores_none l q)
    ∙ ap (λ (x : Area). words_in x l.store) at
    ∙ entries_take a.ring a.base l.store 1 (some_left _ _ same_queue some)

took : (l : Controller) (q : Queue) → well_formed l.bank ≡ true → RightLength l → same_queue Sdo q ≡ false → eqb (of q (view_rings l).queues).level 0 ≡ false → (let e = taken_first q (view_rings l) in ReadTook l (settle_rings l e) e.value q)
took l q f z h k =
    record { first = first_of l q; words = one_less l q f z k; store = take_stores_none l q; output = refl; regs = refl; phase = refl; flags = refl; commands = refl; payloads = refl; control = control_after q _ _ l.bank.state.control h }

pub read_takes_one : ReadTakesOne
unfolding ReadTakesOne
read_takes_one l o q e h =
    by_outcome (λ r. r.answer.number ≡ 0 → ReadTook l r.next r.answer.value q) l (Read o) (λ n k z. absurd (not_zero n k z))
    (λ f z p.
    subst (λ (x : Row). let d = effect (read x (view_rings l)) in d.number ≡ 0 → ReadTook l (settle_rings l d) d.value q) (sym e)
    (of_take (λ d. (effect d).number ≡ 0 → ReadTook l (settle_rings l (effect d)) (effect d).value q) q (view_rings l) (λ k n. absurd (omega (arith, n))) (λ k n. took l q f z h k)))

-- ── Reset and release ─────────────────────────────────────────────────────────────────────────────────────────
enable_keeps : (l : Controller) (b : Bool) → Outlives l (settle_rings l (enable (view_rings l) b))
unfolding enable
enable_keeps l true = record { regs = refl; flags = refl; commands = refl; payloads = refl }
enable_keeps l false = record { regs = refl; flags = refl; commands = refl; payloads = refl }

pub reset_keeps : ResetKeeps
unfolding ResetKeeps named entry_at
reset_keeps l v = by_outcome (λ r. Outlives l r.next) l (Write 0x040 v) (λ n k. record { regs = refl; flags = refl; commands = refl; payloads = refl }) (λ f z p. enable_keeps l (bit 0 v))

none_of : (xs : List ℕ) → length xs ≡ 0 → xs ≡ []
none_of [] h = refl
none_of (x ∷ xs) h = absurd (omega arith)

no_words : (r : Ring) (base : ℕ) (st : List ℕ) → ring_clear r ≡ true → entries r base st ≡ []
no_words r base st h = none_of (entries r base st) (entries_length r base st ∙ eqb-true r.level.0 0 (and-true (eqb r.head 0) (eqb r.level.0 0) h).1)

queues_none : (q : Queues) (st : List ℕ) → queues_clear q ≡ true → (k : Queue) → words_in (of k (areas q)) st ≡ []
unfolding queues_clear
queues_none q st h =
    let z = five (ring_clear q.cmd) (ring_clear q.cmdr) (ring_clear q.sdo) (ring_clear q.sdi) (ring_clear q.ibi) h in
    let a = areas q in
    by_queue (λ k. words_in (of k (areas q)) st ≡ []) (no_words q.cmd a.cmd.base st z.0) (no_words q.cmdr a.cmdr.base st z.1) (no_words q.sdo a.sdo.base st z.2) (no_words q.sdi a.sdi.base st z.3) (no_words q.ibi a.ibi.base st z.4)

control_none : (c : Control) → control_clear c ≡ true → released c ≡ cleared false
unfolding control_clear
control_none c h =
    let w = c.latest in
    let before = eqb c.sync 0 && eqb c.ibisync 0 && not c.cmdrpending && not c.ibipending && not c.daapending in
    let x = and-true before (eqb c.burst 0 && latest_clear w) h in
    let y = and-true (eqb c.burst 0) (latest_clear w) x.1 in
    let z = five (eqb c.sync 0) (eqb c.ibisync 0) (not c.cmdrpending) (not c.ibipending) (not c.daapending) x.0 in
    let k = three (eqb w.cmdr 0) (eqb w.sdi 0) (eqb w.ibi 0) y.1 in
    let a = eqb-true c.sync 0 z.0 in
    let b = eqb-true c.ibisync 0 z.1 in
    let d = eqb-true c.burst 0 y.0 in
    let e = eqb-true w.cmdr 0 k.0 in
    let f = eqb-true w.sdi 0 k.1 in
    let g = eqb-true w.ibi 0 k.2 in
    λ i. record { held = false; sync = a i; ibisync = b i; cmdrpending = not-true c.cmdrpending z.2 i; ibipending = not-true c.ibipending z.3 i; daapending = not-true c.daapending z.4 i; burst = d i; latest = record { cmdr = e i; sdi = f i; ibi = g i } }

while_held : (held rest : Bool) → held ≡ true → (not held || rest) ≡ true → rest ≡ true
while_held true rest h e = e
while_held false rest h e = absurd (false≢true h)

pub all_clear : (l : Controller) → well_formed l.bank ≡ true → l.bank.state.control.held ≡ true → (let s = l.bank.state in (queues_clear (queues_in l.bank) ≡ true) × (control_clear s.control ≡ true) × (idle s.phase ≡ true))
unfolding reset_ok
all_clear l f h = let s = l.bank.state in three (queues_clear (queues_in l.bank)) (control_clear s.control) (idle s.phase) (while_held s.control.held (queues_clear (queues_in l.bank) && control_clear s.control && idle s.phase) h (formed_of l.bank f).reset)

enable_taken : (l : Controller) (v : ℕ) → well_formed l.bank ≡ true → RightLength l → step rings l (Write 0x040 v) ≡ settled l (Write 0x040 v)
unfolding step guard_rings named entry_at
enable_taken l v f z = rw (f, eq-eqb (length l.store) (total l.bank.state.caps) z)

enabled_answer : (l : Controller) (b : Bool) → (outcome none (enable (view_rings l) b) l (settle_rings l (enable (view_rings l) b))).answer ≡ record { value = 0; number = 0 }
unfolding enable
enabled_answer l true = refl
enabled_answer l false = refl

reset_holds : (l : Controller) → (settled l (Write 0x040 1)).next.bank.state.control.held ≡ true
unfolding named entry_at enable
reset_holds l = refl

freed : (m : Controller) → well_formed m.bank ≡ true → m.bank.state.control.held ≡ true → Clean (settled m (Write 0x040 0)).next
unfolding named entry_at enable on_ring on_store
freed m f h = let z = all_clear m f h in record { control = control_none m.bank.state.control z.1; phase = z.2; words = queues_none (queues_in m.bank) m.store z.0 }

pub released_clean : ReleasedClean
unfolding ReleasedClean named entry_at
released_clean l f z =
    let s = stays_sound l (listed l) (Write 0x040 1) (record { is = refl; formed = formed_of l.bank f; size = z }) in
    let m = (step rings l (Write 0x040 1)).next in
    let g = formed_is m.bank s.formed in
    let a = enable_taken l 1 f z in
    let b = enable_taken m 0 g s.size in
    (ap (λ (r : Step Controller). r.answer) a ∙ enabled_answer l true, ap (λ (r : Step Controller). r.answer) b ∙ enabled_answer m false, subst (λ (r : Step Controller). Clean r.next) (sym b) (freed m g (ap (λ (r : Step Controller). r.next.bank.state.control.held) a ∙ reset_holds l)))

-- ── A finish made again ───────────────────────────────────────────────────────────────────────────────────────
pub record SameRun (l m : Controller) : Type 0 where
  pub phase : m.bank.state.phase ≡ l.bank.state.phase
  pub sync : m.bank.state.control.sync ≡ l.bank.state.control.sync
  pub held : m.bank.state.control.held ≡ l.bank.state.control.held
  pub burst : m.bank.state.control.burst ≡ l.bank.state.control.burst

abbrev SameCount : Control → Control → Type 0
SameCount c d = (c.sync ≡ d.sync) × (c.held ≡ d.held) × (c.burst ≡ d.burst)

clears_count : (q : Queue) (b : Bool) (c : Control) → SameCount (clears q b c) c
clears_count Cmd b c = (refl, refl, refl)
clears_count Cmdr b c = (refl, refl, refl)
clears_count Sdo b c = (refl, refl, refl)
clears_count Sdi b c = (refl, refl, refl)
clears_count Ibi b c = (refl, refl, refl)

read_count : (s : View) (x : Row) → SameCount (effect (read x s)).control s.control
read_count s absent = (refl, refl, refl)
read_count s (shows f) = (refl, refl, refl)
read_count s (holds c) = (refl, refl, refl)
read_count s (pushes q) = (refl, refl, refl)
read_count s (takes q) = of_take (λ d. SameCount (effect d).control s.control) q s (λ e. (refl, refl, refl)) (λ e. clears_count q _ s.control)
read_count s enables = (refl, refl, refl)
read_count s acknowledges = (refl, refl, refl)

read_keeps : (l : Controller) (o : ℕ) → SameRun l (step rings l (Read o)).next
read_keeps l o =
    by_outcome (λ r. SameRun l r.next) l (Read o) (λ n k. record { phase = refl; sync = refl; held = refl; burst = refl })
    (λ f z p. let k = read_count (view_rings l) (row (register_at o)) in record { phase = (read_untouched (view_rings l) (row (register_at o))).phase_same; sync = k.0; held = k.1; burst = k.2 })

reads_keep : (os : List ℕ) (w : List ℕ) (l : Controller) → SameRun l (final rings l (lending w (reads os)))
unfolding final lending
reads_keep [] w l = record { phase = refl; sync = refl; held = refl; burst = refl }
reads_keep (o ∷ os) w l =
    let m = rings.lend w l in
    let a = read_keeps m o in
    let b = reads_keep os w (step rings m (Read o)).next in
    record { phase = b.phase ∙ a.phase; sync = b.sync ∙ a.sync; held = b.held ∙ a.held; burst = b.burst ∙ a.burst }

-- outside a burst a finish is `finish`, behind 18
direct_finish : (s : View) (code : ℕ) → bursting s.control ≡ false → decide s (Finish code) ≡ (ltb 15 code ⇒ 18 ∣ false ⇒ 13 ∣ finish s code)
unfolding short_in_burst
direct_finish s code e = rw e

abbrev decided_by : Controller → Decision → Step Controller
decided_by l d = let g = guard_rings l d in outcome (first g) (effect g) l (settle_rings l (effect g))

finished_by : (l : Controller) (code : ℕ) → bursting l.bank.state.control ≡ false → step rings l (Finish code) ≡ decided_by l (ltb 15 code ⇒ 18 ∣ false ⇒ 13 ∣ finish (view_rings l) code)
unfolding step
finished_by l code e = ap (decided_by l) (direct_finish (view_rings l) code e)

-- the tests of a finish, and what is known where the last alone holds
abbrev tests : Bool → Bool → Bool → Bool → Bool → Bool → Bool → Effect → Decision
tests a b c d e f g x = a ⇒ 21 ∣ b ⇒ 22 ∣ c ⇒ 18 ∣ d ⇒ 5 ∣ e ⇒ 7 ∣ f ⇒ 14 ∣ g ⇒ 13 ∣ does x

last_alone : (a b c d e f g : Bool) (x : Effect) (l m : Controller) → x.number ≡ 0 → (outcome (first (tests a b c d e f g x)) x l m).answer.number ≡ 13 → (a ≡ false) × (b ≡ false) × (c ≡ false) × (d ≡ false) × (e ≡ false) × (f ≡ false)
last_alone true b c d e f g x l m z h = absurd (omega (arith, h))
last_alone false true c d e f g x l m z h = absurd (omega (arith, h))
last_alone false false true d e f g x l m z h = absurd (omega (arith, h))
last_alone false false false true e f g x l m z h = absurd (omega (arith, h))
last_alone false false false false true f g x l m z h = absurd (omega (arith, h))
last_alone false false false false false true g x l m z h = absurd (omega (arith, h))
last_alone false false false false false false true x l m z h = (refl, refl, refl, refl, refl, refl)
last_alone false false false false false false false x l m z h = absurd (omega (arith, h, z))

by_room : (g : Bool) (x : Effect) (l m : Controller) (v : ℕ) → x.number ≡ 0 → x.value ≡ v → (outcome (first (g ⇒ 13 ∣ does x)) x l m).answer ≡ cond g (record { value = 0; number = 13 }) (record { value = v; number = 0 })
by_room true x l m v z e = refl
by_room false x l m v z e = λ i. record { value = e i; number = z i }

by_tests : (a b c d e f g : Bool) (x : Effect) (l m : Controller) (v : ℕ) → x.number ≡ 0 → x.value ≡ v
    → a ≡ false → b ≡ false → c ≡ false → d ≡ false → e ≡ false → f ≡ false
    → (outcome (first (tests a b c d e f g x)) x l m).answer ≡ cond g (record { value = 0; number = 13 }) (record { value = v; number = 0 })
by_tests a b c d e f g x l m v z w ha hb hc hd he hf = rw (ha, hb, hc, hd, he, hf) (by_room g x l m v z w)

again : (l m : Controller) (code : ℕ) → bursting l.bank.state.control ≡ false → SameRun l m → well_formed m.bank ≡ true → RightLength m → (let s = l.bank.state in (ltb 15 code ≡ false) × (s.control.held ≡ false) × (idle s.phase ≡ false) × (not (allowed s.phase code) ≡ false))
    → (step rings m (Finish code)).answer ≡ cond (finish_lacks_room (view_rings m)) (record { value = 0; number = 13 }) (record { value = receipt_word code (transfer l.bank.state.phase).moved.0 l.bank.state.control.sync; number = 0 })
unfolding guard_rings finish
again l m code n k f z h =
    let s = m.bank.state in
    let word = ap (λ (p : Phase). receipt_word code (transfer p).moved.0 s.control.sync) k.phase ∙ ap (receipt_word code (transfer l.bank.state.phase).moved.0) k.sync in
    let x = effect (finish (view_rings m) code) in
    ap (λ (r : Step Controller). r.answer) (finished_by m code (ap (λ (b : ℕ). not (eqb b 0)) k.burst ∙ n))
    ∙ by_tests (not (well_formed m.bank)) (not (eqb (length m.store) (total s.caps))) (ltb 15 code) s.control.held (idle s.phase) (not (allowed s.phase code)) (finish_lacks_room (view_rings m)) x m (settle_rings m x) _ refl word
    (ap not f) (ap not (eq-eqb (length m.store) (total s.caps) z)) h.0 (k.held ∙ h.1) (ap idle k.phase ∙ h.2) (ap (λ (p : Phase). not (allowed p code)) k.phase ∙ h.3)

finish_tests : (l : Controller) (code : ℕ) → bursting l.bank.state.control ≡ false → (step rings l (Finish code)).answer.number ≡ 13
    → (well_formed l.bank ≡ true) × RightLength l × (let s = l.bank.state in (ltb 15 code ≡ false) × (s.control.held ≡ false) × (idle s.phase ≡ false) × (not (allowed s.phase code) ≡ false))
unfolding guard_rings finish
finish_tests l code b n =
    let s = l.bank.state in
    let x = effect (finish (view_rings l) code) in
    let e = eqb (length l.store) (total s.caps) in
    let h = last_alone (not (well_formed l.bank)) (not e) (ltb 15 code) s.control.held (idle s.phase) (not (allowed s.phase code)) (finish_lacks_room (view_rings l)) x l (settle_rings l x) refl (sym (ap (λ (r : Step Controller). r.answer.number) (finished_by l code b)) ∙ n) in
    (not-false (well_formed l.bank) h.0, eqb-true (length l.store) (total s.caps) (not-false e h.1), (h.2, h.3, h.4, h.5))

pub refused_finish_again : RefusedFinishAgain
unfolding RefusedFinishAgain RefusalChangesNothing
refused_finish_again l code os b n =
    let same_queue = refusal_changes_nothing l (Finish code) (λ e. absurd (omega (arith, n, e))) (λ e. absurd (omega (arith, n, e))) in
    let h = finish_tests l code b n in
    let s = same_final (lending l.output (reads os)) l (listed l) (record { is = refl; formed = formed_of l.bank h.0; size = h.1 }) in
    subst
    (λ (p : Controller).
    (let m = final rings p (lending l.output (reads os)) in
    (step rings m (Finish code)).answer ≡ cond (finish_lacks_room (view_rings m)) (record { value = 0; number = 13 }) (record { value = receipt_word code (transfer l.bank.state.phase).moved.0 l.bank.state.control.sync; number = 0 })))
    (sym same_queue)
    (again l (final rings l (lending l.output (reads os))) code b (reads_keep os l.output l) (formed_is (final rings l (lending l.output (reads os))).bank s.formed) s.size h.2)
