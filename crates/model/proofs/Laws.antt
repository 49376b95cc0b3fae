-- The other laws of `step`: engines agree, refusals change nothing, a store keeps its length, queues not named stay.
use Prim.Native.Nat.{ℕ, ◌/◌, ◌%◌, ◌^◌}
use native.Mathlib.Omega.{arith}
use mathlib.Core.Path.{◌≡◌, refl, ap, ap₂, sym, ◌∙◌, subst}
use mathlib.Core.Bool.{Bool, true, false, cond, not, ◌||◌, true≢false, false≢true}
use mathlib.Core.List.{List, [], ◌∷◌}
use mathlib.Core.Option.{Option, none, some}
use lib.Dec.{eqb}
use lib.Count.{ones}
use lib.ListN.{length, set, length-set}
use borrow.Author.Tests.{ne_eqb, eqb-true, eqb-false}
use Rattle.ring.specs.Ring.{entries}
use Rattle.bank.specs.declared.Bank.{Bank}
use Rattle.bank.specs.declared.Regs.{Regs}
use Rattle.bank.specs.Fives.{Sizes}
use Rattle.bank.specs.Queues.{queues_in}
use Rattle.bank.specs.SetUp.{set_up, total}
use Rattle.bank.specs.Formed.{well_formed}
use Rattle.bank.specs.Phases.{reading, transfer}
use Rattle.bank.specs.Bursts.{reads_in, bursting, place}
use Rattle.bank.proofs.Bools.{or_left, or_right}
use Rattle.bank.proofs.Laws.{formed_of, bank_is, fresh_formed, ready}
use Rattle.registers.specs.Map.{register_at}
use Rattle.model.specs.declared.Call.{Call}
use Rattle.model.specs.declared.Call.TheVariants.{Read, Write, Start, Send, Receive, Finish, Interrupt, Request, Take, Trigger}
use Rattle.bank.specs.declared.Answer.{Answer}
use Rattle.bank.specs.Bits.{bit}
use Rattle.model.specs.View.{Tables, View}
use Rattle.queues.specs.declared.Queue.{Queue}
use Rattle.queues.specs.declared.Queue.TheVariants.{Cmd, Cmdr, Sdo, Sdi, Ibi}
use Rattle.queues.specs.Each.{of}
use Rattle.model.specs.Decision.{QueueOp, keep, keep_all, only, Decision, first, effect}
use Rattle.model.specs.Registers.{Cell, scratch, mask, ops, ibi_config, dev_char, watermark, offload_cmd, offload_sdo, Row, absent, shows, holds, pushes, takes, enables, acknowledges, row, stored_tables, enable, read, write}
use Rattle.model.specs.Calls.{start, send, receive, finish, interrupt, request, take_address}
use Rattle.model.specs.Bursts.{trigger, burst_send, burst_receive, burst_finish, decide}
use Rattle.model.specs.Engine.{Step, outcome, step, Lent, step_lent, final, answers}
use Rattle.model.specs.Rings.{Controller, Area, areas, words_in, view_rings, on_ring, on_store, settle_rings, guard_rings, rings}
use Rattle.model.specs.Lists.{Lists, lists, on_words}
use Rattle.model.specs.Laws.{fresh_controller, fresh_lists, EnginesAgree, RefusalChangesNothing, RefusalShowsNothing, StoreKeepsLength, OutputKeepsLength, same_queue, read_names, write_names, names, OthersStay}
use Rattle.model.proofs.Tests.{Passed, passed, of_two, of_take, Refusal, refusal}
use Rattle.model.proofs.Numbers.{of_effect, write_number, effect_number, all_refusals}
use Rattle.model.proofs.Room.{fits}
use Rattle.model.proofs.Formed.{read_untouched}
use Rattle.model.proofs.Rings.{listed, length_all, base_same, settled_words, on_area}
use Rattle.model.proofs.Simulation.{Sound, lent_same, lent_stays, same_final}

-- ── A step is refused by a number, or settled ─────────────────────────────────────────────────────────────────
-- what the two tests of the bank leave to decide
by_guard : (P : Option ℕ → Type 0) (l : Controller) (d : Decision) → ((n : ℕ) → Refusal n → P (some n)) → (well_formed l.bank ≡ true → length l.store ≡ total l.bank.state.caps → P (first d)) → P (first (guard_rings l d))
unfolding guard_rings
by_guard P l d r s = go (well_formed l.bank) (eqb (length l.store) (total l.bank.state.caps)) refl refl
  where
    go : (a b : Bool) → well_formed l.bank ≡ a → eqb (length l.store) (total l.bank.state.caps) ≡ b → P (cond (not a) (some 21) (cond (not b) (some 22) (first d)))
    go false b e f = r 21 (record { not0 = refl; not3 = refl; not19 = refl })
    go true false e f = r 22 (record { not0 = refl; not3 = refl; not19 = refl })
    go true true e f = s e (eqb-true (length l.store) (total l.bank.state.caps) f)

-- a property of the outcome holds where it holds of every refusal and of the settled call
module _ (P : Step Controller → Type 0) (l : Controller) (c : Call) where
  abbrev pub Q : Option ℕ → Type 0
  Q n = P (outcome n (effect (decide (view_rings l) c)) l (settle_rings l (effect (decide (view_rings l) c))))

  pub by_outcome : ((n : ℕ) → Refusal n → Q (some n)) → (well_formed l.bank ≡ true → length l.store ≡ total l.bank.state.caps → Passed (decide (view_rings l) c) → Q none) → P (step rings l c)
  unfolding step guard_rings
  by_outcome r s = by_guard Q l (decide (view_rings l) c) r (λ f z. go f z (first (decide (view_rings l) c)) refl)
    where
      go : well_formed l.bank ≡ true → length l.store ≡ total l.bank.state.caps → (n : Option ℕ) → first (decide (view_rings l) c) ≡ n → Q n
      go f z none e = s f z (passed (decide (view_rings l) c) e)
      go f z (some n) e = r n (refusal (decide (view_rings l) c) n (all_refusals (view_rings l) c) e)

-- ── Refusals ──────────────────────────────────────────────────────────────────────────────────────────────────
none_is : (n : ℕ) → of_effect n ≡ true → (n ≡ 0 → ⊥) → (n ≡ 3 → ⊥) → (n ≡ 19 → ⊥) → ⊥
none_is n h a b c = false≢true (sym (rw (ne_eqb n 0 a, ne_eqb n 3 b, ne_eqb n 19 c)) ∙ h)

pub refusal_shows_nothing : RefusalShowsNothing
unfolding RefusalShowsNothing
refusal_shows_nothing l c =
    by_outcome (λ r. (r.answer.number ≡ 0 → ⊥) → (r.answer.number ≡ 3 → ⊥) → (r.answer.number ≡ 19 → ⊥) → r.answer.value ≡ 0) l c
    (λ n k a b d. refl)
    (λ f z p a b d. absurd (none_is (effect (decide (view_rings l) c)).number (effect_number (view_rings l) c) a b d))

not_3 : (n : ℕ) → n ≡ 0 → n ≡ 3 → ⊥
not_3 n a b = omega (arith, a, b)

parity_not_3 : (b : Bool) (x y : ℕ) → x ≡ 0 → y ≡ 19 → cond b x y ≡ 3 → ⊥
parity_not_3 true x y i j h = omega (arith, i, h)
parity_not_3 false x y i j h = omega (arith, j, h)

-- an effect of number 3 changes nothing
abbrev pub StaysAt3 : Controller → Decision → Type 0
StaysAt3 l d = (effect d).number ≡ 3 → settle_rings l (effect d) ≡ l

read_at_3 : (l : Controller) (x : Row) → StaysAt3 l (read x (view_rings l))
unfolding on_ring on_store
read_at_3 l absent e = refl
read_at_3 l (shows f) e = refl
read_at_3 l (holds c) e = refl
read_at_3 l (pushes q) e = refl
read_at_3 l (takes q) e = of_take (StaysAt3 l) q (view_rings l) (λ f i. refl) (λ f i. absurd (not_3 0 refl i)) e
read_at_3 l enables e = refl
read_at_3 l acknowledges e = refl

pub stays_at_3 : (l : Controller) (c : Call) → StaysAt3 l (decide (view_rings l) c)
unfolding start send receive finish interrupt request take_address trigger burst_send burst_receive burst_finish
stays_at_3 l (Read o) e = read_at_3 l (row (register_at o)) e
stays_at_3 l (Write o v) e = absurd (not_3 _ (write_number (view_rings l) (row (register_at o)) v) e)
stays_at_3 l Start e = absurd (not_3 0 refl e)
stays_at_3 l Send e = of_two (StaysAt3 l) (bursting l.bank.state.control) (burst_send (view_rings l)) (send (view_rings l)) (λ f i. absurd (not_3 0 refl i)) (λ f i. absurd (not_3 0 refl i)) e
stays_at_3 l (Receive b) e = of_two (StaysAt3 l) (bursting l.bank.state.control) (burst_receive (view_rings l) b) (receive (view_rings l) b) (λ f i. absurd (not_3 0 refl i)) (λ f i. absurd (not_3 0 refl i)) e
stays_at_3 l (Finish code) e = of_two (StaysAt3 l) (bursting l.bank.state.control) (burst_finish (view_rings l) code) (finish (view_rings l) code) (λ f i. absurd (not_3 0 refl i)) (λ f i. absurd (not_3 0 refl i)) e
stays_at_3 l (Interrupt a b) e = absurd (not_3 0 refl e)
stays_at_3 l (Request v w) e = absurd (not_3 0 refl e)
stays_at_3 l Take e = absurd (parity_not_3 (eqb (ones ((view_rings l).queues.sdo.first / 2 ^ 24) % 2) 1) 0 19 refl refl e)
stays_at_3 l Trigger e = absurd (not_3 0 refl e)

only_3 : (n : ℕ) → of_effect n ≡ true → (n ≡ 0 → ⊥) → (n ≡ 19 → ⊥) → n ≡ 3
only_3 n h a b = go (eqb n 3) refl
  where
    go : (x : Bool) → eqb n 3 ≡ x → n ≡ 3
    go true e = eqb-true n 3 e
    go false e = absurd (none_is n h a (eqb-false n 3 e) b)

pub refusal_changes_nothing : RefusalChangesNothing
unfolding RefusalChangesNothing
refusal_changes_nothing l c =
    by_outcome (λ r. (r.answer.number ≡ 0 → ⊥) → (r.answer.number ≡ 19 → ⊥) → r.next ≡ l) l c
    (λ n k a b. refl)
    (λ f z p a b. stays_at_3 l c (only_3 (effect (decide (view_rings l) c)).number (effect_number (view_rings l) c) a b))

pub store_keeps_length : StoreKeepsLength
unfolding StoreKeepsLength
store_keeps_length l c = by_outcome (λ r. length r.next.store ≡ length l.store) l c (λ n k. refl) (λ f z p. length_all (effect (decide (view_rings l) c)).ops (areas (queues_in l.bank)) l.store)

-- ── The output ────────────────────────────────────────────────────────────────────────────────────────────────
stored_output : (c : Cell) (v : ℕ) (t : Tables) → (stored_tables c v t).output ≡ t.output
stored_output scratch v t = refl
stored_output mask v t = refl
stored_output ops v t = refl
stored_output ibi_config v t = refl
stored_output dev_char v t = refl
stored_output (watermark q) v t = refl
stored_output (offload_cmd i) v t = refl
stored_output (offload_sdo i) v t = refl

enable_output : (s : View) (b : Bool) → (enable s b).tables.output ≡ s.tables.output
unfolding enable
enable_output s true = refl
enable_output s false = refl

write_output : (s : View) (x : Row) (v : ℕ) → (effect (write x s v)).tables.output ≡ s.tables.output
write_output s absent v = refl
write_output s (shows f) v = refl
write_output s (holds c) v = stored_output c v s.tables
write_output s (pushes q) v = refl
write_output s (takes q) v = refl
write_output s enables v = enable_output s (bit 0 v)
write_output s acknowledges v = refl

length_if : (b : Bool) (o : List ℕ) (i w : ℕ) → length (cond b (set o i w) o) ≡ length o
length_if true o i w = length-set o i w
length_if false o i w = refl

abbrev KeepsLength : View → Decision → Type 0
KeepsLength s d = length (effect d).tables.output ≡ length s.tables.output

output_length : (s : View) (c : Call) → KeepsLength s (decide s c)
unfolding start send receive finish interrupt request take_address trigger burst_send burst_receive burst_finish
output_length s (Read o) = ap (λ (t : Tables). length t.output) (read_untouched s (row (register_at o))).tables_same
output_length s (Write o v) = ap length (write_output s (row (register_at o)) v)
output_length s Start = refl
output_length s Send = of_two (KeepsLength s) (bursting s.control) (burst_send s) (send s) (λ e. refl) (λ e. refl)
output_length s (Receive b) = of_two (KeepsLength s) (bursting s.control) (burst_receive s b) (receive s b) (λ e. refl) (λ e. refl)
output_length s (Finish code) =
    of_two (KeepsLength s) (bursting s.control) (burst_finish s code) (finish s code) (λ e. length_if (reading s.phase) s.tables.output (reads_in (place s.control) s.tables.commands) (transfer s.phase).part) (λ e. refl)
output_length s (Interrupt a b) = refl
output_length s (Request v w) = refl
output_length s Take = refl
output_length s Trigger = refl

pub output_keeps_length : OutputKeepsLength
unfolding OutputKeepsLength
output_keeps_length l c = by_outcome (λ r. length r.next.output ≡ length l.output) l c (λ n k. refl) (λ f z p. output_length (view_rings l) c)

-- ── Queues that a call does not name ──────────────────────────────────────────────────────────────────────────
kept_all : (k : Queue) → of k keep_all ≡ keep
kept_all Cmd = refl
kept_all Cmdr = refl
kept_all Sdo = refl
kept_all Sdi = refl
kept_all Ibi = refl

kept_only : (q : Queue) (o : QueueOp) (k : Queue) → same_queue q k ≡ false → of k (only q o) ≡ keep
kept_only Cmd o Cmd e = absurd (true≢false e)
kept_only Cmd o Cmdr e = refl
kept_only Cmd o Sdo e = refl
kept_only Cmd o Sdi e = refl
kept_only Cmd o Ibi e = refl
kept_only Cmdr o Cmd e = refl
kept_only Cmdr o Cmdr e = absurd (true≢false e)
kept_only Cmdr o Sdo e = refl
kept_only Cmdr o Sdi e = refl
kept_only Cmdr o Ibi e = refl
kept_only Sdo o Cmd e = refl
kept_only Sdo o Cmdr e = refl
kept_only Sdo o Sdo e = absurd (true≢false e)
kept_only Sdo o Sdi e = refl
kept_only Sdo o Ibi e = refl
kept_only Sdi o Cmd e = refl
kept_only Sdi o Cmdr e = refl
kept_only Sdi o Sdo e = refl
kept_only Sdi o Sdi e = absurd (true≢false e)
kept_only Sdi o Ibi e = refl
kept_only Ibi o Cmd e = refl
kept_only Ibi o Cmdr e = refl
kept_only Ibi o Sdo e = refl
kept_only Ibi o Sdi e = refl
kept_only Ibi o Ibi e = absurd (true≢false e)

read_kept : (s : View) (x : Row) (k : Queue) → read_names x k ≡ false → of k (effect (read x s)).ops ≡ keep
read_kept s absent k h = kept_all k
read_kept s (shows f) k h = kept_all k
read_kept s (holds c) k h = kept_all k
read_kept s (pushes q) k h = kept_all k
read_kept s (takes q) k h = of_take (λ d. of k (effect d).ops ≡ keep) q s (λ e. kept_all k) (λ e. kept_only q _ k h)
read_kept s enables k h = kept_all k
read_kept s acknowledges k h = kept_all k

enable_kept : (s : View) (b : Bool) (k : Queue) → b ≡ false → of k (enable s b).ops ≡ keep
unfolding enable
enable_kept s true k h = absurd (true≢false h)
enable_kept s false k h = kept_all k

write_kept : (s : View) (x : Row) (v : ℕ) (k : Queue) → write_names x v k ≡ false → of k (effect (write x s v)).ops ≡ keep
write_kept s absent v k h = kept_all k
write_kept s (shows f) v k h = kept_all k
write_kept s (holds c) v k h = kept_all k
write_kept s (pushes q) v k h = kept_only q _ k h
write_kept s (takes q) v k h = kept_all k
write_kept s enables v k h = enable_kept s (bit 0 v) k h
write_kept s acknowledges v k h = kept_all k

finish_kept : (a b d : QueueOp) (k : Queue) → same_queue Cmdr k ≡ false → same_queue Sdo k ≡ false → same_queue Sdi k ≡ false → of k (record { cmd = keep; cmdr = a; sdo = b; sdi = d; ibi = keep }) ≡ keep
finish_kept a b d Cmd e f g = refl
finish_kept a b d Cmdr e f g = absurd (true≢false e)
finish_kept a b d Sdo e f g = absurd (true≢false f)
finish_kept a b d Sdi e f g = absurd (true≢false g)
finish_kept a b d Ibi e f g = refl

abbrev KeepsQueue : Queue → Decision → Type 0
KeepsQueue k d = of k (effect d).ops ≡ keep

keeps : (s : View) (c : Call) (k : Queue) → names c k ≡ false → KeepsQueue k (decide s c)
unfolding start send receive finish interrupt request take_address trigger burst_send burst_receive burst_finish
keeps s (Read o) k h = read_kept s (row (register_at o)) k h
keeps s (Write o v) k h = write_kept s (row (register_at o)) v k h
keeps s Start k h = kept_only Cmd _ k h
keeps s Send k h = of_two (KeepsQueue k) (bursting s.control) (burst_send s) (send s) (λ e. kept_all k) (λ e. kept_only Sdo _ k h)
keeps s (Receive b) k h = of_two (KeepsQueue k) (bursting s.control) (burst_receive s b) (receive s b) (λ e. kept_all k) (λ e. kept_only Sdi _ k h)
keeps s (Finish code) k h =
    let payload = same_queue Sdo k || same_queue Sdi k in
    let r = or_right (same_queue Cmdr k) payload h in
    of_two (KeepsQueue k) (bursting s.control) (burst_finish s code) (finish s code)
    (λ e. kept_all k)
    (λ e. finish_kept _ _ _ k (or_left (same_queue Cmdr k) payload h) (or_left (same_queue Sdo k) (same_queue Sdi k) r) (or_right (same_queue Sdo k) (same_queue Sdi k) r))
keeps s (Interrupt a b) k h = kept_only Ibi _ k h
keeps s (Request v w) k h = kept_only Sdi _ k h
keeps s Take k h = kept_only Sdo _ k h
keeps s Trigger k h = kept_all k

area_kept : (o : QueueOp) (a : Area) → o ≡ keep → on_area o a ≡ a
unfolding on_ring
area_kept o a e = ap (λ (x : QueueOp). on_area x a) e

pub others_stay : OthersStay
unfolding OthersStay
others_stay l c k h =
    by_outcome (λ r. (of k (areas (queues_in r.next.bank)) ≡ of k (areas (queues_in l.bank))) × (words_in (of k (areas (queues_in r.next.bank))) r.next.store ≡ words_in (of k (areas (queues_in l.bank))) l.store)) l c
    (λ n r. (refl, refl))
    (λ f z p.
    let q = queues_in l.bank in
    let o = (effect (decide (view_rings l) c)).ops in
    let r = ready q l.store (formed_of l.bank f).queues z in
    let e = keeps (view_rings l) c k h in
    (base_same q l.store o r k ∙ area_kept (of k o) (of k (areas q)) e, settled_words q l.store o r (fits (view_rings l) c p) k ∙ ap (λ (x : QueueOp). on_words x (words_in (of k (areas q)) l.store)) e))

-- ── Both engines ──────────────────────────────────────────────────────────────────────────────────────────────
same_answers_lem : (cs : List Lent) (l : Controller) (m : Lists) → Sound l m → answers rings l cs ≡ answers lists m cs
unfolding answers
same_answers_lem [] l m h = refl
same_answers_lem (c ∷ cs) l m h = ap₂ (λ (a : Answer) (r : List Answer). a ∷ r) (lent_same l m c h) (same_answers_lem cs (step_lent rings l c).next (step_lent lists m c).next (lent_stays l m c h))

listed_words : (l : Controller) (k : Queue) → (of k (listed l).queues).words ≡ words_in (of k (areas (queues_in l.bank))) l.store
listed_words l Cmd = refl
listed_words l Cmdr = refl
listed_words l Sdo = refl
listed_words l Sdi = refl
listed_words l Ibi = refl

-- a bank with its store and no output, for the two engines; the lists have the queues that are given
abbrev holding : Bank → List ℕ → Controller
holding b store = record { bank = b; store = store; output = [] }

abbrev listing : Bank → Lists → Lists
listing b m =
    record {
      regs = b.state.regs;
      control = b.state.control;
      phase = b.state.phase;
      tables = record { flags = b.flags; commands = b.commands; payloads = b.payloads; output = [] };
      queues = m.queues;
    }

pub fresh_sound : (caps marks : Sizes) (id : ℕ) (store : List ℕ) → (set_up caps marks id).answer.number ≡ 0
    → length store ≡ total (set_up caps marks id).bank.state.caps → Sound (fresh_controller caps marks id store) (fresh_lists caps marks id)
unfolding entries
fresh_sound caps marks id store n z =
    subst (λ (b : Bank). length store ≡ total b.state.caps → Sound (holding b store) (listing b (fresh_lists caps marks id)))
    (sym (bank_is caps marks id n))
    (λ y. record { is = refl; formed = fresh_formed caps marks id n; size = y })
    z

pub engines_agree : EnginesAgree
unfolding EnginesAgree
engines_agree caps marks id store cs n z =
    let h = fresh_sound caps marks id store n z in
    let l = final rings (fresh_controller caps marks id store) cs in
    record {
      same_answers = same_answers_lem cs (fresh_controller caps marks id store) (fresh_lists caps marks id) h;
      same_words = λ k. sym (listed_words l k) ∙ ap (λ (x : Lists). (of k x.queues).words) (same_final cs (fresh_controller caps marks id store) (fresh_lists caps marks id) h).is;
    }
