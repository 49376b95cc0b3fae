-- A burst from call to call after its trigger: the command it stands at, what its transfers moved and what its output holds.
use Prim.Native.Nat.{ℕ, zero, suc, ◌+◌, ◌-◌, ◌*◌, ◌/◌, ◌%◌, ◌^◌, ◌≤◌, ◌<◌}
use native.Mathlib.Omega.{arith}
use mathlib.Core.Path.{◌≡◌, refl, ap, sym, ◌∙◌, subst}
use mathlib.Core.Bool.{Bool, true, false, cond, not, ◌&&◌, ◌||◌, true≢false, false≢true}
use mathlib.Core.List.{List, [], ◌∷◌, ◌++◌, append-nil}
use lib.Dec.{leb, ltb, eqb}
use lib.ListN.{length, get_or, set, drop}
use lib.Seq.{drop-cons, append_snoc, set_at}
use borrow.Author.Tests.{leb-true, ltb-false, eqb-true, not-false, not-true, lt-leb, ne_eqb}
use Rattle.bank.specs.declared.Transfer.{Transfer}
use Rattle.bank.specs.declared.Phase.{Phase}
use Rattle.bank.specs.declared.Phase.TheVariants.{Idle, Writing, Reading, Unrequested, Requested, Answered}
use Rattle.bank.specs.declared.Answer.{Answer}
use Rattle.bank.specs.Bits.{bit, bits, word_if}
use Rattle.bank.specs.Phases.{idle, writing, reading, assigning, requested, transfer, unattached, limit}
use Rattle.bank.specs.Bursts.{span, reads_in, writes_in, bursting, place, gathered_bytes}
use Rattle.bank.specs.SetUp.{total}
use Rattle.bank.specs.Formed.{well_formed}
use Rattle.bank.proofs.Bools.{or_left, and-true, three}
use Rattle.bank.proofs.Laws.{formed_is, formed_of}
use Rattle.registers.specs.Map.{named, entry_at, register_at}
use Rattle.model.specs.declared.Call.{Call}
use Rattle.model.specs.declared.Call.TheVariants.{Read, Write, Start, Send, Receive, Finish, Interrupt, Request, Take, Trigger}
use Rattle.model.specs.View.{View}
use Rattle.model.specs.Decision.{Decision, effect}
use Rattle.model.specs.Commands.{Single, is_entdaa, is_read, opened, begun}
use Rattle.model.specs.Registers.{Cell, scratch, mask, ops, ibi_config, dev_char, watermark, offload_cmd, offload_sdo, Row, absent, shows, holds, pushes, takes, enables, acknowledges, row, enable, read, write}
use Rattle.model.specs.Calls.{start, send, receive, finish, interrupt, request, take_address}
use Rattle.model.specs.Bursts.{opening, last_command, delivered, data_word, trigger, burst_send, burst_receive, burst_finish, decide}
use Rattle.model.specs.Engine.{step}
use Rattle.model.specs.Rings.{Controller, view_rings, rings}
use Rattle.model.specs.Demand.{snoc}
use Rattle.model.specs.BurstLaw.{after, resets, no_reset, Moved, Log, untouched, noted, logged, leading, packed, Agrees, EachAgrees, read_words}
use Rattle.model.proofs.Tests.{Passed, of_two, Refusal}
use Rattle.model.proofs.Phases.{requested_assigns}
use Rattle.model.proofs.Offsets.{quiet_write, write_quiet}
use Rattle.model.proofs.Formed.{clears_burst, read_untouched}
use Rattle.model.proofs.Open.{Opened, BurstOk, burst_of, burst_parts, Opens, opens_parts, no_burst_idle, no_burst_assigning}
use Rattle.model.proofs.Rings.{listed}
use Rattle.model.proofs.Simulation.{stays_sound}
use Rattle.model.proofs.Laws.{by_outcome}
use Rattle.model.proofs.Driver.{not_zero, served}
use Rattle.model.proofs.Alone.{Throughout}

-- ── One more ──────────────────────────────────────────────────────────────────────────────────────────────────
pub length_snoc : {A : Type 0} (l : List A) (a : A) → length (snoc l a) ≡ suc (length l)
length_snoc [] a = refl
length_snoc (x ∷ l) a = ap suc (length_snoc l a)

-- a byte sent
leading_one : (bs : List ℕ) (w m b : ℕ) → m ≡ length bs → b ≡ w / 2 ^ (24 - 8 * m) % 256 → bs ≡ leading (length bs) w → snoc bs b ≡ leading (length (snoc bs b)) w
unfolding leading
leading_one bs w m b e f h =
    ap (λ (xs : List ℕ). snoc xs b) h
    ∙ ap (snoc (leading (length bs) w)) (f ∙ ap (λ (n : ℕ). w / 2 ^ (24 - 8 * n) % 256) e)
    ∙ sym (ap (λ (n : ℕ). leading n w) (length_snoc bs b))

-- a byte received
packed_one : (bs : List ℕ) (j b : ℕ) → packed j (snoc bs b) ≡ packed j bs + b * 2 ^ (24 - 8 * (j + length bs))
unfolding packed
packed_one [] j b =
    let e : j + 0 ≡ j = omega arith in
    let x = b * 2 ^ (24 - 8 * j) in
    let f : x + 0 ≡ 0 + x = omega arith in
    f ∙ ap (λ (n : ℕ). 0 + b * 2 ^ (24 - 8 * n)) (sym e)
packed_one (a ∷ bs) j b =
    let e : suc j + length bs ≡ j + suc (length bs) = omega arith in
    let x = a * 2 ^ (24 - 8 * j) in
    let y = packed (suc j) bs in
    let z = b * 2 ^ (24 - 8 * (j + suc (length bs))) in
    let f : x + (y + z) ≡ x + y + z = omega arith in
    ap (λ (n : ℕ). x + n) (packed_one bs (suc j) b ∙ ap (λ (n : ℕ). y + b * 2 ^ (24 - 8 * n)) e) ∙ f

-- a transfer done
fits_one : (ws ps : List ℕ) (k : ℕ) (ts : List Moved) (t : Moved) → EachAgrees ws ps k ts → Agrees ws ps (k + length ts) t → EachAgrees ws ps k (snoc ts t)
unfolding EachAgrees
fits_one ws ps k [] t h f =
    let e : k + 0 ≡ k = omega arith in
    (subst (λ (n : ℕ). Agrees ws ps n t) e f, tt)
fits_one ws ps k (x ∷ ts) t h f =
    let e : k + suc (length ts) ≡ suc k + length ts = omega arith in
    (h.0, fits_one ws ps (suc k) ts t h.1 (subst (λ (n : ℕ). Agrees ws ps n t) e f))

words_one : (ws : List ℕ) (k : ℕ) (ts : List Moved) (t : Moved) → read_words ws k (snoc ts t) ≡ read_words ws k ts ++ cond (bit 0 (get_or ws (k + length ts) 0)) (packed 0 t.received ∷ []) []
unfolding read_words
words_one ws k [] t =
    let e : k ≡ k + 0 = omega arith in
    ap (λ (n : ℕ). cond (bit 0 (get_or ws n 0)) (packed 0 t.received ∷ []) []) e
words_one ws k (x ∷ ts) t = go (bit 0 (get_or ws k 0)) (words_one ws (suc k) ts t ∙ ap (λ (n : ℕ). read_words ws (suc k) ts ++ last n) e)
  where
    last : ℕ → List ℕ
    last n = cond (bit 0 (get_or ws n 0)) (packed 0 t.received ∷ []) []

    e : suc k + length ts ≡ k + suc (length ts)
    e = omega arith

    go : (b : Bool) → read_words ws (suc k) (snoc ts t) ≡ read_words ws (suc k) ts ++ last (k + suc (length ts))
        → cond b (packed 0 x.received ∷ read_words ws (suc k) (snoc ts t)) (read_words ws (suc k) (snoc ts t)) ≡ cond b (packed 0 x.received ∷ read_words ws (suc k) ts) (read_words ws (suc k) ts) ++ last (k + suc (length ts))
    go true h = ap (λ (r : List ℕ). packed 0 x.received ∷ r) h
    go false h = h

-- ── How many words the reads have ─────────────────────────────────────────────────────────────────────────────
bit_weighs : (x : ℕ) → x < 2 → x ≡ word_if (eqb x 1) 1
bit_weighs zero h = refl
bit_weighs (suc zero) h = refl
bit_weighs (suc (suc x)) h = absurd (omega arith)

read_weighs : (w : ℕ) → bits 0 0 w ≡ word_if (bit 0 w) 1
read_weighs w = bit_weighs (bits 0 0 w) (let k : w / 1 % 2 < 2 = omega arith in k)

words_count : (ws : List ℕ) (k : ℕ) (ts : List Moved) → reads_in k ws + length (read_words ws k ts) ≡ reads_in (k + length ts) ws
unfolding reads_in read_words
words_count ws k [] =
    let e : k ≡ k + 0 = omega arith in
    let f : reads_in k ws + 0 ≡ reads_in k ws = omega arith in
    f ∙ ap (λ (n : ℕ). reads_in n ws) e
words_count ws k (t ∷ ts) =
    let e : suc k + length ts ≡ k + suc (length ts) = omega arith in
    go (bit 0 (get_or ws k 0)) (read_weighs (get_or ws k 0)) (words_count ws (suc k) ts ∙ ap (λ (n : ℕ). reads_in n ws) e)
  where
    go : (b : Bool) → bits 0 0 (get_or ws k 0) ≡ word_if b 1 → reads_in k ws + bits 0 0 (get_or ws k 0) + length (read_words ws (suc k) ts) ≡ reads_in (k + suc (length ts)) ws
        → reads_in k ws + length (cond b (packed 0 t.received ∷ read_words ws (suc k) ts) (read_words ws (suc k) ts)) ≡ reads_in (k + suc (length ts)) ws
    go true e h = omega (arith, e, h)
    go false e h = omega (arith, e, h)

-- more commands have no fewer reads
reads_grow : (ws : List ℕ) (m n : ℕ) → reads_in m ws ≤ reads_in (m + n) ws
unfolding reads_in
reads_grow ws m zero =
    let e : m ≡ m + 0 = omega arith in
    subst (λ (k : ℕ). reads_in m ws ≤ reads_in k ws) e (omega arith)
reads_grow ws m (suc n) =
    let e : suc (m + n) ≡ m + suc n = omega arith in
    let h = reads_grow ws m n in
    subst (λ (k : ℕ). reads_in m ws ≤ reads_in k ws) e (omega (arith, h))

pub reads_below : (ws : List ℕ) (m n : ℕ) → m ≤ n → reads_in m ws ≤ reads_in n ws
reads_below ws m n h =
    let e : m + (n - m) ≡ n = omega arith in
    subst (λ (k : ℕ). reads_in m ws ≤ reads_in k ws) e (reads_grow ws m (n - m))

-- as many as the reads done
pub words_done : (ws : List ℕ) (ts : List Moved) → length (read_words ws 0 ts) ≡ reads_in (length ts) ws
unfolding reads_in
words_done ws ts =
    let e : 0 + length ts ≡ length ts = omega arith in
    let f : length (read_words ws 0 ts) ≡ 0 + length (read_words ws 0 ts) = omega arith in
    f ∙ words_count ws 0 ts ∙ ap (λ (n : ℕ). reads_in n ws) e

-- ── The output at a finish ────────────────────────────────────────────────────────────────────────────────────
stored_word : (b : Bool) (xs o : List ℕ) (n u v : ℕ) → length xs ≡ n → n + word_if b 1 ≤ length o → (b ≡ true → u ≡ v) → cond b (set (xs ++ drop n o) n u) (xs ++ drop n o) ≡ xs ++ cond b (v ∷ []) [] ++ drop (n + word_if b 1) o
stored_word true xs o n u v e h p =
    let f : suc n ≡ n + 1 = omega arith in
    let l : n < length o = omega arith in
    ap (λ (r : List ℕ). set (xs ++ r) n u) (drop-cons o n 0 l)
    ∙ set_at xs (get_or o n 0) (drop (suc n) o) u n e
    ∙ sym (append_snoc xs u (drop (suc n) o))
    ∙ ap (λ (k : ℕ). snoc xs u ++ drop k o) f
    ∙ ap (λ (x : ℕ). snoc xs x ++ drop (n + 1) o) (p refl)
stored_word false xs o n u v e h p =
    let f : n ≡ n + 0 = omega arith in
    ap (λ (r : List ℕ). r ++ drop n o) (sym (append-nil xs)) ∙ ap (λ (k : ℕ). xs ++ [] ++ drop k o) f

-- r: the open transfer is a read; i: its place in the output; u: its word
output_one : (ws o out : List ℕ) (ts : List Moved) (t : Moved) (r : Bool) (i u : ℕ) → out ≡ read_words ws 0 ts ++ drop (reads_in (length ts) ws) o → reads_in (suc (length ts)) ws ≤ length o → r ≡ bit 0 (get_or ws (length ts) 0) → i ≡ reads_in (length ts) ws
    → (bit 0 (get_or ws (length ts) 0) ≡ true → u ≡ packed 0 t.received) → cond r (set out i u) out ≡ read_words ws 0 (snoc ts t) ++ drop (reads_in (length (snoc ts t)) ws) o
unfolding reads_in
output_one ws o out ts t r i u e h f j p =
    let k = length ts in
    let n = reads_in k ws in
    let w = get_or ws k 0 in
    let z : 0 + k ≡ k = omega arith in
    let xs = read_words ws 0 ts in
    let b = bit 0 w in
    let d = read_weighs w in
    let last : List ℕ = cond b (packed 0 t.received ∷ []) [] in
    ap (λ (q : Bool). cond q (set out i u) out) f
    ∙ ap (λ (x : List ℕ). cond b (set x i u) x) e
    ∙ ap (λ (m : ℕ). cond b (set (xs ++ drop n o) m u) (xs ++ drop n o)) j
    ∙ stored_word b xs o n u (packed 0 t.received) (words_done ws ts) (subst (λ (m : ℕ). n + m ≤ length o) d h) p
    ∙ ap (λ (m : ℕ). xs ++ last ++ drop (n + m) o) (sym d)
    ∙ ap (λ (m : ℕ). xs ++ cond (bit 0 (get_or ws m 0)) (packed 0 t.received ∷ []) [] ++ drop (n + bits 0 0 w) o) (sym z)
    ∙ ap (λ (x : List ℕ). x ++ drop (n + bits 0 0 w) o) (sym (words_one ws 0 ts t))
    ∙ ap (λ (m : ℕ). read_words ws 0 (snoc ts t) ++ drop (reads_in m ws) o) (sym (length_snoc ts t))

-- ── What holds between calls ──────────────────────────────────────────────────────────────────────────────────
-- the open transfer: w is its command, d the data word that its place gives
pub record AtHand (w d : ℕ) (t : Transfer) (now : Moved) : Type 0 where
  pub moved : t.moved.0 ≡ length now.sent + length now.received
  pub reads : bit 0 w ≡ true → (now.sent ≡ []) × (t.part ≡ packed 0 now.received)
  pub writes : bit 0 w ≡ false → (now.received ≡ []) × (now.sent ≡ leading (length now.sent) d)

abbrev word_at : Controller → ℕ → ℕ
word_at l k = get_or l.bank.commands k 0

abbrev data_at : Controller → ℕ → ℕ
data_at l k = get_or l.bank.payloads (writes_in k l.bank.commands) 0

-- l is before the trigger
pub record Going (l : Controller) (ops burst : ℕ) (phase : Phase) (commands payloads output : List ℕ) (g : Log) : Type 0 where
  pub same_ops : ops ≡ l.bank.state.regs.ops
  pub same_commands : commands ≡ l.bank.commands
  pub same_payloads : payloads ≡ l.bank.payloads
  pub stands : burst ≡ suc (length g.done)
  pub room : reads_in (span l.bank.state.regs) l.bank.commands ≤ length l.output
  pub fits : EachAgrees l.bank.commands l.bank.payloads 0 g.done
  pub words : output ≡ read_words l.bank.commands 0 g.done ++ drop (reads_in (length g.done) l.bank.commands) l.output
  pub at_hand : AtHand (word_at l (length g.done)) (data_at l (length g.done)) (transfer phase) g.now

abbrev pub GoesOn : Controller → View → Log → Type 0
GoesOn l s g = Going l s.regs.ops s.control.burst s.phase s.tables.commands s.tables.payloads s.tables.output g

-- where no test holds and the burst has a command left
abbrev Stays : Controller → Log → Call → Decision → Type 0
Stays l g c d =
    let e = effect d in
    let h = noted g c (record { value = e.value; number = e.number }) in
    Passed d → suc (length h.done) ≤ span l.bank.state.regs → Going l e.regs.ops e.control.burst e.phase e.tables.commands e.tables.payloads e.tables.output h

-- ── The direction of the open transfer ────────────────────────────────────────────────────────────────────────
is_reading : (b : Bool) (p : Phase) → cond b (reading p) (writing p) ≡ true → reading p ≡ b
is_reading true p e = e
is_reading false Idle e = refl
is_reading false (Writing t) e = refl
is_reading false (Reading t) e = absurd (false≢true e)
is_reading false (Unrequested t) e = refl
is_reading false (Requested t) e = refl
is_reading false (Answered t) e = refl

is_writing : (b : Bool) (p : Phase) → cond b (reading p) (writing p) ≡ true → writing p ≡ not b
is_writing true Idle e = refl
is_writing true (Writing t) e = absurd (false≢true e)
is_writing true (Reading t) e = refl
is_writing true (Unrequested t) e = refl
is_writing true (Requested t) e = refl
is_writing true (Answered t) e = refl
is_writing false p e = e

-- ── A transfer opens ──────────────────────────────────────────────────────────────────────────────────────────
begun_transfer : (w : ℕ) (a : Bool) → transfer (begun (Single w) a) ≡ opened (Single w) a
unfolding begun is_entdaa
begun_transfer w a = go (is_read (Single w))
  where
    go : (b : Bool) → transfer (cond b (Reading (opened (Single w) a)) (Writing (opened (Single w) a))) ≡ opened (Single w) a
    go true = refl
    go false = refl

opens_at_hand : (w d v : ℕ) (a : Bool) → AtHand w d (transfer (begun (Single v) a)) untouched
unfolding packed leading
opens_at_hand w d v a = subst (λ (t : Transfer). AtHand w d t untouched) (sym (begun_transfer v a)) (record { moved = refl; reads = λ e. (refl, refl); writes = λ e. (refl, refl) })

-- ── Accesses ──────────────────────────────────────────────────────────────────────────────────────────────────
-- no write of 1 to ENABLE
abbrev calm : Row → ℕ → Bool
calm absent v = true
calm (shows f) v = true
calm (holds c) v = true
calm (pushes q) v = true
calm (takes q) v = true
calm enables v = not (bit 0 v)
calm acknowledges v = true

calm_if_quiet : (x : Row) (v : ℕ) → quiet_write x ≡ true → calm x v ≡ true
calm_if_quiet absent v h = refl
calm_if_quiet (shows f) v h = refl
calm_if_quiet (holds c) v h = refl
calm_if_quiet (pushes q) v h = refl
calm_if_quiet (takes q) v h = refl
calm_if_quiet enables v h = absurd (false≢true h)
calm_if_quiet acknowledges v h = refl

calm_row : (o v : ℕ) → resets (Write o v) ≡ false → calm (row (register_at o)) v ≡ true
unfolding named entry_at
calm_row o v h = go (eqb o 0x040) (eqb o 0x0d4) refl refl
  where
    go : (a b : Bool) → eqb o 0x040 ≡ a → eqb o 0x0d4 ≡ b → calm (row (register_at o)) v ≡ true
    go true b e f = subst (λ (n : ℕ). calm (row (register_at n)) v ≡ true) (sym (eqb-true o 0x040 e)) (ap not (subst (λ (a : Bool). (a && bit 0 v) ≡ false) e h))
    go false true e f = subst (λ (n : ℕ). calm (row (register_at n)) v ≡ true) (sym (eqb-true o 0x0d4 f)) refl
    go false false e f = calm_if_quiet (row (register_at o)) v (write_quiet o e f)

module _ (l : Controller) (g : Log) (s : View) (h : GoesOn l s g) where
  abbrev Left : Decision → Type 0
  Left d = let e = effect d in Passed d → Going l e.regs.ops e.control.burst e.phase e.tables.commands e.tables.payloads e.tables.output g

  placed : (n : ℕ) → n ≡ s.control.burst → Going l s.regs.ops n s.phase s.tables.commands s.tables.payloads s.tables.output g
  placed n e = record { same_ops = h.same_ops; same_commands = h.same_commands; same_payloads = h.same_payloads; stands = e ∙ h.stands; room = h.room; fits = h.fits; words = h.words; at_hand = h.at_hand }

  -- writes to OPS and the offload memories are 6
  stored_stays : (c : Cell) (v : ℕ) → bursting s.control ≡ true → Left (write (holds c) s v)
  stored_stays scratch v e f = h
  stored_stays mask v e f = h
  stored_stays ops v e f = absurd (true≢false (sym e ∙ f.0))
  stored_stays ibi_config v e f = h
  stored_stays dev_char v e f = h
  stored_stays (watermark q) v e f = h
  stored_stays (offload_cmd i) v e f = absurd (true≢false (sym e ∙ f.0))
  stored_stays (offload_sdo i) v e f = absurd (true≢false (sym e ∙ f.0))

  enable_stays : (b : Bool) → not b ≡ true → (let e = enable s b in Going l e.regs.ops e.control.burst e.phase e.tables.commands e.tables.payloads e.tables.output g)
  unfolding enable
  enable_stays true n = absurd (false≢true n)
  enable_stays false n = h

  write_stays : (x : Row) (v : ℕ) → bursting s.control ≡ true → calm x v ≡ true → Left (write x s v)
  write_stays absent v e n f = h
  write_stays (shows k) v e n f = h
  write_stays (holds c) v e n f = stored_stays c v e f
  write_stays (pushes q) v e n f = placed _ (clears_burst q true s.control)
  write_stays (takes q) v e n f = h
  write_stays enables v e n f = enable_stays (bit 0 v) n
  write_stays acknowledges v e n f = h

  read_stays : (x : Row) → Left (read x s)
  read_stays x f = let u = read_untouched s x in rw (u.regs_same, u.phase_same, u.tables_same) (placed (effect (read x s)).control.burst u.burst_same)

-- ── Events ────────────────────────────────────────────────────────────────────────────────────────────────────
at_most : (b : Bool) (n : ℕ) → cond b 0 n ≤ n
at_most true n = omega arith
at_most false n = omega arith

module _ (l : Controller) (g : Log) (s : View) (h : GoesOn l s g) (o : Opened s) where
  abbrev at : ℕ
  at = length g.done

  pub in_burst : bursting s.control ≡ true
  in_burst = let e = h.stands in ap not (ne_eqb s.control.burst 0 (λ z. absurd (omega (arith, e, z))))

  same_place : place s.control ≡ at
  same_place = let e = h.stands in omega (arith, e)

  pub same_span : span s.regs ≡ span l.bank.state.regs
  same_span = ap (bits 4 1) h.same_ops

  parts : BurstOk s.control s.regs s.phase s.tables.commands
  parts = burst_parts s.control s.regs s.phase s.tables.commands (burst_of s.control s.regs s.phase s.tables.commands in_burst o)

  same_word : get_or s.tables.commands (place s.control) 0 ≡ word_at l at
  same_word = ap (λ (ws : List ℕ). get_or ws (place s.control) 0) h.same_commands ∙ ap (word_at l) same_place

  same_data : data_word s ≡ data_at l at
  same_data =
      ap (λ (ps : List ℕ). get_or ps (writes_in (place s.control) s.tables.commands) 0) h.same_payloads
      ∙ ap (λ (ws : List ℕ). get_or l.bank.payloads (writes_in (place s.control) ws) 0) h.same_commands
      ∙ ap (data_at l) same_place

  shape : Opens (word_at l at) s.phase
  shape = subst (λ (w : ℕ). Opens w s.phase) same_word (opens_parts (get_or s.tables.commands (place s.control) 0) s.phase parts.opens)

  -- the same burst with another transfer
  moving : (p : Phase) (now : Moved) → AtHand (word_at l at) (data_at l at) (transfer p) now → Going l s.regs.ops s.control.burst p s.tables.commands s.tables.payloads s.tables.output (record { done = g.done; now = now })
  moving p now a = record { same_ops = h.same_ops; same_commands = h.same_commands; same_payloads = h.same_payloads; stands = h.stands; room = h.room; fits = h.fits; words = h.words; at_hand = a }

  send_stays : Stays l g Send (burst_send s)
  unfolding burst_send
  send_stays f k =
      let w = word_at l at in
      let t = transfer s.phase in
      let b = not-true (bit 0 w) (sym (is_writing (bit 0 w) s.phase shape.stage) ∙ not-false (writing s.phase) f.1.1.1.0) in
      let a = h.at_hand in
      let x = data_word s / 2 ^ (24 - 8 * t.moved.0) % 256 in
      let n = a.moved in
      let r = ap length (a.writes b).0 in
      let y = length_snoc g.now.sent x in
      moving _ _
      (record {
        moved = omega (arith, n, y);
        reads = λ e. absurd (true≢false (sym e ∙ b));
        writes = λ e. ((a.writes b).0, leading_one g.now.sent (data_at l at) t.moved.0 x (omega (arith, n, r)) (ap (λ (d : ℕ). d / 2 ^ (24 - 8 * t.moved.0) % 256) same_data) (a.writes b).1);
      })

  receive_stays : (byte : ℕ) → Stays l g (Receive byte) (burst_receive s byte)
  unfolding burst_receive
  receive_stays byte f k =
      let w = word_at l at in
      let t = transfer s.phase in
      let b = sym (is_reading (bit 0 w) s.phase shape.stage) ∙ not-false (reading s.phase) f.1.1.1.0 in
      let a = h.at_hand in
      let n = a.moved in
      let r = ap length (a.reads b).0 in
      let y = length_snoc g.now.received byte in
      let e : t.moved.0 ≡ 0 + length g.now.received = omega (arith, n, r) in
      moving _ _
      (record {
        moved = omega (arith, n, y);
        reads = λ z. ((a.reads b).0, ap (λ (p : ℕ). p + byte * 2 ^ (24 - 8 * t.moved.0)) (a.reads b).1 ∙ ap (λ (m : ℕ). packed 0 g.now.received + byte * 2 ^ (24 - 8 * m)) e ∙ sym (packed_one g.now.received 0 byte));
        writes = λ z. absurd (true≢false (sym b ∙ z));
      })

  -- the open transfer is done
  now_fits : Agrees l.bank.commands l.bank.payloads at g.now
  now_fits =
      let t = transfer s.phase in
      let a = h.at_hand in
      let n = a.moved in
      let m = leb-true t.moved.0 (limit s.phase) (three (ltb t.length.0 4096) (leb t.moved.0 (limit s.phase)) (eqb (t.part % 2 ^ (32 - 8 * gathered_bytes s.phase)) 0) parts.counts).1 in
      let u = at_most (assigning s.phase || unattached s.phase) t.length.0 in
      let e = eqb-true t.length.0 (bits 19 8 (word_at l at)) shape.length in
      record { reads = λ b. (a.reads b).0; writes = λ b. a.writes b; bounded = omega (arith, n, m, u, e) }

  pub done_fits : EachAgrees l.bank.commands l.bank.payloads 0 (snoc g.done g.now)
  done_fits =
      let e : at ≡ 0 + at = omega arith in
      fits_one l.bank.commands l.bank.payloads 0 g.done g.now h.fits (subst (λ (n : ℕ). Agrees l.bank.commands l.bank.payloads n g.now) e now_fits)

  pub has_command : suc at ≤ span l.bank.state.regs
  has_command = subst (λ (n : ℕ). n ≤ span l.bank.state.regs) h.stands (subst (λ (n : ℕ). s.control.burst ≤ n) same_span (leb-true s.control.burst (span s.regs) parts.stands))

  pub done_words : (delivered s).output ≡ read_words l.bank.commands 0 (snoc g.done g.now) ++ drop (reads_in (length (snoc g.done g.now)) l.bank.commands) l.output
  done_words =
      let ws = l.bank.commands in
      let n = reads_below ws (suc at) (span l.bank.state.regs) has_command in
      let r = h.room in
      output_one ws l.output s.tables.output g.done g.now (reading s.phase) (reads_in (place s.control) s.tables.commands) (transfer s.phase).part h.words (omega (arith, n, r)) (is_reading (bit 0 (word_at l at)) s.phase shape.stage)
      (ap (λ (x : List ℕ). reads_in (place s.control) x) h.same_commands ∙ ap (λ (k : ℕ). reads_in k ws) same_place) (λ b. (h.at_hand.reads b).1)

  finish_stays : (code : ℕ) → Stays l g (Finish code) (burst_finish s code)
  unfolding burst_finish
  finish_stays code f k =
      let n = length_snoc g.done g.now in
      let b = h.stands in
      let p = same_span in
      let e : last_command s ≡ false = lt-leb (span s.regs) s.control.burst (omega (arith, k, n, b, p)) in
      subst (λ (z : Bool). Going l s.regs.ops (cond z 0 (s.control.burst + 1)) (cond z Idle (opening s s.control.burst)) s.tables.commands s.tables.payloads (delivered s).output (record { done = snoc g.done g.now; now = untouched })) (sym e)
      (record {
        same_ops = h.same_ops;
        same_commands = h.same_commands;
        same_payloads = h.same_payloads;
        stands = omega (arith, n, b);
        room = h.room;
        fits = done_fits;
        words = done_words;
        at_hand = opens_at_hand _ _ (get_or s.tables.commands s.control.burst 0) _;
      })

  pub not_outside : bursting s.control ≡ false → ⊥
  not_outside e = true≢false (sym in_burst ∙ e)

  pub not_idle : not (idle s.phase) ≡ false → ⊥
  not_idle e = not_outside (no_burst_idle s.control s.regs s.phase s.tables.commands (not-false (idle s.phase) e) o)

  not_assigning : assigning s.phase ≡ true → ⊥
  not_assigning e = not_outside (no_burst_assigning s.control s.regs s.phase s.tables.commands e o)

  pub stays : (c : Call) → resets c ≡ false → Stays l g c (decide s c)
  unfolding start interrupt request take_address trigger
  stays (Read off) n f k = read_stays l g s h (row (register_at off)) f
  stays (Write off v) n f k = write_stays l g s h (row (register_at off)) v in_burst (calm_row off v n) f
  stays Start n f k = absurd (not_idle f.1.1.0)
  stays Send n f k = of_two (Stays l g Send) (bursting s.control) (burst_send s) (send s) (λ e. send_stays) (λ e. absurd (not_outside e)) f.1 k
  stays (Receive b) n f k = of_two (Stays l g (Receive b)) (bursting s.control) (burst_receive s b) (receive s b) (λ e. receive_stays b) (λ e. absurd (not_outside e)) f.1 k
  stays (Finish code) n f k = of_two (Stays l g (Finish code)) (bursting s.control) (burst_finish s code) (finish s code) (λ e. finish_stays code) (λ e. absurd (not_outside e)) f.1.1 k
  stays (Interrupt a b) n f k = absurd (not_idle f.1.1.1.0)
  stays (Request v w) n f k = absurd (not_assigning (not-false (assigning s.phase) (or_left (not (assigning s.phase)) (requested s.phase) f.1.1.1.0)))
  stays Take n f k = absurd (not_assigning (requested_assigns s.phase (not-false (requested s.phase) f.1.1.1.0)))
  stays Trigger n f k = absurd (not_idle f.1.1.0)

-- ── From call to call ─────────────────────────────────────────────────────────────────────────────────────────
-- a refused call is not noted
refused_unnoted : (g : Log) (c : Call) (n : ℕ) → Refusal n → noted g c (record { value = 0; number = n }) ≡ g
refused_unnoted g (Read o) n r = refl
refused_unnoted g (Write o v) n r = refl
refused_unnoted g Start n r = refl
refused_unnoted g Send n r = rw r.not0
refused_unnoted g (Receive b) n r = rw r.not0
refused_unnoted g (Finish code) n r = rw r.not0
refused_unnoted g (Interrupt a b) n r = refl
refused_unnoted g (Request v w) n r = refl
refused_unnoted g Take n r = refl
refused_unnoted g Trigger n r = refl

-- finishes only grow in number
noted_grows : (g : Log) (c : Call) (a : Answer) → length g.done ≤ length (noted g c a).done
noted_grows g (Read o) a = omega arith
noted_grows g (Write o v) a = omega arith
noted_grows g Start a = omega arith
noted_grows g Send a = go (eqb a.number 0)
  where
    go : (b : Bool) → length g.done ≤ length (cond b (record { done = g.done; now = record { sent = snoc g.now.sent a.value; received = g.now.received } }) g).done
    go true = omega arith
    go false = omega arith
noted_grows g (Receive x) a = go (eqb a.number 0)
  where
    go : (b : Bool) → length g.done ≤ length (cond b (record { done = g.done; now = record { sent = g.now.sent; received = snoc g.now.received x } }) g).done
    go true = omega arith
    go false = omega arith
noted_grows g (Finish code) a = go (eqb a.number 0)
  where
    go : (b : Bool) → length g.done ≤ length (cond b (record { done = snoc g.done g.now; now = untouched }) g).done
    go true = let e = length_snoc g.done g.now in omega (arith, e)
    go false = omega arith
noted_grows g (Interrupt d b) a = omega arith
noted_grows g (Request v w) a = omega arith
noted_grows g Take a = omega arith
noted_grows g Trigger a = omega arith

logged_grows : (cs : List Call) (g : Log) (m : Controller) → length g.done ≤ length (logged g m cs).done
unfolding logged
logged_grows [] g m = omega arith
logged_grows (c ∷ cs) g m =
    let a = (step rings m c).answer in
    let h = noted_grows g c a in
    let k = logged_grows cs (noted g c a) (step rings m c).next in
    omega (arith, h, k)

-- l before the trigger, m now
pub record Inside (l m : Controller) (g : Log) : Type 0 where
  pub formed : well_formed m.bank ≡ true
  pub size : length m.store ≡ total m.bank.state.caps
  pub going : GoesOn l (view_rings m) g

pub inside_opened : (l m : Controller) (g : Log) → Inside l m g → Opened (view_rings m)
inside_opened l m g h = (formed_of m.bank h.formed).phase

pub inside_step : (l m : Controller) (g : Log) (c : Call) → Inside l m g → resets c ≡ false → (let r = step rings m c in suc (length (noted g c r.answer).done) ≤ span l.bank.state.regs → Inside l r.next (noted g c r.answer))
inside_step l m g c h n k =
    let s = stays_sound m (listed m) c (record { is = refl; formed = formed_of m.bank h.formed; size = h.size }) in
    record {
      formed = formed_is (step rings m c).next.bank s.formed;
      size = s.size;
      going = by_outcome (λ r. suc (length (noted g c r.answer).done) ≤ span l.bank.state.regs → GoesOn l (view_rings r.next) (noted g c r.answer)) m c (λ i q j. subst (λ (x : Log). GoesOn l (view_rings m) x) (sym (refused_unnoted g c i q)) h.going)
          (λ f z p j. stays l g (view_rings m) h.going (inside_opened l m g h) c n p j) k;
    }

pub inside_after : (cs : List Call) (l m : Controller) (g : Log) → Inside l m g → no_reset cs ≡ true → suc (length (logged g m cs).done) ≤ span l.bank.state.regs → Inside l (after m cs) (logged g m cs)
unfolding after no_reset logged
inside_after [] l m g h n k = h
inside_after (c ∷ cs) l m g h n k =
    let a = (step rings m c).answer in
    let z = and-true (not (resets c)) (no_reset cs) n in
    let j = logged_grows cs (noted g c a) (step rings m c).next in
    inside_after cs l (step rings m c).next (noted g c a) (inside_step l m g c h (not-true (resets c) z.0) (omega (arith, j, k))) z.1 k

-- so a burst is open before each call
pub throughout : (cs : List Call) (l m : Controller) (g : Log) → Inside l m g → no_reset cs ≡ true → suc (length (logged g m cs).done) ≤ span l.bank.state.regs → Throughout m cs
unfolding no_reset logged
throughout [] l m g h n k = tt
throughout (c ∷ cs) l m g h n k =
    let a = (step rings m c).answer in
    let z = and-true (not (resets c)) (no_reset cs) n in
    let j = logged_grows cs (noted g c a) (step rings m c).next in
    (in_burst l g (view_rings m) h.going (inside_opened l m g h), throughout cs l (step rings m c).next (noted g c a) (inside_step l m g c h (not-true (resets c) z.0) (omega (arith, j, k))) z.1 k)

-- ── The trigger ───────────────────────────────────────────────────────────────────────────────────────────────
abbrev pub unbegun : Log
unbegun = record { done = []; now = untouched }

triggered_goes : (l : Controller) → Passed (trigger (view_rings l)) → (let e = effect (trigger (view_rings l)) in Going l e.regs.ops e.control.burst e.phase e.tables.commands e.tables.payloads e.tables.output unbegun)
unfolding trigger reads_in read_words EachAgrees
triggered_goes l f =
    record {
      same_ops = refl;
      same_commands = refl;
      same_payloads = refl;
      stands = refl;
      room = ltb-false (length l.output) (reads_in (span l.bank.state.regs) l.bank.commands) f.1.1.1.1.1.0;
      fits = tt;
      words = refl;
      at_hand = opens_at_hand _ _ (get_or l.bank.commands 0 0) _;
    }

pub triggered : (l : Controller) → (step rings l Trigger).answer.number ≡ 0 → Inside l (step rings l Trigger).next unbegun
triggered l n =
    let h = served l Trigger n in
    let s = stays_sound l (listed l) Trigger (record { is = refl; formed = formed_of l.bank h.0; size = eqb-true (length l.store) (total l.bank.state.caps) h.1 }) in
    record {
      formed = formed_is (step rings l Trigger).next.bank s.formed;
      size = s.size;
      going = by_outcome (λ r. r.answer.number ≡ 0 → GoesOn l (view_rings r.next) unbegun) l Trigger (λ i q e. absurd (not_zero i q e)) (λ f z p e. triggered_goes l p.1) n;
    }
