-- `formed.kept`, of what is open: outside a burst, and in one.
use Prim.Native.Nat.{ℕ, zero, suc, ◌+◌, ◌-◌, ◌*◌, ◌/◌, ◌%◌, ◌^◌, ◌≤◌, ◌<◌}
use native.Mathlib.Omega.{arith}
use mathlib.Core.Path.{◌≡◌, refl, ap, sym, ◌∙◌, subst}
use mathlib.Core.Bool.{Bool, true, false, cond, not, ◌&&◌, true≢false, false≢true}
use mathlib.Core.List.{List}
use lib.Dec.{leb, ltb, eqb, leb-zero}
use lib.ListN.{get_or, set}
use lib.Count.{ones}
use borrow.Author.Tests.{leb-true, leb-false, eqb-true, eqb-false, not-false, not-true, lt-ltb, le-leb, eq-eqb, ne_eqb}
use Rattle.bank.specs.declared.Regs.{Regs}
use Rattle.bank.specs.declared.State.{State}
use Rattle.bank.specs.declared.Control.{Control}
use Rattle.bank.specs.declared.Transfer.{Transfer}
use Rattle.bank.specs.declared.Phase.{Phase}
use Rattle.bank.specs.declared.Phase.TheVariants.{Idle, Writing, Reading, Unrequested, Requested, Answered}
use Rattle.bank.specs.Bits.{bit, bits, word_if}
use Rattle.bank.specs.Phases.{idle, writing, reading, assigning, requested, transfer, private, unattached, limit}
use Rattle.bank.specs.Bursts.{offloads, span, carried, all_carried, bursting, place, opens, gathered_bytes}
use Rattle.bank.specs.Formed.{transfer_ok, phase_ok, burst_ok, open_ok}
use Rattle.bank.proofs.Bools.{or_left, and-true, three, five, all_three, all_five}
use Rattle.registers.specs.Map.{register_at}
use Rattle.model.specs.declared.Call.{Call}
use Rattle.model.specs.declared.Call.TheVariants.{Read, Write, Start, Send, Receive, Finish, Interrupt, Request, Take, Trigger}
use Rattle.model.specs.View.{Tables, View}
use Rattle.model.specs.Decision.{Decision, effect}
use Rattle.model.specs.Commands.{Single, is_entdaa, is_read, kind_of, length_of, opened, begun}
use Rattle.model.specs.Registers.{Cell, scratch, mask, ops, ibi_config, dev_char, watermark, offload_cmd, offload_sdo, Row, absent, shows, holds, pushes, takes, enables, acknowledges, row, stored_regs, stored_tables, burst_holds, clears, enable, read, write}
use Rattle.model.specs.Calls.{command, attached, advanced, start, send, receive, finish, interrupt, request, take_address}
use Rattle.model.specs.Bursts.{burst_at, last_command, trigger, burst_send, burst_receive, burst_finish, decide}
use Rattle.model.proofs.Tests.{Passed, of_two}
use Rattle.model.proofs.Phases.{writing_is, reading_is, requested_assigns}
use Rattle.model.proofs.Formed.{PhaseOk, phase_of, begun_ok, one_more, sent_ok, received_ok, requested_ok, taken_ok, idle_ok, clears_burst, read_untouched}

-- ── Outside a burst ───────────────────────────────────────────────────────────────────────────────────────────
direct_ok : (c : Control) (g : Regs) (p : Phase) (ws : List ℕ) → bursting c ≡ false → phase_ok p ≡ true → open_ok c g p ws ≡ true
unfolding open_ok
direct_ok c g p ws e h = rw e h

pub direct_of : (c : Control) (g : Regs) (p : Phase) (ws : List ℕ) → bursting c ≡ false → open_ok c g p ws ≡ true → phase_ok p ≡ true
unfolding open_ok
direct_of c g p ws e h = rw e at h

pub burst_of : (c : Control) (g : Regs) (p : Phase) (ws : List ℕ) → bursting c ≡ true → open_ok c g p ws ≡ true → burst_ok c g p ws ≡ true
unfolding open_ok
burst_of c g p ws e h = rw e at h

burst_ok_lem : (c : Control) (g : Regs) (p : Phase) (ws : List ℕ) → bursting c ≡ true → burst_ok c g p ws ≡ true → open_ok c g p ws ≡ true
unfolding open_ok
burst_ok_lem c g p ws e h = rw e h

-- of the control it looks at the burst's place alone
same_place : (c c' : Control) (g : Regs) (p : Phase) (ws : List ℕ) → c'.burst ≡ c.burst → open_ok c g p ws ≡ true → open_ok c' g p ws ≡ true
unfolding open_ok burst_ok
same_place c c' g p ws e h = rw e h

-- ── The parts of a burst that is well formed ──────────────────────────────────────────────────────────────────
pub record BurstOk (c : Control) (g : Regs) (p : Phase) (ws : List ℕ) : Type 0 where
  pub mode : offloads g ≡ true
  pub carries : all_carried (span g) ws ≡ true
  pub stands : leb c.burst (span g) ≡ true
  pub opens : opens (get_or ws (place c) 0) p ≡ true
  pub counts : transfer_ok (transfer p) (limit p) (gathered_bytes p) ≡ true

pub burst_parts : (c : Control) (g : Regs) (p : Phase) (ws : List ℕ) → burst_ok c g p ws ≡ true → BurstOk c g p ws
unfolding burst_ok
burst_parts c g p ws h =
    let z = five (offloads g) (all_carried (span g) ws) (leb c.burst (span g)) (opens (get_or ws (place c) 0) p) (transfer_ok (transfer p) (limit p) (gathered_bytes p)) h in
    record { mode = z.0; carries = z.1; stands = z.2; opens = z.3; counts = z.4 }

from_parts : (c : Control) (g : Regs) (p : Phase) (ws : List ℕ) → BurstOk c g p ws → burst_ok c g p ws ≡ true
unfolding burst_ok
from_parts c g p ws h =
    all_five (offloads g) (all_carried (span g) ws) (leb c.burst (span g)) (opens (get_or ws (place c) 0) p) (transfer_ok (transfer p) (limit p) (gathered_bytes p)) h.mode h.carries h.stands h.opens h.counts

pub record Opens (w : ℕ) (p : Phase) : Type 0 where
  pub kind : private (transfer p).kind ≡ true
  pub header : eqb (word_if (transfer p).header 1) (bits 21 21 w) ≡ true
  pub length : eqb (transfer p).length.0 (bits 19 8 w) ≡ true
  pub stage : cond (bit 0 w) (reading p) (writing p) ≡ true

pub opens_parts : (w : ℕ) (p : Phase) → opens w p ≡ true → Opens w p
opens_parts w p h =
    let t = transfer p in
    let k = private t.kind in
    let x = eqb (word_if t.header 1) (bits 21 21 w) in
    let l = eqb t.length.0 (bits 19 8 w) in
    let z = and-true (k && x && l) (cond (bit 0 w) (reading p) (writing p)) h in
    let y = three k x l z.0 in
    record { kind = y.0; header = y.1; length = y.2; stage = z.1 }

-- a write or a read is open, and no other
staged : (b : Bool) (p : Phase) → cond b (reading p) (writing p) ≡ true → (idle p ≡ false) × (assigning p ≡ false)
staged true Idle e = absurd (false≢true e)
staged false Idle e = absurd (false≢true e)
staged b (Writing t) e = (refl, refl)
staged b (Reading t) e = (refl, refl)
staged true (Unrequested t) e = absurd (false≢true e)
staged false (Unrequested t) e = absurd (false≢true e)
staged true (Requested t) e = absurd (false≢true e)
staged false (Requested t) e = absurd (false≢true e)
staged true (Answered t) e = absurd (false≢true e)
staged false (Answered t) e = absurd (false≢true e)

pub in_burst : (c : Control) (g : Regs) (p : Phase) (ws : List ℕ) → bursting c ≡ true → open_ok c g p ws ≡ true → (idle p ≡ false) × (assigning p ≡ false)
in_burst c g p ws e h =
    let w = get_or ws (place c) 0 in
    staged (bit 0 w) p (opens_parts w p (burst_parts c g p ws (burst_of c g p ws e h)).opens).stage

-- where a burst stands: at one of fifteen commands at most, counted from 1
pub burst_place : (st : State) (ws : List ℕ) → bursting st.control ≡ true → open_ok st.control st.regs st.phase ws ≡ true → (st.control.burst ≤ 15) × (1 ≤ st.control.burst)
burst_place st ws e h =
    let n = st.control.burst in
    let l = leb-true n (span st.regs) (burst_parts st.control st.regs st.phase ws (burst_of st.control st.regs st.phase ws e h)).stands in
    let m : st.regs.ops / 2 % 16 < 16 = omega arith in
    let d = eqb-false n 0 (not-true (eqb n 0) e) in
    (omega arith, omega arith)

no_burst : (c : Control) (g : Regs) (p : Phase) (ws : List ℕ) → ((idle p ≡ false) × (assigning p ≡ false) → ⊥) → open_ok c g p ws ≡ true → bursting c ≡ false
no_burst c g p ws n h = go (bursting c) refl
  where
    go : (b : Bool) → bursting c ≡ b → b ≡ false
    go true e = absurd (n (in_burst c g p ws e h))
    go false e = refl

pub no_burst_idle : (c : Control) (g : Regs) (p : Phase) (ws : List ℕ) → idle p ≡ true → open_ok c g p ws ≡ true → bursting c ≡ false
no_burst_idle c g p ws i h = no_burst c g p ws (λ n. true≢false (sym i ∙ n.0)) h

pub no_burst_assigning : (c : Control) (g : Regs) (p : Phase) (ws : List ℕ) → assigning p ≡ true → open_ok c g p ws ≡ true → bursting c ≡ false
no_burst_assigning c g p ws a h = no_burst c g p ws (λ n. true≢false (sym a ∙ n.1)) h

-- ── The command at a place is carried ─────────────────────────────────────────────────────────────────────────
carried_at : (n k : ℕ) (ws : List ℕ) → k < n → all_carried n ws ≡ true → carried (get_or ws k 0) ≡ true
unfolding all_carried
carried_at zero k ws l h = absurd (omega arith)
carried_at (suc n) k ws l h = go (eqb k n) refl (λ m. carried_at n k ws m z.0)
  where
    z : (all_carried n ws ≡ true) × (carried (get_or ws n 0) ≡ true)
    z = and-true (all_carried n ws) (carried (get_or ws n 0)) h

    go : (b : Bool) → eqb k n ≡ b → (k < n → carried (get_or ws k 0) ≡ true) → carried (get_or ws k 0) ≡ true
    go true e r = rw (eqb-true k n e) z.1
    go false e r = r (let d = eqb-false k n e in omega arith)

place_below : (c : Control) (n : ℕ) → bursting c ≡ true → leb c.burst n ≡ true → place c < n
place_below c n e h =
    let d = eqb-false c.burst 0 (not-true (eqb c.burst 0) e) in
    let l = leb-true c.burst n h in
    omega arith

-- so its length is at most 4
pub at_most_four : (c : Control) (g : Regs) (p : Phase) (ws : List ℕ) → bursting c ≡ true → BurstOk c g p ws → (transfer p).length.0 ≤ 4
at_most_four c g p ws e b =
    let w = get_or ws (place c) 0 in
    let k = carried_at (span g) (place c) ws (place_below c (span g) e b.stands) b.carries in
    let l = leb-true (bits 19 8 w) 4 (and-true (not (bit 22 w)) (leb (bits 19 8 w) 4) k).1 in
    let o = eqb-true (transfer p).length.0 (bits 19 8 w) (opens_parts w p b.opens).length in
    omega arith

-- ── A transfer of a burst opens ───────────────────────────────────────────────────────────────────────────────
header_same : (x : ℕ) → x < 2 → eqb (word_if (eqb x 1) 1) x ≡ true
header_same zero h = refl
header_same (suc zero) h = refl
header_same (suc (suc x)) h = absurd (omega arith)

opening_ok : (w : ℕ) (a : Bool) → (opens w (begun (Single w) a) ≡ true) × (let p = begun (Single w) a in transfer_ok (transfer p) (limit p) (gathered_bytes p) ≡ true)
unfolding begun is_read is_entdaa kind_of length_of
opening_ok w a = go (bit 0 w) refl
  where
    l : ltb (bits 19 8 w) 4096 ≡ true
    l = lt-ltb (bits 19 8 w) 4096 (let k : w / 256 % 4096 < 4096 = omega arith in k)

    x : eqb (word_if (bit 21 w) 1) (bits 21 21 w) ≡ true
    x = header_same (bits 21 21 w) (let k : w / 2097152 % 2 < 2 = omega arith in k)

    y : eqb (bits 19 8 w) (bits 19 8 w) ≡ true
    y = eq-eqb (bits 19 8 w) (bits 19 8 w) refl

    go : (b : Bool) → bit 0 w ≡ b → (let p = cond b (Reading (opened (Single w) a)) (Writing (opened (Single w) a)) in (opens w p ≡ true) × (transfer_ok (transfer p) (limit p) (gathered_bytes p) ≡ true))
    go true e = (rw (x, y, e), rw (l, leb-zero (limit (Reading (opened (Single w) a)))))
    go false e = (rw (x, y, e), rw (l, leb-zero (limit (Writing (opened (Single w) a)))))

-- a burst that stands at the command k, whose transfer has just opened
opened_ok : (c : Control) (g : Regs) (ws : List ℕ) (k : ℕ) (a : Bool) → offloads g ≡ true → all_carried (span g) ws ≡ true → k < span g → open_ok (burst_at (k + 1) c) g (begun (Single (get_or ws k 0)) a) ws ≡ true
opened_ok c g ws k a m h l =
    let w = get_or ws k 0 in
    let o = opening_ok w a in
    let d = burst_at (k + 1) c in
    let e : place d ≡ k = omega arith in
    burst_ok_lem d g (begun (Single w) a) ws (ap not (ne_eqb (k + 1) 0 (λ z. omega arith)))
    (from_parts d g (begun (Single w) a) ws (record { mode = m; carries = h; stands = le-leb (k + 1) (span g) (omega arith); opens = rw e o.0; counts = o.1 }))

-- ── Bytes in a burst ──────────────────────────────────────────────────────────────────────────────────────────
record Counts (t : Transfer) (most parts : ℕ) : Type 0 where
  pub short : ltb t.length.0 4096 ≡ true
  pub below : leb t.moved.0 most ≡ true
  pub part : eqb (t.part % 2 ^ (32 - 8 * parts)) 0 ≡ true

counts_of : (t : Transfer) (most parts : ℕ) → transfer_ok t most parts ≡ true → Counts t most parts
counts_of t most parts h =
    let z = three (ltb t.length.0 4096) (leb t.moved.0 most) (eqb (t.part % 2 ^ (32 - 8 * parts)) 0) h in
    record { short = z.0; below = z.1; part = z.2 }

counts_ok : (t : Transfer) (most parts : ℕ) → Counts t most parts → transfer_ok t most parts ≡ true
counts_ok t most parts h = all_three (ltb t.length.0 4096) (leb t.moved.0 most) (eqb (t.part % 2 ^ (32 - 8 * parts)) 0) h.short h.below h.part

-- a byte is gathered below those before it
gathered_part : (m w b : ℕ) → m < 4 → w % 2 ^ (32 - 8 * m) ≡ 0 → eqb ((w + b * 2 ^ (24 - 8 * m)) % 2 ^ (32 - 8 * (m + 1))) 0 ≡ true
gathered_part zero w b l h =
    let y : w % 4294967296 ≡ 0 = h in
    eq-eqb ((w + b * 16777216) % 16777216) 0 (omega arith)
gathered_part (suc zero) w b l h =
    let y : w % 16777216 ≡ 0 = h in
    eq-eqb ((w + b * 65536) % 65536) 0 (omega arith)
gathered_part (suc (suc zero)) w b l h =
    let y : w % 65536 ≡ 0 = h in
    eq-eqb ((w + b * 256) % 256) 0 (omega arith)
gathered_part (suc (suc (suc zero))) w b l h = eq-eqb ((w + b * 1) % 1) 0 (omega arith)
gathered_part (suc (suc (suc (suc m)))) w b l h = absurd (omega arith)

burst_sent : (c : Control) (g : Regs) (t : Transfer) (ws : List ℕ) → unattached (Writing t) ≡ false → leb t.length.0 t.moved.0 ≡ false → BurstOk c g (Writing t) ws → BurstOk c g (Writing (advanced t 0)) ws
burst_sent c g t ws u l b =
    let k = counts_of t (limit (Writing t)) 0 b.counts in
    record {
      mode = b.mode;
      carries = b.carries;
      stands = b.stands;
      opens = b.opens;
      counts = counts_ok (advanced t 0) (limit (Writing (advanced t 0))) 0 (record { short = k.short; below = one_more (unattached (Writing t)) t.length.0 t.moved.0 u l; part = refl });
    }

burst_received : (c : Control) (g : Regs) (t : Transfer) (ws : List ℕ) (byte : ℕ) → bursting c ≡ true → unattached (Reading t) ≡ false → leb t.length.0 t.moved.0 ≡ false → BurstOk c g (Reading t) ws
    → BurstOk c g (Reading (advanced t (t.part + byte * 2 ^ (24 - 8 * t.moved.0)))) ws
burst_received c g t ws byte e u l b =
    let k = counts_of t (limit (Reading t)) t.moved.0 b.counts in
    let most = at_most_four c g (Reading t) ws e b in
    let d = leb-false t.length.0 t.moved.0 l in
    let w = t.part + byte * 2 ^ (24 - 8 * t.moved.0) in
    record {
      mode = b.mode;
      carries = b.carries;
      stands = b.stands;
      opens = b.opens;
      counts = counts_ok (advanced t w) (limit (Reading (advanced t w))) (t.moved.0 + 1) (record { short = k.short; below = one_more (unattached (Reading t)) t.length.0 t.moved.0 u l; part = gathered_part t.moved.0 t.part byte (omega arith) (eqb-true _ 0 k.part) });
    }

-- ── Each call ─────────────────────────────────────────────────────────────────────────────────────────────────
abbrev pub OpenOk : View → Control → Regs → Phase → Tables → Type 0
OpenOk s c g p t = open_ok c g p t.commands ≡ true

abbrev pub Opened : View → Type 0
Opened s = OpenOk s s.control s.regs s.phase s.tables

-- where no test holds
abbrev Keeps : View → Decision → Type 0
Keeps s d = Passed d → OpenOk s (effect d).control (effect d).regs (effect d).phase (effect d).tables

stored_open : (c : Cell) (v : ℕ) (s : View) → (burst_holds c && bursting s.control) ≡ false → Opened s → OpenOk s s.control (stored_regs c v s.regs) s.phase (stored_tables c v s.tables)
unfolding open_ok burst_ok
stored_open scratch v s e h = h
stored_open mask v s e h = h
stored_open ops v s e h = direct_ok s.control (stored_regs ops v s.regs) s.phase s.tables.commands e (direct_of s.control s.regs s.phase s.tables.commands e h)
stored_open ibi_config v s e h = h
stored_open dev_char v s e h = h
stored_open (watermark q) v s e h = h
stored_open (offload_cmd i) v s e h = direct_ok s.control s.regs s.phase (set s.tables.commands i v) e (direct_of s.control s.regs s.phase s.tables.commands e h)
stored_open (offload_sdo i) v s e h = h

enable_open : (s : View) (b : Bool) → Opened s → (let e = enable s b in OpenOk s e.control e.regs e.phase e.tables)
unfolding enable open_ok burst_ok
enable_open s true h = idle_ok
enable_open s false h = h

read_open : (s : View) (x : Row) → Opened s → Keeps s (read x s)
read_open s x h f =
    let u = read_untouched s x in
    let e = effect (read x s) in
    rw (u.regs_same, u.phase_same, u.tables_same) (same_place s.control e.control s.regs s.phase s.tables.commands u.burst_same h)

write_open : (s : View) (x : Row) (v : ℕ) → Opened s → Keeps s (write x s v)
unfolding open_ok burst_ok
write_open s absent v h f = h
write_open s (shows g) v h f = h
write_open s (holds c) v h f = stored_open c v s f.0 h
write_open s (pushes q) v h f = same_place s.control (clears q true s.control) s.regs s.phase s.tables.commands (clears_burst q true s.control) h
write_open s (takes q) v h f = h
write_open s enables v h f = enable_open s (bit 0 v) h
write_open s acknowledges v h f = h

module _ (s : View) (h : Opened s) where
  outside : (p : Phase) → bursting s.control ≡ false → phase_ok p ≡ true → OpenOk s s.control s.regs p s.tables
  outside p e k = direct_ok s.control s.regs p s.tables.commands e k

  phase_ok_lem : bursting s.control ≡ false → phase_ok s.phase ≡ true
  phase_ok_lem e = direct_of s.control s.regs s.phase s.tables.commands e h

  parts : bursting s.control ≡ true → BurstOk s.control s.regs s.phase s.tables.commands
  parts e = burst_parts s.control s.regs s.phase s.tables.commands (burst_of s.control s.regs s.phase s.tables.commands e h)

  inside : (p : Phase) → bursting s.control ≡ true → BurstOk s.control s.regs p s.tables.commands → OpenOk s s.control s.regs p s.tables
  inside p e k = burst_ok_lem s.control s.regs p s.tables.commands e (from_parts s.control s.regs p s.tables.commands k)

  start_open : Keeps s (start s)
  unfolding start
  start_open f = outside _ (no_burst_idle s.control s.regs s.phase s.tables.commands (not-false (idle s.phase) f.1.0) h) (begun_ok (command s.queues.cmd) (attached s (command s.queues.cmd)))

  send_open : bursting s.control ≡ false → Keeps s (send s)
  unfolding send
  send_open n f =
      let e = writing_is s.phase (not-false (writing s.phase) f.1.1.1.0) in
      outside _ n (sent_ok (transfer s.phase) s.queues.sdo.first (subst (λ (p : Phase). unattached p ≡ false) e f.1.1.0) f.1.1.1.1.0 (subst PhaseOk e (phase_of s.phase (phase_ok_lem n))))

  receive_open : (b : ℕ) → bursting s.control ≡ false → Keeps s (receive s b)
  unfolding receive
  receive_open b n f =
      let e = reading_is s.phase (not-false (reading s.phase) f.1.1.1.0) in
      outside _ n (received_ok (transfer s.phase) b (subst (λ (p : Phase). unattached p ≡ false) e f.1.1.0) f.1.1.1.1.0 (subst PhaseOk e (phase_of s.phase (phase_ok_lem n))))

  finish_open : (code : ℕ) → bursting s.control ≡ false → Keeps s (finish s code)
  unfolding finish open_ok burst_ok
  finish_open code n f = outside Idle n idle_ok

  request_open : (v w : ℕ) → Keeps s (request s v w)
  unfolding request open_ok burst_ok
  request_open v w f =
      let a = not-false (assigning s.phase) (or_left (not (assigning s.phase)) (requested s.phase) f.1.1.0) in
      let n = no_burst_assigning s.control s.regs s.phase s.tables.commands a h in
      outside _ n (requested_ok s.phase a (phase_ok_lem n))

  take_open : Keeps s (take_address s)
  unfolding take_address open_ok burst_ok
  take_open f =
      let a = requested_assigns s.phase (not-false (requested s.phase) f.1.1.0) in
      let n = no_burst_assigning s.control s.regs s.phase s.tables.commands a h in
      outside _ n (taken_ok (eqb (ones (s.queues.sdo.first / 2 ^ 24) % 2) 1) s.phase a (phase_ok_lem n))

  trigger_open : Keeps s (trigger s)
  unfolding trigger
  trigger_open f =
      let d = eqb-false (span s.regs) 0 f.1.1.1.0 in
      opened_ok s.control s.regs s.tables.commands 0 _ (not-false (offloads s.regs) f.1.1.0) (not-false (all_carried (span s.regs) s.tables.commands) f.1.1.1.1.0) (omega arith)

  burst_send_open : bursting s.control ≡ true → Keeps s (burst_send s)
  unfolding burst_send
  burst_send_open e f =
      let p = writing_is s.phase (not-false (writing s.phase) f.1.1.1.0) in
      inside _ e (burst_sent s.control s.regs (transfer s.phase) s.tables.commands (subst (λ (q : Phase). unattached q ≡ false) p f.1.1.0) f.1.1.1.1.0 (subst (λ (q : Phase). BurstOk s.control s.regs q s.tables.commands) p (parts e)))

  burst_receive_open : (b : ℕ) → bursting s.control ≡ true → Keeps s (burst_receive s b)
  unfolding burst_receive
  burst_receive_open b e f =
      let p = reading_is s.phase (not-false (reading s.phase) f.1.1.1.0) in
      inside _ e (burst_received s.control s.regs (transfer s.phase) s.tables.commands b e (subst (λ (q : Phase). unattached q ≡ false) p f.1.1.0) f.1.1.1.1.0 (subst (λ (q : Phase). BurstOk s.control s.regs q s.tables.commands) p (parts e)))

  burst_finish_open : (code : ℕ) → bursting s.control ≡ true → Keeps s (burst_finish s code)
  unfolding burst_finish
  burst_finish_open code e f =
      let n = s.control.burst in
      let b = parts e in
      let w = get_or s.tables.commands n 0 in
      go (last_command s) refl (attached s (Single w)) b.mode b.carries
    where
      go : (z : Bool) → last_command s ≡ z → (a : Bool) → offloads s.regs ≡ true → all_carried (span s.regs) s.tables.commands ≡ true
          → open_ok (burst_at (cond z 0 (s.control.burst + 1)) s.control) s.regs (cond z Idle (begun (Single (get_or s.tables.commands s.control.burst 0)) a)) s.tables.commands ≡ true
      go true z a m k = direct_ok (burst_at 0 s.control) s.regs Idle s.tables.commands refl idle_ok
      go false z a m k = opened_ok s.control s.regs s.tables.commands s.control.burst a m k (leb-false (span s.regs) s.control.burst z)

pub open_kept : (s : View) (c : Call) → Opened s → Keeps s (decide s c)
unfolding interrupt open_ok burst_ok
open_kept s (Read o) h f = read_open s (row (register_at o)) h f
open_kept s (Write o v) h f = write_open s (row (register_at o)) v h f
open_kept s Start h f = start_open s h f.1
open_kept s Send h f = of_two (Keeps s) (bursting s.control) (burst_send s) (send s) (λ e. burst_send_open s h e) (λ e. send_open s h e) f.1
open_kept s (Receive b) h f = of_two (Keeps s) (bursting s.control) (burst_receive s b) (receive s b) (λ e. burst_receive_open s h b e) (λ e. receive_open s h b e) f.1
open_kept s (Finish code) h f = of_two (Keeps s) (bursting s.control) (burst_finish s code) (finish s code) (λ e. burst_finish_open s h code e) (λ e. finish_open s h code e) f.1.1
open_kept s (Interrupt a b) h f = h
open_kept s (Request v w) h f = request_open s h v w f.1
open_kept s Take h f = take_open s h f.1
open_kept s Trigger h f = trigger_open s h f.1
