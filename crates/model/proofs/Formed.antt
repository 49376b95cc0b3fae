-- `formed.kept`, part by part: rings, registers, flags, phase, and what holds in reset.
use Prim.Native.Nat.{ℕ, zero, suc, ◌+◌, ◌-◌, ◌*◌, ◌/◌, ◌%◌, ◌^◌, ◌≤◌, ◌<◌}
use native.Mathlib.Omega.{arith}
use mathlib.Core.Path.{◌≡◌, refl, ap, sym, subst, ◌∙◌}
use mathlib.Core.Bool.{Bool, true, false, cond, not, ◌&&◌, ◌||◌, true≢false, false≢true}
use mathlib.Core.List.{List, [], ◌∷◌}
use lib.Dec.{leb, ltb, eqb, leb-zero}
use lib.ListN.{set}
use borrow.Author.Tests.{ltb-false, leb-false, eqb-true, lt-ltb, le-leb, eq-eqb}
use Rattle.ring.specs.declared.Ring.{Ring}
use Rattle.bank.specs.Queues.{Queues, queues_in}
use Rattle.bank.specs.declared.Regs.{Regs}
use Rattle.bank.specs.declared.Control.{Control}
use Rattle.bank.specs.declared.Transfer.{Transfer}
use Rattle.bank.specs.declared.Phase.{Phase}
use Rattle.bank.specs.declared.Phase.TheVariants.{Idle, Writing, Reading, Unrequested, Requested, Answered}
use Rattle.bank.specs.Phases.{idle, assigning, transfer, unattached, limit, part_bytes}
use Rattle.bank.specs.Bursts.{bursting}
use Rattle.bank.specs.SetUp.{size_ok, marks_ok}
use Rattle.bank.specs.Fives.{Counts}
use Rattle.bank.specs.Formed.{ring_ok, queues_ok, regs_ok, flags_ok, phase_ok, ring_clear, queues_clear, latest_clear, control_clear, reset_ok}
use Rattle.bank.proofs.Bools.{and-true, true_and, three, five, all_three, all_five}
use Rattle.bank.proofs.Laws.{ring_valid, rings_of, rings_are}
use Rattle.registers.specs.Map.{register_at}
use Rattle.model.specs.declared.Call.{Call}
use Rattle.model.specs.declared.Call.TheVariants.{Read, Write, Start, Send, Receive, Finish, Interrupt, Request, Take, Trigger}
use Rattle.bank.specs.Bits.{bit, bits}
use Rattle.model.specs.View.{Tables, View}
use Rattle.queues.specs.declared.Queue.{Queue}
use Rattle.queues.specs.declared.Queue.TheVariants.{Cmd, Cmdr, Sdo, Sdi, Ibi}
use Rattle.queues.specs.declared.Five.{Five}
use Rattle.queues.specs.Each.{of}
use Rattle.model.specs.Decision.{QueueOp, Decision, effect}
use Rattle.model.specs.Commands.{Command, first_word, is_entdaa, is_read, length_of, opened, begun}
use Rattle.model.specs.Registers.{Cell, scratch, mask, ops, ibi_config, dev_char, watermark, offload_cmd, offload_sdo, Row, absent, shows, holds, pushes, takes, enables, acknowledges, row, count_of, counts_with, stored_regs, stored_tables, above_capacity, pending, clears, enable, read, write}
use Rattle.model.specs.Calls.{advanced, first_of_word, last_of_word, start, send, receive, finish, interrupt, request, take_address}
use Rattle.model.specs.Bursts.{trigger, burst_send, burst_receive, burst_finish, decide}
use Rattle.model.specs.Rings.{Controller, view_queues, view_rings, on_ring, on_rings}
use Rattle.model.proofs.Tests.{Passed, of_two, of_take}
use Rattle.model.specs.Fits.{Fits, AllFit}
use Rattle.model.proofs.Rings.{cap_same, valid_op}

-- ── Rings ─────────────────────────────────────────────────────────────────────────────────────────────────────
ring_kept : (least : ℕ) (r : Ring) (o : QueueOp) → 1 ≤ least → Fits o r.cap.0 r.level.0 → ring_ok least r ≡ true → ring_ok least (on_ring o r) ≡ true
ring_kept least r o n f h =
    let g = valid_op o r (ring_valid least r n h) f in
    let z = three (size_ok least r.cap.0) (ltb r.head r.cap.0) (leb r.level.0 r.cap.0) h in
    let r' = on_ring o r in
    let y : size_ok least r'.cap.0 ≡ true = rw (cap_same o r) z.0 in
    all_three (size_ok least r'.cap.0) (ltb r'.head r'.cap.0) (leb r'.level.0 r'.cap.0) y (lt-ltb r'.head r'.cap.0 g.head_below) (le-leb r'.level.0 r'.cap.0 g.level_most)

pub queues_kept : (q : Queues) (st : List ℕ) (o : Five QueueOp) → AllFit o (view_queues q st) → queues_ok q ≡ true → queues_ok (on_rings o q) ≡ true
queues_kept q st o f h =
    let z = rings_of q h in
    rings_are (on_rings o q)
    (record {
      cmd = ring_kept 2 q.cmd o.cmd (omega arith) (f Cmd) z.cmd;
      cmdr = ring_kept 1 q.cmdr o.cmdr (omega arith) (f Cmdr) z.cmdr;
      sdo = ring_kept 1 q.sdo o.sdo (omega arith) (f Sdo) z.sdo;
      sdi = ring_kept 2 q.sdi o.sdi (omega arith) (f Sdi) z.sdi;
      ibi = ring_kept 1 q.ibi o.ibi (omega arith) (f Ibi) z.ibi;
    })

-- ── What a row leaves alone ───────────────────────────────────────────────────────────────────────────────────
pub record Untouched (s : View) (regs : Regs) (tables : Tables) (phase : Phase) (control : Control) : Type 0 where
  pub regs_same : regs ≡ s.regs
  pub tables_same : tables ≡ s.tables
  pub phase_same : phase ≡ s.phase
  pub burst_same : control.burst ≡ s.control.burst

pub clears_burst : (q : Queue) (b : Bool) (c : Control) → (clears q b c).burst ≡ c.burst
clears_burst Cmd b c = refl
clears_burst Cmdr b c = refl
clears_burst Sdo b c = refl
clears_burst Sdi b c = refl
clears_burst Ibi b c = refl

pub read_untouched : (s : View) (x : Row) → (let e = effect (read x s) in Untouched s e.regs e.tables e.phase e.control)
read_untouched s absent = record { regs_same = refl; tables_same = refl; phase_same = refl; burst_same = refl }
read_untouched s (shows f) = record { regs_same = refl; tables_same = refl; phase_same = refl; burst_same = refl }
read_untouched s (holds c) = record { regs_same = refl; tables_same = refl; phase_same = refl; burst_same = refl }
read_untouched s (pushes q) = record { regs_same = refl; tables_same = refl; phase_same = refl; burst_same = refl }
read_untouched s (takes q) =
    of_take (λ d. let e = effect d in Untouched s e.regs e.tables e.phase e.control) q s
    (λ f. record { regs_same = refl; tables_same = refl; phase_same = refl; burst_same = refl })
    (λ f. record { regs_same = refl; tables_same = refl; phase_same = refl; burst_same = clears_burst q _ s.control })
read_untouched s enables = record { regs_same = refl; tables_same = refl; phase_same = refl; burst_same = refl }
read_untouched s acknowledges = record { regs_same = refl; tables_same = refl; phase_same = refl; burst_same = refl }

-- ── Registers and flags ───────────────────────────────────────────────────────────────────────────────────────
regs_ok_lem : (g : Regs) → ltb g.ops 128 ≡ true → ltb g.config 4 ≡ true → ltb g.selected 128 ≡ true → regs_ok g ≡ true
unfolding regs_ok
regs_ok_lem g a b c = all_three (ltb g.ops 128) (ltb g.config 4) (ltb g.selected 128) a b c

regs_of : (g : Regs) → regs_ok g ≡ true → (ltb g.ops 128 ≡ true) × (ltb g.config 4 ≡ true) × (ltb g.selected 128 ≡ true)
unfolding regs_ok
regs_of g h = three (ltb g.ops 128) (ltb g.config 4) (ltb g.selected 128) h

stored_regs_lem : (c : Cell) (v : ℕ) (g : Regs) → regs_ok g ≡ true → regs_ok (stored_regs c v g) ≡ true
stored_regs_lem scratch v g h = let z = regs_of g h in regs_ok_lem _ z.0 z.1 z.2
stored_regs_lem mask v g h = let z = regs_of g h in regs_ok_lem _ z.0 z.1 z.2
stored_regs_lem ops v g h = let z = regs_of g h in regs_ok_lem _ (lt-ltb (v % 128) 128 (omega arith)) z.1 z.2
stored_regs_lem ibi_config v g h = let z = regs_of g h in regs_ok_lem _ z.0 (lt-ltb (v % 4) 4 (omega arith)) z.2
stored_regs_lem dev_char v g h = let z = regs_of g h in regs_ok_lem _ z.0 z.1 (lt-ltb (v / 512 % 128) 128 (omega arith))
stored_regs_lem (watermark q) v g h = let z = regs_of g h in regs_ok_lem _ z.0 z.1 z.2
stored_regs_lem (offload_cmd i) v g h = h
stored_regs_lem (offload_sdo i) v g h = h

-- five watermarks, each at most its capacity
abbrev EachMost : Counts → Counts → Type 0
EachMost m k = (leb m.cmd.0 k.cmd.0 ≡ true) × (leb m.cmdr.0 k.cmdr.0 ≡ true) × (leb m.sdo.0 k.sdo.0 ≡ true) × (leb m.sdi.0 k.sdi.0 ≡ true) × (leb m.ibi.0 k.ibi.0 ≡ true)

marks_of : (m k : Counts) → marks_ok m k ≡ true → EachMost m k
unfolding marks_ok
marks_of m k h = five (leb m.cmd.0 k.cmd.0) (leb m.cmdr.0 k.cmdr.0) (leb m.sdo.0 k.sdo.0) (leb m.sdi.0 k.sdi.0) (leb m.ibi.0 k.ibi.0) h

marks_are : (m k : Counts) → EachMost m k → marks_ok m k ≡ true
unfolding marks_ok
marks_are m k z = all_five (leb m.cmd.0 k.cmd.0) (leb m.cmdr.0 k.cmdr.0) (leb m.sdo.0 k.sdo.0) (leb m.sdi.0 k.sdi.0) (leb m.ibi.0 k.ibi.0) z.0 z.1 z.2 z.3 z.4

marks_ok_lem : (q : Queue) (x : ℕ) (m k : Counts) → leb x (count_of q k) ≡ true → EachMost m k → marks_ok (counts_with q x m) k ≡ true
marks_ok_lem Cmd x m k e z = marks_are (counts_with Cmd x m) k (e, z.1, z.2, z.3, z.4)
marks_ok_lem Cmdr x m k e z = marks_are (counts_with Cmdr x m) k (z.0, e, z.2, z.3, z.4)
marks_ok_lem Sdo x m k e z = marks_are (counts_with Sdo x m) k (z.0, z.1, e, z.3, z.4)
marks_ok_lem Sdi x m k e z = marks_are (counts_with Sdi x m) k (z.0, z.1, z.2, e, z.4)
marks_ok_lem Ibi x m k e z = marks_are (counts_with Ibi x m) k (z.0, z.1, z.2, z.3, e)

-- the capacities of a view are these
abbrev pub Capped : Counts → View → Type 0
Capped k s = (q : Queue) → (of q s.queues).cap ≡ count_of q k

stored_marks : (k : Counts) (c : Cell) (v : ℕ) (s : View) → Capped k s → above_capacity c v s ≡ false → marks_ok s.regs.marks k ≡ true → marks_ok (stored_regs c v s.regs).marks k ≡ true
stored_marks k scratch v s a e h = h
stored_marks k mask v s a e h = h
stored_marks k ops v s a e h = h
stored_marks k ibi_config v s a e h = h
stored_marks k dev_char v s a e h = h
stored_marks k (watermark q) v s a e h =
    let x = v % 2 ^ 16 in
    let cap = (of q s.queues).cap in
    marks_ok_lem q x s.regs.marks k (subst (λ (n : ℕ). leb x n ≡ true) (a q) (le-leb x cap (ltb-false cap x e))) (marks_of s.regs.marks k h)
stored_marks k (offload_cmd i) v s a e h = h
stored_marks k (offload_sdo i) v s a e h = h

flags_set : (t : List ℕ) (i v : ℕ) → ltb v 8 ≡ true → flags_ok t ≡ true → flags_ok (set t i v) ≡ true
unfolding flags_ok
flags_set [] i v f h = h
flags_set (x ∷ t) zero v f h = true_and (ltb v 8) (flags_ok t) f (and-true (ltb x 8) (flags_ok t) h).1
flags_set (x ∷ t) (suc i) v f h =
    let z = and-true (ltb x 8) (flags_ok t) h in
    true_and (ltb x 8) (flags_ok (set t i v)) z.0 (flags_set t i v f z.1)

flags_if : (b : Bool) (t : List ℕ) (i v : ℕ) → v < 8 → flags_ok t ≡ true → flags_ok (cond b (set t i v) t) ≡ true
flags_if true t i v k h = flags_set t i v (lt-ltb v 8 k) h
flags_if false t i v k h = h

stored_flags : (c : Cell) (v : ℕ) (t : Tables) → flags_ok t.flags ≡ true → flags_ok (stored_tables c v t).flags ≡ true
stored_flags scratch v t h = h
stored_flags mask v t h = h
stored_flags ops v t h = h
stored_flags ibi_config v t h = h
stored_flags dev_char v t h = flags_if (bit 8 v) t.flags (bits 15 9 v) (bits 3 1 v) (let z : v / 2 % 8 < 8 = omega arith in z) h
stored_flags (watermark q) v t h = h
stored_flags (offload_cmd i) v t h = h
stored_flags (offload_sdo i) v t h = h

-- a reset leaves all three
abbrev RegsFlags : Counts → Regs → List ℕ → Type 0
RegsFlags k g t = (regs_ok g ≡ true) × (marks_ok g.marks k ≡ true) × (flags_ok t ≡ true)

enable_kept : (k : Counts) (s : View) (b : Bool) → RegsFlags k s.regs s.tables.flags → RegsFlags k (enable s b).regs (enable s b).tables.flags
unfolding enable
enable_kept k s true h = h
enable_kept k s false h = h

write_kept : (k : Counts) (s : View) (x : Row) (v : ℕ) → Capped k s → Passed (write x s v) → RegsFlags k s.regs s.tables.flags → (let e = effect (write x s v) in RegsFlags k e.regs e.tables.flags)
write_kept k s absent v a p h = h
write_kept k s (shows f) v a p h = h
write_kept k s (holds c) v a p h = (stored_regs_lem c v s.regs h.0, stored_marks k c v s a p.1.0 h.1, stored_flags c v s.tables h.2)
write_kept k s (pushes q) v a p h = h
write_kept k s (takes q) v a p h = h
write_kept k s enables v a p h = enable_kept k s (bit 0 v) h
write_kept k s acknowledges v a p h = h

read_kept : (k : Counts) (s : View) (x : Row) → RegsFlags k s.regs s.tables.flags → (let e = effect (read x s) in RegsFlags k e.regs e.tables.flags)
read_kept k s x h = let u = read_untouched s x in rw (u.regs_same, u.tables_same) h

abbrev KeepsRegsFlags : Counts → Decision → Type 0
KeepsRegsFlags k d = Passed d → RegsFlags k (effect d).regs (effect d).tables.flags

pub regs_flags_kept : (k : Counts) (s : View) (c : Call) → Capped k s → RegsFlags k s.regs s.tables.flags → KeepsRegsFlags k (decide s c)
unfolding start send receive finish interrupt request take_address trigger burst_send burst_receive burst_finish
regs_flags_kept k s (Read o) a h p = read_kept k s (row (register_at o)) h
regs_flags_kept k s (Write o v) a h p = write_kept k s (row (register_at o)) v a p h
regs_flags_kept k s Start a h p = h
regs_flags_kept k s Send a h p = of_two (KeepsRegsFlags k) (bursting s.control) (burst_send s) (send s) (λ e f. h) (λ e f. h) p.1
regs_flags_kept k s (Receive b) a h p = of_two (KeepsRegsFlags k) (bursting s.control) (burst_receive s b) (receive s b) (λ e f. h) (λ e f. h) p.1
regs_flags_kept k s (Finish code) a h p = of_two (KeepsRegsFlags k) (bursting s.control) (burst_finish s code) (finish s code) (λ e f. h) (λ e f. h) p.1.1
regs_flags_kept k s (Interrupt d b) a h p = h
regs_flags_kept k s (Request v w) a h p = h
regs_flags_kept k s Take a h p = h
regs_flags_kept k s Trigger a h p = h

-- ── Phase ─────────────────────────────────────────────────────────────────────────────────────────────────────
-- its three tests
pub record PhaseOk (p : Phase) : Type 0 where
  pub short : ltb (transfer p).length.0 4096 ≡ true
  pub most : leb (transfer p).moved.0 (limit p) ≡ true
  pub part : eqb ((transfer p).part % 2 ^ (32 - 8 * part_bytes p)) 0 ≡ true

pub phase_of : (p : Phase) → phase_ok p ≡ true → PhaseOk p
unfolding phase_ok
phase_of p h =
    let z = three (ltb (transfer p).length.0 4096) (leb (transfer p).moved.0 (limit p)) (eqb ((transfer p).part % 2 ^ (32 - 8 * part_bytes p)) 0) h in
    record { short = z.0; most = z.1; part = z.2 }

phase_ok_lem : (p : Phase) → PhaseOk p → phase_ok p ≡ true
unfolding phase_ok
phase_ok_lem p h = all_three (ltb (transfer p).length.0 4096) (leb (transfer p).moved.0 (limit p)) (eqb ((transfer p).part % 2 ^ (32 - 8 * part_bytes p)) 0) h.short h.most h.part

pub length_short : (c : Command) → ltb (length_of c) 4096 ≡ true
unfolding length_of
length_short c = go (is_entdaa c)
  where
    go : (b : Bool) → ltb (cond b 0 (bits 19 8 (first_word c))) 4096 ≡ true
    go true = refl
    go false = lt-ltb (first_word c / 256 % 4096) 4096 (omega arith)

pub begun_ok : (c : Command) (a : Bool) → phase_ok (begun c a) ≡ true
unfolding begun
begun_ok c a = go (is_entdaa c) (is_read c)
  where
    go : (e r : Bool) → phase_ok (cond e (Unrequested (opened c a)) (cond r (Reading (opened c a)) (Writing (opened c a)))) ≡ true
    go true r = phase_ok_lem (Unrequested (opened c a)) (record { short = length_short c; most = refl; part = refl })
    go false true = phase_ok_lem (Reading (opened c a)) (record { short = length_short c; most = leb-zero (limit (Reading (opened c a))); part = refl })
    go false false = phase_ok_lem (Writing (opened c a)) (record { short = length_short c; most = leb-zero (limit (Writing (opened c a))); part = refl })

-- one byte more, below the limit
pub one_more : (b : Bool) (length moved : ℕ) → b ≡ false → leb length moved ≡ false → leb (moved + 1) (cond b 0 length) ≡ true
one_more true length moved e l = absurd (true≢false e)
one_more false length moved e l = le-leb (moved + 1) length (let k = leb-false length moved l in omega arith)

-- the bytes left move up
sent_part : (k m w : ℕ) → m % 4 ≡ k → (eqb k 0 ≡ false → w % 2 ^ (32 - 8 * ((4 - k) % 4)) ≡ 0) → eqb (w % 2 ^ 24 * 2 ^ 8 % 2 ^ (32 - 8 * ((4 - (m + 1) % 4) % 4))) 0 ≡ true
sent_part zero m w e h =
    let z : (m + 1) % 4 ≡ 1 = omega arith in
    let g : w % 16777216 * 256 % 256 ≡ 0 = omega arith in
    rw z (eq-eqb (w % 16777216 * 256 % 256) 0 g)
sent_part (suc zero) m w e h =
    let z : (m + 1) % 4 ≡ 2 = omega arith in
    let y : w % 256 ≡ 0 = h refl in
    let g : w % 16777216 * 256 % 65536 ≡ 0 = omega arith in
    rw z (eq-eqb (w % 16777216 * 256 % 65536) 0 g)
sent_part (suc (suc zero)) m w e h =
    let z : (m + 1) % 4 ≡ 3 = omega arith in
    let y : w % 65536 ≡ 0 = h refl in
    let g : w % 16777216 * 256 % 16777216 ≡ 0 = omega arith in
    rw z (eq-eqb (w % 16777216 * 256 % 16777216) 0 g)
sent_part (suc (suc (suc zero))) m w e h =
    let z : (m + 1) % 4 ≡ 0 = omega arith in
    let y : w % 16777216 ≡ 0 = h refl in
    let g : w % 16777216 * 256 % 4294967296 ≡ 0 = omega arith in
    rw z (eq-eqb (w % 16777216 * 256 % 4294967296) 0 g)
sent_part (suc (suc (suc (suc k)))) m w e h = absurd (omega arith)

-- a byte is gathered below those before it
received_part : (k m w b : ℕ) → m % 4 ≡ k → w % 2 ^ (32 - 8 * k) ≡ 0 → eqb (cond (eqb k 3) 0 (w + b * 2 ^ (24 - 8 * k)) % 2 ^ (32 - 8 * ((m + 1) % 4))) 0 ≡ true
received_part zero m w b e h =
    let z : (m + 1) % 4 ≡ 1 = omega arith in
    let y : w % 4294967296 ≡ 0 = h in
    let g : (w + b * 16777216) % 16777216 ≡ 0 = omega arith in
    rw z (eq-eqb ((w + b * 16777216) % 16777216) 0 g)
received_part (suc zero) m w b e h =
    let z : (m + 1) % 4 ≡ 2 = omega arith in
    let y : w % 16777216 ≡ 0 = h in
    let g : (w + b * 65536) % 65536 ≡ 0 = omega arith in
    rw z (eq-eqb ((w + b * 65536) % 65536) 0 g)
received_part (suc (suc zero)) m w b e h =
    let z : (m + 1) % 4 ≡ 3 = omega arith in
    let y : w % 65536 ≡ 0 = h in
    let g : (w + b * 256) % 256 ≡ 0 = omega arith in
    rw z (eq-eqb ((w + b * 256) % 256) 0 g)
received_part (suc (suc (suc zero))) m w b e h =
    let z : (m + 1) % 4 ≡ 0 = omega arith in
    rw z
received_part (suc (suc (suc (suc k)))) m w b e h = absurd (omega arith)

pick : (b : Bool) (x y k : ℕ) (n : ℕ) → eqb k 0 ≡ b → y % n ≡ 0 → eqb k 0 ≡ false → cond b x y % n ≡ 0
pick true x y k n e h f = absurd (true≢false (sym e ∙ f))
pick false x y k n e h f = h

pub sent_ok : (t : Transfer) (first : ℕ) → unattached (Writing t) ≡ false → leb t.length.0 t.moved.0 ≡ false → PhaseOk (Writing t) → phase_ok (Writing (advanced t (cond (first_of_word t) first t.part % 2 ^ 24 * 2 ^ 8))) ≡ true
sent_ok t first u l h =
    let m = t.moved.0 in
    phase_ok_lem (Writing (advanced t (cond (first_of_word t) first t.part % 2 ^ 24 * 2 ^ 8)))
    (record {
      short = h.short;
      most = one_more (unattached (Writing t)) t.length.0 m u l;
      part = sent_part (m % 4) m (cond (first_of_word t) first t.part) refl (λ n. pick (first_of_word t) first t.part (m % 4) (2 ^ (32 - 8 * ((4 - m % 4) % 4))) refl (eqb-true _ 0 h.part) n);
    })

pub received_ok : (t : Transfer) (b : ℕ) → unattached (Reading t) ≡ false → leb t.length.0 t.moved.0 ≡ false → PhaseOk (Reading t) → phase_ok (Reading (advanced t (cond (last_of_word t) 0 (t.part + b * 2 ^ (24 - 8 * (t.moved.0 % 4)))))) ≡ true
received_ok t b u l h =
    let m = t.moved.0 in
    phase_ok_lem (Reading (advanced t (cond (last_of_word t) 0 (t.part + b * 2 ^ (24 - 8 * (m % 4))))))
    (record {
      short = h.short;
      most = one_more (unattached (Reading t)) t.length.0 m u l;
      part = received_part (m % 4) m t.part b refl (eqb-true _ 0 h.part);
    })

-- an assignment's states have the same tests
pub requested_ok : (p : Phase) → assigning p ≡ true → phase_ok p ≡ true → phase_ok (Requested (transfer p)) ≡ true
unfolding phase_ok
requested_ok Idle a h = absurd (false≢true a)
requested_ok (Writing t) a h = absurd (false≢true a)
requested_ok (Reading t) a h = absurd (false≢true a)
requested_ok (Unrequested t) a h = h
requested_ok (Requested t) a h = h
requested_ok (Answered t) a h = h

pub taken_ok : (b : Bool) (p : Phase) → assigning p ≡ true → phase_ok p ≡ true → phase_ok (cond b (Answered (transfer p)) (Requested (transfer p))) ≡ true
unfolding phase_ok
taken_ok true p a h = requested_ok p a h
taken_ok false p a h = requested_ok p a h

pub idle_ok : phase_ok Idle ≡ true
unfolding phase_ok
idle_ok = refl

-- ── In reset ──────────────────────────────────────────────────────────────────────────────────────────────────
released_ok : (c : Control) (p : Phase) (q : Queues) → c.held ≡ false → reset_ok c p q ≡ true
unfolding reset_ok
released_ok c p q e = rw e

-- either released, or all is clear
reset_ok_lem : (c c' : Control) (p p' : Phase) (q q' : Queues) → c'.held ≡ c.held → p' ≡ p → (queues_clear q ≡ true → control_clear c ≡ true → (queues_clear q' ≡ true) × (control_clear c' ≡ true)) → reset_ok c p q ≡ true → reset_ok c' p' q' ≡ true
unfolding reset_ok control_clear
reset_ok_lem c c' p p' q q' e d g h = go c.held refl
  where
    go : (b : Bool) → c.held ≡ b → (not c'.held || (queues_clear q' && control_clear c' && idle p')) ≡ true
    go false k = rw (e ∙ k)
    go true k =
        let z = three (queues_clear q) (control_clear c) (idle p) (rw k at h) in
        let y = g z.0 z.1 in
        rw (e ∙ k) (all_three (queues_clear q') (control_clear c') (idle p') y.0 y.1 (ap idle d ∙ z.2))

not_and : (a b : Bool) → not a ≡ true → not (b && a) ≡ true
not_and true b e = absurd (false≢true e)
not_and false true e = refl
not_and false false e = refl

-- pending bits that are clear stay so
pending_clear : (c : Control) (x y z : Bool) → control_clear c ≡ true → control_clear (pending (x && c.cmdrpending) (y && c.ibipending) (z && c.daapending) c) ≡ true
unfolding control_clear
pending_clear c x y z h =
    let j = and-true (eqb c.sync 0 && eqb c.ibisync 0 && not c.cmdrpending && not c.ibipending && not c.daapending) (eqb c.burst 0 && latest_clear c.latest) h in
    let k = five (eqb c.sync 0) (eqb c.ibisync 0) (not c.cmdrpending) (not c.ibipending) (not c.daapending) j.0 in
    true_and (eqb c.sync 0 && eqb c.ibisync 0 && not (x && c.cmdrpending) && not (y && c.ibipending) && not (z && c.daapending)) (eqb c.burst 0 && latest_clear c.latest)
    (all_five (eqb c.sync 0) (eqb c.ibisync 0) (not (x && c.cmdrpending)) (not (y && c.ibipending)) (not (z && c.daapending)) k.0 k.1 (not_and c.cmdrpending x k.2) (not_and c.ibipending y k.3) (not_and c.daapending z k.4))
    j.1

-- nothing can be taken from a ring that is clear
none_there : (r : Ring) → ring_clear r ≡ true → eqb r.level.0 0 ≡ false → ⊥
none_there r z e = true≢false (sym (and-true (eqb r.head 0) (eqb r.level.0 0) z).1 ∙ e)

clear_queues : (q : Queues) → queues_clear q ≡ true → (ring_clear q.cmd ≡ true) × (ring_clear q.cmdr ≡ true) × (ring_clear q.sdo ≡ true) × (ring_clear q.sdi ≡ true) × (ring_clear q.ibi ≡ true)
unfolding queues_clear
clear_queues q h = five (ring_clear q.cmd) (ring_clear q.cmdr) (ring_clear q.sdo) (ring_clear q.sdi) (ring_clear q.ibi) h

clear_at : (l : Controller) (q : Queue) → queues_clear (queues_in l.bank) ≡ true → eqb (of q (view_rings l).queues).level 0 ≡ false → ⊥
clear_at l Cmd c f = none_there (queues_in l.bank).cmd (clear_queues (queues_in l.bank) c).0 f
clear_at l Cmdr c f = none_there (queues_in l.bank).cmdr (clear_queues (queues_in l.bank) c).1 f
clear_at l Sdo c f = none_there (queues_in l.bank).sdo (clear_queues (queues_in l.bank) c).2 f
clear_at l Sdi c f = none_there (queues_in l.bank).sdi (clear_queues (queues_in l.bank) c).3 f
clear_at l Ibi c f = none_there (queues_in l.bank).ibi (clear_queues (queues_in l.bank) c).4 f

clears_held : (q : Queue) (b : Bool) (c : Control) → (clears q b c).held ≡ c.held
clears_held Cmd b c = refl
clears_held Cmdr b c = refl
clears_held Sdo b c = refl
clears_held Sdi b c = refl
clears_held Ibi b c = refl

-- a row keeps what holds in reset: there nothing can be taken or pushed
abbrev ResetOk : Controller → Control → Phase → Five QueueOp → Type 0
ResetOk l c p o = reset_ok c p (on_rings o (queues_in l.bank)) ≡ true

abbrev Before : Controller → Type 0
Before l = reset_ok l.bank.state.control l.bank.state.phase (queues_in l.bank) ≡ true

read_reset : (l : Controller) (x : Row) → Passed (read x (view_rings l)) → Before l → (let e = effect (read x (view_rings l)) in ResetOk l e.control e.phase e.ops)
unfolding on_ring
read_reset l absent e h = h
read_reset l (shows f) e h = h
read_reset l (holds c) e h = h
read_reset l (pushes q) e h = h
read_reset l (takes q) e h =
    of_take (λ d. let x = effect d in ResetOk l x.control x.phase x.ops) q (view_rings l)
    (λ f. h)
    (λ f. reset_ok_lem l.bank.state.control _ l.bank.state.phase _ (queues_in l.bank) _ (clears_held q _ l.bank.state.control) refl (λ c d. absurd (clear_at l q c f)) h)
read_reset l enables e h = h
read_reset l acknowledges e h = h

enable_reset : (l : Controller) (b : Bool) → (let e = enable (view_rings l) b in ResetOk l e.control e.phase e.ops)
unfolding enable reset_ok queues_clear control_clear on_ring
enable_reset l true = refl
enable_reset l false = refl

write_reset : (l : Controller) (x : Row) (v : ℕ) → Passed (write x (view_rings l) v) → Before l → (let e = effect (write x (view_rings l) v) in ResetOk l e.control e.phase e.ops)
unfolding on_ring
write_reset l absent v f h = h
write_reset l (shows g) v f h = h
write_reset l (holds c) v f h = h
write_reset l (pushes q) v f h = released_ok _ _ _ (clears_held q true l.bank.state.control ∙ f.0)
write_reset l (takes q) v f h = h
write_reset l enables v f h = enable_reset l (bit 0 v)
write_reset l acknowledges v f h = reset_ok_lem l.bank.state.control _ l.bank.state.phase _ (queues_in l.bank) _ refl refl (λ c d. (c, pending_clear l.bank.state.control (not (bit 5 v)) (not (bit 6 v)) (not (bit 7 v)) d)) h

-- a call behind the test 5 is made in no reset
abbrev KeepsReset : Controller → Decision → Type 0
KeepsReset l d = Passed d → ResetOk l (effect d).control (effect d).phase (effect d).ops

pub reset_kept : (l : Controller) (c : Call) → Before l → KeepsReset l (decide (view_rings l) c)
unfolding start send receive finish interrupt request take_address trigger burst_send burst_receive burst_finish
reset_kept l (Read o) h f = read_reset l (row (register_at o)) f h
reset_kept l (Write o v) h f = write_reset l (row (register_at o)) v f h
reset_kept l Start h f = released_ok _ _ _ f.1.0
reset_kept l Send h f =
    of_two (KeepsReset l) (bursting l.bank.state.control) (burst_send (view_rings l)) (send (view_rings l)) (λ e g. released_ok _ _ _ g.0) (λ e g. released_ok _ _ _ g.0) f.1
reset_kept l (Receive b) h f =
    of_two (KeepsReset l) (bursting l.bank.state.control) (burst_receive (view_rings l) b) (receive (view_rings l) b) (λ e g. released_ok _ _ _ g.0) (λ e g. released_ok _ _ _ g.0) f.1
reset_kept l (Finish code) h f =
    of_two (KeepsReset l) (bursting l.bank.state.control) (burst_finish (view_rings l) code) (finish (view_rings l) code) (λ e g. released_ok _ _ _ g.0) (λ e g. released_ok _ _ _ g.0) f.1.1
reset_kept l (Interrupt a b) h f = released_ok _ _ _ f.1.1.0
reset_kept l (Request v w) h f = released_ok _ _ _ f.1.0
reset_kept l Take h f = released_ok _ _ _ f.1.0
reset_kept l Trigger h f = released_ok _ _ _ f.1.0
