-- A register access neither looks at the output nor changes it.
use Prim.Native.Nat.{ℕ, ◌%◌, ◌^◌}
use mathlib.Core.Path.{◌≡◌, refl, ap, ◌∙◌}
use mathlib.Core.Bool.{Bool, true, false, cond, not, false≢true}
use mathlib.Core.List.{List}
use mathlib.Core.Option.{Option, none, some}
use lib.Dec.{ltb, eqb}
use lib.ListN.{length}
use Rattle.bank.specs.Bits.{bit}
use Rattle.bank.specs.SetUp.{total}
use Rattle.bank.specs.Formed.{well_formed}
use Rattle.registers.specs.declared.Register.{Register}
use Rattle.registers.specs.declared.Register.TheVariants.{Version, Id, Scratch, Enable, IrqMask, IrqPending, IrqSource, CmdRoom, CmdrLevel, SdoRoom, SdiLevel, IbiLevel, CmdFifo, CmdrFifo, SdoFifo, SdiFifo, IbiFifo, FifoStatus, Ops, IbiConfig, DevChar, Watermark, OffloadCmd, OffloadSdo, Unmapped}
use Rattle.registers.specs.Map.{register_at}
use Rattle.model.specs.declared.Call.{Call}
use Rattle.model.specs.declared.Call.TheVariants.{Read, Write, Start, Send, Receive, Finish, Interrupt, Request, Take, Trigger}
use Rattle.model.specs.View.{empty}
use Rattle.queues.specs.declared.Queue.{Queue}
use Rattle.queues.specs.declared.Queue.TheVariants.{Cmd, Cmdr, Sdo, Sdi, Ibi}
use Rattle.queues.specs.Each.{of}
use Rattle.model.specs.Decision.{Decision, does, first, effect}
use Rattle.model.specs.Registers.{Cell, scratch, mask, ops, ibi_config, dev_char, watermark, offload_cmd, offload_sdo, Row, absent, shows, holds, pushes, takes, enables, acknowledges, row, taken_first, shown_again, shown, enable, read, write}
use Rattle.model.specs.Bursts.{decide}
use Rattle.model.specs.Engine.{Step, outcome, step}
use Rattle.model.specs.Rings.{Controller, view_rings, settle_rings, guard_rings, rings}
use Rattle.model.specs.Laws.{AccessesLeaveOutput}

module _ (l : Controller) (o : List ℕ) where
  -- the same with the other output
  abbrev m : Controller
  m = rings.lend o l

  -- d decided on l and e on m are the same but for the output
  record Blind (d e : Decision) : Type 0 where
    number : first e ≡ first d
    answer : ((effect e).value ≡ (effect d).value) × ((effect e).number ≡ (effect d).number)
    left : settle_rings m (effect e) ≡ rings.lend o (settle_rings l (effect d))

  abbrev relent : Step Controller → Step Controller
  relent r = record { answer = r.answer; next = rings.lend o r.next }

  outcome_blind : (n : Option ℕ) (d e : Decision) → Blind d e → outcome n (effect e) m (settle_rings m (effect e)) ≡ relent (outcome n (effect d) l (settle_rings l (effect d)))
  outcome_blind (some n) d e b = refl
  outcome_blind none d e b = λ i. record { answer = record { value = b.answer.0 i; number = b.answer.1 i }; next = b.left i }

  step_blind : (c : Call) → Blind (decide (view_rings l) c) (decide (view_rings m) c) → step rings m c ≡ relent (step rings l c)
  unfolding step guard_rings
  step_blind c b =
      let d = decide (view_rings l) c in
      let e = decide (view_rings m) c in
      let number : Option ℕ → Option ℕ = λ k. cond (not (well_formed l.bank)) (some 21) (cond (not (eqb (length l.store) (total l.bank.state.caps))) (some 22) k) in
      ap (λ (k : Option ℕ). outcome (number k) (effect e) m (settle_rings m (effect e))) b.number ∙ outcome_blind (number (first d)) d e b

  blind : (d e : Decision) → first e ≡ first d → (effect e).value ≡ (effect d).value → (effect e).number ≡ (effect d).number → settle_rings m (effect e) ≡ rings.lend o (settle_rings l (effect d)) → Blind d e
  blind d e n v k s = record { number = n; answer = (v, k); left = s }

  -- ── Reads ───────────────────────────────────────────────────────────────────────────────────────────────────
  -- what a register shows does not depend on the output
  abbrev Shows : Row → Type 0
  Shows absent = Unit {0}
  Shows (shows f) = f (view_rings m) ≡ f (view_rings l)
  Shows (holds c) = Unit {0}
  Shows (pushes q) = Unit {0}
  Shows (takes q) = Unit {0}
  Shows enables = Unit {0}
  Shows acknowledges = Unit {0}

  shows_same : (r : Register) → Shows (row r)
  shows_same Version = refl
  shows_same Id = refl
  shows_same Scratch = tt
  shows_same Enable = tt
  shows_same IrqMask = tt
  shows_same IrqPending = tt
  shows_same IrqSource = refl
  shows_same CmdRoom = refl
  shows_same CmdrLevel = refl
  shows_same SdoRoom = refl
  shows_same SdiLevel = refl
  shows_same IbiLevel = refl
  shows_same CmdFifo = tt
  shows_same CmdrFifo = tt
  shows_same SdoFifo = tt
  shows_same SdiFifo = tt
  shows_same IbiFifo = tt
  shows_same FifoStatus = refl
  shows_same Ops = tt
  shows_same IbiConfig = tt
  shows_same DevChar = tt
  shows_same (Watermark i) = tt
  shows_same (OffloadCmd i) = tt
  shows_same (OffloadSdo i) = tt
  shows_same Unmapped = tt

  shown_same : (c : Cell) → shown c (view_rings m) ≡ shown c (view_rings l)
  shown_same scratch = refl
  shown_same mask = refl
  shown_same ops = refl
  shown_same ibi_config = refl
  shown_same dev_char = refl
  shown_same (watermark q) = refl
  shown_same (offload_cmd i) = refl
  shown_same (offload_sdo i) = refl

  again_blind : (q : Queue) → Blind (does (shown_again q (view_rings l))) (does (shown_again q (view_rings m)))
  again_blind q = blind (does (shown_again q (view_rings l))) (does (shown_again q (view_rings m))) refl refl refl refl

  taken_blind : (q : Queue) → Blind (does (taken_first q (view_rings l))) (does (taken_first q (view_rings m)))
  taken_blind Cmd = blind (does (taken_first Cmd (view_rings l))) (does (taken_first Cmd (view_rings m))) refl refl refl refl
  taken_blind Cmdr = blind (does (taken_first Cmdr (view_rings l))) (does (taken_first Cmdr (view_rings m))) refl refl refl refl
  taken_blind Sdo = blind (does (taken_first Sdo (view_rings l))) (does (taken_first Sdo (view_rings m))) refl refl refl refl
  taken_blind Sdi = blind (does (taken_first Sdi (view_rings l))) (does (taken_first Sdi (view_rings m))) refl refl refl refl
  taken_blind Ibi = blind (does (taken_first Ibi (view_rings l))) (does (taken_first Ibi (view_rings m))) refl refl refl refl

  levels_same : (q : Queue) → empty (of q (view_rings m).queues) ≡ empty (of q (view_rings l).queues)
  levels_same Cmd = refl
  levels_same Cmdr = refl
  levels_same Sdo = refl
  levels_same Sdi = refl
  levels_same Ibi = refl

  -- both views have the same levels, so both reads show a word again or both take one
  take_blind : (q : Queue) → Blind (read (takes q) (view_rings l)) (read (takes q) (view_rings m))
  take_blind q = rw (levels_same q) (both (empty (of q (view_rings l).queues)))
    where
      both : (b : Bool) → Blind (cond b (does (shown_again q (view_rings l))) (does (taken_first q (view_rings l)))) (cond b (does (shown_again q (view_rings m))) (does (taken_first q (view_rings m))))
      both true = again_blind q
      both false = taken_blind q

  read_blind : (x : Row) → Shows x → Blind (read x (view_rings l)) (read x (view_rings m))
  read_blind absent h = blind _ _ refl refl refl refl
  read_blind (shows f) h = blind _ _ refl h refl refl
  read_blind (holds c) h = blind _ _ refl (shown_same c) refl refl
  read_blind (pushes q) h = blind _ _ refl refl refl refl
  read_blind (takes q) h = take_blind q
  read_blind enables h = blind _ _ refl refl refl refl
  read_blind acknowledges h = blind _ _ refl refl refl refl

  -- ── Writes ──────────────────────────────────────────────────────────────────────────────────────────────────
  cap_same : (q : Queue) → (of q (view_rings m).queues).cap ≡ (of q (view_rings l).queues).cap
  cap_same Cmd = refl
  cap_same Cmdr = refl
  cap_same Sdo = refl
  cap_same Sdi = refl
  cap_same Ibi = refl

  stored_blind : (c : Cell) (v : ℕ) → Blind (write (holds c) (view_rings l) v) (write (holds c) (view_rings m) v)
  stored_blind scratch v = blind _ _ refl refl refl refl
  stored_blind mask v = blind _ _ refl refl refl refl
  stored_blind ops v = blind _ _ refl refl refl refl
  stored_blind ibi_config v = blind _ _ refl refl refl refl
  stored_blind dev_char v = blind _ _ refl refl refl refl
  stored_blind (watermark q) v = blind _ _ (ap (λ (k : ℕ). cond (ltb k (v % 2 ^ 16)) (some 30) none) (cap_same q)) refl refl refl
  stored_blind (offload_cmd i) v = blind _ _ refl refl refl refl
  stored_blind (offload_sdo i) v = blind _ _ refl refl refl refl

  enable_same : (b : Bool) → ((enable (view_rings m) b).value ≡ (enable (view_rings l) b).value) × ((enable (view_rings m) b).number ≡ (enable (view_rings l) b).number) × (settle_rings m (enable (view_rings m) b) ≡ rings.lend o (settle_rings l (enable (view_rings l) b)))
  unfolding enable
  enable_same true = (refl, refl, refl)
  enable_same false = (refl, refl, refl)

  write_blind : (x : Row) (v : ℕ) → Blind (write x (view_rings l) v) (write x (view_rings m) v)
  write_blind absent v = blind _ _ refl refl refl refl
  write_blind (shows f) v = blind _ _ refl refl refl refl
  write_blind (holds c) v = stored_blind c v
  write_blind (pushes Cmd) v = blind _ _ refl refl refl refl
  write_blind (pushes Cmdr) v = blind _ _ refl refl refl refl
  write_blind (pushes Sdo) v = blind _ _ refl refl refl refl
  write_blind (pushes Sdi) v = blind _ _ refl refl refl refl
  write_blind (pushes Ibi) v = blind _ _ refl refl refl refl
  write_blind (takes q) v = blind _ _ refl refl refl refl
  write_blind enables v = let z = enable_same (bit 0 v) in blind _ _ refl z.0 z.1 z.2
  write_blind acknowledges v = blind _ _ refl refl refl refl

pub accesses_leave_output : AccessesLeaveOutput
unfolding AccessesLeaveOutput
accesses_leave_output l o (Read x) h = step_blind l o (Read x) (read_blind l o (row (register_at x)) (shows_same l o (register_at x)))
accesses_leave_output l o (Write x v) h = step_blind l o (Write x v) (write_blind l o (row (register_at x)) v)
accesses_leave_output l o Start h = absurd (false≢true h)
accesses_leave_output l o Send h = absurd (false≢true h)
accesses_leave_output l o (Receive byte) h = absurd (false≢true h)
accesses_leave_output l o (Finish code) h = absurd (false≢true h)
accesses_leave_output l o (Interrupt a byte) h = absurd (false≢true h)
accesses_leave_output l o (Request v w) h = absurd (false≢true h)
accesses_leave_output l o Take h = absurd (false≢true h)
accesses_leave_output l o Trigger h = absurd (false≢true h)
