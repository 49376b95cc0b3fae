-- What a call decides: tests in their order, each with its number (`answer.order`), and an effect where none of them holds.
use Rattle.std.specs.Prelude.{ℕ, Bool, cond}
use Rattle.std.proofs.Math.Option.{Option, none, some}
use Rattle.bank.specs.declared.Regs.{Regs}
use Rattle.bank.specs.declared.Control.{Control}
use Rattle.bank.specs.declared.Phase.{Phase}
use Rattle.model.specs.View.{Tables, View}
use Rattle.queues.specs.declared.Queue.{Queue}
use Rattle.queues.specs.declared.Queue.TheVariants.{Cmd, Cmdr, Sdo, Sdi, Ibi}
use Rattle.queues.specs.declared.Five.{Five}
use Rattle.queues.specs.Each.{each}

-- ── Effects ───────────────────────────────────────────────────────────────────────────────────────────────────
-- what an effect does to one queue
pub data QueueOp : Type 0 where
  keep clear : QueueOp
  take : ℕ → QueueOp  -- so many words
  push : ℕ → QueueOp
  push2 : ℕ → ℕ → QueueOp  -- the first, then the second

abbrev pub keep_all : Five QueueOp
keep_all = each keep keep keep keep keep

abbrev pub only : Queue → QueueOp → Five QueueOp
only Cmd o = each o keep keep keep keep
only Cmdr o = each keep o keep keep keep
only Sdo o = each keep keep o keep keep
only Sdi o = each keep keep keep o keep
only Ibi o = each keep keep keep keep o

-- the answer and all that a call changes
pub record Effect : Type 0 where
  pub value : ℕ
  pub number : ℕ  -- 0, 3 or 19; of a refusal, its number
  pub regs : Regs
  pub control : Control
  pub phase : Phase
  pub tables : Tables
  pub ops : Five QueueOp

-- `answer.pair`: no change, and the value 0, which stays where a rule names no other
abbrev pub unchanged : View → Effect
unchanged s = record { value = 0; number = 0; regs = s.regs; control = s.control; phase = s.phase; tables = s.tables; ops = keep_all }

-- an effect with one of its fields changed
infixl 15 ◌with_value◌ ◌with_number◌ ◌with_regs◌ ◌with_control◌ ◌with_phase◌ ◌with_tables◌ ◌with_queues◌
abbrev pub ◌with_value◌ : Effect → ℕ → Effect
e with_value v = record { value = v; number = e.number; regs = e.regs; control = e.control; phase = e.phase; tables = e.tables; ops = e.ops }

abbrev pub ◌with_number◌ : Effect → ℕ → Effect
e with_number n = record { value = e.value; number = n; regs = e.regs; control = e.control; phase = e.phase; tables = e.tables; ops = e.ops }

abbrev pub ◌with_regs◌ : Effect → Regs → Effect
e with_regs g = record { value = e.value; number = e.number; regs = g; control = e.control; phase = e.phase; tables = e.tables; ops = e.ops }

abbrev pub ◌with_control◌ : Effect → Control → Effect
e with_control c = record { value = e.value; number = e.number; regs = e.regs; control = c; phase = e.phase; tables = e.tables; ops = e.ops }

abbrev pub ◌with_phase◌ : Effect → Phase → Effect
e with_phase p = record { value = e.value; number = e.number; regs = e.regs; control = e.control; phase = p; tables = e.tables; ops = e.ops }

abbrev pub ◌with_tables◌ : Effect → Tables → Effect
e with_tables t = record { value = e.value; number = e.number; regs = e.regs; control = e.control; phase = e.phase; tables = t; ops = e.ops }

abbrev pub ◌with_queues◌ : Effect → Five QueueOp → Effect
e with_queues o = record { value = e.value; number = e.number; regs = e.regs; control = e.control; phase = e.phase; tables = e.tables; ops = o }

-- ── Decisions ─────────────────────────────────────────────────────────────────────────────────────────────────
-- an effect behind tests: b ⇒ n ∣ d is refused with n where b holds, and else is d
infixr 10 ◌⇒◌∣◌
pub data Decision : Type 0 where
  does : Effect → Decision
  ◌⇒◌∣◌ : Bool → ℕ → Decision → Decision

-- `answer.order`: the number of the first test that holds, if there is one
abbrev pub first : Decision → Option ℕ
first (does e) = none
first (b ⇒ n ∣ d) = cond b (some n) (first d)

-- what is done where no test holds
abbrev pub effect : Decision → Effect
effect (does e) = e
effect (b ⇒ n ∣ d) = effect d
