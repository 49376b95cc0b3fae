-- Contracts of calls: the memory that is lent to a call, as one record, when the call begins and when it ends.
use Rattle.std.specs.Prelude.{List, [], ℕ}
use Rattle.std.specs.Borrow.{MutBor}
use denote.Triple.Both.{Both}
use Rattle.bank.specs.declared.Bank.{Bank}
use Rattle.bank.specs.declared.State.{State}
use Rattle.bank.specs.Fives.{Heads}
use Rattle.model.specs.View.{Tables, tables}
use Rattle.model.specs.Engine.{Step}
use Rattle.model.specs.Rings.{Controller}
use Rattle.answer.specs.declared.Next.{Next}
use Rattle.answer.specs.Given.{bank_with, controller, given}

pub record Memory : Type 0 where
  pub tables : Tables
  pub store : List ℕ

-- flags, offload commands, offload data words, store and output, behind references
abbrev pub memory : MutBor (List ℕ) → MutBor (List ℕ) → MutBor (List ℕ) → MutBor (List ℕ) → MutBor (List ℕ) → Memory
memory f c p s o = record { tables = tables f.now c.now p.now o.now; store = s.now }

-- what a contract knows of a parameter: its value at both moments
abbrev pub Param : Type 0
Param = Both (MutBor (List ℕ)) (MutBor (List ℕ))

-- as it is lent, and as it is left
abbrev pub lent : Param → Param → Param → Param → Param → Memory
lent f c p s o = memory f.entry c.entry p.entry s.entry o.entry

abbrev pub left : Param → Param → Param → Param → Param → Memory
left f c p s o = memory f.exit c.exit p.exit s.exit o.exit

-- the same where no output is lent
abbrev pub lent_without : Param → Param → Param → Param → Memory
lent_without f c p s = record { tables = tables f.entry.now c.entry.now p.entry.now []; store = s.entry.now }

abbrev pub left_without : Param → Param → Param → Param → Memory
left_without f c p s = record { tables = tables f.exit.now c.exit.now p.exit.now []; store = s.exit.now }

-- a bank with the store and the output that are lent to it, or with no output, as a controller
abbrev pub bank_lent : Bank → Param → Param → Controller
bank_lent b s o = controller b s.entry.now o.entry.now

abbrev pub bank_lent_store : Bank → Param → Controller
bank_lent_store b s = controller b s.entry.now []

-- a state, its heads and lent memory as a controller; what code gives with the memory that it left, as a step
abbrev pub controller_of : State → Heads → Memory → Controller
controller_of st h m = controller (bank_with st h m.tables) m.store m.tables.output

abbrev pub step_of : Next → Memory → Step Controller
step_of y m = given y m.tables m.store
