-- Past the two tests of bank and store: the rings are valid, and the step is the decision.
use Prim.Native.Nat.{ℕ}
use mathlib.Core.Path.{◌≡◌}
use mathlib.Core.List.{List}
use lib.Dec.{eqb}
use lib.ListN.{length}
use borrow.Author.Tests.{eqb-true}
use Rattle.bank.specs.declared.Bank.{Bank}
use Rattle.bank.specs.SetUp.{total}
use Rattle.bank.specs.Formed.{well_formed}
use Rattle.bank.proofs.Laws.{formed_of}
use Rattle.model.specs.declared.Call.{Call}
use Rattle.model.specs.Bursts.{decide}
use Rattle.model.specs.Engine.{step}
use Rattle.model.specs.Rings.{rings}
use Rattle.faults.specs.Faults.{fault_number}
use Rattle.faults.proofs.Guards.{both, passes}
use Rattle.answer.specs.Given.{controller, tables_of, view, decided, Open}

pub sound : (b : Bank) (s o : List ℕ) (c : Call) → fault_number b (length s) ≡ 0 → (let t = tables_of b o in decided b.state b.heads t s (decide (view b.state b.heads t s) c) ≡ step rings (controller b s o) c)
unfolding decided
sound b s o c e = passes (controller b s o) c e

pub opens : (b : Bank) (s : List ℕ) → fault_number b (length s) ≡ 0 → Open b.state b.heads b.commands s
opens b s e =
    let t = both (well_formed b) (eqb (length s) (total b.state.caps)) e in
    let f = formed_of b t.0 in
    record { queues = f.queues; size = eqb-true (length s) (total b.state.caps) t.1; phase = f.phase }
