-- A call keeps a bank in its types.
use Rattle.std.specs.Prelude.{ℕ, ◌≡◌, true, List}
use Rattle.bank.specs.declared.Bank.{Bank}
use Rattle.model.specs.declared.Call.{Call}
use Rattle.model.specs.Engine.{step}
use Rattle.model.specs.Rings.{rings}
use Rattle.answer.specs.Given.{controller}
use Rattle.image_model.specs.Laws.{in_types}

-- a call with any arguments, on any bank in its types and any store: the definitions cut what they keep
unfoldable pub KeepsTypes : Type 0
KeepsTypes = (b : Bank) (st o : List ℕ) (c : Call) → in_types b ≡ true → in_types (step rings (controller b st o) c).next.bank ≡ true
