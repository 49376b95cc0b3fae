-- `call.in-place`: what a call leaves where bank, store and output lie, with its answer, as a step of the ring engine.
use Rattle.std.specs.Prelude.{ℕ, List}
use Rattle.bank.specs.declared.Bank.{Bank}
use Rattle.bank.specs.declared.Answer.{Answer}
use Rattle.model.specs.Engine.{Step}
use Rattle.model.specs.Rings.{Controller}
use Rattle.answer.specs.Given.{controller}

abbrev pub left_in_place : Bank → Answer → List ℕ → List ℕ → Step Controller
left_in_place b a s o = record { answer = a; next = controller b s o }
