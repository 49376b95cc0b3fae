-- What an engine of a console gives: an answer, and what is there after it.
use Rattle.std.specs.Prelude.{ℕ, List}
use Rattle.bank.specs.declared.Answer.{Answer}
use Rattle.model.specs.Engine.{Step}

-- an engine with the store and the output that are lent to a call
pub record WithLent (E : Type 0) : Type 0 where
  pub engine : E
  pub store : List ℕ
  pub output : List ℕ

abbrev pub with_lent : {E : Type 0} → E → List ℕ → List ℕ → WithLent E
with_lent e s o = record { engine = e; store = s; output = o }

-- an answer, and what the function that gave it left
abbrev pub answered : {B : Type 0} → Answer → B → Step B
answered a b = record { answer = a; next = b }
