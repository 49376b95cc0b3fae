-- What code of the plain engine gives, as a step of the definition.
use Rattle.std.specs.Prelude.{ℕ, List}
use Rattle.std.proofs.Math.Option.{none}
use Rattle.model.specs.Decision.{Effect}
use Rattle.model.specs.Engine.{Step, outcome}
use Rattle.plain_model.specs.declared.PlainBank.{PlainBank}
use Rattle.plain_model.specs.declared.PlainOut.{PlainOut}
use Rattle.plain_model.specs.Plain.{Plain, settle_plain}

-- a bank with the store and the output that are lent
abbrev pub plain_lent : PlainBank → List ℕ → List ℕ → Plain
plain_lent b s o = record { bank = b; store = s; output = o }

-- a result, with the store and the output that the code left
abbrev pub plain_given : PlainOut → List ℕ → List ℕ → Step Plain
plain_given y s o = record { answer = y.answer; next = plain_lent y.bank s o }

-- the step that settling an effect gives
abbrev pub settled_step : Plain → Effect → Step Plain
settled_step p e = outcome none e p (settle_plain p e)
