-- One step of any engine, and a list of steps. An engine says what it shows of its state, the tests before every call, how it settles an
-- effect, and how another output is lent; the output lent to a call is a part of its state.
use Rattle.std.specs.Prelude.{ℕ, List, [], ◌∷◌}
use Rattle.std.proofs.Math.Option.{Option, none, some}
use Rattle.model.specs.declared.Call.{Call}
use Rattle.bank.specs.declared.Answer.{Answer}
use Rattle.model.specs.View.{View}
use Rattle.model.specs.Decision.{Effect, Decision, first, effect}
use Rattle.model.specs.Bursts.{decide}

pub record Engine (B : Type 0) : Type 0 where
  pub view : B → View
  pub guard : B → Decision → Decision
  pub settle : B → Effect → B
  pub lend : List ℕ → B → B  -- another output

-- what a call gives: its answer, and the state after it
pub record Step (B : Type 0) : Type 0 where
  pub answer : Answer
  pub next : B

-- `answer.refusal`: where a test held, its number comes with the value 0 and the state before; else the effect's answer with the state
-- after it. The numbers of effects are 0, 19, and 3, whose effect changes nothing (`take.empty`).
abbrev pub outcome : {B : Type 0} → Option ℕ → Effect → B → B → Step B
outcome (some n) e before after = record { answer = record { value = 0; number = n }; next = before }
outcome none e before after = record { answer = record { value = e.value; number = e.number }; next = after }

-- one call: it is decided on what the engine shows, behind the engine's own tests, and its effect is settled
unfoldable pub step : {B : Type 0} → Engine B → B → Call → Step B
step g b c = let d = g.guard b (decide (g.view b) c) in outcome (first d) (effect d) b (g.settle b (effect d))

-- a call, and the output that is lent to it
pub record Lent : Type 0 where
  pub output : List ℕ
  pub call : Call

-- calls that are each lent the output o, whatever the call before left in its own
unfoldable pub lending : List ℕ → List Call → List Lent
lending o [] = []
lending o (c ∷ cs) = record { output = o; call = c } ∷ lending o cs

-- Demand 3 of paper 00: each call goes on from the bank and the store that the call before it left. Of the output it says nothing, so
-- each call may be lent any (`demand.bursts`).
module _ {B : Type 0} (g : Engine B) where
  abbrev pub step_lent : B → Lent → Step B
  step_lent b c = step g (g.lend c.output b) c.call

  unfoldable pub final : B → List Lent → B
  final b [] = b
  final b (c ∷ cs) = final (step_lent b c).next cs

  unfoldable pub answers : B → List Lent → List Answer
  answers b [] = []
  answers b (c ∷ cs) = (step_lent b c).answer ∷ answers (step_lent b c).next cs
