-- What the calls of a host promise along a list: those of the model, so demand 3 holds of them.
use Rattle.std.specs.Prelude.{ℕ, ◌≡◌, true, List, [], ◌∷◌, Some}
use Rattle.bank.specs.declared.Answer.{Answer}
use Rattle.bank.specs.Fives.{Sizes}
use Rattle.bank.specs.SetUp.{set_up}
use Rattle.bank.specs.Formed.{well_formed}
use Rattle.model.specs.Engine.{Lent, answers, final}
use Rattle.model.specs.Rings.{Controller, rings}
use Rattle.model.specs.Laws.{fresh_controller}
use Rattle.image_model.specs.Image.{Kept, kept_of, sized}
use Rattle.image_model.specs.Laws.{in_types}
use Rattle.host_model.specs.Host.{set_up_in, step_in}

-- the answers to a list of calls, and what they left
pub record Ran : Type 0 where
  pub answers : List Answer
  pub kept : Kept
  pub store : List ℕ

abbrev pub ran : List Answer → Kept → List ℕ → Ran
ran ls k st = record { answers = ls; kept = k; store = st }

-- by a host: each call gets image, tables and store as the last one left them, and any output
unfoldable pub host_ran : Kept → List ℕ → List Lent → Ran
host_ran k st [] = ran [] k st
host_ran k st (c ∷ cs) =
    let h = step_in (Some c.call) k st c.output in
    let r = host_ran h.kept h.store cs in
    ran (h.answer ∷ r.answers) r.kept r.store

-- by the model
abbrev pub model_ran : Controller → List Lent → Ran
model_ran l cs = let f = final rings l cs in ran (answers rings l cs) (kept_of f.bank) f.store

unfoldable pub HostedAlong : Type 0
HostedAlong = (l : Controller) (cs : List Lent) → in_types l.bank ≡ true → well_formed l.bank ≡ true → host_ran (kept_of l.bank) l.store cs ≡ model_ran l cs

-- from a set-up into any words and bytes of their lengths, with any store
unfoldable pub HostedFromSetUp : Type 0
HostedFromSetUp = (k : Kept) (caps marks : Sizes) (id : ℕ) (store : List ℕ) (cs : List Lent) → sized k ≡ true → (set_up caps marks id).answer.number ≡ 0
    → host_ran (set_up_in k caps marks id).kept store cs ≡ model_ran (fresh_controller caps marks id store) cs
