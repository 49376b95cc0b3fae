-- What a call decides fits the queues, refused or not.
use Prim.Native.Nat.{ℕ}
use mathlib.Core.Path.{◌≡◌, refl, sym, subst}
use mathlib.Core.Option.{Option, none, some}
use Rattle.model.specs.declared.Call.{Call}
use Rattle.model.specs.View.{View}
use Rattle.model.specs.Decision.{Effect, first, effect}
use Rattle.model.specs.Bursts.{decide}
use Rattle.model.specs.Fits.{AllFit}
use Rattle.model.proofs.Tests.{passed}
use Rattle.model.proofs.Room.{by_queue, fits}
use Rattle.effect.specs.Effects.{verdict_by, verdict}

-- for all calls at once, by the model's law
verdict_fits : (v : View) (c : Call) (n : Option ℕ) → first (decide v c) ≡ n → AllFit (verdict_by n v (effect (decide v c))).ops v.queues
verdict_fits v c none e = fits v c (passed (decide v c) e)
verdict_fits v c (some n) e = by_queue _ tt tt tt tt tt

pub effect_fits : (v : View) (c : Call) (e : Effect) → e ≡ verdict (λ (x : View). decide x c) v → AllFit e.ops v.queues
unfolding verdict
effect_fits v c e h = subst (λ (x : Effect). AllFit x.ops v.queues) (sym h) (verdict_fits v c (first (decide v c)) refl)
