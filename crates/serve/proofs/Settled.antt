-- What a call decides, settled: it is the call by its decision.
use Prim.Native.Nat.{ℕ}
use mathlib.Core.Path.{◌≡◌, refl}
use mathlib.Core.List.{List}
use mathlib.Core.Option.{Option, none, some}
use Rattle.bank.specs.declared.State.{State}
use Rattle.bank.specs.Fives.{Heads}
use Rattle.model.specs.View.{Tables, View}
use Rattle.model.specs.Decision.{Effect, Decision, first, effect}
use Rattle.model.specs.Engine.{outcome}
use Rattle.model.specs.Rings.{Controller, on_ring, on_store, settle_rings}
use Rattle.answer.specs.Given.{bank_with, controller, view, served, decided}
use Rattle.effect.specs.Effects.{verdict_by, verdict}

pub settled_is : (st : State) (h : Heads) (t : Tables) (s : List ℕ) (d : View → Decision) → served st h t s (verdict d (view st h t s)) ≡ decided st h t s (d (view st h t s))
unfolding verdict decided on_ring on_store
settled_is st h t s d = go (first (d (view st h t s)))
  where
    l : Controller
    l = controller (bank_with st h t) s t.output

    e : Effect
    e = effect (d (view st h t s))

    go : (n : Option ℕ) → served st h t s (verdict_by n (view st h t s) e) ≡ outcome n e l (settle_rings l e)
    go none = refl
    go (some n) = refl
