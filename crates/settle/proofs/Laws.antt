-- What code has after five rings and a table moved is what the definition settles.
use Prim.Native.Nat.{ℕ}
use mathlib.Core.Path.{◌≡◌, ap, sym, ◌∙◌}
use mathlib.Core.List.{List}
use Rattle.bank.specs.declared.State.{State}
use Rattle.bank.specs.Fives.{Counts, Heads}
use Rattle.bank.specs.Queues.{queues_of}
use Rattle.bank.specs.Ready.{Ready}
use Rattle.model.specs.View.{Tables}
use Rattle.model.specs.Rings.{areas, on_rings, on_stores}
use Rattle.model.proofs.Rings.{caps_same}
use Rattle.effect.specs.declared.Effect.{Effect}
use Rattle.effect.specs.Ops.{ops_of}
use Rattle.effect.specs.Effects.{tables_by, effect_of}
use Rattle.answer.specs.declared.Next.{Next}
use Rattle.answer.specs.Given.{given, served}
use Rattle.ring_moves.specs.declared.Moved.{Moved}
use Rattle.ring_moves.specs.Moved.{moved_to}

-- what code puts together: the state of the effect, with levels and heads as they moved
abbrev next_by : Counts → Moved → Effect → Next
next_by caps m e = record { state = record { caps = caps; levels = m.levels; regs = e.state.regs; control = e.state.control; phase = e.state.phase }; heads = m.heads; answer = e.answer }

-- ── All of it ─────────────────────────────────────────────────────────────────────────────────────────────────
pub settled : (st : State) (h : Heads) (e : Effect) (t t' : Tables) (s s' : List ℕ) (m : Moved) (y : Next) → Ready (queues_of st.caps st.levels h) s
    → t' ≡ tables_by e.table t
    → (m ≡ moved_to (on_rings (ops_of e.ops) (queues_of st.caps st.levels h))) × (s' ≡ on_stores (ops_of e.ops) (areas (queues_of st.caps st.levels h)) s)
    → y ≡ next_by st.caps m e → given y t' s' ≡ served st h t s (effect_of e t)
settled st h e t t' s s' m y f a b d =
    let k = sym (caps_same (queues_of st.caps st.levels h) s (ops_of e.ops) f) in
    ap (λ (z : Next). given z t' s') d
    ∙ λ i. given (next_by (k i) (b.0 i) e) (a i) (b.1 i)
