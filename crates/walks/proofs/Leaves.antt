-- The end of a body: the locals, each of which holds a value, are freed. Over any types and values.
--     freed ! (local ! (local ! .. (none !)))    a `local` for each of them, from the result on; their cells are the head of the context,
--                                                as they were allocated
-- Assumes `Logic`.
use mathlib.Core.Path.{refl}
use mathlib.Core.List.{[], ◌∷◌, List}
use Prim.Native.Nat.{ℕ}
use seplogic.Ra.Ura.{Ura}
use base.Fraction.{full_share}
use mir.Syntax.{Ty}
use mir.Val.{Val}
use base.Logic.{SProp, ent, sep, via, id⊢, mono_r}
use base.Fml.{fat, fdies}
use prog.Wp.{Env, release}
use types.Logic.{Logic}
use types.Kit.{Item, ‵, raw, ⋆, prop, frees, Step, step, ◌$◌, ◌∵◌, !, qed, by, move, join, frame}
use types.Run.{forget}

module _ {M : Type 1} {𝓤 : Ura M} (𝓛 : Logic 𝓤) where
  -- what is to hold beside, out of what is to hold once the locals are freed
  open 𝓛 use {H}

  beside : (E : Env 𝓤 H) (P Q : SProp 𝓤) → ent 𝓤 (release 𝓤 H E (sep 𝓤 P Q)) (sep 𝓤 P (release 𝓤 H E Q))
  beside [] P Q = id⊢ 𝓤 (sep 𝓤 P Q)
  beside (e ∷ E) P Q =
      via 𝓤 (sep 𝓤 Cell (sep 𝓤 P (release 𝓤 H E Q))) (mono_r 𝓤 Cell (beside E P Q)) (qed 𝓛 (raw Cell ∷ raw P ∷ raw (release 𝓤 H E Q) ∷ []) ∵ move ! (1 ∷ []) $ by ! (id⊢ 𝓤 _))
    where
      Cell : SProp 𝓤
      Cell = sep 𝓤 (H.room e.0 e.1 0) (H.dies e.0 e.1)

  -- the locals E lie on Γ, and together they are Δ
  pub record Lie (K : Type 0) (E : Env 𝓤 H) (Γ Δ : List (Item 𝓤)) : Type 2 where
    pub go : (P : SProp 𝓤) → ent 𝓤 (⋆ 𝓛 Γ) P → ent 𝓤 (⋆ 𝓛 Δ) (release 𝓤 H E P)

module _ {M : Type 1} {𝓤 : Ura M} {𝓛 : Logic 𝓤} {K : Type 0} where
  open 𝓛 use {H}

  pub none : K → {Γ : List (Item 𝓤)} → Lie 𝓛 K [] Γ Γ
  none t = record { go = λ P h. h }

  pub local : K → {τ : Ty} {l : ℕ} {v : Val} {E : Env 𝓤 H} {Γ Δ : List (Item 𝓤)} → Lie 𝓛 K E (‵ (fat full_share τ l 0 v) ∷ ‵ (fdies τ l) ∷ Γ) Δ → Lie 𝓛 K ((τ, l) ∷ E) Γ Δ
  local t {τ} {l} {v} {E} {Γ} {Δ} more = record {
    go = λ P h.
        via 𝓤 (release 𝓤 H E (sep 𝓤 (sep 𝓤 (H.room τ l 0) (H.dies τ l)) P))
        (more.go (sep 𝓤 (sep 𝓤 (H.room τ l 0) (H.dies τ l)) P) (qed 𝓛 (‵ (fat full_share τ l 0 v) ∷ ‵ (fdies τ l) ∷ Γ) ∵ forget ! 0 refl $ join ! $ frame ! $ by ! h))
        (beside 𝓛 E (sep 𝓤 (H.room τ l 0) (H.dies τ l)) P);
  }

  pub freed : K → {E : Env 𝓤 H} {Γ Δ : List (Item 𝓤)} {P : SProp 𝓤} → Lie 𝓛 K E Γ Δ → Step K 𝓛 Γ (prop P) Δ (frees E (prop P))
  freed t {E} {Γ} {Δ} {P} lie = step (λ s. record { prf = lie.go P s.prf })
