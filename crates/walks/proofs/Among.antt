-- A rule about the first entries of a context, used on entries that stand apart: `among ! π r` takes the entries at the positions π to the
-- head, where r is about them, and puts what r makes of them back to these positions.
-- The positions fall, so that none of them changes when an entry before it in π is taken out. Locals stand in a context from the last to
-- the first: r is about them from the first to the last.
--     sink n       the first entry goes to the position n
--     behind n     the first n entries go behind all others
-- Assumes `Logic`.
use Prim.Native.Nat.{ℕ, zero, suc}
use mathlib.Core.List.{[], ◌∷◌, List, ◌++◌}
use seplogic.Ra.Ura.{Ura}
use base.Logic.{ent, sep, via, id⊢, comm∗, mono_r}
use types.Logic.{Logic}
use types.Kit.{Item, Goal, mean, ⋆, push, pop, sel, sel⊢, ++⊢, Step, step, ◌$◌, ◌∵◌, !, qed, by, move}

module _ {M : Type 1} {𝓤 : Ura M} (𝓛 : Logic 𝓤) where
  -- an entry put in at a position
  abbrev pub insert : ℕ → Item 𝓤 → List (Item 𝓤) → List (Item 𝓤)
  insert zero i Γ = i ∷ Γ
  insert (suc n) i [] = i ∷ []
  insert (suc n) i (j ∷ Γ) = j ∷ insert n i Γ

  insert⊢ : (n : ℕ) (i : Item 𝓤) (Γ : List (Item 𝓤)) → ent 𝓤 (⋆ 𝓛 (i ∷ Γ)) (⋆ 𝓛 (insert n i Γ))
  insert⊢ zero i Γ = id⊢ 𝓤 (⋆ 𝓛 (i ∷ Γ))
  insert⊢ (suc n) i [] = id⊢ 𝓤 (⋆ 𝓛 (i ∷ []))
  insert⊢ (suc n) i (j ∷ Γ) =
      qed 𝓛 (i ∷ j ∷ Γ) ∵ move ! (1 ∷ []) $ by ! (via 𝓤 (sep 𝓤 (mean 𝓛 j) (⋆ 𝓛 (i ∷ Γ))) (pop 𝓛 j (i ∷ Γ))
      (via 𝓤 (sep 𝓤 (mean 𝓛 j) (⋆ 𝓛 (insert n i Γ))) (mono_r 𝓤 (mean 𝓛 j) (insert⊢ n i Γ)) (push 𝓛 j (insert n i Γ))))

  -- the first entries put in at the positions
  abbrev pub inserted : List ℕ → List (Item 𝓤) → List (Item 𝓤)
  inserted [] Γ = Γ
  inserted (n ∷ π) [] = []
  inserted (n ∷ π) (i ∷ Γ) = insert n i (inserted π Γ)

  inserted⊢ : (π : List ℕ) (Γ : List (Item 𝓤)) → ent 𝓤 (⋆ 𝓛 Γ) (⋆ 𝓛 (inserted π Γ))
  inserted⊢ [] Γ = id⊢ 𝓤 (⋆ 𝓛 Γ)
  inserted⊢ (n ∷ π) [] = id⊢ 𝓤 (⋆ 𝓛 [])
  inserted⊢ (n ∷ π) (i ∷ Γ) =
      via 𝓤 (sep 𝓤 (mean 𝓛 i) (⋆ 𝓛 Γ)) (pop 𝓛 i Γ) (via 𝓤 (sep 𝓤 (mean 𝓛 i) (⋆ 𝓛 (inserted π Γ))) (mono_r 𝓤 (mean 𝓛 i) (inserted⊢ π Γ))
      (via 𝓤 (⋆ 𝓛 (i ∷ inserted π Γ)) (push 𝓛 i (inserted π Γ)) (insert⊢ n i (inserted π Γ))))

  abbrev pub turned : ℕ → List (Item 𝓤) → List (Item 𝓤)
  turned zero Γ = Γ
  turned (suc n) [] = []
  turned (suc n) (i ∷ Γ) = turned n (Γ ++ i ∷ [])

  turned⊢ : (n : ℕ) (Γ : List (Item 𝓤)) → ent 𝓤 (⋆ 𝓛 Γ) (⋆ 𝓛 (turned n Γ))
  turned⊢ zero Γ = id⊢ 𝓤 (⋆ 𝓛 Γ)
  turned⊢ (suc n) [] = id⊢ 𝓤 (⋆ 𝓛 [])
  turned⊢ (suc n) (i ∷ Γ) =
      via 𝓤 (sep 𝓤 (mean 𝓛 i) (⋆ 𝓛 Γ)) (pop 𝓛 i Γ) (via 𝓤 (sep 𝓤 (⋆ 𝓛 Γ) (mean 𝓛 i)) (comm∗ 𝓤 (mean 𝓛 i) (⋆ 𝓛 Γ))
      (via 𝓤 (⋆ 𝓛 (Γ ++ i ∷ [])) (++⊢ 𝓛 Γ (i ∷ [])) (turned⊢ n (Γ ++ i ∷ []))))

module _ {M : Type 1} {𝓤 : Ura M} {𝓛 : Logic 𝓤} {K : Type 0} {Γ : List (Item 𝓤)} {G : Goal 𝓤 𝓛.H} where
  open 𝓛 use {H}

  pub among : K → (π : List ℕ) {Δ : List (Item 𝓤)} {G' : Goal 𝓤 H} → Step K 𝓛 Δ G' (sel 𝓛 π Γ) G → Step K 𝓛 (inserted 𝓛 π Δ) G' Γ G
  among t π {Δ} r = step (λ s. by t (via 𝓤 (⋆ 𝓛 (sel 𝓛 π Γ)) (sel⊢ 𝓛 π Γ) (r $ by t (via 𝓤 (⋆ 𝓛 (inserted 𝓛 π Δ)) (inserted⊢ 𝓛 π Δ) s.prf)).prf))

  pub sink : K → (n : ℕ) {i : Item 𝓤} → Step K 𝓛 (insert 𝓛 n i Γ) G (i ∷ Γ) G
  sink t n {i} = step (λ s. by t (via 𝓤 (⋆ 𝓛 (insert 𝓛 n i Γ)) (insert⊢ 𝓛 n i Γ) s.prf))

  pub behind : K → (n : ℕ) → Step K 𝓛 (turned 𝓛 n Γ) G Γ G
  behind t n = step (λ s. by t (via 𝓤 (⋆ 𝓛 (turned 𝓛 n Γ)) (turned⊢ 𝓛 n Γ) s.prf))
