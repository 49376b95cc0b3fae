-- What every record's call keeps: the lengths of store and output.
use Prim.Native.Nat.{ℕ}
use native.Mathlib.Omega.{arith}
use mathlib.Core.Path.{◌≡◌, refl, ap, ◌∙◌}
use mathlib.Core.List.{List, [], ◌∷◌}
use lib.ListN.{length}
use Rattle.model.specs.declared.Call.{Call}
use Rattle.model.specs.Engine.{Step, step}
use Rattle.model.specs.Rings.{Controller, rings}
use Rattle.model.specs.Laws.{StoreKeepsLength, OutputKeepsLength}
use Rattle.model.proofs.Laws.{store_keeps_length, output_keeps_length}

pub same_size : (l : Controller) (k : Call) → length (step rings l k).next.store ≡ length l.store
unfolding StoreKeepsLength
same_size = store_keeps_length

pub same_output : (l : Controller) (k : Call) → length (step rings l k).next.output ≡ length l.output
unfolding OutputKeepsLength
same_output = output_keeps_length

-- the same of what code gives, once it is the step
module _ (l : Controller) (k : Call) (s : Step Controller) (n : ℕ) (made : s ≡ step rings l k) where
  pub store_kept : length l.store ≡ n → length s.next.store ≡ n
  store_kept e = ap (λ (x : Step Controller). length x.next.store) made ∙ same_size l k ∙ e

  pub output_kept : length l.output ≡ n → length s.next.output ≡ n
  output_kept e = ap (λ (x : Step Controller). length x.next.output) made ∙ same_output l k ∙ e

-- an empty output stays empty
pub empty : (o : List ℕ) → length o ≡ 0 → [] ≡ o
empty [] e = refl
empty (w ∷ o) e = absurd (omega (arith, e))
