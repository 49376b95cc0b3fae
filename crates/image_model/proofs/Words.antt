-- Lists of words held word for word: `same` as an equality.
use Prim.Native.Nat.{ℕ}
use mathlib.Core.Path.{◌≡◌, refl}
use mathlib.Core.Bool.{true, false≢true}
use mathlib.Core.List.{List, [], ◌∷◌}
use lib.Dec.{eqb}
use borrow.Author.Tests.{eqb-true, eq-eqb}
use Rattle.bank.proofs.Bools.{and-true, true_and}
use Rattle.image_model.specs.Image.{same}

pub same_refl : (ws : List ℕ) → same ws ws ≡ true
same_refl [] = refl
same_refl (w ∷ ws) = true_and (eqb w w) (same ws ws) (eq-eqb w w refl) (same_refl ws)

pub same_eq : (xs ys : List ℕ) → same xs ys ≡ true → xs ≡ ys
same_eq [] [] e = refl
same_eq [] (y ∷ ys) e = absurd (false≢true e)
same_eq (x ∷ xs) [] e = absurd (false≢true e)
same_eq (x ∷ xs) (y ∷ ys) e =
    let z = and-true (eqb x y) (same xs ys) e in
    let p = eqb-true x y z.0 in
    let q = same_eq xs ys z.1 in
    λ i. p i ∷ q i
