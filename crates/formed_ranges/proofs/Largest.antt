-- Flags are all below 8 just where the largest of them is.
use Rattle.std.proofs.Common.{◌≡◌, ◌∙◌, sym, ap, ℕ, max, List, [], ◌∷◌, fold, arith}
use Rattle.std.proofs.Math.Dec.{ltb}
use Rattle.std.proofs.Math.Nat.{max-eq_left, max-eq_right}
use Rattle.std.proofs.lemmas.Bool.{cases_lt}
use mathlib.Core.Bool.{Bool, ◌&&◌, and_assoc, and-true}
use Rattle.bank.specs.Formed.{flags_ok}

-- of two numbers, the larger tells whether both are below 8
pub larger : (a b : ℕ) → ltb (max a b) 8 ≡ (ltb a 8 && ltb b 8)
larger a b = grind (arith, cases_lt a b, max-eq_left {n = a} {m = b}, max-eq_right {n = a} {m = b})

-- a fold that begins with `most`
pub flags_from : (most : ℕ) (a : List ℕ) → ltb (fold max most a) 8 ≡ (ltb most 8 && flags_ok a)
unfolding flags_ok
flags_from most [] = sym (and-true (ltb most 8))
flags_from most (x ∷ xs) = flags_from (max most x) xs ∙ ap (λ (t : Bool). t && flags_ok xs) (larger most x) ∙ and_assoc (ltb most 8) (ltb x 8) (flags_ok xs)
