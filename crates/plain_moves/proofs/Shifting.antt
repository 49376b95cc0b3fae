-- Words that were copied to the front of an area, all at once, are those that moved down one by one.
use Prim.Native.Nat.{ℕ, ◌+◌, ◌-◌, ◌≤◌, ◌<◌}
use native.Mathlib.Omega.{arith}
use mathlib.Core.Path.{◌≡◌, refl, ap, sym, ◌∙◌}
use mathlib.Core.Bool.{Bool, true, false}
use mathlib.Core.List.{List}
use mathlib.Core.Logic.{inl, inr}
use lib.Dec.{ltb}
use lib.ListN.{length, get_or}
use borrow.Author.Tests.{ltb-true, ltb-false}
use Rattle.std.specs.List.{CopiedTo, SameBelow, SameFrom}
use Rattle.std.proofs.lemmas.List.{ext_get_or}
use Rattle.plain_model.specs.Moves.{shift}
use Rattle.plain_model.proofs.OneQueue.{length_shift, shift_inside, shift_outside}

module _ (to from n : ℕ) (st new : List ℕ) (h : to ≤ from) (l : from + n ≤ length st) where
  pub moved : length new ≡ length st → CopiedTo st new from to n → SameBelow st new to → SameFrom st new (to + n) → new ≡ shift to from n st
  moved z c b f = ext_get_or 0 new (shift to from n st) (z ∙ sym (length_shift to from n st)) (λ i p. below i (ltb i to) refl)
    where
      inside : (i : ℕ) → to ≤ i → i < to + n → get_or new i 0 ≡ get_or (shift to from n st) i 0
      inside i a p =
          let e : to + (i - to) ≡ i = omega arith in
          c i 0 a p ∙ sym (shift_inside to from n st (i - to) h (omega arith) (omega arith)) ∙ ap (λ (k : ℕ). get_or (shift to from n st) k 0) e

      behind : (i : ℕ) → to ≤ i → (t : Bool) → ltb i (to + n) ≡ t → get_or new i 0 ≡ get_or (shift to from n st) i 0
      behind i a true e = inside i a (ltb-true i (to + n) e)
      behind i a false e = let p = ltb-false i (to + n) e in f i 0 p ∙ sym (shift_outside to from n st i (inr p))

      below : (i : ℕ) (t : Bool) → ltb i to ≡ t → get_or new i 0 ≡ get_or (shift to from n st) i 0
      below i true e = let p = ltb-true i to e in b i 0 p ∙ sym (shift_outside to from n st i (inl p))
      below i false e = behind i (ltb-false i to e) (ltb i (to + n)) refl
