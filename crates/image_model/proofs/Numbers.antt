-- Numbers past the last one listed: they say the last kind and the last phase.
use Prim.Native.Nat.{ℕ}
use mathlib.Core.Path.{◌≡◌, refl}
use borrow.Author.Tests.{ne_eqb}
use Rattle.bank.specs.declared.Kind.TheVariants.{Broadcast}
use Rattle.bank.specs.declared.Transfer.{Transfer}
use Rattle.bank.specs.declared.Phase.TheVariants.{Answered}
use Rattle.image_model.specs.Image.{kind_in, phase_in}

pub broadcast_in : (n : ℕ) → (n ≡ 0 → ⊥) → (n ≡ 1 → ⊥) → Broadcast ≡ kind_in n
broadcast_in n a b = rw (ne_eqb n 0 a, ne_eqb n 1 b) refl

pub answered_in : (n : ℕ) (t : Transfer) → (n ≡ 0 → ⊥) → (n ≡ 1 → ⊥) → (n ≡ 2 → ⊥) → (n ≡ 3 → ⊥) → (n ≡ 4 → ⊥) → Answered t ≡ phase_in n t
answered_in n t a b c d e = rw (ne_eqb n 0 a, ne_eqb n 1 b, ne_eqb n 2 c, ne_eqb n 3 d, ne_eqb n 4 e) refl
