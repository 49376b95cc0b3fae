-- An entry of an offload memory stays while a burst is open.
use Prim.Native.Nat.{ℕ}
use mathlib.Core.Path.{◌≡◌, ap}
use mathlib.Core.Bool.{Bool, true, false, cond}
use Rattle.bank.specs.Bits.{word_if}
use Rattle.model.specs.View.{Tables, View}
use Rattle.model.specs.Decision.{keep_all, unchanged, ◌with_number◌}

pub stays : (s : View) (b : Bool) (n : ℕ) (t : Tables) → n ≡ word_if b 6 → (n ≡ 0 → ⊥)
    → (unchanged s with_number n) ≡ record { value = 0; number = word_if b 6; regs = s.regs; control = s.control; phase = s.phase; tables = cond b s.tables t; ops = keep_all }
stays s true n t e z = ap (λ (m : ℕ). (unchanged s with_number m)) e
stays s false n t e z = absurd (z e)
