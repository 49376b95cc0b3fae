-- A read that changes nothing (`map.reads`).
use Prim.Native.Nat.{ℕ}
use mathlib.Core.Path.{◌≡◌}
use Rattle.registers.specs.declared.Register.{Register}
use Rattle.model.specs.View.{View}
use Rattle.model.specs.Decision.{unchanged, ◌with_value◌, does}
use Rattle.model.specs.Registers.{row, read}
use Rattle.effect.specs.Effects.{verdict}

-- a row that is read without a test: v is what code gives, w what the row shows
pub shown_row : (r : Register) (s : View) {v w : ℕ} → v ≡ w → read (row r) s ≡ does (unchanged s with_value w) → (unchanged s with_value v) ≡ verdict (read (row r)) s
unfolding verdict
shown_row r s h e = rw (e, h)
