-- A write to a register that is only read.
use Prim.Native.Nat.{ℕ}
use native.Mathlib.Omega.{arith}
use mathlib.Core.Path.{◌≡◌}
use Rattle.registers.specs.declared.Register.{Register}
use Rattle.model.specs.View.{View}
use Rattle.model.specs.Decision.{unchanged, ◌with_number◌}
use Rattle.model.specs.Registers.{row, write}
use Rattle.effect.specs.Effects.{number, verdict}
use Rattle.effect.proofs.Laws.{refused_as}

pub read_only_row : (r : Register) (s : View) (x : ℕ) → 2 ≡ number (write (row r) s x) → (unchanged s with_number 2) ≡ verdict (λ v. write (row r) v x) s
read_only_row r s x e = refused_as (λ v. write (row r) v x) s 2 (λ z. omega arith) e
