-- A write to ENABLE, by its bit 0.
use Prim.Native.Nat.{ℕ}
use mathlib.Core.Path.{◌≡◌, refl, ap, sym, ◌∙◌}
use mathlib.Core.Bool.{Bool}
use Rattle.bank.specs.Bits.{bit}
use Rattle.registers.specs.declared.Register.TheVariants.{Enable}
use Rattle.model.specs.View.{View}
use Rattle.model.specs.Registers.{row, enable, write}
use Rattle.effect.specs.Effects.{verdict}
use Rattle.effect.proofs.Laws.{served_as}

pub enabled : (s : View) (x : ℕ) (k : Bool) → bit 0 x ≡ k → enable s k ≡ verdict (λ v. write (row Enable) v x) s
enabled s x k e = ap (enable s) (sym e) ∙ served_as (λ v. write (row Enable) v x) s refl refl
