-- What the finish of a read puts into the output.
use Prim.Native.Nat.{ℕ}
use mathlib.Core.Path.{◌≡◌, refl}
use mathlib.Core.Bool.{Bool, true, false, cond}
use lib.ListN.{set}
use Rattle.model.specs.View.{Tables, tables}
use Rattle.effect.specs.declared.Table.TheVariants.{Output}
use Rattle.effect.specs.Effects.{tables_by}

-- a word of the output, stored where b holds
pub output_if : (b : Bool) (i w : ℕ) (t : Tables) → cond b (tables_by (Output i w) t) t ≡ tables t.flags t.commands t.payloads (cond b (set t.output i w) t.output)
unfolding tables_by
output_if true i w t = refl
output_if false i w t = refl
