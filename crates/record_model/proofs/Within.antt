-- No more records are taken than stated.
use Prim.Native.Nat.{ℕ, ◌/◌, ◌≤◌}
use native.Mathlib.Omega.{arith}
use mathlib.Core.Path.{◌≡◌, refl}
use mathlib.Core.Bool.{Bool, true, false, cond}
use mathlib.Core.List.{List}
use lib.Dec.{ltb}
use lib.ListN.{length}
use borrow.Author.Tests.{ltb-false}
use Rattle.record_model.specs.Record.{whole_records}

least : (b : Bool) (x n : ℕ) → ltb x n ≡ b → cond b x n ≤ x
least true x n e = omega arith
least false x n e = ltb-false x n e

pub within_limit : (limit : ℕ) (bytes : List ℕ) → whole_records limit bytes ≤ limit
within_limit limit bytes = least (ltb limit (length bytes / 12)) limit (length bytes / 12) refl
