-- How many whole records a piece has, and what it leaves of its bytes.
use Prim.Native.Nat.{ℕ, ◌+◌, ◌*◌, ◌/◌, ◌<◌, ◌≤◌, min}
use native.Mathlib.Omega.{arith}
use native.Mathlib.Decide.{dec_lt}
use mathlib.Core.Path.{◌≡◌}
use mathlib.Core.Bool.{Bool, true, false, ◌&&◌, false≢true}
use mathlib.Core.List.{List}
use lib.Dec.{eqb, ltb}
use lib.ListN.{length}
use borrow.Author.Tests.{lt-ltb, le-ltb, ltb-false, eq-eqb}
use Rattle.record_model.specs.Record.{whole_records}

pub within_is : (t : ℕ) (bytes : List ℕ) → whole_records t bytes ≡ min t (length bytes / 12)
within_is t bytes = let k = length bytes / 12 in elim (dec_lt t k) [ yes h ↦ rw (lt-ltb t k h) (omega arith) | no h ↦ rw (le-ltb t k (omega arith)) (omega arith) ]

pub within_most : (t : ℕ) (a : List ℕ) → whole_records t a ≤ t
within_most t a = omega (arith, within_is t a)

pub within_long : (t : ℕ) (a : List ℕ) → 12 * whole_records t a ≤ length a
within_long t a = omega (arith, within_is t a)

and_false : (a b : Bool) → (a && b) ≡ false → a ≡ true → b ≡ false
and_false true b e h = e
and_false false b e h = absurd (false≢true h)

-- less than a record is left where no byte is past the last
pub rest_short : (t : ℕ) (bytes : List ℕ) (n : ℕ) → n ≡ whole_records t bytes → (eqb n t && ltb (12 * n) (length bytes)) ≡ false → length bytes < 12 * n + 12
rest_short t bytes n is e =
    let w = within_is t bytes in
    elim (dec_lt t (length bytes / 12)) [
      | yes h ↦ (let z : n ≡ t = omega (arith, is, w, h) in
          let k = ltb-false (12 * n) (length bytes) (and_false (eqb n t) (ltb (12 * n) (length bytes)) e (eq-eqb n t z)) in
          omega (arith, k))
      | no h ↦ omega (arith, is, w, h)
    ]
