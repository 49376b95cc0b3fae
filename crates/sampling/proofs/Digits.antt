-- A number of 32 bits has ten decimal digits at most.
use Prim.Native.Nat.{ℕ, ◌^◌, ◌-◌, ◌≤◌, ◌<◌}
use native.Mathlib.Nat.{le_trans, lt_of_not-le, not-le_of_lt, le_of_suc-le-suc, pow-le-pow_right}
use native.Mathlib.Omega.{arith}
use Rattle.io.specs.Digits.{IsDigitCount}

pub ten_digits : (n k : ℕ) → n < 4294967296 → IsDigitCount 10 1 n k → k ≤ 10
ten_digits n k small few = le_of_suc-le-suc (lt_of_not-le (λ (h : 11 ≤ k). not-le_of_lt small (le_trans (above h) (few.2 (omega arith)))))
  where
    above : 11 ≤ k → 4294967296 ≤ 10 ^ (k - 1)
    above h =
        let places : 10 ≤ k - 1 = omega arith in
        let tens : 10 ^ 10 ≤ 10 ^ (k - 1) = pow-le-pow_right (omega arith) places in
        le_trans (omega arith) tens
