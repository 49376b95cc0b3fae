-- What follows where tests joined by && and || hold, or do not.
use Prim.Native.Nat.{ℕ, ◌/◌, ◌%◌}
use native.Mathlib.Omega.{arith}
use mathlib.Core.Path.{◌≡◌, refl, ap}
use lib.Dec.{eqb}
use mathlib.Core.Bool.{Bool, true, false, ◌&&◌, ◌||◌, true≢false, false≢true}
use Rattle.bank.specs.Bits.{bit}

pub or_left : (a b : Bool) → (a || b) ≡ false → a ≡ false
or_left true b e = e
or_left false b e = refl

pub or_right : (a b : Bool) → (a || b) ≡ false → b ≡ false
or_right true b e = absurd (true≢false e)
or_right false b e = e

pub and-true : (a b : Bool) → (a && b) ≡ true → (a ≡ true) × (b ≡ true)
and-true true b e = (refl, e)
and-true false b e = absurd (false≢true e)

pub true_and : (a b : Bool) → a ≡ true → b ≡ true → (a && b) ≡ true
true_and true b e f = f
true_and false b e f = e

pub three : (a b c : Bool) → (a && b && c) ≡ true → (a ≡ true) × (b ≡ true) × (c ≡ true)
three a b c e =
    let z = and-true (a && b) c e in
    let y = and-true a b z.0 in
    (y.0, y.1, z.1)

pub five : (a b c d e : Bool) → (a && b && c && d && e) ≡ true → (a ≡ true) × (b ≡ true) × (c ≡ true) × (d ≡ true) × (e ≡ true)
five a b c d e h =
    let z = and-true (a && b && c && d) e h in
    let y = and-true (a && b && c) d z.0 in
    let x = three a b c y.0 in
    (x.0, x.1, x.2, y.1, z.1)

pub all_three : (a b c : Bool) → a ≡ true → b ≡ true → c ≡ true → (a && b && c) ≡ true
all_three a b c x y z = true_and (a && b) c (true_and a b x y) z

pub all_five : (a b c d e : Bool) → a ≡ true → b ≡ true → c ≡ true → d ≡ true → e ≡ true → (a && b && c && d && e) ≡ true
all_five a b c d e v w x y z = true_and (a && b && c && d) e (true_and (a && b && c) d (all_three a b c v w x) y) z

-- a division by 1 cuts nothing
pub by_one : (v : ℕ) → eqb (v % 2) 1 ≡ bit 0 v
by_one v = ap (λ (n : ℕ). eqb n 1) (let h : v % 2 ≡ v / 1 % 2 = omega arith in h)
