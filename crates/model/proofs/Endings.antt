-- The table of endings is the definition: by computation over all tests.
use Prim.Native.Nat.{ℕ, zero, suc}
use mathlib.Core.Path.{◌≡◌, refl}
use mathlib.Core.Bool.{Bool, true, false, cond, not, ◌&&◌, ◌||◌, false≢true}
use lib.Dec.{eqb}
use Rattle.bank.specs.declared.Kind.{Kind}
use Rattle.bank.specs.declared.Kind.TheVariants.{Private, Direct, Broadcast}
use Rattle.bank.specs.Phases.{private, broadcast}
use Rattle.bank.proofs.Bools.{and-true}
use Rattle.model.specs.Calls.{allowed}
use Rattle.model.specs.Endings.{none, some, all, empty, endings, Endings}

abbrev same : Bool → Bool → Bool
same true b = b
same false b = not b

same_is : (a b : Bool) → same a b ≡ true → a ≡ b
same_is true true e = refl
same_is true false e = absurd (false≢true e)
same_is false true e = absurd (false≢true e)
same_is false false e = refl

-- a test of n Bools, whether it holds for all of them, and that it then does
abbrev Test : ℕ → Type 0
Test zero = Bool
Test (suc n) = Bool → Test n

abbrev holds_for : (n : ℕ) → Test n → Bool
holds_for zero b = b
holds_for (suc n) f = holds_for n (f true) && holds_for n (f false)

abbrev Always : (n : ℕ) → Test n → Type 0
Always zero b = b ≡ true
Always (suc n) f = (b : Bool) → Always n (f b)

on_both : (P : Bool → Type 0) → P true → P false → (b : Bool) → P b
on_both P x y true = x
on_both P x y false = y

always : (n : ℕ) (f : Test n) → holds_for n f ≡ true → Always n f
always zero b h = h
always (suc n) f h =
    let z = and-true (holds_for n (f true)) (holds_for n (f false)) h in
    on_both (λ b. Always n (f b)) (always n (f true) z.0) (always n (f false) z.1)

-- the two sides, over the tests: the code is 0, 1, 4, 6; nothing moved; all moved; the header bit; reads
abbrev left : Kind → Bool → Bool → Bool → Bool → Bool → Bool → Bool → Bool → Bool
left k e0 e1 e4 e6 n a h r = (e4 && n && (not (private k) || h)) || (e6 && n && not (broadcast k)) || (e0 && (a || (r && not (not (private k))))) || (e1 && r && not (private k) && not a)

abbrev right : Kind → Bool → Bool → Bool → Bool → Bool → Bool → Bool → Bool → Bool
right k e0 e1 e4 e6 n a h r =
    let c = endings k r h (cond n (cond a empty none) (cond a all some)) in
    (e0 && c.done) || (e1 && c.ce0) || (e4 && c.ce2) || (e6 && c.nack)

checked : (k : Kind) → holds_for 8 (λ e0 e1 e4 e6 n a h r. same (left k e0 e1 e4 e6 n a h r) (right k e0 e1 e4 e6 n a h r)) ≡ true
checked Private = refl
checked Direct = refl
checked Broadcast = refl

by_table : (k : Kind) (e0 e1 e4 e6 n a h r : Bool) → left k e0 e1 e4 e6 n a h r ≡ right k e0 e1 e4 e6 n a h r
by_table k e0 e1 e4 e6 n a h r = same_is (left k e0 e1 e4 e6 n a h r) (right k e0 e1 e4 e6 n a h r) (always 8 (λ e0 e1 e4 e6 n a h r. same (left k e0 e1 e4 e6 n a h r) (right k e0 e1 e4 e6 n a h r)) (checked k) e0 e1 e4 e6 n a h r)

-- an assignment, over the tests that the code is 0, 1, 4, 6: code 0 where done, code 4 where ce2
assigned : (d c e0 e1 e4 e6 : Bool) → ((e0 && d) || (e4 && c)) ≡ ((e0 && d) || (e1 && false) || (e4 && c) || (e6 && false))
assigned d c e0 e1 e4 e6 = same_is ((e0 && d) || (e4 && c)) ((e0 && d) || (e1 && false) || (e4 && c) || (e6 && false)) (always 6 (λ d c e0 e1 e4 e6. same ((e0 && d) || (e4 && c)) ((e0 && d) || (e1 && false) || (e4 && c) || (e6 && false))) refl d c e0 e1 e4 e6)

pub table : Endings
unfolding allowed
table =
    record {
      writes = λ t code u. rw u (by_table t.kind (eqb code 0) (eqb code 1) (eqb code 4) (eqb code 6) (eqb t.moved.0 0) (eqb t.moved.0 t.length.0) t.header false);
      reads = λ t code u. rw u (by_table t.kind (eqb code 0) (eqb code 1) (eqb code 4) (eqb code 6) (eqb t.moved.0 0) (eqb t.moved.0 t.length.0) t.header true);
      absent = λ p code u. rw u;
      unrequested = λ t code. assigned true true (eqb code 0) (eqb code 1) (eqb code 4) (eqb code 6);
      requested = λ t code. assigned false false (eqb code 0) (eqb code 1) (eqb code 4) (eqb code 6);
      answered = λ t code. assigned true false (eqb code 0) (eqb code 1) (eqb code 4) (eqb code 6);
    }
