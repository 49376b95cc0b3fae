-- The tests of a decision: what is known where none holds, and where one does.
use Prim.Native.Nat.{ℕ}
use mathlib.Core.Path.{◌≡◌, refl, sym, subst}
use mathlib.Core.Bool.{Bool, true, false, cond, not, ◌&&◌, false≢true}
use mathlib.Core.Option.{none, some, none-ne-some, some-injective}
use lib.Dec.{eqb}
use Rattle.model.specs.View.{empty, View}
use Rattle.queues.specs.declared.Queue.{Queue}
use Rattle.queues.specs.Each.{of}
use Rattle.model.specs.Decision.{Decision, does, ◌⇒◌∣◌, first}
use Rattle.model.specs.Registers.{takes, shown_again, taken_first, read}

-- no test holds
abbrev pub Passed : Decision → Type 0
Passed (does x) = Unit {0}
Passed (b ⇒ n ∣ ts) = (b ≡ false) × Passed ts

pub passed : (ts : Decision) → first ts ≡ none → Passed ts
passed (does x) e = tt
passed (true ⇒ n ∣ ts) e = absurd (none-ne-some n (sym e))
passed (false ⇒ n ∣ ts) e = (refl, passed ts e)

-- what holds of both, of one of two decisions
pub of_two : (P : Decision → Type 0) (b : Bool) (x y : Decision) → (b ≡ true → P x) → (b ≡ false → P y) → P (cond b x y)
of_two P true x y f g = f refl
of_two P false x y f g = g refl

-- what holds of both, of a read that takes from a queue
pub of_take : (P : Decision → Type 0) (q : Queue) (s : View) → (empty (of q s.queues) ≡ true → P (does (shown_again q s))) → (empty (of q s.queues) ≡ false → P (does (taken_first q s))) → P (read (takes q) s)
of_take P q s f g = of_two P (empty (of q s.queues)) (does (shown_again q s)) (does (taken_first q s)) f g

-- no test answers 0, 3 or 19
abbrev pub refusals : Decision → Bool
refusals (does x) = true
refusals (b ⇒ n ∣ ts) = not (eqb n 0) && not (eqb n 3) && not (eqb n 19) && refusals ts

pub record Refusal (n : ℕ) : Type 0 where
  pub not0 : eqb n 0 ≡ false
  pub not3 : eqb n 3 ≡ false
  pub not19 : eqb n 19 ≡ false

none_holds : (a b c d : Bool) → (not a && not b && not c && d) ≡ true → (a ≡ false) × (b ≡ false) × (c ≡ false) × (d ≡ true)
none_holds false false false d e = (refl, refl, refl, e)
none_holds false false true d e = absurd (false≢true e)
none_holds false true c d e = absurd (false≢true e)
none_holds true b c d e = absurd (false≢true e)

pub refusal : (ts : Decision) (n : ℕ) → refusals ts ≡ true → first ts ≡ some n → Refusal n
refusal (does x) n k e = absurd (none-ne-some n e)
refusal (true ⇒ m ∣ ts) n k e =
    let z = none_holds (eqb m 0) (eqb m 3) (eqb m 19) (refusals ts) k in
    subst Refusal (some-injective m n e) (record { not0 = z.0; not3 = z.1; not19 = z.2 })
refusal (false ⇒ m ∣ ts) n k e =
    let z = none_holds (eqb m 0) (eqb m 3) (eqb m 19) (refusals ts) k in
    refusal ts n z.3 e
