-- A decision as one effect: refused by its number, or carried out.
use Prim.Native.Nat.{ℕ}
use mathlib.Core.Path.{◌≡◌, refl, ap, sym, ◌∙◌}
use mathlib.Core.Bool.{Bool, true, false, cond, not, ◌&&◌, false≢true}
use mathlib.Core.List.{[]}
use mathlib.Core.Option.{Option, none, some}
use lib.Dec.{eqb}
use borrow.Author.Tests.{eqb-true, eqb-false}
use Rattle.std.specs.Prelude.{Result, Ok, Err}
use Rattle.number.specs.declared.Refusal.{Refusal}
use Rattle.number.specs.Refusals.{number_of, told}
use Rattle.number.proofs.Refusals.{not_0}
use Rattle.bank.proofs.Bools.{and-true}
use Rattle.bank.specs.declared.State.{State}
use Rattle.model.specs.declared.Call.{Call}
use Rattle.model.specs.Bursts.{decide}
use Rattle.model.specs.View.{Tables, tables, View}
use Rattle.queues.specs.Each.{each}
use Rattle.effect.specs.declared.Op.{Op}
use Rattle.effect.specs.declared.Op.TheVariants.{Keep}
use Rattle.queues.specs.declared.Queue.{Queue}
use Rattle.queues.specs.declared.Queue.TheVariants.{Cmd, Cmdr, Sdo, Sdi, Ibi}
use Rattle.queues.specs.Each.{of, with, every}
use Rattle.effect.specs.Ops.{op_of, five_of}
use Rattle.model.specs.Decision.{QueueOp, keep, keep_all, only, Effect, Decision, does, ◌⇒◌∣◌, first, effect, unchanged, ◌with_number◌}
use Rattle.model.proofs.Tests.{Passed, passed, refusals}
use Rattle.effect.specs.Effects.{number, verdict_by, verdict}
use Rattle.effect.specs.Seen.{Front, Fronts, seen}

none_of : (d : Decision) → refusals d ≡ true → number d ≡ 0 → first d ≡ none
none_of (does x) r e = refl
none_of (true ⇒ n ∣ d) r e = absurd (false≢true (sym (bad n e) ∙ r))
  where
    bad : (n : ℕ) → n ≡ 0 → (not (eqb n 0) && not (eqb n 3) && not (eqb n 19) && refusals d) ≡ false
    bad n z = rw z
none_of (false ⇒ n ∣ d) r e = none_of d (and-true (not (eqb n 0) && not (eqb n 3) && not (eqb n 19)) (refusals d) r).1 e

some_of : (d : Decision) (n : ℕ) → (n ≡ 0 → ⊥) → number d ≡ n → first d ≡ some n
some_of (does x) n z e = absurd (z (sym e))
some_of (true ⇒ m ∣ d) n z e = ap some e
some_of (false ⇒ m ∣ d) n z e = some_of d n z e

-- where the number is 0 every test is false
pub cleared : (d : Decision) → refusals d ≡ true → number d ≡ 0 → Passed d
cleared d r e = passed d (none_of d r e)

module _ (d : View → Decision) (s : View) where
  -- the number is n, not 0: a refusal
  pub refused_as : (n : ℕ) → (n ≡ 0 → ⊥) → n ≡ number (d s) → (unchanged s with_number n) ≡ verdict d s
  unfolding verdict
  refused_as n z h = sym (ap (λ (k : Option ℕ). verdict_by k s (effect (d s))) (some_of (d s) n z (sym h)))

  -- the number is 0: the effect
  pub served_as : refusals (d s) ≡ true → number (d s) ≡ 0 → effect (d s) ≡ verdict d s
  unfolding verdict
  served_as r h = sym (ap (λ (k : Option ℕ). verdict_by k s (effect (d s))) (none_of (d s) r h))

  -- what code tells by a Result: a refusal, or the effect
  module _ {T : Type 0} (r : Result T Refusal) (h : told r ≡ number (d s)) where
    pub refused_err : (why : Refusal) → r ≡ Err why → (unchanged s with_number number_of why) ≡ verdict d s
    refused_err why e = refused_as (number_of why) (not_0 why) (sym (ap told e) ∙ h)

    pub served_ok : refusals (d s) ≡ true → (x : T) → r ≡ Ok x → effect (d s) ≡ verdict d s
    served_ok k x e = served_as k (sym h ∙ ap told e)

  -- code of one way out: y is what it gives, by its number and whether that is 0
  pub made_row : (y : ℕ → Bool → Effect) (n : ℕ) → refusals (d s) ≡ true → n ≡ number (d s) → y 0 true ≡ effect (d s) → ((m : ℕ) → y m false ≡ (unchanged s with_number m)) → y n (eqb n 0) ≡ verdict d s
  made_row y n k e made dropped = go (eqb n 0) refl
    where
      go : (b : Bool) → eqb n 0 ≡ b → y n b ≡ verdict d s
      go true h = let z = eqb-true n 0 h in ap (λ (m : ℕ). y m true) z ∙ made ∙ served_as k (sym e ∙ z)
      go false h = dropped n ∙ refused_as n (eqb-false n 0 h) e

-- a decision of the view s, as one effect
abbrev settled : Decision → View → Effect
settled d s = verdict_by (first d) s (effect d)

-- a test before a decision: where it holds, and where it does not
module _ (s : View) (test : View → Bool) (n : ℕ) (d : View → Decision) where
  pub stopped : test s ≡ true → (unchanged s with_number n) ≡ verdict (λ v. test v ⇒ n ∣ d v) s
  unfolding verdict
  stopped e = sym (ap (λ (b : Bool). settled (b ⇒ n ∣ d s) s) e)

  pub past : (y : Effect) → test s ≡ false → y ≡ verdict d s → y ≡ verdict (λ v. test v ⇒ n ∣ d v) s
  unfolding verdict
  past y e h = h ∙ sym (ap (λ (b : Bool). settled (b ⇒ n ∣ d s) s) e)

-- the same of c, where c is the call k
pub called : (s : View) (k c : Call) (e : Effect) → c ≡ k → e ≡ verdict (λ (v : View). decide v k) s → e ≡ verdict (λ (v : View). decide v c) s
called s k c e is p = p ∙ ap (λ (x : Call). verdict (λ (v : View). decide v x) s) (sym is)

-- tables and words for a fact that depends on neither
abbrev pub no_tables : Tables
no_tables = tables [] [] [] []

abbrev pub no_fronts : Fronts
no_fronts = let n : Front = record { first = 0; second = 0 } in each n n n n n

-- an operation on one queue, and none on the others
pub on_one : (q : Queue) (o : Op) → five_of (with q o (every Keep)) ≡ only q (op_of o)
unfolding five_of
on_one Cmd o = refl
on_one Cmdr o = refl
on_one Sdo o = refl
on_one Sdi o = refl
on_one Ibi o = refl

-- ── What is seen of a queue, by its name ──────────────────────────────────────────────────────────────────────
module _ (st : State) (t : Tables) (f : Fronts) where
  pub cap_seen : (q : Queue) → (of q (seen st t f).queues).cap ≡ (of q st.caps).0
  cap_seen Cmd = refl
  cap_seen Cmdr = refl
  cap_seen Sdo = refl
  cap_seen Sdi = refl
  cap_seen Ibi = refl

  pub level_seen : (q : Queue) → (of q (seen st t f).queues).level ≡ (of q st.levels).0
  level_seen Cmd = refl
  level_seen Cmdr = refl
  level_seen Sdo = refl
  level_seen Sdi = refl
  level_seen Ibi = refl
