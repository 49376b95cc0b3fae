-- Events that an open burst refuses (`burst.events`): a transfer is open that is no address assignment.
use Prim.Native.Nat.{ℕ}
use mathlib.Core.Path.{◌≡◌, refl, sym, ◌∙◌}
use mathlib.Core.Bool.{Bool, true, false, cond, true≢false}
use mathlib.Core.Option.{some}
use Rattle.bank.specs.Phases.{idle, assigning, requested}
use Rattle.bank.specs.declared.Phase.{Phase}
use Rattle.model.specs.View.{View}
use Rattle.model.specs.Decision.{Effect, ◌⇒◌∣◌, unchanged, ◌with_number◌}
use Rattle.model.specs.Calls.{start, interrupt, request, take_address}
use Rattle.model.specs.Bursts.{short_in_burst, trigger}
use Rattle.model.proofs.Phases.{requested_assigns}
use Rattle.effect.specs.Effects.{verdict_by, verdict}

-- 13, then 5, then the number of a test that holds
told_by : (s : View) (a b : Bool) (n : ℕ) (e : Effect) → (unchanged s with_number cond a 13 (cond b 5 n)) ≡ verdict_by (cond a (some 13) (cond b (some 5) (some n))) s e
told_by s true b n e = refl
told_by s false true n e = refl
told_by s false false n e = refl

no_request : (p : Phase) (b : Bool) → requested p ≡ b → assigning p ≡ false → b ≡ false
no_request p true e h = absurd (true≢false (sym (requested_assigns p e) ∙ h))
no_request p false e h = refl

module _ (s : View) (i : idle s.phase ≡ false) where
  abbrev told : ℕ → Effect
  told n = unchanged s with_number cond (short_in_burst s) 13 (cond s.control.held 5 n)

  pub bars_start : told 6 ≡ verdict (λ v. short_in_burst v ⇒ 13 ∣ start v) s
  unfolding verdict start
  bars_start = rw i (told_by s (short_in_burst s) s.control.held 6 _)

  pub bars_interrupt : (a byte : ℕ) → told 6 ≡ verdict (λ v. short_in_burst v ⇒ 13 ∣ interrupt v a byte) s
  unfolding verdict interrupt
  bars_interrupt a byte = rw i (told_by s (short_in_burst s) s.control.held 6 _)

  pub bars_trigger : told 6 ≡ verdict (λ v. short_in_burst v ⇒ 13 ∣ trigger v) s
  unfolding verdict trigger
  bars_trigger = rw i (told_by s (short_in_burst s) s.control.held 6 _)

  module _ (g : assigning s.phase ≡ false) where
    pub bars_request : (v w : ℕ) → told 10 ≡ verdict (λ x. short_in_burst x ⇒ 13 ∣ request x v w) s
    unfolding verdict request
    bars_request v w = rw (i, g) (told_by s (short_in_burst s) s.control.held 10 _)

    pub bars_take : told 10 ≡ verdict (λ v. short_in_burst v ⇒ 13 ∣ take_address v) s
    unfolding verdict take_address
    bars_take = rw (i, no_request s.phase (requested s.phase) refl g) (told_by s (short_in_burst s) s.control.held 10 _)
