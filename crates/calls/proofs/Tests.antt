-- 18, and whether a call is an event in an open burst.
use mathlib.Core.Path.{◌≡◌, refl, ap, sym, ◌∙◌}
use mathlib.Core.Bool.{Bool, true, false, not, ◌&&◌, true≢false, false≢true}
use Rattle.bank.proofs.Bools.{and-true}
use Rattle.model.specs.declared.Call.{Call}
use Rattle.model.specs.declared.Call.TheVariants.{Read, Write, Start, Send, Receive, Finish, Interrupt, Request, Take, Trigger}
use Rattle.model.specs.View.{View}
use Rattle.model.specs.Decision.{unchanged, ◌with_number◌}
use Rattle.model.specs.Bursts.{misfit, burst_or, decide, short_in_burst, burst_finish}
use Rattle.model.specs.Calls.{finish, interrupt}
use Rattle.model.specs.Laws.{is_access}
use Rattle.effect.specs.Effects.{verdict}
use Rattle.effect.proofs.Laws.{stopped}
use Rattle.model.specs.Decision.{◌⇒◌∣◌}

-- 18 comes before all tests of an event (`answer.range`)
pub misfits : (s : View) (c : Call) → misfit c ≡ true → (unchanged s with_number 18) ≡ verdict (λ (v : View). decide v c) s
misfits s (Read o) e = absurd (false≢true e)
misfits s (Write o v) e = absurd (false≢true e)
misfits s Start e = absurd (false≢true e)
misfits s Send e = absurd (false≢true e)
misfits s (Receive b) e = absurd (false≢true e)
misfits s (Finish code) e = stopped s (λ v. misfit (Finish code)) 18 (λ v. burst_or v (burst_finish v code) (finish v code)) e
misfits s (Interrupt a b) e = stopped s (λ v. misfit (Interrupt a b)) 18 (λ v. short_in_burst v ⇒ 13 ∣ interrupt v a b) e
misfits s (Request v w) e = absurd (false≢true e)
misfits s Take e = absurd (false≢true e)
misfits s Trigger e = absurd (false≢true e)

-- the joined test says both: a burst is open, and the call is an event
pub in_burst : (b : Bool) (c : Call) → (b && not (is_access c)) ≡ true → (b ≡ true) × (is_access c ≡ false)
in_burst b c h = let z = and-true b (not (is_access c)) h in (z.0, no (is_access c) z.1)
  where
    no : (x : Bool) → not x ≡ true → x ≡ false
    no true e = absurd (false≢true e)
    no false e = refl

-- where a call is an event, and none in an open burst, no burst is open
pub no_burst : (b : Bool) (k c : Call) → c ≡ k → is_access k ≡ false → (b && not (is_access c)) ≡ false → b ≡ false
no_burst true k c is e h = absurd (true≢false (sym (ap not (ap is_access is ∙ e)) ∙ h))
no_burst false k c is e h = refl
