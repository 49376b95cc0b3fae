-- A call outside a burst is decided by its own decision.
use mathlib.Core.Path.{◌≡◌, refl, ap, sym, ◌∙◌}
use mathlib.Core.Bool.{false, not, ◌&&◌}
use Rattle.bank.specs.Bursts.{bursting}
use Rattle.registers.specs.Map.{register_at}
use Rattle.model.specs.declared.Call.{Call}
use Rattle.model.specs.declared.Call.TheVariants.{Read, Write, Start, Send, Receive, Finish, Interrupt, Request, Take, Trigger}
use Rattle.model.specs.View.{View}
use Rattle.model.specs.Decision.{Effect, Decision, ◌⇒◌∣◌}
use Rattle.model.specs.Registers.{row, read, write}
use Rattle.model.specs.Calls.{start, send, receive, finish, interrupt, request, take_address}
use Rattle.model.specs.Bursts.{misfit, short_in_burst, burst_or, trigger, burst_send, burst_receive, burst_finish, decide}
use Rattle.model.specs.Laws.{is_access}
use Rattle.effect.specs.Effects.{verdict}
use Rattle.effect.proofs.Laws.{past, called}
use Rattle.calls.proofs.Tests.{no_burst}
use Rattle.trigger.proofs.Within.{never_short, outside}

-- the decision that stands behind 18 and behind the tests of an open burst
abbrev pub own_of : Call → View → Decision
own_of (Read o) v = read (row (register_at o)) v
own_of (Write o w) v = write (row (register_at o)) v w
own_of Start v = start v
own_of Send v = send v
own_of (Receive byte) v = receive v byte
own_of (Finish code) v = finish v code
own_of (Interrupt a byte) v = interrupt v a byte
own_of (Request w x) v = request v w x
own_of Take v = take_address v
own_of Trigger v = trigger v

module _ (v : View) (e : Effect) where
  abbrev Decided : Call → Type 0
  Decided c = e ≡ verdict (λ x. decide x c) v

  by_own : (c : Call) → misfit c ≡ false → (bursting v.control && not (is_access c)) ≡ false → e ≡ verdict (own_of c) v → Decided c
  by_own (Read o) m n h = h
  by_own (Write o w) m n h = h
  by_own Start m n h = past v short_in_burst 13 start e (never_short v (no_burst _ Start Start refl refl n)) h
  by_own Send m n h = outside v burst_send send e (no_burst _ Send Send refl refl n) h
  by_own (Receive b) m n h = outside v (λ x. burst_receive x b) (λ x. receive x b) e (no_burst _ (Receive b) (Receive b) refl refl n) h
  by_own (Finish k) m n h =
      past v (λ x. misfit (Finish k)) 18 (λ x. burst_or x (burst_finish x k) (finish x k)) e m
      (outside v (λ x. burst_finish x k) (λ x. finish x k) e (no_burst _ (Finish k) (Finish k) refl refl n) h)
  by_own (Interrupt a b) m n h =
      past v (λ x. misfit (Interrupt a b)) 18 (λ x. short_in_burst x ⇒ 13 ∣ interrupt x a b) e m
      (past v short_in_burst 13 (λ x. interrupt x a b) e (never_short v (no_burst _ (Interrupt a b) (Interrupt a b) refl refl n)) h)
  by_own (Request w x) m n h = past v short_in_burst 13 (λ y. request y w x) e (never_short v (no_burst _ (Request w x) (Request w x) refl refl n)) h
  by_own Take m n h = past v short_in_burst 13 take_address e (never_short v (no_burst _ Take Take refl refl n)) h
  by_own Trigger m n h = past v short_in_burst 13 trigger e (never_short v (no_burst _ Trigger Trigger refl refl n)) h

  -- the same of the call c, which the code saw to be k
  pub decided_by : (k c : Call) → c ≡ k → misfit c ≡ false → (bursting v.control && not (is_access c)) ≡ false → e ≡ verdict (own_of k) v → Decided c
  decided_by k c is m n h = called v k c e is (by_own k (sym (ap misfit is) ∙ m) (sym (ap (λ (x : Call). bursting v.control && not (is_access x)) is) ∙ n) h)
