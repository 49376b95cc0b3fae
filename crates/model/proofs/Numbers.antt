-- The numbers of a call: an effect has 0, 19, or 3 where a read shows a word again; a refusal has neither 0 nor 19.
use Prim.Native.Nat.{ℕ, ◌/◌, ◌%◌, ◌^◌}
use mathlib.Core.Path.{◌≡◌, refl}
use mathlib.Core.Bool.{Bool, true, false, cond, ◌||◌}
use lib.Dec.{eqb}
use lib.Count.{ones}
use Rattle.bank.specs.Bursts.{bursting}
use Rattle.registers.specs.Map.{register_at}
use Rattle.model.specs.declared.Call.{Call}
use Rattle.model.specs.declared.Call.TheVariants.{Read, Write, Start, Send, Receive, Finish, Interrupt, Request, Take, Trigger}
use Rattle.bank.specs.Bits.{bit}
use Rattle.model.specs.View.{empty, View}
use Rattle.queues.specs.Each.{of}
use Rattle.model.specs.Decision.{Effect, Decision, does, effect}
use Rattle.model.specs.Registers.{Row, absent, shows, holds, pushes, takes, enables, acknowledges, row, enable, taken_first, shown_again, read, write}
use Rattle.model.specs.Calls.{start, send, receive, finish, interrupt, request, take_address}
use Rattle.model.specs.Bursts.{trigger, burst_send, burst_receive, burst_finish, decide}
use Rattle.model.proofs.Tests.{of_two, of_take, refusals}

-- whether a read takes from a queue that is empty
abbrev pub emptied : Row → View → Bool
emptied absent s = false
emptied (shows f) s = false
emptied (holds c) s = false
emptied (pushes q) s = false
emptied (takes q) s = empty (of q s.queues)
emptied enables s = false
emptied acknowledges s = false

take_number : (b : Bool) (e f : Effect) → e.number ≡ 3 → f.number ≡ 0 → (effect (cond b (does e) (does f))).number ≡ cond b 3 0
take_number true e f h k = h
take_number false e f h k = k

pub read_number : (s : View) (x : Row) → (effect (read x s)).number ≡ cond (emptied x s) 3 0
read_number s absent = refl
read_number s (shows f) = refl
read_number s (holds c) = refl
read_number s (pushes q) = refl
read_number s (takes q) = take_number (empty (of q s.queues)) (shown_again q s) (taken_first q s) refl refl
read_number s enables = refl
read_number s acknowledges = refl

enable_number : (s : View) (b : Bool) → (enable s b).number ≡ 0
unfolding enable
enable_number s true = refl
enable_number s false = refl

pub write_number : (s : View) (x : Row) (v : ℕ) → (effect (write x s v)).number ≡ 0
write_number s absent v = refl
write_number s (shows f) v = refl
write_number s (holds c) v = refl
write_number s (pushes q) v = refl
write_number s (takes q) v = refl
write_number s enables v = enable_number s (bit 0 v)
write_number s acknowledges v = refl

abbrev pub of_effect : ℕ → Bool
of_effect n = eqb n 0 || eqb n 3 || eqb n 19

one_of_two : (b : Bool) (m n : ℕ) → of_effect m ≡ true → of_effect n ≡ true → of_effect (cond b m n) ≡ true
one_of_two true m n h k = h
one_of_two false m n h k = k

abbrev Ends : Decision → Type 0
Ends d = of_effect (effect d).number ≡ true

pub effect_number : (s : View) (c : Call) → Ends (decide s c)
unfolding start send receive finish interrupt request take_address trigger burst_send burst_receive burst_finish
effect_number s (Read o) = rw (read_number s (row (register_at o))) (one_of_two (emptied (row (register_at o)) s) 3 0 refl refl)
effect_number s (Write o v) = rw (write_number s (row (register_at o)) v)
effect_number s Start = refl
effect_number s Send = of_two Ends (bursting s.control) (burst_send s) (send s) (λ e. refl) (λ e. refl)
effect_number s (Receive b) = of_two Ends (bursting s.control) (burst_receive s b) (receive s b) (λ e. refl) (λ e. refl)
effect_number s (Finish code) = of_two Ends (bursting s.control) (burst_finish s code) (finish s code) (λ e. refl) (λ e. refl)
effect_number s (Interrupt a b) = refl
effect_number s (Request v w) = refl
effect_number s Take = one_of_two (eqb (ones (s.queues.sdo.first / 2 ^ 24) % 2) 1) 0 19 refl refl
effect_number s Trigger = refl

pub read_refusals : (s : View) (x : Row) → refusals (read x s) ≡ true
read_refusals s absent = refl
read_refusals s (shows f) = refl
read_refusals s (holds c) = refl
read_refusals s (pushes q) = refl
read_refusals s (takes q) = of_take (λ d. refusals d ≡ true) q s (λ e. refl) (λ e. refl)
read_refusals s enables = refl
read_refusals s acknowledges = refl

pub write_refusals : (s : View) (x : Row) (v : ℕ) → refusals (write x s v) ≡ true
write_refusals s absent v = refl
write_refusals s (shows f) v = refl
write_refusals s (holds c) v = refl
write_refusals s (pushes q) v = refl
write_refusals s (takes q) v = refl
write_refusals s enables v = refl
write_refusals s acknowledges v = refl

abbrev Refuses : Decision → Type 0
Refuses d = refusals d ≡ true

pub all_refusals : (s : View) (c : Call) → Refuses (decide s c)
unfolding start send receive finish interrupt request take_address trigger burst_send burst_receive burst_finish
all_refusals s (Read off) = read_refusals s (row (register_at off))
all_refusals s (Write off v) = write_refusals s (row (register_at off)) v
all_refusals s Start = refl
all_refusals s Send = of_two Refuses (bursting s.control) (burst_send s) (send s) (λ e. refl) (λ e. refl)
all_refusals s (Receive b) = of_two Refuses (bursting s.control) (burst_receive s b) (receive s b) (λ e. refl) (λ e. refl)
all_refusals s (Finish code) = of_two Refuses (bursting s.control) (burst_finish s code) (finish s code) (λ e. refl) (λ e. refl)
all_refusals s (Interrupt a b) = refl
all_refusals s (Request v w) = refl
all_refusals s Take = refl
all_refusals s Trigger = refl
