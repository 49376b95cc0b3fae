-- Every effect fits its queues: a call that is not refused pushes only where there is room, and takes only what is there.
use Prim.Native.Nat.{ℕ, zero, suc, ◌+◌, ◌≤◌, min}
use native.Mathlib.Omega.{arith}
use mathlib.Core.Path.{◌≡◌}
use mathlib.Core.Bool.{Bool, true, false, cond, not, ◌&&◌, false≢true}
use lib.Dec.{eqb}
use borrow.Author.Tests.{ltb-false, leb-false, eqb-false, not-true, not-false}
use Rattle.bank.specs.Phases.{transfer}
use Rattle.bank.specs.Bursts.{bursting}
use Rattle.bank.proofs.Bools.{or_left, or_right}
use Rattle.registers.specs.Map.{register_at}
use Rattle.model.specs.declared.Call.{Call}
use Rattle.model.specs.declared.Call.TheVariants.{Read, Write, Start, Send, Receive, Finish, Interrupt, Request, Take, Trigger}
use Rattle.bank.specs.Bits.{bit}
use Rattle.model.specs.View.{QueueView, room, empty, full, View}
use Rattle.queues.specs.declared.Queue.{Queue}
use Rattle.queues.specs.declared.Queue.TheVariants.{Cmd, Cmdr, Sdo, Sdi, Ibi}
use Rattle.queues.specs.declared.Five.{Five}
use Rattle.queues.specs.Each.{of}
use Rattle.model.specs.Fits.{FitsIn, AllFit}
use Rattle.model.specs.Decision.{QueueOp, keep, clear, take, push, push2, keep_all, only, Decision, effect}
use Rattle.model.specs.Commands.{two_words}
use Rattle.model.specs.Registers.{Row, absent, shows, holds, pushes, takes, enables, acknowledges, row, enable, read, write}
use Rattle.model.specs.Calls.{whole, word_count, first_of_word, last_of_word, padded, removes, start, send, receive, finish, interrupt, request, take_address}
use Rattle.model.specs.Bursts.{trigger, burst_send, burst_receive, burst_finish, decide}
use Rattle.model.proofs.Tests.{Passed, of_two, of_take}

-- five proofs, one for each queue
pub by_queue : (P : Queue → Type 0) → P Cmd → P Cmdr → P Sdo → P Sdi → P Ibi → (k : Queue) → P k
by_queue P a b c d e Cmd = a
by_queue P a b c d e Cmdr = b
by_queue P a b c d e Sdo = c
by_queue P a b c d e Sdi = d
by_queue P a b c d e Ibi = e

module _ (s : View) where
  fits_none : AllFit keep_all s.queues
  fits_none = by_queue (λ k. FitsIn (of k keep_all) (of k s.queues)) tt tt tt tt tt

  fits_only : (q : Queue) (o : QueueOp) → FitsIn o (of q s.queues) → AllFit (only q o) s.queues
  fits_only Cmd o f = by_queue (λ k. FitsIn (of k (only Cmd o)) (of k s.queues)) f tt tt tt tt
  fits_only Cmdr o f = by_queue (λ k. FitsIn (of k (only Cmdr o)) (of k s.queues)) tt f tt tt tt
  fits_only Sdo o f = by_queue (λ k. FitsIn (of k (only Sdo o)) (of k s.queues)) tt tt f tt tt
  fits_only Sdi o f = by_queue (λ k. FitsIn (of k (only Sdi o)) (of k s.queues)) tt tt tt f tt
  fits_only Ibi o f = by_queue (λ k. FitsIn (of k (only Ibi o)) (of k s.queues)) tt tt tt tt f

-- ── Tests to facts ────────────────────────────────────────────────────────────────────────────────────────────
pub one_there : (q : QueueView) → empty q ≡ false → 1 ≤ q.level
one_there q e = let k : q.level ≡ 0 → ⊥ = eqb-false q.level 0 e in omega arith

pub room_there : (q : QueueView) → full q ≡ false → q.level + 1 ≤ q.cap
room_there q e = let k = leb-false q.cap q.level e in omega arith

pub command_there : (n : ℕ) (b : Bool) → cond (eqb n 0) false (cond (eqb n 1) (not b) true) ≡ true → cond b 2 1 ≤ n
command_there zero b e = absurd (false≢true e)
command_there (suc zero) b e = rw (not-true b e) (omega arith)
command_there (suc (suc n)) true e = omega arith
command_there (suc (suc n)) false e = omega arith

-- an operation made only where a test holds
if_take : (b : Bool) (q : QueueView) → (b && empty q) ≡ false → FitsIn (cond b (take 1) keep) q
if_take true q e = one_there q e
if_take false q e = tt

if_remove : (b : Bool) (n : ℕ) (q : QueueView) → FitsIn (cond b (take (min n q.level)) keep) q
if_remove true n q = omega arith
if_remove false n q = tt

if_push : (b : Bool) (w : ℕ) (q : QueueView) → (b && full q) ≡ false → FitsIn (cond b (push w) keep) q
if_push true w q e = room_there q e
if_push false w q e = tt

-- ── The calls ─────────────────────────────────────────────────────────────────────────────────────────────────
read_fits : (s : View) (x : Row) → Passed (read x s) → AllFit (effect (read x s)).ops s.queues
read_fits s absent e = fits_none s
read_fits s (shows f) e = fits_none s
read_fits s (holds c) e = fits_none s
read_fits s (pushes q) e = fits_none s
read_fits s (takes q) e =
    of_take (λ d. AllFit (effect d).ops s.queues) q s
    (λ f. fits_none s)
    (λ f. fits_only s q (take 1) (one_there (of q s.queues) f))
read_fits s enables e = fits_none s
read_fits s acknowledges e = fits_none s

enable_fits : (s : View) (b : Bool) → AllFit (enable s b).ops s.queues
unfolding enable
enable_fits s true = by_queue _ tt tt tt tt tt
enable_fits s false = fits_none s

write_fits : (s : View) (x : Row) (v : ℕ) → Passed (write x s v) → AllFit (effect (write x s v)).ops s.queues
write_fits s absent v e = fits_none s
write_fits s (shows f) v e = fits_none s
write_fits s (holds c) v e = fits_none s
write_fits s (pushes q) v e = fits_only s q (push v) (room_there (of q s.queues) e.1.0)
write_fits s (takes q) v e = fits_none s
write_fits s enables v e = enable_fits s (bit 0 v)
write_fits s acknowledges v e = fits_none s

abbrev Served : View → Decision → Type 0
Served s d = Passed d → AllFit (effect d).ops s.queues

finish_fits : (s : View) (code : ℕ) → Served s (finish s code)
unfolding finish
finish_fits s code f =
    let e = f.1.1.1.0 in
    let b = padded s.phase && full s.queues.sdi in
    by_queue _ tt (room_there s.queues.cmdr (or_left (full s.queues.cmdr) b e)) (if_remove (removes s.phase code) _ s.queues.sdo) (if_push (padded s.phase) _ s.queues.sdi (or_right (full s.queues.cmdr) b e)) tt

-- a burst touches no queue
pub fits : (s : View) (c : Call) → Served s (decide s c)
unfolding start send receive interrupt request take_address trigger burst_send burst_receive burst_finish
fits s (Read o) f = read_fits s (row (register_at o)) f
fits s (Write o v) f = write_fits s (row (register_at o)) v f
fits s Start f = fits_only s Cmd (take (word_count s.queues.cmd)) (command_there s.queues.cmd.level (two_words s.queues.cmd.first) (not-false (whole s.queues.cmd) f.1.1.1.1.0))
fits s Send f =
    of_two (Served s) (bursting s.control) (burst_send s) (send s)
    (λ e g. fits_none s)
    (λ e g. fits_only s Sdo (cond (first_of_word (transfer s.phase)) (take 1) keep) (if_take (first_of_word (transfer s.phase)) s.queues.sdo g.1.1.1.1.1.0))
    f.1
fits s (Receive b) f =
    of_two (Served s) (bursting s.control) (burst_receive s b) (receive s b)
    (λ e g. fits_none s)
    (λ e g. fits_only s Sdi _ (if_push (last_of_word (transfer s.phase)) _ s.queues.sdi g.1.1.1.1.1.0))
    f.1
fits s (Finish code) f = of_two (Served s) (bursting s.control) (burst_finish s code) (finish s code) (λ e g. fits_none s) (λ e g. finish_fits s code g) f.1.1
fits s (Interrupt a b) f = fits_only s Ibi _ (room_there s.queues.ibi f.1.1.1.1.1.1.0)
fits s (Request v w) f = fits_only s Sdi (push2 v w) (let k = ltb-false (room s.queues.sdi) 2 f.1.1.1.1.0 in omega arith)
fits s Take f = fits_only s Sdo (take 1) (one_there s.queues.sdo f.1.1.1.1.0)
fits s Trigger f = fits_none s
