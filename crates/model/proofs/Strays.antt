-- The events of a burst count for no command: while it is open no run is, and they leave what the invariant looks at.
use Prim.Native.Nat.{ℕ, ◌+◌}
use native.Mathlib.Omega.{arith}
use mathlib.Core.Path.{◌≡◌, refl, ap, sym, ◌∙◌, subst}
use mathlib.Core.Bool.{Bool, true, false, cond, not, true≢false, false≢true}
use mathlib.Core.List.{List, [], ◌∷◌, ◌++◌, append-nil}
use mathlib.Core.Option.{Option, none, some}
use lib.Dec.{eqb}
use lib.ListN.{get_or}
use borrow.Author.Tests.{ne_eqb, not-false}
use Rattle.bank.specs.declared.Control.{Control}
use Rattle.bank.specs.declared.Phase.{Phase}
use Rattle.bank.specs.declared.Phase.TheVariants.{Idle, Writing, Reading, Unrequested, Requested, Answered}
use Rattle.bank.specs.Bits.{bit}
use Rattle.bank.specs.Phases.{idle, assigning, requested}
use Rattle.bank.specs.Bursts.{bursting}
use Rattle.bank.proofs.Bools.{or_left}
use Rattle.registers.specs.Map.{register_at}
use Rattle.model.specs.declared.Call.{Call}
use Rattle.model.specs.declared.Call.TheVariants.{Read, Write, Start, Send, Receive, Finish, Interrupt, Request, Take, Trigger}
use Rattle.model.specs.View.{View}
use Rattle.model.specs.Decision.{Effect, Decision, effect}
use Rattle.model.specs.Commands.{Command, Single, is_entdaa, is_read, opened, begun}
use Rattle.model.specs.Registers.{Row, absent, shows, holds, pushes, takes, enables, acknowledges, row, clears, enable, read, write}
use Rattle.model.specs.Calls.{attached, start, send, receive, finish, interrupt, request, take_address}
use Rattle.model.specs.Bursts.{burst_at, last_command, opening, trigger, burst_send, burst_receive, burst_finish, decide}
use Rattle.model.specs.Lists.{Lists, view_lists, settle_lists}
use Rattle.model.specs.Demand.{RunEvent, started, sent, received, addressed, finished, Run, Tally, bus, other, follow, count, count_run, change, opt, direct_phase}
use Rattle.model.proofs.Tests.{Passed, of_two}
use Rattle.model.proofs.Phases.{requested_assigns}
use Rattle.model.proofs.Formed.{clears_burst, read_untouched}
use Rattle.model.proofs.Invariant.{OpenIn}
use Rattle.model.proofs.Events.{Key, key_at, key, direct, Good, Running}

-- ── A transfer that a burst opens is a write or a read ────────────────────────────────────────────────────────
-- in an open burst one of these two is open
abbrev pub Steady : Control → Phase → Type 0
Steady c p = bursting c ≡ true → (idle p ≡ false) × (assigning p ≡ false)

private_steady : (w : ℕ) (a : Bool) → (let p = begun (Single w) a in (idle p ≡ false) × (assigning p ≡ false))
unfolding begun is_entdaa
private_steady w a = go (is_read (Single w))
  where
    go : (b : Bool) → (let p = cond b (Reading (opened (Single w) a)) (Writing (opened (Single w) a)) in (idle p ≡ false) × (assigning p ≡ false))
    go true = (refl, refl)
    go false = (refl, refl)

opening_steady : (s : View) (k : ℕ) → (idle (opening s k) ≡ false) × (assigning (opening s k) ≡ false)
opening_steady s k = let w = get_or s.tables.commands k 0 in private_steady w (attached s (Single w))

pub no_burst : (c : Control) (p : Phase) → Steady c p → ((idle p ≡ false) × (assigning p ≡ false) → ⊥) → bursting c ≡ false
no_burst c p h n = go (bursting c) refl
  where
    go : (b : Bool) → bursting c ≡ b → b ≡ false
    go true e = absurd (n (h e))
    go false e = refl

never : (c : Control) (p : Phase) → bursting c ≡ false → Steady c p
never c p e b = absurd (true≢false (sym b ∙ e))

abbrev KeepsSteady : View → Decision → Type 0
KeepsSteady s d = Passed d → Steady (effect d).control (effect d).phase

same_steady : (c c' : Control) (p : Phase) → c'.burst ≡ c.burst → Steady c p → Steady c' p
same_steady c c' p e h b = h (ap (λ (n : ℕ). not (eqb n 0)) (sym e) ∙ b)

enable_steady : (s : View) (b : Bool) → Steady s.control s.phase → Steady (enable s b).control (enable s b).phase
unfolding enable
enable_steady s true h b = absurd (false≢true b)
enable_steady s false h b = h b

write_steady : (s : View) (x : Row) (v : ℕ) → Steady s.control s.phase → KeepsSteady s (write x s v)
write_steady s absent v h f = h
write_steady s (shows g) v h f = h
write_steady s (holds c) v h f = h
write_steady s (pushes q) v h f = same_steady s.control (clears q true s.control) s.phase (clears_burst q true s.control) h
write_steady s (takes q) v h f = h
write_steady s enables v h f = enable_steady s (bit 0 v) h
write_steady s acknowledges v h f = h

read_steady : (s : View) (x : Row) → Steady s.control s.phase → KeepsSteady s (read x s)
read_steady s x h f = let u = read_untouched s x in rw u.phase_same (same_steady s.control (effect (read x s)).control s.phase u.burst_same h)

next_steady : (z : Bool) (s : View) (n k : ℕ) → Steady (burst_at (cond z 0 n) s.control) (cond z Idle (opening s k))
next_steady true s n k b = absurd (false≢true b)
next_steady false s n k b = opening_steady s k

pub steady_kept : (s : View) (c : Call) → Steady s.control s.phase → KeepsSteady s (decide s c)
unfolding start send receive finish interrupt request take_address trigger burst_send burst_receive burst_finish
steady_kept s (Read o) h f = read_steady s (row (register_at o)) h f
steady_kept s (Write o v) h f = write_steady s (row (register_at o)) v h f
steady_kept s Start h f = λ b. absurd (true≢false (sym (not-false (idle s.phase) f.1.1.0) ∙ (h b).0))
steady_kept s Send h f = of_two (KeepsSteady s) (bursting s.control) (burst_send s) (send s) (λ e g b. (refl, refl)) (λ e g. never s.control (effect (send s)).phase e) f.1
steady_kept s (Receive x) h f = of_two (KeepsSteady s) (bursting s.control) (burst_receive s x) (receive s x) (λ e g b. (refl, refl)) (λ e g. never s.control (effect (receive s x)).phase e) f.1
steady_kept s (Finish code) h f =
    of_two (KeepsSteady s) (bursting s.control) (burst_finish s code) (finish s code)
    (λ e g. next_steady (last_command s) s (s.control.burst + 1) s.control.burst)
    (λ e g b. never s.control Idle e b)
    f.1.1
steady_kept s (Interrupt a b) h f = h
steady_kept s (Request v w) h f = λ b. absurd (true≢false (sym (not-false (assigning s.phase) (or_left (not (assigning s.phase)) (requested s.phase) f.1.1.1.0)) ∙ (h b).1))
steady_kept s Take h f = λ b. absurd (true≢false (sym (requested_assigns s.phase (not-false (requested s.phase) f.1.1.1.0)) ∙ (h b).1))
steady_kept s Trigger h f = λ b. opening_steady s 0

-- ── Events outside a run ──────────────────────────────────────────────────────────────────────────────────────
no_run : (now : Option Run) (p : Phase) (here : List Command) → idle p ≡ true → OpenIn now p here → now ≡ none
no_run none p here i o = refl
no_run (some r) p here i o = absurd (true≢false (sym i ∙ o.state.is_open))

-- a byte, or a finish
pub data Stray : RunEvent → Type 0 where
  sends : Stray sent
  receives : Stray received
  finishes : (code v : ℕ) → Stray (finished code v)

uncounted : (e : RunEvent) → Stray e → (t : Tally) → t.now ≡ none → t ≡ count t e
uncounted sent x t n = λ i. record { words = t.words; past = t.past; now = (n ∙ ap (change (count_run sent)) (sym n)) i; receipts = t.receipts }
uncounted received x t n = λ i. record { words = t.words; past = t.past; now = (n ∙ ap (change (count_run received)) (sym n)) i; receipts = t.receipts }
uncounted (finished code v) x t n = λ i. record { words = t.words; past = (sym (append-nil t.past) ∙ ap (λ (o : Option Run). t.past ++ opt (change (count_run (finished code v)) o)) (sym n)) i; now = n i; receipts = t.receipts }
uncounted (started _) x t n = elim x [ ]
uncounted addressed x t n = elim x [ ]

idle_in : (c : Control) (p : Phase) → bursting c ≡ true → idle (direct_phase c p) ≡ true
idle_in c p e = rw e

pub stray_good : (o : Option Tally) (l : Lists) (e : RunEvent) → Stray e → bursting l.control ≡ true → Good o (key l) → Good (follow o (bus e)) (key l)
stray_good none l e x b g = g
stray_good (some t) l e x b g =
    let i = idle_in l.control l.phase b in
    let n = no_run t.now (key l).phase g.inv.order.here i g.inv.order.is_open in
    subst (λ (u : Tally). Running u (key l)) (uncounted e x t n) g

-- ── What the invariant looks at stays ─────────────────────────────────────────────────────────────────────────
pub as_direct : (l : Lists) → bursting l.control ≡ false → key l ≡ direct l
as_direct l e = ap (λ (b : Bool). key_at (cond b Idle l.phase) l) e

-- a burst goes on with another transfer, or another byte
pub key_in : (l : Lists) (c : Control) (p p' : Phase) → bursting c ≡ true → key_at (direct_phase c p) l ≡ key_at (direct_phase c p') l
key_in l c p p' e = ap (λ (b : Bool). key_at (cond b Idle p) l) e ∙ sym (ap (λ (b : Bool). key_at (cond b Idle p') l) e)

-- or ends
closed : (z : Bool) (c : Control) (n : ℕ) (p : Phase) → Idle ≡ direct_phase (burst_at (cond z 0 (n + 1)) c) (cond z Idle p)
closed true c n p = refl
closed false c n p = sym (ap (λ (b : Bool). cond (not b) Idle p) (ne_eqb (n + 1) 0 (λ z. omega arith)))

pub key_finished : (l : Lists) (z : Bool) (n : ℕ) (p : Phase) → bursting l.control ≡ true → key l ≡ key_at (direct_phase (burst_at (cond z 0 (n + 1)) l.control) (cond z Idle p)) l
key_finished l z n p e = ap (λ (b : Bool). key_at (cond b Idle l.phase) l) e ∙ ap (λ (q : Phase). key_at q l) (closed z l.control n p)

is_idle : (p : Phase) → idle p ≡ true → p ≡ Idle
is_idle Idle e = refl
is_idle (Writing t) e = absurd (false≢true e)
is_idle (Reading t) e = absurd (false≢true e)
is_idle (Unrequested t) e = absurd (false≢true e)
is_idle (Requested t) e = absurd (false≢true e)
is_idle (Answered t) e = absurd (false≢true e)

either_idle : (b : Bool) (p : Phase) → p ≡ Idle → cond b Idle p ≡ Idle
either_idle true p e = refl
either_idle false p e = e

-- or begins
pub key_triggered : (l : Lists) → idle l.phase ≡ true → key l ≡ key_at Idle l
key_triggered l i = ap (λ (q : Phase). key_at q l) (either_idle (bursting l.control) l.phase (is_idle l.phase i))
