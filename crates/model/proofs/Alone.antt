-- While a burst is open its events leave queues, store and control (but where the burst stands) alone, so accesses act as if there were
-- no burst.
use Prim.Native.Nat.{ℕ}
use mathlib.Core.Path.{◌≡◌, refl, ap, sym, ◌∙◌, subst}
use mathlib.Core.Bool.{Bool, true, false, cond, not, true≢false, false≢true}
use mathlib.Core.List.{List, [], ◌∷◌}
use mathlib.Core.Option.{Option, none, some}
use lib.Dec.{eqb}
use lib.ListN.{length}
use borrow.Author.Tests.{eqb-true, not-false}
use Rattle.bank.specs.Bits.{bit}
use Rattle.bank.specs.Phases.{idle, assigning, requested}
use Rattle.bank.specs.Bursts.{bursting}
use Rattle.bank.specs.Queues.{Queues, queues_in, caps_of, levels_of, heads_of}
use Rattle.bank.specs.SetUp.{total}
use Rattle.bank.specs.Formed.{well_formed}
use Rattle.bank.proofs.Bools.{or_left, and-true}
use Rattle.bank.proofs.Laws.{formed_of}
use Rattle.registers.specs.Map.{register_at}
use Rattle.model.specs.declared.Call.{Call}
use Rattle.model.specs.declared.Call.TheVariants.{Read, Write, Start, Send, Receive, Finish, Interrupt, Request, Take, Trigger}
use Rattle.model.specs.View.{empty, View}
use Rattle.queues.specs.declared.Queue.{Queue}
use Rattle.queues.specs.declared.Queue.TheVariants.{Cmd, Cmdr, Sdo, Sdi, Ibi}
use Rattle.queues.specs.Each.{of}
use Rattle.model.specs.Decision.{Decision, does, first, effect}
use Rattle.model.specs.Registers.{Cell, Row, absent, shows, holds, pushes, takes, enables, acknowledges, row, enable, taken_first, shown_again, read, write}
use Rattle.model.specs.Calls.{busy, start, send, receive, finish, interrupt, request, take_address}
use Rattle.model.specs.Bursts.{burst_at, trigger, burst_send, burst_receive, burst_finish, decide}
use Rattle.model.specs.Engine.{Step, outcome, step}
use Rattle.model.specs.Rings.{Controller, view_rings, on_ring, on_store, settle_rings, rings}
use Rattle.model.specs.Laws.{is_access, StaysWellFormed}
use Rattle.model.specs.BurstLaw.{after, accesses, resets, no_reset}
use Rattle.model.proofs.Tests.{Passed, of_two}
use Rattle.model.proofs.Phases.{requested_assigns}
use Rattle.model.proofs.Open.{no_burst_idle, no_burst_assigning}
use Rattle.model.proofs.Simulation.{rings_step, stays_sound, stays_well_formed}
use Rattle.model.proofs.Rings.{listed}
use Rattle.model.proofs.Laws.{by_outcome}
use Rattle.model.proofs.Driver.{not_zero}

-- a burst is open before each call
abbrev pub Throughout : Controller → List Call → Type 0
Throughout m [] = Unit {0}
Throughout m (c ∷ cs) = (bursting m.bank.state.control ≡ true) × Throughout (step rings m c).next cs

-- n is m but for its open burst, in what no event of a burst changes
pub record Beside (m n : Controller) : Type 0 where
  pub queues : queues_in m.bank ≡ queues_in n.bank
  pub store : m.store ≡ n.store
  pub control : burst_at 0 m.bank.state.control ≡ n.bank.state.control

-- ── An access ─────────────────────────────────────────────────────────────────────────────────────────────────
-- n with what m shares with it, in m's own terms: then both decide by one and the same queues
abbrev graft : Controller → Controller → Controller
graft m n =
    let s = m.bank.state in
    record {
      bank =
          record {
            state = record { caps = s.caps; levels = s.levels; regs = n.bank.state.regs; control = burst_at 0 s.control; phase = n.bank.state.phase };
            heads = m.bank.heads;
            flags = n.bank.flags;
            commands = n.bank.commands;
            payloads = n.bank.payloads;
          };
      store = m.store;
      output = n.output;
    }

graft_is : (m n : Controller) → Beside m n → graft m n ≡ n
graft_is m n b =
    λ i. record {
      bank =
          record {
            state = record { caps = caps_of (b.queues i); levels = levels_of (b.queues i); regs = n.bank.state.regs; control = b.control i; phase = n.bank.state.phase };
            heads = heads_of (b.queues i);
            flags = n.bank.flags;
            commands = n.bank.commands;
            payloads = n.bank.payloads;
          };
      store = b.store i;
      output = n.output;
    }

abbrev acted : Controller → Decision → Controller
acted m d = (outcome (first d) (effect d) m (settle_rings m (effect d))).next

-- two decisions that give the same number, or none
alike : (m n : Controller) (d e : Decision) → first d ≡ first e → Beside m n → Beside (settle_rings m (effect d)) (settle_rings n (effect e)) → Beside (acted m d) (acted n e)
alike m n d e f b h = subst (λ (o : Option ℕ). Beside (acted m d) (outcome o (effect e) n (settle_rings n (effect e))).next) f (go (first d))
  where
    go : (o : Option ℕ) → Beside (outcome o (effect d) m (settle_rings m (effect d))).next (outcome o (effect e) n (settle_rings n (effect e))).next
    go (some k) = b
    go none = h

module _ (m n : Controller) where
  same : Beside m (graft m n)
  same = record { queues = refl; store = refl; control = refl }

  took : (q : Queue) → Beside (settle_rings m (taken_first q (view_rings m))) (settle_rings (graft m n) (taken_first q (view_rings (graft m n))))
  took Cmd = record { queues = refl; store = refl; control = refl }
  took Cmdr = record { queues = refl; store = refl; control = refl }
  took Sdo = record { queues = refl; store = refl; control = refl }
  took Sdi = record { queues = refl; store = refl; control = refl }
  took Ibi = record { queues = refl; store = refl; control = refl }

  level_same : (q : Queue) → empty (of q (view_rings (graft m n)).queues) ≡ empty (of q (view_rings m).queues)
  level_same Cmd = refl
  level_same Cmdr = refl
  level_same Sdo = refl
  level_same Sdi = refl
  level_same Ibi = refl

  read_beside : (x : Row) → Beside (acted m (read x (view_rings m))) (acted (graft m n) (read x (view_rings (graft m n))))
  unfolding on_ring on_store
  read_beside absent = same
  read_beside (shows f) = same
  read_beside (holds c) = same
  read_beside (pushes q) = same
  read_beside (takes q) = rw (level_same q) (takes_beside (empty (of q (view_rings m).queues)))
    where
      takes_beside : (b : Bool) → (let d = view_rings m in let e = view_rings (graft m n) in Beside (acted m (cond b (does (shown_again q d)) (does (taken_first q d)))) (acted (graft m n) (cond b (does (shown_again q e)) (does (taken_first q e)))))
      takes_beside true = same
      takes_beside false = took q
  read_beside enables = same
  read_beside acknowledges = same

  pushed : (q : Queue) (v : ℕ) → Beside (settle_rings m (effect (write (pushes q) (view_rings m) v))) (settle_rings (graft m n) (effect (write (pushes q) (view_rings (graft m n)) v)))
  pushed Cmd v = record { queues = refl; store = refl; control = refl }
  pushed Cmdr v = record { queues = refl; store = refl; control = refl }
  pushed Sdo v = record { queues = refl; store = refl; control = refl }
  pushed Sdi v = record { queues = refl; store = refl; control = refl }
  pushed Ibi v = record { queues = refl; store = refl; control = refl }

  -- the burst refuses some of m's and none of n's, and these touch neither queues nor control
  stored : (x y : Option ℕ) (c : Cell) (v : ℕ) → (let d = effect (write (holds c) (view_rings m) v) in let e = effect (write (holds c) (view_rings (graft m n)) v) in Beside (outcome x d m (settle_rings m d)).next (outcome y e (graft m n) (settle_rings (graft m n) e)).next)
  unfolding on_ring on_store
  stored none none c v = record { queues = refl; store = refl; control = refl }
  stored none (some k) c v = record { queues = refl; store = refl; control = refl }
  stored (some j) none c v = record { queues = refl; store = refl; control = refl }
  stored (some j) (some k) c v = same

  enabled : (b : Bool) → Beside (settle_rings m (enable (view_rings m) b)) (settle_rings (graft m n) (enable (view_rings (graft m n)) b))
  unfolding enable
  enabled true = record { queues = refl; store = refl; control = refl }
  enabled false = record { queues = refl; store = refl; control = refl }

  write_beside : (x : Row) (v : ℕ) → Beside (acted m (write x (view_rings m) v)) (acted (graft m n) (write x (view_rings (graft m n)) v))
  unfolding on_ring on_store
  write_beside absent v = same
  write_beside (shows f) v = same
  write_beside (holds c) v = stored (first (write (holds c) (view_rings m) v)) (first (write (holds c) (view_rings (graft m n)) v)) c v
  write_beside (pushes q) v = alike m (graft m n) (write (pushes q) (view_rings m) v) (write (pushes q) (view_rings (graft m n)) v) refl same (pushed q v)
  write_beside (takes q) v = same
  write_beside enables v = enabled (bit 0 v)
  write_beside acknowledges v = record { queues = refl; store = refl; control = refl }

  access_grafted : (c : Call) → is_access c ≡ true → Beside (acted m (decide (view_rings m) c)) (acted (graft m n) (decide (view_rings (graft m n)) c))
  access_grafted (Read o) a = read_beside (row (register_at o))
  access_grafted (Write o v) a = write_beside (row (register_at o)) v
  access_grafted Start a = absurd (false≢true a)
  access_grafted Send a = absurd (false≢true a)
  access_grafted (Receive byte) a = absurd (false≢true a)
  access_grafted (Finish code) a = absurd (false≢true a)
  access_grafted (Interrupt d byte) a = absurd (false≢true a)
  access_grafted (Request v w) a = absurd (false≢true a)
  access_grafted Take a = absurd (false≢true a)
  access_grafted Trigger a = absurd (false≢true a)

-- 21 and 22 do not arise
acts : (l : Controller) (c : Call) → well_formed l.bank ≡ true → length l.store ≡ total l.bank.state.caps → (step rings l c).next ≡ acted l (decide (view_rings l) c)
acts l c f z = ap (λ (r : Step Controller). r.next) (rings_step l c (formed_of l.bank f) z)

access_beside : (m n : Controller) (c : Call) → is_access c ≡ true → well_formed m.bank ≡ true → length m.store ≡ total m.bank.state.caps → well_formed n.bank ≡ true → Beside m n → Beside (step rings m c).next (step rings n c).next
access_beside m n c a f z g b =
    let y = ap length (sym b.store) ∙ z ∙ ap (λ (q : Queues). total (caps_of q)) b.queues in
    subst (λ (k : Controller). Beside k (step rings n c).next) (sym (acts m c f z))
    (subst (λ (k : Controller). Beside (acted m (decide (view_rings m) c)) k) (sym (acts n c g y))
    (subst (λ (k : Controller). Beside (acted m (decide (view_rings m) c)) (acted k (decide (view_rings k) c))) (graft_is m n b) (access_grafted m n c a)))

-- ── An event ──────────────────────────────────────────────────────────────────────────────────────────────────
-- it is decided by the burst; or it is made only where no transfer is open, or an assignment is, and so in no burst
module _ (m n : Controller) (b : Beside m n) (f : well_formed m.bank ≡ true) (e : bursting m.bank.state.control ≡ true) where
  abbrev s : View
  s = view_rings m

  abbrev Leaves : Decision → Type 0
  Leaves d = Passed d → Beside (settle_rings m (effect d)) n

  outside : {A : Type 0} → bursting s.control ≡ false → A
  outside k = absurd (true≢false (sym e ∙ k))

  not_busy : {A : Type 0} → busy s ≡ false → A
  not_busy k = outside (no_burst_idle s.control s.regs s.phase s.tables.commands (not-false (idle s.phase) k) (formed_of m.bank f).phase)

  assigns : {A : Type 0} → assigning s.phase ≡ true → A
  assigns k = outside (no_burst_assigning s.control s.regs s.phase s.tables.commands k (formed_of m.bank f).phase)

  event_leaves : (c : Call) → is_access c ≡ false → Leaves (decide s c)
  unfolding start interrupt request take_address trigger burst_send burst_receive burst_finish on_ring on_store
  event_leaves (Read o) a p = absurd (true≢false a)
  event_leaves (Write o v) a p = absurd (true≢false a)
  event_leaves Start a p = not_busy p.1.1.0
  event_leaves Send a p = of_two Leaves (bursting s.control) (burst_send s) (send s) (λ k q. record { queues = b.queues; store = b.store; control = b.control }) (λ k q. outside k) p.1
  event_leaves (Receive byte) a p = of_two Leaves (bursting s.control) (burst_receive s byte) (receive s byte) (λ k q. record { queues = b.queues; store = b.store; control = b.control }) (λ k q. outside k) p.1
  event_leaves (Finish code) a p = of_two Leaves (bursting s.control) (burst_finish s code) (finish s code) (λ k q. record { queues = b.queues; store = b.store; control = b.control }) (λ k q. outside k) p.1.1
  event_leaves (Interrupt d byte) a p = not_busy p.1.1.1.0
  event_leaves (Request v w) a p = assigns (not-false (assigning s.phase) (or_left (not (assigning s.phase)) (requested s.phase) p.1.1.1.0))
  event_leaves Take a p = assigns (requested_assigns s.phase (not-false (requested s.phase) p.1.1.1.0))
  event_leaves Trigger a p = not_busy p.1.1.0

event_beside : (m n : Controller) (c : Call) → is_access c ≡ false → bursting m.bank.state.control ≡ true → Beside m n → Beside (step rings m c).next n
event_beside m n c a e b = by_outcome (λ r. Beside r.next n) m c (λ k r. b) (λ f z p. event_leaves m n b f e c a p)

pub finished_beside : (m n : Controller) (code : ℕ) → bursting m.bank.state.control ≡ true → Beside m n → Beside (step rings m (Finish code)).next n
finished_beside m n code e b = event_beside m n (Finish code) refl e b

-- ── A trigger, and the calls after it ─────────────────────────────────────────────────────────────────────────
-- a trigger is taken only where no burst is open
pub triggered_beside : (l : Controller) → (step rings l Trigger).answer.number ≡ 0 → Beside (step rings l Trigger).next l
unfolding trigger on_ring on_store
triggered_beside l =
    by_outcome (λ r. r.answer.number ≡ 0 → Beside r.next l) l Trigger (λ n k e. absurd (not_zero n k e))
    (λ f z p e.
    let s = l.bank.state in
    let i = not-false (idle s.phase) p.1.1.0 in
    let k = no_burst_idle s.control s.regs s.phase l.bank.commands i (formed_of l.bank f).phase in
    let n = eqb-true s.control.burst 0 (not-false (eqb s.control.burst 0) k) in
    record { queues = refl; store = refl; control = λ i. burst_at (sym n i) s.control })

pub alone : (cs : List Call) (m n : Controller) → well_formed m.bank ≡ true → length m.store ≡ total m.bank.state.caps → well_formed n.bank ≡ true → no_reset cs ≡ true → Throughout m cs → Beside m n → Beside (after m cs) (after n (accesses cs))
unfolding after accesses no_reset StaysWellFormed
alone [] m n f z g r t b = b
alone (c ∷ cs) m n f z g r t b =
    let k = stays_sound m (listed m) c (record { is = refl; formed = formed_of m.bank f; size = z }) in
    go (is_access c) refl (λ x h d. alone cs (step rings m c).next x (stays_well_formed m c f) k.size h (and-true (not (resets c)) (no_reset cs) r).1 t.1 d)
  where
    go : (a : Bool) → is_access c ≡ a → ((x : Controller) → well_formed x.bank ≡ true → Beside (step rings m c).next x → Beside (after (step rings m c).next cs) (after x (accesses cs))) → Beside (after (step rings m c).next cs) (after n (cond a (c ∷ accesses cs) (accesses cs)))
    go true a h = h (step rings n c).next (stays_well_formed n c g) (access_beside m n c a f z g b)
    go false a h = h n g (event_beside m n c a t.0 b)
