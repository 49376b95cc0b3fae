-- The plain engine beside the ring engine: where both have the same bank but for heads, the same words in order and the same output, a call
-- leaves them so, with the same answer.
use Prim.Native.Nat.{ℕ, ◌+◌}
use native.Mathlib.Omega.{arith}
use mathlib.Core.Path.{◌≡◌, refl, ap, sym, ◌∙◌, subst}
use mathlib.Core.Bool.{true}
use mathlib.Core.List.{List}
use mathlib.Core.Option.{Option, none, some}
use lib.ListN.{length, get_or}
use borrow.Author.Tests.{eq-eqb}
use Rattle.ring.specs.declared.Ring.{Ring}
use Rattle.ring.specs.declared.Words.{Words}
use Rattle.ring.specs.Units.{words}
use Rattle.bank.specs.Queues.{Queues, queues_in, levels_of}
use Rattle.bank.specs.SetUp.{total}
use Rattle.bank.proofs.Laws.{Formed, formed_is, formed_of, ready}
use Rattle.model.specs.declared.Call.{Call}
use Rattle.model.specs.View.{QueueView, View}
use Rattle.queues.specs.declared.Queue.{Queue}
use Rattle.queues.specs.declared.Queue.TheVariants.{Cmd, Cmdr, Sdo, Sdi, Ibi}
use Rattle.queues.specs.declared.Five.{Five}
use Rattle.queues.specs.Each.{each, of}
use Rattle.model.specs.Decision.{QueueOp, keep, clear, take, push, push2, first, Effect, effect}
use Rattle.model.specs.Bursts.{decide}
use Rattle.model.specs.Engine.{Step, outcome, step, Lent, step_lent}
use Rattle.model.specs.Rings.{Controller, areas, words_in, view_rings, on_ring, on_rings, settle_rings, guard_rings, rings}
use Rattle.model.specs.Lists.{on_words}
use Rattle.model.specs.Fits.{AllFit}
use Rattle.model.proofs.Tests.{passed}
use Rattle.model.proofs.Room.{by_queue, fits}
use Rattle.model.proofs.Rings.{listed, caps_same}
use Rattle.model.proofs.Rings as rings-laws
use Rattle.model.proofs.Simulation.{rings_step, stays_sound}
use Rattle.plain_model.specs.declared.PlainBank.{PlainBank}
use Rattle.plain_model.specs.Areas.{plain_areas}
use Rattle.plain_model.specs.Moves.{on_level, on_levels}
use Rattle.plain_model.specs.FitsArea.{FitsArea, AllFitAreas}
use Rattle.plain_model.specs.Plain.{Plain, view_plain, state_after, settle_plain, headed, plain_formed, plain}
use Rattle.plain_model.specs.PlainLaws.{headless, plain_words_of}
use Rattle.plain_model.proofs.FiveQueues.{length_all, settled_words}
use Rattle.plain_model.proofs.Headless.{formed_headless}

-- what the two engines have in common, with what 21 and 22 ask of each
pub record Beside (l : Controller) (p : Plain) : Type 0 where
  pub bank : headless l.bank ≡ p.bank
  pub words : (k : Queue) → words_in (of k (areas (queues_in l.bank))) l.store ≡ plain_words_of k p
  pub output : l.output ≡ p.output
  pub formed : Formed l.bank
  pub size : length l.store ≡ total l.bank.state.caps
  pub plain_size : length p.store ≡ total p.bank.state.caps

pub beside_formed : (l : Controller) (p : Plain) → Beside l p → plain_formed p.bank ≡ true
beside_formed l p h = subst (λ (b : PlainBank). plain_formed b ≡ true) h.bank (formed_is (headed (headless l.bank)) (formed_headless l.bank h.formed))

-- ── They show the same ────────────────────────────────────────────────────────────────────────────────────────
abbrev shown : Words → Words → List ℕ → QueueView
shown cap level ws = record { cap = cap.0; level = level.0; first = get_or ws 0 0; second = get_or ws 1 0 }

pub view_same : (l : Controller) (p : Plain) → Beside l p → view_rings l ≡ view_plain p
view_same l p h =
    let b = h.bank in
    let w = h.words in
    λ i.
    let s = (b i).state in
    record {
      regs = s.regs;
      control = s.control;
      phase = s.phase;
      tables = record { flags = (b i).flags; commands = (b i).commands; payloads = (b i).payloads; output = h.output i };
      queues =
          each (shown s.caps.cmd s.levels.cmd (w Cmd i))
          (shown s.caps.cmdr s.levels.cmdr (w Cmdr i))
          (shown s.caps.sdo s.levels.sdo (w Sdo i))
          (shown s.caps.sdi s.levels.sdi (w Sdi i))
          (shown s.caps.ibi s.levels.ibi (w Ibi i));
    }

-- ── They settle an effect alike ───────────────────────────────────────────────────────────────────────────────
level_same : (o : QueueOp) (r : Ring) → (on_ring o r).level ≡ words (on_level o r.level.0)
unfolding on_ring
level_same keep r = refl
level_same clear r = refl
level_same (take k) r = refl
level_same (push w) r = refl
level_same (push2 v w) r = ap words (let z : r.level.0 + 1 + 1 ≡ r.level.0 + 2 = omega arith in z)

levels_same : (o : Five QueueOp) (q : Queues) → levels_of (on_rings o q) ≡ on_levels o (levels_of q)
levels_same o q =
    λ i. record {
      cmd = level_same o.cmd q.cmd i;
      cmdr = level_same o.cmdr q.cmdr i;
      sdo = level_same o.sdo q.sdo i;
      sdi = level_same o.sdi q.sdi i;
      ibi = level_same o.ibi q.ibi i;
    }

bank_same : (l : Controller) (p : Plain) (e : Effect) → Beside l p → headless (settle_rings l e).bank ≡ (settle_plain p e).bank
bank_same l p e h =
    let q = queues_in l.bank in
    let t = e.tables in
    let k = caps_same q l.store e.ops (ready q l.store h.formed.queues h.size) in
    let n = levels_same e.ops q in
    (λ i. record { state = record { caps = k i; levels = n i; regs = e.regs; control = e.control; phase = e.phase }; flags = t.flags; commands = t.commands; payloads = t.payloads })
    ∙ (λ i. record { state = state_after (h.bank i).state e; flags = t.flags; commands = t.commands; payloads = t.payloads })

-- levels are at most capacities, so that operations that fit are within their areas
pub all_fit_areas : (p : Plain) (o : Five QueueOp) → plain_formed p.bank ≡ true → length p.store ≡ total p.bank.state.caps → AllFit o (view_plain p).queues → AllFitAreas o p.bank.state.caps p.bank.state.levels p.store
all_fit_areas p o f z h =
    let r = ready (queues_in (headed p.bank)) p.store (formed_of (headed p.bank) f).queues z in
    record {
      each =
          by_queue (λ k. FitsArea (of k o) (of k (plain_areas p.bank.state.caps p.bank.state.levels)))
          (record { most = r.cmd.level_most; fit = h Cmd })
          (record { most = r.cmdr.level_most; fit = h Cmdr })
          (record { most = r.sdo.level_most; fit = h Sdo })
          (record { most = r.sdi.level_most; fit = h Sdi })
          (record { most = r.ibi.level_most; fit = h Ibi });
      size = z;
    }

words_same : (l : Controller) (p : Plain) (e : Effect) → Beside l p → AllFit e.ops (view_rings l).queues
    → (k : Queue) → words_in (of k (areas (queues_in (settle_rings l e).bank))) (settle_rings l e).store ≡ plain_words_of k (settle_plain p e)
words_same l p e h f k =
    let q = queues_in l.bank in
    let s = p.bank.state in
    let w = all_fit_areas p e.ops (beside_formed l p h) h.plain_size (subst (λ (v : View). AllFit e.ops v.queues) (view_same l p h) f) in
    rings-laws.settled_words q l.store e.ops (ready q l.store h.formed.queues h.size) f k
    ∙ ap (on_words (of k e.ops)) (h.words k)
    ∙ sym (settled_words e.ops s.caps s.levels p.store w k)

-- ── One call ──────────────────────────────────────────────────────────────────────────────────────────────────
-- the state after it, where the test n refused it or none did
abbrev rings_by : Controller → Option ℕ → Effect → Step Controller
rings_by l n e = outcome n e l (settle_rings l e)

abbrev plain_by : Plain → Option ℕ → Effect → Step Plain
plain_by p n e = outcome n e p (settle_plain p e)

-- 21 and 22 do not arise
pub plain_step : (p : Plain) (c : Call) → plain_formed p.bank ≡ true → length p.store ≡ total p.bank.state.caps → (let d = decide (view_plain p) c in step plain p c ≡ plain_by p (first d) (effect d))
unfolding step guard_rings
plain_step p c h z = rw (h, eq-eqb (length p.store) (total p.bank.state.caps) z)

answer_same : (l : Controller) (p : Plain) (n : Option ℕ) (e : Effect) → (rings_by l n e).answer ≡ (plain_by p n e).answer
answer_same l p none e = refl
answer_same l p (some n) e = refl

module _ (l : Controller) (p : Plain) (c : Call) (h : Beside l p) where
  abbrev number : Option ℕ
  number = first (decide (view_rings l) c)

  abbrev does : Effect
  does = effect (decide (view_rings l) c)

  rings_do : step rings l c ≡ rings_by l number does
  rings_do = rings_step l c h.formed h.size

  plain_does : step plain p c ≡ plain_by p number does
  plain_does = plain_step p c (beside_formed l p h) h.plain_size ∙ ap (λ (v : View). plain_by p (first (decide v c)) (effect (decide v c))) (sym (view_same l p h))

  pub same_answer : (step rings l c).answer ≡ (step plain p c).answer
  same_answer = ap (λ (x : Step Controller). x.answer) rings_do ∙ answer_same l p number does ∙ ap (λ (x : Step Plain). x.answer) (sym plain_does)

  next : (n : Option ℕ) → number ≡ n → Formed (rings_by l n does).next.bank → (let m = (rings_by l n does).next in length m.store ≡ total m.bank.state.caps) → Beside (rings_by l n does).next (plain_by p n does).next
  next none e f z =
      record {
        bank = bank_same l p does h;
        words = words_same l p does h (fits (view_rings l) c (passed (decide (view_rings l) c) e));
        output = refl;
        formed = f;
        size = z;
        plain_size = length_all does.ops (plain_areas p.bank.state.caps p.bank.state.levels) p.store ∙ h.plain_size;
      }
  next (some n) e f z = h

  pub stays_beside : Beside (step rings l c).next (step plain p c).next
  stays_beside =
      let sound = stays_sound l (listed l) c (record { is = refl; formed = h.formed; size = h.size }) in
      let f = subst (λ (x : Step Controller). Formed x.next.bank) rings_do sound.formed in
      let z = subst (λ (x : Step Controller). length x.next.store ≡ total x.next.bank.state.caps) rings_do sound.size in
      subst (λ (x : Step Controller). Beside x.next (step plain p c).next) (sym rings_do)
      (subst (λ (x : Step Plain). Beside (rings_by l number does).next x.next) (sym plain_does) (next number refl f z))

-- ── A call with an output lent ────────────────────────────────────────────────────────────────────────────────
lent_beside : (o : List ℕ) (l : Controller) (p : Plain) → Beside l p → Beside (rings.lend o l) (plain.lend o p)
lent_beside o l p h = record { bank = h.bank; words = h.words; output = refl; formed = h.formed; size = h.size; plain_size = h.plain_size }

pub lent_same : (l : Controller) (p : Plain) (c : Lent) → Beside l p → (step_lent rings l c).answer ≡ (step_lent plain p c).answer
lent_same l p c h = same_answer (rings.lend c.output l) (plain.lend c.output p) c.call (lent_beside c.output l p h)

pub lent_stays : (l : Controller) (p : Plain) (c : Lent) → Beside l p → Beside (step_lent rings l c).next (step_lent plain p c).next
lent_stays l p c h = stays_beside (rings.lend c.output l) (plain.lend c.output p) c.call (lent_beside c.output l p h)
