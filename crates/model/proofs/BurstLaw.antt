-- The law of a burst, and that an interrupt request is 6 as long as it is open.
use Prim.Native.Nat.{ℕ, suc, ◌+◌, ◌≤◌}
use native.Mathlib.Omega.{arith}
use mathlib.Core.Path.{◌≡◌, refl, ap, sym, ◌∙◌}
use mathlib.Core.Bool.{Bool, true, false, cond, not, ◌&&◌, true≢false}
use mathlib.Core.List.{List, ◌++◌}
use mathlib.Core.Option.{Option, some}
use lib.ListN.{length, drop, length-append, length-drop}
use borrow.Author.Tests.{le-leb, le-ltb}
use Rattle.bank.specs.declared.Control.{Control}
use Rattle.bank.specs.declared.Phase.{Phase}
use Rattle.bank.specs.declared.Phase.TheVariants.{Idle}
use Rattle.bank.specs.Phases.{idle}
use Rattle.bank.specs.Bursts.{span, reads_in, bursting}
use Rattle.bank.proofs.Laws.{formed_of}
use Rattle.model.specs.declared.Call.TheVariants.{Finish, Interrupt, Trigger}
use Rattle.model.specs.View.{View}
use Rattle.model.specs.Decision.{Decision, first, effect}
use Rattle.model.specs.Calls.{finish, interrupt}
use Rattle.model.specs.Bursts.{burst_at, opening, last_command, output_short, short_in_burst, burst_finish, decide}
use Rattle.model.specs.Engine.{Step, outcome, step}
use Rattle.model.specs.Rings.{Controller, view_rings, settle_rings, rings}
use Rattle.model.specs.Demand.{snoc}
use Rattle.model.specs.BurstLaw.{after, accesses, Log, logged, read_words, BurstLaw, BurstIsBusy}
use Rattle.model.proofs.Tests.{of_two}
use Rattle.model.proofs.Open.{Opened}
use Rattle.model.proofs.Simulation.{rings_step}
use Rattle.model.proofs.Laws.{by_outcome}
use Rattle.model.proofs.Driver.{not_zero, served, all_clear}
use Rattle.model.proofs.Alone.{alone, triggered_beside, finished_beside}
use Rattle.model.proofs.Inside.{length_snoc, words_done, reads_below, in_burst, same_span, done_fits, has_command, done_words, not_outside, not_idle, Inside, inside_opened, inside_after, throughout, unbegun, triggered}

-- ── The last finish ───────────────────────────────────────────────────────────────────────────────────────────
module _ (l : Controller) (g : Log) where
  abbrev Closes : ℕ → Phase → List ℕ → Type 0
  Closes burst p output = (burst ≡ 0) × (idle p ≡ true) × (output ≡ read_words l.bank.commands 0 (snoc g.done g.now) ++ drop (reads_in (length (snoc g.done g.now)) l.bank.commands) l.output)

  abbrev Closing : Decision → Type 0
  Closing d = let e = effect d in Closes e.control.burst e.phase e.tables.output

  closed : (m : Controller) (code : ℕ) → Inside l m g → suc (length g.done) ≡ span l.bank.state.regs → (step rings m (Finish code)).answer.number ≡ 0 → (let r = (step rings m (Finish code)).next in Closes r.bank.state.control.burst r.bank.state.phase r.output)
  unfolding burst_finish
  closed m code h n =
      by_outcome (λ r. r.answer.number ≡ 0 → Closes r.next.bank.state.control.burst r.next.bank.state.phase r.next.output) m (Finish code) (λ i q e. absurd (not_zero i q e))
      (λ f z p e. of_two Closing (bursting s.control) (burst_finish s code) (finish s code) (λ x. inside) (λ x. absurd (not_outside l g s h.going o x)))
    where
      s : View
      s = view_rings m

      o : Opened s
      o = inside_opened l m g h

      inside : Closing (burst_finish s code)
      inside =
          let b = h.going.stands in
          let k = same_span l g s h.going o in
          let e : last_command s ≡ true = le-leb (span s.regs) s.control.burst (omega (arith, b, k, n)) in
          (ap (λ (x : Bool). cond x 0 (s.control.burst + 1)) e, ap (λ (x : Bool). idle (cond x Idle (opening s s.control.burst))) e, done_words l g s h.going o)

-- no place in a burst is left
unbursting : (c : Control) → c.burst ≡ 0 → c ≡ burst_at 0 c
unbursting c e = λ i. record { held = c.held; sync = c.sync; ibisync = c.ibisync; cmdrpending = c.cmdrpending; ibipending = c.ibipending; daapending = c.daapending; burst = e i; latest = c.latest }

pub burst_law : BurstLaw
unfolding BurstLaw
burst_law l cs code t n c f =
    let b = (step rings l Trigger).next in
    let g = logged unbegun b cs in
    let m = after b cs in
    let left : suc (length g.done) ≤ span l.bank.state.regs = omega (arith, c) in
    let start = triggered l t in
    let h = inside_after cs l b unbegun start n left in
    let s = view_rings m in
    let o = inside_opened l m g h in
    let beside = finished_beside m (after l (accesses cs)) code (in_burst l g s h.going o) (alone cs b l start.formed start.size (served l Trigger t).0 n (throughout cs l b unbegun start n left) (triggered_beside l t)) in
    let z = closed l g m code h c f in
    record {
      transfers = done_fits l g s h.going o;
      output = z.2 ∙ ap (λ (k : ℕ). read_words l.bank.commands 0 (snoc g.done g.now) ++ drop (reads_in k l.bank.commands) l.output) (length_snoc g.done g.now ∙ c);
      queues = beside.queues;
      store = beside.store;
      control = unbursting _ z.0 ∙ beside.control;
      closed = z.1;
    }

-- ── Busy until the last finish ────────────────────────────────────────────────────────────────────────────────
-- the output keeps its length
output_whole : (xs o : List ℕ) (n : ℕ) → length xs ≡ n → n ≤ length o → length (xs ++ drop n o) ≡ length o
output_whole xs o n e h =
    let a = length-append xs (drop n o) in
    let d = length-drop n o in
    omega (arith, a, d, e, h)

no_such : (b : Bool) → (b ≡ true → ⊥) → b ≡ false
no_such true h = absurd (h refl)
no_such false h = refl

module _ (l m : Controller) (g : Log) (h : Inside l m g) where
  abbrev s : View
  s = view_rings m

  open_transfer : idle m.bank.state.phase ≡ false
  open_transfer = no_such (idle m.bank.state.phase) (λ e. not_idle l g s h.going (inside_opened l m g h) (ap not e))

  -- in reset none is open
  not_held : m.bank.state.control.held ≡ false
  not_held = no_such m.bank.state.control.held (λ e. true≢false (sym (all_clear m h.formed e).2 ∙ open_transfer))

  enough : output_short s ≡ false
  enough =
      let k = h.going in
      let o = inside_opened l m g h in
      let ws = l.bank.commands in
      let n = length g.done in
      let c = has_command l g s k o in
      let r = reads_below ws n (span l.bank.state.regs) (omega (arith, c)) in
      let w = k.room in
      let a = ap length k.words ∙ output_whole (read_words ws 0 g.done) l.output (reads_in n ws) (words_done ws g.done) (omega (arith, r, w)) in
      let b = ap (λ (x : ℕ). reads_in x m.bank.commands) (same_span l g s k o) ∙ ap (reads_in (span l.bank.state.regs)) k.same_commands in
      le-ltb (length m.output) (reads_in (span m.bank.state.regs) m.bank.commands) (omega (arith, a, b, w))

  not_short : short_in_burst s ≡ false
  unfolding short_in_burst
  not_short = ap (λ (b : Bool). bursting s.control && b) enough ∙ ap (λ (b : Bool). b && false) (in_burst l g s h.going (inside_opened l m g h))

  interrupt_busy : (a byte : ℕ) → a ≤ 127 → (step rings m (Interrupt a byte)).answer ≡ record { value = 0; number = 6 }
  unfolding interrupt
  interrupt_busy a byte k =
      let e = effect (decide s (Interrupt a byte)) in
      let n : first (decide s (Interrupt a byte)) ≡ some 6 = rw (le-ltb 127 a k, not_short, not_held, open_transfer) in
      ap (λ (r : Step Controller). r.answer) (rings_step m (Interrupt a byte) (formed_of m.bank h.formed) h.size)
      ∙ ap (λ (x : Option ℕ). (outcome x e m (settle_rings m e)).answer) n

pub burst_is_busy : BurstIsBusy
unfolding BurstIsBusy
burst_is_busy l cs a byte t n k c = let b = (step rings l Trigger).next in interrupt_busy l (after b cs) (logged unbegun b cs) (inside_after cs l b unbegun (triggered l t) n c) a byte k
