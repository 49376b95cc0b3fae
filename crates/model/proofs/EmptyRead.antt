-- `take.empty`: an empty queue shows the word last read from it. Every call moves the remembered word as the list of answers says; so it is the
-- last one read along every list.
use Prim.Native.Nat.{ℕ}
use native.Mathlib.Omega.{arith}
use mathlib.Core.Path.{◌≡◌, refl, sym, ◌∙◌, ap, subst}
use mathlib.Core.Bool.{Bool, true, false, cond, ◌&&◌, false≢true, true≢false}
use mathlib.Core.List.{List, [], ◌∷◌}
use lib.Dec.{leb, eqb}
use lib.ListN.{length}
use borrow.Author.Tests.{eq-eqb, eqb-true}
use Rattle.ring.proofs.Laws.{entries_length}
use Rattle.bank.specs.declared.Latest.{Latest}
use Rattle.bank.specs.declared.Control.{Control}
use Rattle.bank.specs.declared.Answer.{Answer}
use Rattle.bank.specs.Fives.{Sizes}
use Rattle.bank.specs.SetUp.{sizes_ok, cleared, bank_of, refused_set_up, set_up, total}
use Rattle.bank.specs.Queues.{queues_in}
use Rattle.bank.specs.Bursts.{bursting}
use Rattle.bank.specs.Bits.{bit}
use Rattle.registers.specs.Map.{named, entry_at, register_at}
use Rattle.model.specs.declared.Call.{Call}
use Rattle.model.specs.declared.Call.TheVariants.{Read, Write, Start, Send, Receive, Finish, Interrupt, Request, Take, Trigger}
use Rattle.model.specs.View.{empty, last, View}
use Rattle.queues.specs.declared.Queue.{Queue}
use Rattle.queues.specs.declared.Queue.TheVariants.{Cmd, Cmdr, Sdo, Sdi, Ibi}
use Rattle.queues.specs.Each.{of}
use Rattle.model.specs.Decision.{Decision, first, effect}
use Rattle.model.specs.Registers.{Row, absent, shows, holds, pushes, takes, enables, acknowledges, row, clears, latest_of, remembered, enable, read, write}
use Rattle.model.specs.Calls.{start, send, receive, finish, interrupt, request, take_address}
use Rattle.model.specs.Bursts.{trigger, burst_send, burst_receive, burst_finish, decide}
use Rattle.model.specs.Engine.{outcome, step, Lent, step_lent, final}
use Rattle.model.specs.Rings.{Controller, areas, view_rings, settle_rings, guard_rings, rings}
use Rattle.model.specs.Laws.{fresh_controller, same_queue, read_names}
use Rattle.model.specs.BurstLaw.{resets}
use Rattle.model.specs.EmptyRead.{reads_from, last_by, last_read, EmptyShowsLast, EmptyIsThree}
use Rattle.model.specs.Driver.{held_words}
use Rattle.model.proofs.Tests.{of_two, of_take}
use Rattle.model.proofs.Offsets.{driver_reads, enables_not, enables_not_lem, taken_by_driver}
use Rattle.model.proofs.Laws.{by_outcome}
use Rattle.model.proofs.Driver.{level_of}

abbrev latest : Queue → Controller → ℕ
latest k l = latest_of k l.bank.state.control

-- ── What a control notes ──────────────────────────────────────────────────────────────────────────────────────
by_latest : (k : Queue) (c d : Control) → d.latest ≡ c.latest → latest_of k d ≡ latest_of k c
by_latest Cmd c d e = refl
by_latest Cmdr c d e = ap (λ (w : Latest). w.cmdr) e
by_latest Sdo c d e = refl
by_latest Sdi c d e = ap (λ (w : Latest). w.sdi) e
by_latest Ibi c d e = ap (λ (w : Latest). w.ibi) e

clears_latest : (q : Queue) (b : Bool) (c : Control) → (clears q b c).latest ≡ c.latest
clears_latest Cmd b c = refl
clears_latest Cmdr b c = refl
clears_latest Sdo b c = refl
clears_latest Sdi b c = refl
clears_latest Ibi b c = refl

noted_at : (k q : Queue) (w : ℕ) (c : Control) → driver_reads k ≡ true → latest_of k (remembered q w c) ≡ cond (same_queue q k) w (latest_of k c)
noted_at Cmd q w c h = absurd (false≢true h)
noted_at Sdo q w c h = absurd (false≢true h)
noted_at Cmdr Cmd w c h = refl
noted_at Cmdr Cmdr w c h = refl
noted_at Cmdr Sdo w c h = refl
noted_at Cmdr Sdi w c h = refl
noted_at Cmdr Ibi w c h = refl
noted_at Sdi Cmd w c h = refl
noted_at Sdi Cmdr w c h = refl
noted_at Sdi Sdo w c h = refl
noted_at Sdi Sdi w c h = refl
noted_at Sdi Ibi w c h = refl
noted_at Ibi Cmd w c h = refl
noted_at Ibi Cmdr w c h = refl
noted_at Ibi Sdo w c h = refl
noted_at Ibi Sdi w c h = refl
noted_at Ibi Ibi w c h = refl

cleared_at : (k : Queue) (held : Bool) → latest_of k (cleared held) ≡ 0
cleared_at Cmd held = refl
cleared_at Cmdr held = refl
cleared_at Sdo held = refl
cleared_at Sdi held = refl
cleared_at Ibi held = refl

either_way : {A : Type 0} (b : Bool) (x : A) → x ≡ cond b x x
either_way true x = refl
either_way false x = refl

-- ── One call ──────────────────────────────────────────────────────────────────────────────────────────────────
module _ (k : Queue) (h : driver_reads k ≡ true) (s : View) where
  abbrev before : ℕ
  before = latest_of k s.control

  -- the remembered word moves as the answer says
  abbrev Moves : Call → Decision → Type 0
  Moves c d = latest_of k (effect d).control ≡ last_by k c (record { value = (effect d).value; number = (effect d).number }) before

  -- an event notes nothing
  stays : (c : Call) (d : Decision) → resets c ≡ false → reads_from k c ≡ false → (effect d).control.latest ≡ s.control.latest → Moves c d
  stays c d r n e = by_latest k s.control (effect d).control e ∙ rw (r, n) (either_way (eqb (effect d).number 0) before)

  abbrev Read_moves : Row → Decision → Type 0
  Read_moves x d = latest_of k (effect d).control ≡ cond (eqb (effect d).number 0) (cond (read_names x k) (effect d).value before) before

  read_moves : (x : Row) → Read_moves x (read x s)
  read_moves absent = refl
  read_moves (shows f) = refl
  read_moves (holds c) = refl
  read_moves (pushes q) = refl
  read_moves (takes q) =
      of_take (Read_moves (takes q)) q s
      (λ e. refl)
      (λ e. let c = clears q (last (of q s.queues)) s.control in noted_at k q (of q s.queues).first c h ∙ ap (cond (same_queue q k) (of q s.queues).first) (by_latest k s.control c (clears_latest q _ s.control)))
  read_moves enables = refl
  read_moves acknowledges = refl

  enabled : (b : Bool) → latest_of k (enable s b).control ≡ cond (eqb (enable s b).number 0) (cond b 0 before) before
  unfolding enable
  enabled true = cleared_at k true
  enabled false = by_latest k s.control _ refl

  elsewhere : (x : Row) (v : ℕ) → enables_not x ≡ true → latest_of k (effect (write x s v)).control ≡ before
  elsewhere absent v e = refl
  elsewhere (shows f) v e = refl
  elsewhere (holds c) v e = refl
  elsewhere (pushes q) v e = by_latest k s.control _ (clears_latest q true s.control)
  elsewhere (takes q) v e = refl
  elsewhere enables v e = absurd (false≢true e)
  elsewhere acknowledges v e = by_latest k s.control _ refl

  write_moves : (o v : ℕ) → Moves (Write o v) (write (row (register_at o)) s v)
  unfolding named entry_at
  write_moves o v = go (eqb o 0x040) refl
    where
      go : (b : Bool) → eqb o 0x040 ≡ b → (let e = effect (write (row (register_at o)) s v) in latest_of k e.control ≡ cond (eqb e.number 0) (cond (b && bit 0 v) 0 before) before)
      go true e = subst (λ (n : ℕ). let x = effect (write (row (register_at n)) s v) in latest_of k x.control ≡ cond (eqb x.number 0) (cond (bit 0 v) 0 before) before) (sym (eqb-true o 0x040 e)) (enabled (bit 0 v))
      go false e = elsewhere (row (register_at o)) v (enables_not_lem o e) ∙ either_way (eqb (effect (write (row (register_at o)) s v)).number 0) before

  moves : (c : Call) → Moves c (decide s c)
  unfolding start send receive finish interrupt request take_address trigger burst_send burst_receive burst_finish
  moves (Read o) = read_moves (row (register_at o))
  moves (Write o v) = write_moves o v
  moves Start = stays Start (decide s Start) refl refl refl
  moves Send = of_two (Moves Send) (bursting s.control) (burst_send s) (send s) (λ e. stays Send (burst_send s) refl refl refl) (λ e. stays Send (send s) refl refl refl)
  moves (Receive b) = of_two (Moves (Receive b)) (bursting s.control) (burst_receive s b) (receive s b) (λ e. stays (Receive b) (burst_receive s b) refl refl refl) (λ e. stays (Receive b) (receive s b) refl refl refl)
  moves (Finish code) = of_two (Moves (Finish code)) (bursting s.control) (burst_finish s code) (finish s code) (λ e. stays (Finish code) (burst_finish s code) refl refl refl) (λ e. stays (Finish code) (finish s code) refl refl refl)
  moves (Interrupt a b) = stays (Interrupt a b) (decide s (Interrupt a b)) refl refl refl
  moves (Request v w) = stays (Request v w) (decide s (Request v w)) refl refl refl
  moves Take = stays Take (decide s Take) refl refl refl
  moves Trigger = stays Trigger (decide s Trigger) refl refl refl

-- ── Every list of calls ───────────────────────────────────────────────────────────────────────────────────────
module _ (k : Queue) (h : driver_reads k ≡ true) where
  step_moves : (l : Controller) (c : Call) → latest k (step rings l c).next ≡ last_by k c (step rings l c).answer (latest k l)
  step_moves l c =
      by_outcome (λ r. latest k r.next ≡ last_by k c r.answer (latest k l)) l c
      (λ n r. rw r.not0)
      (λ f z p. moves k h (view_rings l) c)

  along : (cs : List Lent) (l : Controller) → latest k (final rings l cs) ≡ last_read k l cs (latest k l)
  unfolding final last_read
  along [] l = refl
  along (c ∷ cs) l =
      along cs (step_lent rings l c).next ∙ ap (last_read k (step_lent rings l c).next cs) (step_moves (rings.lend c.output l) c.call)

  shown_again : (l : Controller) (o : ℕ) → row (register_at o) ≡ takes k → (step rings l (Read o)).answer.number ≡ 3 → (step rings l (Read o)).answer.value ≡ latest k l
  shown_again l o e =
      by_outcome (λ r. r.answer.number ≡ 3 → r.answer.value ≡ latest k l) l (Read o)
      (λ n r i. absurd (true≢false (sym (eq-eqb n 3 i) ∙ r.not3)))
      (λ f z p.
      subst (λ (x : Row). let d = effect (read x (view_rings l)) in d.number ≡ 3 → d.value ≡ latest k l) (sym e)
      (of_take (λ d. (effect d).number ≡ 3 → (effect d).value ≡ latest k l) k (view_rings l) (λ a i. refl) (λ a i. absurd (omega (arith, i)))))

fresh_latest : (caps marks : Sizes) (id : ℕ) (store : List ℕ) (k : Queue) → latest k (fresh_controller caps marks id store) ≡ 0
unfolding set_up
fresh_latest caps marks id store k = go (leb id 255 && sizes_ok caps marks)
  where
    go : (b : Bool) → latest_of k (cond b (record { bank = bank_of caps marks true id; answer = record { value = 0; number = 0 } }) refused_set_up).bank.state.control ≡ 0
    go true = cleared_at k true
    go false = cleared_at k false

pub empty_shows_last : EmptyShowsLast
unfolding EmptyShowsLast
empty_shows_last caps marks id store cs k o e n =
    let h = taken_by_driver o k e in
    let fresh = fresh_controller caps marks id store in
    shown_again k h (final rings fresh cs) o e n ∙ along k h cs fresh ∙ ap (last_read k fresh cs) (fresh_latest caps marks id store k)

-- ── When a queue is empty ─────────────────────────────────────────────────────────────────────────────────────
words_there : (l : Controller) (k : Queue) → length (held_words k l) ≡ (of k (view_rings l).queues).level
words_there l k = let a = of k (areas (queues_in l.bank)) in entries_length a.ring a.base l.store ∙ sym (level_of l k)

pub empty_is_three : EmptyIsThree
unfolding EmptyIsThree step guard_rings
empty_is_three l k o e f z =
    rw (f, eq-eqb (length l.store) (total l.bank.state.caps) z, e)
    (of_take (λ d. (outcome (first d) (effect d) l (settle_rings l (effect d))).answer.number ≡ answered) k (view_rings l) (λ a. sym (at true a)) (λ a. sym (at false a)))
  where
    answered : ℕ
    answered = cond (eqb (length (held_words k l)) 0) 3 0

    at : (b : Bool) → empty (of k (view_rings l).queues) ≡ b → answered ≡ cond b 3 0
    at b a = ap (λ (n : ℕ). cond (eqb n 0) 3 0) (words_there l k) ∙ ap (λ (x : Bool). cond x 3 0) a
