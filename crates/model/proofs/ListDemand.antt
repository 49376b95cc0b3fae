-- Demand 3 of the list engine.
use Prim.Native.Nat.{ℕ, suc, ◌+◌, ◌/◌, ◌%◌, ◌^◌, ◌≤◌}
use mathlib.Core.Path.{◌≡◌, refl, ap, ap₂, sym, ◌∙◌, subst}
use mathlib.Core.Bool.{Bool, true, false, cond, not, ◌||◌, true≢false}
use mathlib.Core.List.{List, [], ◌∷◌, ◌++◌, append_assoc, append-nil}
use mathlib.Core.Option.{Option, none, some}
use lib.Dec.{eqb}
use lib.ListN.{length, get_or, take, length-append}
use lib.Seq.{take_at}
use lib.Count.{ones}
use borrow.Author.Tests.{not-false}
use Rattle.bank.specs.declared.Phase.{Phase}
use Rattle.bank.specs.Phases.{idle, assigning, requested, transfer}
use Rattle.bank.specs.Bursts.{bursting}
use Rattle.bank.proofs.Bools.{or_left}
use Rattle.registers.specs.Map.{register_at}
use Rattle.model.specs.declared.Call.{Call}
use Rattle.model.specs.declared.Call.TheVariants.{Read, Write, Start, Send, Receive, Finish, Interrupt, Request, Take, Trigger}
use Rattle.model.specs.Decision.{Decision, first, effect}
use Rattle.model.specs.Commands.{Command, first_word, length_of, receipt_word}
use Rattle.model.specs.Registers.{row}
use Rattle.model.specs.Calls.{command, start, send, receive, finish, interrupt, request, take_address}
use Rattle.model.specs.Bursts.{opening, last_command, trigger, burst_send, burst_receive, burst_finish, decide}
use Rattle.model.specs.Engine.{outcome, step, Lent, step_lent, final}
use Rattle.model.specs.Lists.{Lists, view_list, view_lists, settle_lists, lists}
use Rattle.model.specs.Demand.{Event, bus, started, sent, received, finished, addressed, other, Written, Tally, Run, event, follow, tally, direct_phase, cut, joined, taken_words, all_words, Every, opt, Each, moved, ReceiptOf, Fitting, AllEnded, is_open, receipts_of, Demand3}
use Rattle.model.proofs.Cut.{WellCut, cut_joined, joined_append}
use Rattle.model.proofs.Invariant.{OpenAs, OpenIn, Done, OrderOk, each_append, receipts_append}
use Rattle.model.proofs.Tests.{Passed, passed, of_two, Refusal, refusal}
use Rattle.model.proofs.Numbers.{write_number, all_refusals}
use Rattle.model.proofs.Events.{Key, key, direct, Good, send_good, receive_good, request_good, take_good, start_good, finish_good, interrupt_good, read_good, write_good, other_good, write_refused, read_refused}
use Rattle.model.proofs.Strays.{Steady, no_burst, steady_kept, sends, receives, finishes, stray_good, as_direct, key_in, key_finished, key_triggered}
use Rattle.model.proofs.Phases.{requested_assigns}

-- ── A call that no test refuses ───────────────────────────────────────────────────────────────────────────────
taken_counts : (b : Bool) → bus addressed ≡ cond (eqb (cond b 0 19) 0 || eqb (cond b 0 19) 19) (bus addressed) other
taken_counts true = refl
taken_counts false = refl

-- the tally after a call that decides so, and what the invariant then looks at
abbrev After : Option Tally → Lists → Call → Decision → Type 0
After o l c d = Good (follow o (event c (record { value = (effect d).value; number = (effect d).number }))) (key (settle_lists l (effect d)))

abbrev Served : Option Tally → Lists → Call → Decision → Type 0
Served o l c d = Passed d → After o l c d

-- outside a burst
module _ (o : Option Tally) (l : Lists) (n : bursting l.control ≡ false) where
  from : Good o (key l) → Good o (direct l)
  from g = subst (Good o) (as_direct l n) g

  to : (x : Event) (d : Decision) → (effect d).control.burst ≡ l.control.burst → Good (follow o x) (direct (settle_lists l (effect d))) → Good (follow o x) (key (settle_lists l (effect d)))
  to x d e g = subst (Good (follow o x)) (sym (as_direct (settle_lists l (effect d)) (ap (λ (k : ℕ). not (eqb k 0)) e ∙ n))) g

served_good : (o : Option Tally) (l : Lists) (c : Call) → Steady l.control l.phase → Good o (key l) → Served o l c (decide (view_lists l) c)
unfolding start send receive finish interrupt request take_address trigger burst_send burst_receive burst_finish
served_good o l (Read off) h g f = read_good o l off g
served_good o l (Write off v) h g f = rw (write_number (view_lists l) (row (register_at off)) v) (write_good o l off v f g)
served_good o l Start h g f =
    let n = no_burst l.control l.phase h (λ z. true≢false (sym (not-false (idle l.phase) f.1.1.0) ∙ z.0)) in
    to o l n (bus (started (first_word (command (view_list l.queues.cmd))))) (start (view_lists l)) refl (start_good o l f.1 (from o l n g))
served_good o l Send h g f =
    of_two (Served o l Send) (bursting l.control) (burst_send (view_lists l)) (send (view_lists l))
    (λ e k. subst (Good (follow o (bus sent))) (key_in l l.control l.phase (effect (burst_send (view_lists l))).phase e) (stray_good o l sent sends e g))
    (λ e k. to o l e (bus sent) (send (view_lists l)) refl (send_good o l k (from o l e g)))
    f.1
served_good o l (Receive b) h g f =
    of_two (Served o l (Receive b)) (bursting l.control) (burst_receive (view_lists l) b) (receive (view_lists l) b)
    (λ e k. subst (Good (follow o (bus received))) (key_in l l.control l.phase (effect (burst_receive (view_lists l) b)).phase e) (stray_good o l received receives e g))
    (λ e k. to o l e (bus received) (receive (view_lists l) b) refl (receive_good o l b k (from o l e g)))
    f.1
served_good o l (Finish code) h g f =
    of_two (Served o l (Finish code)) (bursting l.control) (burst_finish (view_lists l) code) (finish (view_lists l) code)
    (λ e k. subst (Good (follow o (bus (finished code 0)))) (key_finished l (last_command (view_lists l)) l.control.burst (opening (view_lists l) l.control.burst) e) (stray_good o l (finished code 0) (finishes code 0) e g))
    (λ e k. to o l e (bus (finished code (receipt_word code (transfer l.phase).moved.0 l.control.sync))) (finish (view_lists l) code) refl (finish_good o l code f.0 k (from o l e g)))
    f.1.1
served_good o l (Interrupt a b) h g f = interrupt_good o l a b g
served_good o l (Request v w) h g f =
    let n = no_burst l.control l.phase h (λ z. true≢false (sym (not-false (assigning l.phase) (or_left (not (assigning l.phase)) (requested l.phase) f.1.1.1.0)) ∙ z.1)) in
    to o l n (bus addressed) (request (view_lists l) v w) refl (request_good o l v w f.1 (from o l n g))
served_good o l Take h g f =
    let n = no_burst l.control l.phase h (λ z. true≢false (sym (requested_assigns l.phase (not-false (requested l.phase) f.1.1.1.0)) ∙ z.1)) in
    subst (λ (e : Event). Good (follow o e) (key (settle_lists l (effect (take_address (view_lists l)))))) (taken_counts (eqb (ones (get_or l.queues.sdo.words 0 0 / 2 ^ 24) % 2) 1))
    (to o l n (bus addressed) (take_address (view_lists l)) refl (take_good o l f.1 (from o l n g)))
served_good o l Trigger h g f = subst (Good (follow o other)) (key_triggered l (not-false (idle l.phase) f.1.1.0)) (other_good o (key l) g)

-- ── A call that is refused ────────────────────────────────────────────────────────────────────────────────────
refused_good : (o : Option Tally) (l : Lists) (c : Call) (n : ℕ) → first (decide (view_lists l) c) ≡ some n → Refusal n → Good o (key l) → Good (follow o (event c (record { value = 0; number = n }))) (key l)
refused_good o l (Read off) n e k g = rw k.not0 (read_refused o (key l) off g)
refused_good o l (Write off v) n e k g = rw k.not0 (write_refused o l off v n e g)
refused_good o l Start n e k g = rw k.not0 (other_good o (key l) g)
refused_good o l Send n e k g = rw k.not0 (other_good o (key l) g)
refused_good o l (Receive b) n e k g = rw k.not0 (other_good o (key l) g)
refused_good o l (Finish code) n e k g = rw k.not0 (other_good o (key l) g)
refused_good o l (Interrupt a b) n e k g = other_good o (key l) g
refused_good o l (Request v w) n e k g = rw k.not0 (other_good o (key l) g)
refused_good o l Take n e k g = rw (k.not0, k.not19) (other_good o (key l) g)
refused_good o l Trigger n e k g = other_good o (key l) g

-- ── Any call, any list of calls ───────────────────────────────────────────────────────────────────────────────
-- what every call keeps
pub record Kept (o : Option Tally) (l : Lists) : Type 0 where
  pub good : Good o (key l)
  pub steady : Steady l.control l.phase

outcome_kept : (o : Option Tally) (l : Lists) (c : Call) (m : Option ℕ) → first (decide (view_lists l) c) ≡ m → Kept o l → (let e = effect (decide (view_lists l) c) in let r = outcome m e l (settle_lists l e) in Kept (follow o (event c r.answer)) r.next)
outcome_kept o l c none e k =
    let f = passed (decide (view_lists l) c) e in
    record { good = served_good o l c k.steady k.good f; steady = steady_kept (view_lists l) c k.steady f }
outcome_kept o l c (some n) e k = record { good = refused_good o l c n e (refusal (decide (view_lists l) c) n (all_refusals (view_lists l) c) e) k.good; steady = k.steady }

pub step_kept : (o : Option Tally) (l : Lists) (c : Call) → Kept o l → Kept (follow o (event c (step lists l c).answer)) (step lists l c).next
unfolding step
step_kept o l c k = outcome_kept o l c (first (decide (view_lists l) c)) refl k

-- another output is lent
pub lent_kept : (o : Option Tally) (l : Lists) (w : List ℕ) → Kept o l → Kept o (lists.lend w l)
lent_kept o l w k = record { good = k.good; steady = k.steady }

run_kept : (cs : List Lent) (o : Option Tally) (l : Lists) → Kept o l → Kept (tally lists o l cs) (final lists l cs)
unfolding tally final
run_kept [] o l k = k
run_kept (c ∷ cs) o l k = run_kept cs (follow o (event c.call (step_lent lists l c).answer)) (step_lent lists l c).next (step_kept o (lists.lend c.output l) c.call (lent_kept o l c.output k))

-- ── The demand from the invariant ─────────────────────────────────────────────────────────────────────────────
each_map : (P Q : ℕ → Run → Command → Type 0) → ((i : ℕ) (r : Run) (c : Command) → P i r c → Q i r c) → (i : ℕ) (rs : List Run) (cs : List Command) → Each P i rs cs → Each Q i rs cs
unfolding Each
each_map P Q f i [] cs h = tt
each_map P Q f i (r ∷ rs) [] h = absurd h
each_map P Q f i (r ∷ rs) (c ∷ cs) h = (f i r c h.0, each_map P Q f (suc i) rs cs h.1)

-- the open run, if any, is of the command that is open
each_open : (P : ℕ → Run → Command → Type 0) (i : ℕ) (now : Option Run) (p : Phase) (here cs : List Command) → ((r : Run) (c : Command) → OpenAs r c p → P i r c) → OpenIn now p here → Each P i (opt now) (here ++ cs)
unfolding Each
each_open P i none p here cs f o = tt
each_open P i (some r) p here cs f o = rw o.here (f r o.command o.state, tt)

all_ended : (i : ℕ) (rs : List Run) (cs : List Command) → Each Done i rs cs → AllEnded rs
unfolding Each
all_ended i [] cs h = tt
all_ended i (r ∷ rs) [] h = absurd h
all_ended i (r ∷ rs) (c ∷ cs) h = (h.0.ended, all_ended (suc i) rs cs h.1)

open_same : (now : Option Run) (p : Phase) (here : List Command) → OpenIn now p here → is_open now ≡ not (idle p)
open_same none p here o = sym (ap not o.0)
open_same (some r) p here o = sym (ap not o.state.is_open)

well_here : (now : Option Run) (p : Phase) (here : List Command) → OpenIn now p here → WellCut here
well_here none p here o = rw o.1 tt
well_here (some r) p here o = rw o.here (o.state.cut_as, tt)

here_count : (now : Option Run) (p : Phase) (here : List Command) → OpenIn now p here → length here ≡ length (opt now)
here_count none p here o = rw o.1
here_count (some r) p here o = rw o.here

no_receipt : (now : Option Run) (p : Phase) (here : List Command) → OpenIn now p here → receipts_of (opt now) ≡ []
no_receipt none p here o = refl
no_receipt (some r) p here o = rw o.state.ending

module _ (taken : List ℕ) (past : List Run) (now : Option Run) (p : Phase) (q : List ℕ) (h : OrderOk taken past now p q) where
  -- the commands: those finished, the open one, those that wait
  pub all_commands : cut taken ≡ h.done ++ (h.here ++ cut q)
  all_commands = ap cut h.took ∙ cut_joined h.done (joined h.here ++ q) h.well ∙ ap (λ (l : List Command). h.done ++ l) (cut_joined h.here q (well_here now p h.here h.is_open))

  every : (P : ℕ → Run → Command → Type 0) → ((i : ℕ) (r : Run) (c : Command) → Done i r c → P i r c) → ((i : ℕ) (r : Run) (c : Command) → OpenAs r c p → P i r c) → Each P 0 (past ++ opt now) (cut taken)
  every P f g = rw all_commands (each_append P 0 past (opt now) h.done (h.here ++ cut q) h.count (each_map Done P f 0 past h.done h.served) (each_open P (0 + length past) now p h.here (cut q) (g (0 + length past)) h.is_open))

  still_waiting : taken ≡ joined (take (length (past ++ opt now)) (cut taken)) ++ q
  still_waiting =
      let n : length (h.done ++ h.here) ≡ length (past ++ opt now) = length-append h.done h.here ∙ ap₂ ◌+◌ h.count (here_count now p h.here h.is_open) ∙ sym (length-append past (opt now)) in
      let k : take (length (past ++ opt now)) (cut taken) ≡ h.done ++ h.here = ap (take (length (past ++ opt now))) (all_commands ∙ sym (append_assoc h.done h.here (cut q))) ∙ take_at (h.done ++ h.here) (cut q) (length (past ++ opt now)) n in
      h.took ∙ sym (append_assoc (joined h.done) (joined h.here) q) ∙ ap (λ (l : List ℕ). l ++ q) (sym (joined_append h.done h.here) ∙ ap joined (sym k))

open_receipt : (i : ℕ) (r : Run) (c : Command) (p : Phase) → OpenAs r c p → ReceiptOf i (moved r) r.ending
open_receipt i r c p o = rw o.ending tt

-- words that were all written with room seen were all taken
all_taken : (ws : List Written) → Every (λ w. w.room_seen ≡ true → w.taken ≡ true) ws → Every (λ w. w.room_seen ≡ true) ws → taken_words ws ≡ all_words ws
unfolding Every taken_words all_words
all_taken [] h k = refl
all_taken (w ∷ ws) h k = rw (h.0 k.0) (ap (λ (l : List ℕ). w.word ∷ l) (all_taken ws h.1 k.1))

pub demand : (t : Tally) (k : Key) → Good (some t) k → Demand3 t (not (idle k.phase)) k.cmd k.cmdr
demand t k g =
    let i = g.inv in
    let o = i.order in
    let n = every (taken_words t.words.written) t.past t.now k.phase k.cmd o in
    record {
      started = n (λ i r c. r.value ≡ first_word c) (λ i r c d. d.value) (λ i r c d. d.value);
      waiting = still_waiting (taken_words t.words.written) t.past t.now k.phase k.cmd o;
      finished = all_ended 0 t.past o.done o.served;
      opened = open_same t.now k.phase o.here o.is_open;
      receipted = n (λ i r c. ReceiptOf i (moved r) r.ending) (λ i r c d. d.receipt) (λ i r c d. open_receipt i r c k.phase d);
      bounded = n (λ i r c. moved r ≤ length_of c) (λ i r c d. d.most) (λ i r c d. d.most);
      fitting = n (λ i r c. Fitting r c) (λ i r c d. d.fitting) (λ i r c d. d.fitting);
      receipts = i.receipts.same ∙ sym (append-nil (receipts_of t.past)) ∙ ap (λ (l : List ℕ). receipts_of t.past ++ l) (sym (no_receipt t.now k.phase o.here o.is_open)) ∙ sym (receipts_append t.past (opt t.now));
      room = i.words.seen;
      credit = i.words.promised;
      complete = all_taken t.words.written i.words.seen;
    }

-- ── The theorem for lists ─────────────────────────────────────────────────────────────────────────────────────
pub whole : (l : Lists) → Kept none l → (cs : List Lent) (t : Tally) → tally lists none l cs ≡ some t → (let m = final lists l cs in Demand3 t (not (idle (direct_phase m.control m.phase))) m.queues.cmd.words m.queues.cmdr.words)
whole l g cs t e = demand t (key (final lists l cs)) (subst (λ (o : Option Tally). Good o (key (final lists l cs))) e (run_kept cs none l g).good)
