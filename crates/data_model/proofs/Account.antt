-- Where every data word went (02 §13): of the list engine by the invariant, then of the ring engine.
use native.Mathlib.Omega.{arith}
use Prim.Native.Nat.{ℕ, suc, ◌/◌, ◌%◌, ◌^◌}
use mathlib.Core.Path.{◌≡◌, refl, ap, sym, ◌∙◌, subst}
use mathlib.Core.Bool.{Bool, true, false, cond, not, ◌||◌, true≢false}
use mathlib.Core.List.{List, [], ◌∷◌, ◌++◌, append_assoc, append-nil}
use mathlib.Core.Option.{Option, none, some, none-ne-some}
use lib.Dec.{eqb}
use lib.ListN.{length, get_or}
use lib.Count.{ones}
use borrow.Author.Tests.{not-false, eqb-true, eqb-false}
use Rattle.bank.specs.declared.Phase.{Phase}
use Rattle.bank.specs.declared.Answer.{Answer}
use Rattle.bank.specs.Phases.{idle, assigning, requested as requested_p, transfer}
use Rattle.bank.specs.declared.Phase.TheVariants.{Idle}
use Rattle.bank.specs.Bursts.{bursting}
use Rattle.bank.specs.SetUp.{total}
use Rattle.bank.specs.Formed.{well_formed}
use Rattle.bank.proofs.Bools.{or_left}
use Rattle.registers.specs.Map.{register_at}
use Rattle.model.specs.declared.Call.{Call}
use Rattle.model.specs.declared.Call.TheVariants.{Read, Write, Start, Send, Receive, Finish, Interrupt, Request, Take, Trigger}
use Rattle.model.specs.Decision.{Decision, first, effect}
use Rattle.model.specs.Commands.{Command, first_word, receipt_word}
use Rattle.model.specs.Registers.{row}
use Rattle.model.specs.Calls.{command, start, send, receive, finish, interrupt, request, take_address}
use Rattle.model.specs.Bursts.{trigger, burst_send, burst_receive, burst_finish, decide}
use Rattle.model.specs.Engine.{Step, outcome, step, Lent, step_lent, final}
use Rattle.model.specs.Rings.{Controller, rings}
use Rattle.model.specs.Lists.{Lists, view_list, view_lists, settle_lists, lists}
use Rattle.model.specs.Laws.{fresh_controller, fresh_lists, WrongLength, SetUpWellFormed}
use Rattle.model.specs.Demand.{Fitting, Event, Tally, Run, opt, event, follow, tally, cut, taken_words, Each, write_event, read_event, word, wrote, commands as commands_t, runs}
use Rattle.model.specs.Demand.{bus as bus_t, started as started_t, sent as sent_t, received as received_t, addressed as addressed_t, finished as finished_t, other as other_t}
use Rattle.data_model.specs.Ledger.{Ledger, DataRun, DataEvent, moving, no_data, starting, sending, receiving, asking, taking, finishing, data_event, note, ledger, took_address, data_runs}
use Rattle.data_model.specs.Account.{Named, gone, Departure, departures, leaving, used_by, came_of, arrivals, DataAccount, DataKept, RunOf, Went}
use Rattle.model.proofs.Tests.{Passed, passed, of_two, Refusal, refusal}
use Rattle.model.proofs.Numbers.{write_number, all_refusals}
use Rattle.model.proofs.Phases.{requested_assigns}
use Rattle.model.proofs.Events.{key, direct, Good}
use Rattle.model.proofs.Strays.{Steady, no_burst, as_direct}
use Rattle.model.proofs.ListDemand.{all_commands, Kept as KeptT, step_kept as step-keptT, lent_kept as lent-keptT, demand as demand_t}
use Rattle.model.proofs.Rings.{listed}
use Rattle.model.proofs.Simulation.{Sound, lent_same, lent_stays, same_final, wrong_length, set_up_well_formed}
use Rattle.model.proofs.Laws.{fresh_sound}
use Rattle.model.proofs.Demand.{fresh_kept}
use Rattle.data_model.proofs.Flow.{OpenFlow, brought_by, used_left, all_snoc, arrivals_snoc}
use Rattle.data_model.proofs.Bytes.{AllLeft, left_went, left_append}
use Rattle.model.proofs.Invariant.{OpenIn, OrderOk, lost_one}
use Rattle.data_model.proofs.Books.{AlikeRun, Alike, AlikeNow, alike_closed, alike_length, FlowIn, Both, alike_append, alike_opt}
use Rattle.data_model.proofs.Calls.{Look, look, look_at, Kept, other_kept, send_kept, receive_kept, request_kept, take_kept, start_kept, finish_kept, stray_sent, stray_received, stray_finished, trigger_kept, read_kept, write_kept}

-- ── A call that no test refuses ───────────────────────────────────────────────────────────────────────────────
abbrev After : Option Tally → Option Ledger → Lists → Call → Decision → Type 0
After o q l c d = (let a : Answer = record { value = (effect d).value; number = (effect d).number } in Kept (follow o (event c a)) (note q (data_event c a)) (look (settle_lists l (effect d))))

abbrev Served : Option Tally → Option Ledger → Lists → Call → Decision → Type 0
Served o q l c d = Passed d → After o q l c d

-- outside a burst the phase is the direct transfer's
module _ (o : Option Tally) (q : Option Ledger) (l : Lists) (n : bursting l.control ≡ false) where
  from : Kept o q (look l) → Kept o q (look_at l.phase l)
  from h = subst (λ (b : Bool). Kept o q (look_at (cond b Idle l.phase) l)) n h

  good : Good o (key l) → Good o (direct l)
  good g = subst (Good o) (as_direct l n) g

  to : (e : Event) (x : DataEvent) (d : Decision) → (effect d).control.burst ≡ l.control.burst → Kept (follow o e) (note q x) (look_at (effect d).phase (settle_lists l (effect d))) → Kept (follow o e) (note q x) (look (settle_lists l (effect d)))
  to e x d s h = subst (λ (b : Bool). Kept (follow o e) (note q x) (look_at (cond b Idle (effect d).phase) (settle_lists l (effect d)))) (sym (ap (λ (k : ℕ). not (eqb k 0)) s ∙ n)) h

-- an address counts by whether its parity is right, which its number tells
taken_either : (o : Option Tally) (q : Option Ledger) (k : Look) (v : ℕ) (b : Bool) → Kept (follow o (bus_t addressed_t)) (note q (moving (taking (record { value = v; right = b })))) k
    → (let n : ℕ = cond b 0 19 in Kept (follow o (cond (eqb n 0 || eqb n 19) (bus_t addressed_t) other_t)) (note q (took_address v n)) k)
taken_either o q k v true h = h
taken_either o q k v false h = h

served_kept : (o : Option Tally) (q : Option Ledger) (l : Lists) (c : Call) → Steady l.control l.phase → Good o (key l) → Kept o q (look l) → Served o q l c (decide (view_lists l) c)
unfolding start send receive finish interrupt request take_address trigger burst_send burst_receive burst_finish
served_kept o q l (Read off) s g h f = read_kept o q l off h
served_kept o q l (Write off v) s g h f = rw (write_number (view_lists l) (row (register_at off)) v) (write_kept o q l off v f g h)
served_kept o q l Start s g h f =
    let n = no_burst l.control l.phase s (λ z. true≢false (sym (not-false (idle l.phase) f.1.1.0) ∙ z.0)) in
    let v = first_word (command (view_list l.queues.cmd)) in
    to o q l n (bus_t (started_t v)) (moving (starting v)) (start (view_lists l)) refl (start_kept l o q f.1 (good o q l n g) (from o q l n h))
served_kept o q l Send s g h f =
    of_two (Served o q l Send) (bursting l.control) (burst_send (view_lists l)) (send (view_lists l))
    (λ e k. stray_sent o q l _ _ e g h)
    (λ e k. to o q l e (bus_t sent_t) (moving (sending (effect (send (view_lists l))).value)) (send (view_lists l)) refl (send_kept l o q k (good o q l e g) (from o q l e h)))
    f.1
served_kept o q l (Receive b) s g h f =
    of_two (Served o q l (Receive b)) (bursting l.control) (burst_receive (view_lists l) b) (receive (view_lists l) b)
    (λ e k. stray_received o q l _ b e g h)
    (λ e k. to o q l e (bus_t received_t) (moving (receiving b)) (receive (view_lists l) b) refl (receive_kept l o q b k (good o q l e g) (from o q l e h)))
    f.1
served_kept o q l (Finish code) s g h f =
    of_two (Served o q l (Finish code)) (bursting l.control) (burst_finish (view_lists l) code) (finish (view_lists l) code)
    (λ e k. stray_finished o q l _ code 0 e g h)
    (λ e k. to o q l e (bus_t (finished_t code (receipt_word code (transfer l.phase).moved.0 l.control.sync))) (moving (finishing code)) (finish (view_lists l) code) refl (finish_kept l o q code k (good o q l e g) (from o q l e h)))
    f.1.1
served_kept o q l (Interrupt a b) s g h f = other_kept o q (look l) h
served_kept o q l (Request v w) s g h f =
    let n = no_burst l.control l.phase s (λ z. true≢false (sym (not-false (assigning l.phase) (or_left (not (assigning l.phase)) (requested_p l.phase) f.1.1.1.0)) ∙ z.1)) in
    to o q l n (bus_t addressed_t) (moving (asking v w)) (request (view_lists l) v w) refl (request_kept l o q v w f.1 (good o q l n g) (from o q l n h))
served_kept o q l Take s g h f =
    let n = no_burst l.control l.phase s (λ z. true≢false (sym (requested_assigns l.phase (not-false (requested_p l.phase) f.1.1.1.0)) ∙ z.1)) in
    let w = get_or l.queues.sdo.words 0 0 in
    let b = eqb (ones (w / 2 ^ 24) % 2) 1 in
    taken_either o q (look (settle_lists l (effect (take_address (view_lists l))))) (w / 2 ^ 25) b
    (to o q l n (bus_t addressed_t) (moving (taking (record { value = w / 2 ^ 25; right = b }))) (take_address (view_lists l)) refl (take_kept l o q f.1 (good o q l n g) (from o q l n h)))
served_kept o q l Trigger s g h f = trigger_kept o q l _ (not-false (idle l.phase) f.1.1.0) g h

-- ── A call that is refused ────────────────────────────────────────────────────────────────────────────────────
read_refused : (o : Option Tally) (q : Option Ledger) (k : Look) (off : ℕ) → Kept o q k → Kept (follow o (read_event off 0 false)) (note q no_data) k
read_refused o q k off h = go (eqb off 0x0c0) (eqb off 0x0d8)
  where
    go : (a b : Bool) → Kept (follow o (cond a other_t (cond b other_t other_t))) (note q no_data) k
    go true b = other_kept o q k h
    go false true = other_kept o q k h
    go false false = other_kept o q k h

-- a command word that was not taken is in neither book's commands
lost_kept : (o : Option Tally) (q : Option Ledger) (k : Look) (v : ℕ) → Kept o q k → Kept (follow o (word (wrote false v))) (note q no_data) k
lost_kept none none k v h = h
lost_kept none (some x) k v h = absurd h
lost_kept (some t) none k v h = absurd h
lost_kept (some t) (some x) k v h = record { cmds = lost_one t.words v ∙ h.cmds; pasts = h.pasts; nows = h.nows; strays = h.strays; flow = h.flow }

write_refused : (o : Option Tally) (q : Option Ledger) (k : Look) (off v : ℕ) → Kept o q k → Kept (follow o (write_event off v false)) (note q no_data) k
write_refused o q k off v h = go (eqb off 0x040) (eqb off 0x0d4)
  where
    go : (a b : Bool) → Kept (follow o (cond a other_t (cond b (word (wrote false v)) other_t))) (note q no_data) k
    go true b = other_kept o q k h
    go false true = lost_kept o q k v h
    go false false = other_kept o q k h

refused_kept : (o : Option Tally) (q : Option Ledger) (k : Look) (c : Call) (n : ℕ) → Refusal n → Kept o q k → (let a : Answer = record { value = 0; number = n } in Kept (follow o (event c a)) (note q (data_event c a)) k)
refused_kept o q k (Read off) n r h = rw r.not0 (read_refused o q k off h)
refused_kept o q k (Write off v) n r h = rw r.not0 (write_refused o q k off v h)
refused_kept o q k Start n r h = rw r.not0 (other_kept o q k h)
refused_kept o q k Send n r h = rw r.not0 (other_kept o q k h)
refused_kept o q k (Receive b) n r h = rw r.not0 (other_kept o q k h)
refused_kept o q k (Finish code) n r h = rw r.not0 (other_kept o q k h)
refused_kept o q k (Interrupt a b) n r h = other_kept o q k h
refused_kept o q k (Request v w) n r h = rw r.not0 (other_kept o q k h)
refused_kept o q k Take n r h = rw (r.not0, r.not19) (other_kept o q k h)
refused_kept o q k Trigger n r h = other_kept o q k h

-- ── Any call, any list of calls ───────────────────────────────────────────────────────────────────────────────
outcome_kept : (o : Option Tally) (q : Option Ledger) (l : Lists) (c : Call) (m : Option ℕ) → first (decide (view_lists l) c) ≡ m → KeptT o l → Kept o q (look l)
    → (let e = effect (decide (view_lists l) c) in let r = outcome m e l (settle_lists l e) in Kept (follow o (event c r.answer)) (note q (data_event c r.answer)) (look r.next))
outcome_kept o q l c none e k h = served_kept o q l c k.steady k.good h (passed (decide (view_lists l) c) e)
outcome_kept o q l c (some n) e k h = refused_kept o q (look l) c n (refusal (decide (view_lists l) c) n (all_refusals (view_lists l) c) e) h

step_kept : (o : Option Tally) (q : Option Ledger) (l : Lists) (c : Call) → KeptT o l → Kept o q (look l) → Kept (follow o (event c (step lists l c).answer)) (note q (data_event c (step lists l c).answer)) (look (step lists l c).next)
unfolding step
step_kept o q l c k h = outcome_kept o q l c (first (decide (view_lists l) c)) refl k h

pub record Joint (o : Option Tally) (q : Option Ledger) (l : Lists) : Type 0 where
  pub tallied : KeptT o l
  pub booked : Kept o q (look l)

run_kept : (cs : List Lent) (o : Option Tally) (q : Option Ledger) (l : Lists) → KeptT o l → Kept o q (look l) → Joint (tally lists o l cs) (ledger lists q l cs) (final lists l cs)
unfolding tally ledger final
run_kept [] o q l k h = record { tallied = k; booked = h }
run_kept (c ∷ cs) o q l k h =
    let m = lists.lend c.output l in
    let a = (step_lent lists l c).answer in
    let kt = lent-keptT o l c.output k in
    run_kept cs (follow o (event c.call a)) (note q (data_event c.call a)) (step_lent lists l c).next (step-keptT o m c.call kt) (step_kept o q m c.call kt h)

-- ── The claims from the invariant ─────────────────────────────────────────────────────────────────────────────
none_there : (l : List ℕ) → length l ≡ 0 → l ≡ []
none_there [] e = refl
none_there (x ∷ l) e = absurd (omega (arith, e))

run_of : (r : Run) (d : DataRun) (c : Command) → AlikeRun r d → r.value ≡ first_word c → Fitting r c → RunOf d c
run_of r d c a v f =
    record {
      value = sym a.value ∙ v;
      sent = λ e. none_there d.sent (sym a.sends ∙ f.sends e);
      received = λ e. none_there d.received (sym a.receives ∙ f.receives e);
      asked = λ e. (a.addresses (f.addresses e)).0;
      addresses = λ e. (a.addresses (f.addresses e)).1;
    }

named_runs : (i : ℕ) (rs : List Run) (ds : List DataRun) (cs : List Command) → Alike rs ds → Each (λ i r c. r.value ≡ first_word c) i rs cs → Each (λ i r c. Fitting r c) i rs cs → Named ds cs
unfolding Each Named
named_runs i [] [] cs a h f = tt
named_runs i [] (d ∷ ds) cs a h f = absurd a
named_runs i (r ∷ rs) [] cs a h f = absurd a
named_runs i (r ∷ rs) (d ∷ ds) [] a h f = absurd h
named_runs i (r ∷ rs) (d ∷ ds) (c ∷ cs) a h f = (run_of r d c a.0 h.0 f.0, named_runs (suc i) rs ds cs a.1 h.1 f.1)

-- a run without an ending removes nothing
open_leaving : (i n : ℕ) (d : DataRun) (c : Command) → d.closed ≡ none → leaving i n d c ≡ used_by i d
open_leaving i n d c e = rw e (append-nil (used_by i d))

all_left : (t : Tally) (x : Ledger) (p : Phase) (cmd sdo sdi : List ℕ) (q : OrderOk (taken_words t.words.written) t.past t.now p cmd) (h : Both t x p sdo sdi) → AllLeft (gone x) (h.flow.before ++ h.flow.here)
all_left t x p cmd sdo sdi q h = go t.now x.now h.nows q.is_open h.flow.is_open
  where
    w : FlowIn x x.now p sdo sdi
    w = h.flow

    same_cut : cut x.cmd ≡ q.done ++ (q.here ++ cut cmd)
    same_cut = ap cut (sym h.cmds) ∙ all_commands (taken_words t.words.written) t.past t.now p cmd q

    go : (a : Option Run) (b : Option DataRun) → AlikeNow a b → OpenIn a p q.here → OpenFlow (length x.past) b p w.here → AllLeft (departures 0 0 (x.past ++ opt b) (cut x.cmd)) (w.before ++ w.here)
    go none none n o f =
        subst (λ (l : List DataRun). AllLeft (departures 0 0 l (cut x.cmd)) (w.before ++ w.here)) (sym (append-nil x.past))
        (subst (λ (l : List ℕ). AllLeft (departures 0 0 x.past (cut x.cmd)) (w.before ++ l)) (sym f) (subst (AllLeft (departures 0 0 x.past (cut x.cmd))) (sym (append-nil w.before)) w.gone))
    go none (some d) n o f = absurd n
    go (some r) none n o f = absurd n
    go (some r) (some d) n o f =
        let c = o.command in
        let i = length x.past in
        let e : cut x.cmd ≡ q.done ++ (c ∷ cut cmd) = same_cut ∙ ap (λ (l : List Command). q.done ++ (l ++ cut cmd)) o.here in
        let ds = departures 0 0 x.past (cut x.cmd) in
        let s : departures 0 0 (x.past ++ (d ∷ [])) (cut x.cmd) ≡ ds ++ leaving i (length ds) d c =
        subst (λ (y : List Command). departures 0 0 (x.past ++ (d ∷ [])) y ≡ departures 0 0 x.past y ++ leaving i (length (departures 0 0 x.past y)) d c) (sym e)
        (all_snoc x.past d q.done (cut cmd) c (q.count ∙ alike_length t.past x.past h.pasts)) in
        subst (λ (l : List Departure). AllLeft l (w.before ++ w.here)) (sym (s ∙ ap (λ (l : List Departure). ds ++ l) (open_leaving i (length ds) d c f.1)))
        (left_append ds (used_by i d) w.before w.here w.gone (used_left i d p w.here f.0))

all_came : (x : Ledger) (p : Phase) (here : List ℕ) (b : Option DataRun) → OpenFlow (length x.past) b p here → arrivals x.past ++ brought_by b ≡ arrivals (x.past ++ opt b)
all_came x p here none f = append-nil (arrivals x.past) ∙ sym (ap arrivals (append-nil x.past))
all_came x p here (some d) f = sym (arrivals_snoc x.past d ∙ ap (λ (e : Option _). arrivals x.past ++ (d.asked ++ came_of e d.received)) f.1)

account : (t : Tally) (x : Ledger) (l : Lists) → Good (some t) (key l) → Kept (some t) (some x) (look l) → DataAccount x (look l).sdo (look l).sdi
account t x l g h =
    let w = h.flow in
    let demand = demand_t t (key l) g in
    let alike = alike_append t.past (opt t.now) x.past (opt x.now) h.pasts (alike_opt t.now x.now h.nows) in
    let gone-words = w.before ++ w.here in
    record {
      named = subst (Named (data_runs x)) (ap cut h.cmds) (named_runs 0 (runs t) (data_runs x) (commands_t t) alike demand.started demand.fitting);
      finished = alike_closed t.past x.past h.pasts demand.finished;
      in_runs = h.strays;
      sdo =
          subst (λ (ws : List ℕ). Went (gone x) ws (look l).sdo) (sym (w.all ∙ sym (append_assoc w.before w.here (look l).sdo)))
          (left_went (gone x) gone-words (look l).sdo (all_left t x (look l).phase l.queues.cmd.words (look l).sdo (look l).sdi g.inv.order h));
      sdi = w.came ∙ all_came x (look l).phase w.here x.now w.is_open;
    }

-- ── The theorem for lists ─────────────────────────────────────────────────────────────────────────────────────
abbrev Claim : Ledger → Lists → Type 0
Claim x m = DataAccount x m.queues.sdo.words m.queues.sdi.words

whole : (m : Lists) → KeptT none m → Kept none none (look m) → (cs : List Lent) (x : Ledger) → ledger lists none m cs ≡ some x → Claim x (final lists m cs)
whole m k h cs x e = go (tally lists none m cs) r.tallied (subst (λ (q : Option Ledger). Kept (tally lists none m cs) q (look (final lists m cs))) e r.booked)
  where
    r : Joint (tally lists none m cs) (ledger lists none m cs) (final lists m cs)
    r = run_kept cs none none m k h

    go : (o : Option Tally) → KeptT o (final lists m cs) → Kept o (some x) (look (final lists m cs)) → Claim x (final lists m cs)
    go none k h = absurd h
    go (some t) k h = account t x (final lists m cs) k.good h

-- ── Rings ─────────────────────────────────────────────────────────────────────────────────────────────────────
same_ledger : (cs : List Lent) (q : Option Ledger) (l : Controller) (m : Lists) → Sound l m → ledger rings q l cs ≡ ledger lists q m cs
unfolding ledger
same_ledger [] q l m h = refl
same_ledger (c ∷ cs) q l m h =
    ap (λ (a : Answer). ledger rings (note q (data_event c.call a)) (step_lent rings l c).next cs) (lent_same l m c h)
    ∙ same_ledger cs (note q (data_event c.call (step_lent lists m c).answer)) (step_lent rings l c).next (step_lent lists m c).next (lent_stays l m c h)

from_lists : (l : Controller) (m : Lists) → Sound l m → KeptT none m → Kept none none (look m) → (cs : List Lent) (x : Ledger) → ledger rings none l cs ≡ some x → Claim x (listed (final rings l cs))
from_lists l m h k b cs x e = subst (Claim x) (sym (same_final cs l m h).is) (whole m k b cs x (sym (same_ledger cs none l m h) ∙ e))

-- with a store of another length every call is answered 22, and nothing is noted
nothing_noted : (c : Call) → note none (data_event c (record { value = 0; number = 22 })) ≡ none
nothing_noted (Read o) = refl
nothing_noted (Write o v) = refl
nothing_noted Start = refl
nothing_noted Send = refl
nothing_noted (Receive b) = refl
nothing_noted (Finish code) = refl
nothing_noted (Interrupt a b) = refl
nothing_noted (Request v w) = refl
nothing_noted Take = refl
nothing_noted Trigger = refl

never_released : (cs : List Lent) (l : Controller) → well_formed l.bank ≡ true → (length l.store ≡ total l.bank.state.caps → ⊥) → ledger rings none l cs ≡ none
unfolding ledger WrongLength
never_released [] l h z = refl
never_released (c ∷ cs) l h z =
    let m = rings.lend c.output l in
    ap (λ (x : Step Controller). ledger rings (note none (data_event c.call x.answer)) x.next cs) (wrong_length m c.call h z)
    ∙ ap (λ (q : Option Ledger). ledger rings q m cs) (nothing_noted c.call)
    ∙ never_released cs m h z

pub data_kept : DataKept
unfolding DataKept SetUpWellFormed
data_kept caps marks id store cs x n e = go (eqb (length store) (total l.bank.state.caps)) refl
  where
    l : Controller
    l = fresh_controller caps marks id store

    go : (b : Bool) → eqb (length store) (total l.bank.state.caps) ≡ b → Claim x (listed (final rings l cs))
    go true z = from_lists l (fresh_lists caps marks id) (fresh_sound caps marks id store n (eqb-true (length store) (total l.bank.state.caps) z)) (fresh_kept caps marks id n) (refl, refl) cs x e
    go false z = absurd (none-ne-some x (sym (never_released cs l (set_up_well_formed caps marks id n) (eqb-false (length store) (total l.bank.state.caps) z)) ∙ e))
