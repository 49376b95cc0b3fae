-- Each call of the list engine keeps tally and ledger tied to its queues.
use Prim.Native.Nat.{ℕ, ◌+◌, ◌/◌, ◌%◌, ◌^◌}
use native.Mathlib.Omega.{arith}
use mathlib.Core.Path.{◌≡◌, refl, ap, sym, ◌∙◌, subst}
use mathlib.Core.Bool.{Bool, true, false, cond, not, true≢false, false≢true}
use mathlib.Core.List.{List, [], ◌∷◌}
use mathlib.Core.Option.{Option, none, some}
use lib.Dec.{eqb}
use lib.ListN.{length, drop, get_or}
use lib.Count.{ones}
use borrow.Author.Tests.{eqb-true, not-false}
use Rattle.bank.specs.declared.Control.{Control}
use Rattle.bank.specs.declared.Phase.{Phase}
use Rattle.bank.specs.declared.Phase.TheVariants.{Idle}
use Rattle.bank.specs.Phases.{idle, writing, reading, assigning, requested as requested_p, transfer}
use Rattle.bank.specs.Bursts.{bursting}
use Rattle.bank.specs.Bits.{bit}
use Rattle.bank.proofs.Bools.{or_left}
use Rattle.registers.specs.Map.{named, entry_at, register_at}
use Rattle.queues.specs.declared.Queue.TheVariants.{Cmd, Cmdr, Sdo, Sdi, Ibi}
use Rattle.queues.specs.Each.{of, each}
use Rattle.model.specs.Decision.{Decision, Effect, effect}
use Rattle.model.specs.Commands.{Command, first_word, receipt_word}
use Rattle.model.specs.Registers.{Row, absent, shows, holds, pushes, takes, enables, acknowledges, row, enable, taken_first, read, write}
use Rattle.model.specs.Calls.{command, attached, start, send, receive, finish, request, take_address}
use Rattle.model.specs.Lists.{Lists, view_list, view_lists, settle_lists}
use Rattle.model.specs.Demand.{Event, Tally, snoc, follow, direct_phase, cut, taken_words, change, count_run, read_event, write_event, word, wrote, saw_room, got_receipt, nothing}
use Rattle.model.specs.Demand.{bus as bus_t, started as started_t, sent as sent_t, received as received_t, addressed as addressed_t, finished as finished_t, other as other_t, enabled as enabled_t}
use Rattle.data_model.specs.Ledger.{Address, Ledger, DataEvent, switched, cmd_took, sdo_took, sdi_gave, moving, no_data, starting, sending, receiving, asking, taking, finishing, grow, note, gave_at, took_at, blank, if_open, outside_run}
use Rattle.data_model.specs.Account.{departures, arrivals}
use Rattle.model.proofs.Invariant.{took_one}
use Rattle.model.proofs.Tests.{Passed, of_take}
use Rattle.model.proofs.Phases.{writing_is, reading_is, requested_assigns}
use Rattle.model.proofs.Offsets.{found, offload_is}
use Rattle.model.proofs.Events.{key, direct, Good}
use Rattle.data_model.proofs.Bytes.{AllLeft}
use Rattle.data_model.proofs.Flow.{Flow, flow_took, flow_gave, flow_command, flow_request, flow_address}
use Rattle.data_model.proofs.Books.{alike_sent, alike_received, alike_asked, alike_taken, alike_finished, alike_length, FlowIn, Books, cut_more, enough}
use Rattle.data_model.proofs.Moves.{send_flow, receive_flow, with_now, with_run, move_both, in_run, astray_both, stray_both, quiet_both, start_both, stray_finish, finish_both}

-- what the books look at
pub record Look : Type 0 where
  pub phase : Phase
  pub sdo : List ℕ
  pub sdi : List ℕ

abbrev pub look_at : Phase → Lists → Look
look_at p l = record { phase = p; sdo = l.queues.sdo.words; sdi = l.queues.sdi.words }

abbrev pub look : Lists → Look
look l = look_at (direct_phase l.control l.phase) l

abbrev pub Kept : Option Tally → Option Ledger → Look → Type 0
Kept o q k = Books o q k.phase k.sdo k.sdi

pub other_kept : (o : Option Tally) (q : Option Ledger) (k : Look) → Kept o q k → Kept (follow o other_t) (note q no_data) k
other_kept none none k h = h
other_kept none (some x) k h = absurd h
other_kept (some t) none k h = absurd h
other_kept (some t) (some x) k h = h

-- ── Outside a burst ───────────────────────────────────────────────────────────────────────────────────────────
abbrev After : Option Tally → Option Ledger → Lists → Event → DataEvent → Decision → Type 0
After o q l e x d = Kept (follow o e) (note q x) (look_at (effect d).phase (settle_lists l (effect d)))

held_not : (l : Lists) → Good none (direct l) → l.control.held ≡ false → ⊥
held_not l g e = true≢false (sym g.is_held ∙ e)

module _ (l : Lists) where
  pub send_kept : (o : Option Tally) (q : Option Ledger) → Passed (send (view_lists l)) → Good o (direct l) → Kept o q (look_at l.phase l) → After o q l (bus_t sent_t) (moving (sending (effect (send (view_lists l))).value)) (send (view_lists l))
  unfolding send
  send_kept none q f g h = absurd (held_not l g f.0)
  send_kept (some t) none f g h = absurd h
  send_kept (some t) (some x) f g h =
      let e = writing_is l.phase (not-false (writing l.phase) f.1.1.1.0) in
      let c = cut x.cmd in
      let sdo = l.queues.sdo.words in
      let sdi = l.queues.sdi.words in
      move_both t x l.phase _ sdo _ sdi _ g.inv.order.here (count_run sent_t) (grow (length x.sdo) (sending _)) (λ r d a. alike_sent (length x.sdo) r d a _) f.1.0 g.inv.order.is_open
      (λ d k. send_flow x.past c x.sdo x.sdi d (length x.sdo) (transfer l.phase) sdo sdi f.1.1.1.1.1.0 (subst (λ (p : Phase). FlowIn x (some d) p sdo sdi) e k)) h

  pub receive_kept : (o : Option Tally) (q : Option Ledger) (b : ℕ) → Passed (receive (view_lists l) b) → Good o (direct l) → Kept o q (look_at l.phase l) → After o q l (bus_t received_t) (moving (receiving b)) (receive (view_lists l) b)
  unfolding receive
  receive_kept none q b f g h = absurd (held_not l g f.0)
  receive_kept (some t) none b f g h = absurd h
  receive_kept (some t) (some x) b f g h =
      let e = reading_is l.phase (not-false (reading l.phase) f.1.1.1.0) in
      let c = cut x.cmd in
      let sdo = l.queues.sdo.words in
      let sdi = l.queues.sdi.words in
      move_both t x l.phase _ sdo _ sdi _ g.inv.order.here (count_run received_t) (grow (length x.sdo) (receiving b)) (λ r d a. alike_received (length x.sdo) r d a b) f.1.0 g.inv.order.is_open
      (λ d k. receive_flow x.past c x.sdo x.sdi d (length x.sdo) (transfer l.phase) b sdo sdi (subst (λ (p : Phase). FlowIn x (some d) p sdo sdi) e k)) h

  pub request_kept : (o : Option Tally) (q : Option Ledger) (v w : ℕ) → Passed (request (view_lists l) v w) → Good o (direct l) → Kept o q (look_at l.phase l) → After o q l (bus_t addressed_t) (moving (asking v w)) (request (view_lists l) v w)
  unfolding request
  request_kept none q v w f g h = absurd (held_not l g f.0)
  request_kept (some t) none v w f g h = absurd h
  request_kept (some t) (some x) v w f g h =
      let a = not-false (assigning l.phase) (or_left (not (assigning l.phase)) (requested_p l.phase) f.1.1.0) in
      let sdo = l.queues.sdo.words in
      let sdi = l.queues.sdi.words in
      let grown = grow (length x.sdo) (asking v w) in
      astray_both (with_now t (change (count_run addressed_t) t.now)) (with_run x (if_open grown x.now)) (x.astray + outside_run x.now) _ _ _ (in_run t x l.phase sdo sdi g.inv.order.here f.1.0 g.inv.order.is_open h)
      (move_both t x l.phase _ sdo _ sdi _ g.inv.order.here (count_run addressed_t) grown (λ r d a. alike_asked (length x.sdo) r d a v w) f.1.0 g.inv.order.is_open
      (λ d k. flow_request x.past (cut x.cmd) x.sdo x.sdi d (length x.sdo) l.phase (transfer l.phase) v w sdo sdi a k) h)

  nonempty : (q : List ℕ) → eqb (length q) 0 ≡ false → q ≡ get_or q 0 0 ∷ drop 1 q
  nonempty [] e = absurd (true≢false e)
  nonempty (w ∷ q) e = refl

  pub take_kept : (o : Option Tally) (q : Option Ledger) → Passed (take_address (view_lists l)) → Good o (direct l) → Kept o q (look_at l.phase l)
      → (let w = get_or l.queues.sdo.words 0 0 in After o q l (bus_t addressed_t) (moving (taking (record { value = w / 2 ^ 25; right = eqb (ones (w / 2 ^ 24) % 2) 1 }))) (take_address (view_lists l)))
  unfolding take_address
  take_kept none q f g h = absurd (held_not l g f.0)
  take_kept (some t) none f g h = absurd h
  take_kept (some t) (some x) f g h =
      let a = requested_assigns l.phase (not-false (requested_p l.phase) f.1.1.0) in
      let sdo = l.queues.sdo.words in
      let sdi = l.queues.sdi.words in
      let w = get_or sdo 0 0 in
      let y : Address = record { value = w / 2 ^ 25; right = eqb (ones (w / 2 ^ 24) % 2) 1 } in
      let grown = grow (length x.sdo) (taking y) in
      astray_both (with_now t (change (count_run addressed_t) t.now)) (with_run x (if_open grown x.now)) (x.astray + outside_run x.now) _ _ _ (in_run t x l.phase sdo sdi g.inv.order.here f.1.0 g.inv.order.is_open h)
      (move_both t x l.phase _ sdo _ sdi _ g.inv.order.here (count_run addressed_t) grown (λ r d a. alike_taken (length x.sdo) r d a y) f.1.0 g.inv.order.is_open
      (λ d k. flow_address x.past (cut x.cmd) x.sdo x.sdi d (length x.sdo) l.phase (transfer l.phase) y y.right w (drop 1 sdo) sdi a (refl, refl)
      (subst (λ (s : List ℕ). FlowIn x (some d) l.phase s sdi) (nonempty sdo f.1.1.1.0) k)) h)

  pub start_kept : (o : Option Tally) (q : Option Ledger) → Passed (start (view_lists l)) → Good o (direct l) → Kept o q (look_at l.phase l) → (let v = first_word (command (view_list l.queues.cmd)) in After o q l (bus_t (started_t v)) (moving (starting v)) (start (view_lists l)))
  unfolding start
  start_kept none q f g h = absurd (held_not l g f.0)
  start_kept (some t) none f g h = absurd h
  start_kept (some t) (some x) f g h =
      let c = command (view_list l.queues.cmd) in
      start_both t x l.phase l.queues.sdo.words l.queues.sdi.words g.inv.order.here c (attached (view_lists l) c) (first_word c) (not-false (idle l.phase) f.1.0) g.inv.order.is_open h

  pub finish_kept : (o : Option Tally) (q : Option Ledger) (code : ℕ) → Passed (finish (view_lists l) code) → Good o (direct l) → Kept o q (look_at l.phase l)
      → After o q l (bus_t (finished_t code (receipt_word code (transfer l.phase).moved.0 l.control.sync))) (moving (finishing code)) (finish (view_lists l) code)
  unfolding finish
  finish_kept none q code f g h = absurd (held_not l g f.0)
  finish_kept (some t) none code f g h = absurd h
  finish_kept (some t) (some x) code f g h =
      finish_both t x l.phase l.queues.cmd.words l.queues.sdo.words l.queues.sdi.words (count_run (finished_t code (receipt_word code (transfer l.phase).moved.0 l.control.sync))) code (λ r d a. alike_finished (length x.sdo) r d a code _) f.1.0 g.inv.order h

-- ── Inside a burst ────────────────────────────────────────────────────────────────────────────────────────────
idle_in : (c : Control) (p : Phase) → bursting c ≡ true → idle (direct_phase c p) ≡ true
idle_in c p e = rw e

pub stray_sent : (o : Option Tally) (q : Option Ledger) (l : Lists) (p : Phase) (b : ℕ) → bursting l.control ≡ true → Good o (key l) → Kept o q (look l) → Kept (follow o (bus_t sent_t)) (note q (moving (sending b))) (look_at p l)
stray_sent none none l p b e g h = h
stray_sent none (some x) l p b e g h = absurd h
stray_sent (some t) none l p b e g h = absurd h
stray_sent (some t) (some x) l p b e g h = stray_both t x (look l).phase p (look l).sdo (look l).sdi g.inv.order.here (count_run sent_t) (grow (length x.sdo) (sending b)) (idle_in l.control l.phase e) g.inv.order.is_open h

pub stray_received : (o : Option Tally) (q : Option Ledger) (l : Lists) (p : Phase) (b : ℕ) → bursting l.control ≡ true → Good o (key l) → Kept o q (look l) → Kept (follow o (bus_t received_t)) (note q (moving (receiving b))) (look_at p l)
stray_received none none l p b e g h = h
stray_received none (some x) l p b e g h = absurd h
stray_received (some t) none l p b e g h = absurd h
stray_received (some t) (some x) l p b e g h = stray_both t x (look l).phase p (look l).sdo (look l).sdi g.inv.order.here (count_run received_t) (grow (length x.sdo) (receiving b)) (idle_in l.control l.phase e) g.inv.order.is_open h

pub stray_finished : (o : Option Tally) (q : Option Ledger) (l : Lists) (p : Phase) (k v : ℕ) → bursting l.control ≡ true → Good o (key l) → Kept o q (look l) → Kept (follow o (bus_t (finished_t k v))) (note q (moving (finishing k))) (look_at p l)
stray_finished none none l p k v e g h = h
stray_finished none (some x) l p k v e g h = absurd h
stray_finished (some t) none l p k v e g h = absurd h
stray_finished (some t) (some x) l p k v e g h = stray_finish t x (look l).phase p (look l).sdo (look l).sdi g.inv.order.here (count_run (finished_t k v)) k (idle_in l.control l.phase e) g.inv.order.is_open h

either_idle : (b : Bool) (p : Phase) → idle p ≡ true → idle (cond b Idle p) ≡ true
either_idle true p e = refl
either_idle false p e = e

pub trigger_kept : (o : Option Tally) (q : Option Ledger) (l : Lists) (p : Phase) → idle l.phase ≡ true → Good o (key l) → Kept o q (look l) → Kept (follow o other_t) (note q no_data) (look_at p l)
trigger_kept none none l p i g h = h
trigger_kept none (some x) l p i g h = absurd h
trigger_kept (some t) none l p i g h = absurd h
trigger_kept (some t) (some x) l p i g h = quiet_both t x (look l).phase p (look l).sdo (look l).sdi g.inv.order.here (either_idle (bursting l.control) l.phase i) g.inv.order.is_open h

-- ── Registers ─────────────────────────────────────────────────────────────────────────────────────────────────
abbrev quiet_write : Row → Bool
quiet_write absent = true
quiet_write (shows f) = true
quiet_write (holds c) = true
quiet_write (pushes q) = of q (each true true false false true)
quiet_write (takes q) = true
quiet_write enables = false
quiet_write acknowledges = true

abbrev quiet_read : Row → Bool
quiet_read absent = true
quiet_read (shows f) = true
quiet_read (holds c) = true
quiet_read (pushes q) = true
quiet_read (takes q) = of q (each true true false false true)
quiet_read enables = true
quiet_read acknowledges = true

write_quiet : (o : ℕ) → eqb o 0x040 ≡ false → eqb o 0x0dc ≡ false → quiet_write (row (register_at o)) ≡ true
unfolding named
write_quiet o m n = found quiet_write 0x040 0x0dc o m n named _ (offload_is quiet_write (λ i. refl) (λ i. refl) refl o) refl

read_quiet : (o : ℕ) → eqb o 0x0e0 ≡ false → quiet_read (row (register_at o)) ≡ true
unfolding named
read_quiet o n = found quiet_read 0x0e0 0x0e0 o n n named _ (offload_is quiet_read (λ i. refl) (λ i. refl) refl o) refl

same_write : (l : Lists) (x : Row) (v : ℕ) → quiet_write x ≡ true → look l ≡ look (settle_lists l (effect (write x (view_lists l) v)))
same_write l absent v h = refl
same_write l (shows f) v h = refl
same_write l (holds c) v h = refl
same_write l (pushes Cmd) v h = refl
same_write l (pushes Cmdr) v h = refl
same_write l (pushes Sdo) v h = absurd (false≢true h)
same_write l (pushes Sdi) v h = absurd (false≢true h)
same_write l (pushes Ibi) v h = refl
same_write l (takes q) v h = refl
same_write l enables v h = absurd (false≢true h)
same_write l acknowledges v h = refl

same_read : (l : Lists) (x : Row) → quiet_read x ≡ true → look l ≡ look (settle_lists l (effect (read x (view_lists l))))
same_read l absent h = refl
same_read l (shows f) h = refl
same_read l (holds c) h = refl
same_read l (pushes q) h = refl
same_read l (takes Cmd) h = of_take (λ d. look l ≡ look (settle_lists l (effect d))) Cmd (view_lists l) (λ e. refl) (λ e. refl)
same_read l (takes Cmdr) h = of_take (λ d. look l ≡ look (settle_lists l (effect d))) Cmdr (view_lists l) (λ e. refl) (λ e. refl)
same_read l (takes Sdo) h = absurd (false≢true h)
same_read l (takes Sdi) h = absurd (false≢true h)
same_read l (takes Ibi) h = of_take (λ d. look l ≡ look (settle_lists l (effect d))) Ibi (view_lists l) (λ e. refl) (λ e. refl)
same_read l enables h = refl
same_read l acknowledges h = refl

-- what a read tells the tally leaves its words and runs
room_kept : (o : Option Tally) (q : Option Ledger) (k : Look) (n : ℕ) → Kept o q k → Kept (follow o (word (saw_room n))) (note q no_data) k
room_kept none none k n h = h
room_kept none (some x) k n h = absurd h
room_kept (some t) none k n h = absurd h
room_kept (some t) (some x) k n h = record { cmds = h.cmds; pasts = h.pasts; nows = h.nows; strays = h.strays; flow = h.flow }

receipt_kept : (o : Option Tally) (q : Option Ledger) (k : Look) (v : ℕ) → Kept o q k → Kept (follow o (got_receipt v)) (note q no_data) k
receipt_kept none none k v h = h
receipt_kept none (some x) k v h = absurd h
receipt_kept (some t) none k v h = absurd h
receipt_kept (some t) (some x) k v h = record { cmds = h.cmds; pasts = h.pasts; nows = h.nows; strays = h.strays; flow = h.flow }

told : (o : Option Tally) (q : Option Ledger) (k : Look) (off v : ℕ) (ok : Bool) → Kept o q k → Kept (follow o (read_event off v ok)) (note q (cond ok no_data no_data)) k
told o q k off v ok h = go (eqb off 0x0c0) (eqb off 0x0d8) ok
  where
    go : (a b ok : Bool) → Kept (follow o (cond a (cond ok (word (saw_room v)) other_t) (cond b (cond ok (got_receipt v) other_t) other_t))) (note q (cond ok no_data no_data)) k
    go true b true = room_kept o q k v h
    go false true true = receipt_kept o q k v h
    go false false true = other_kept o q k h
    go true b false = other_kept o q k h
    go false true false = other_kept o q k h
    go false false false = other_kept o q k h

gave_kept : (o : Option Tally) (q : Option Ledger) (l : Lists) → eqb (length l.queues.sdi.words) 0 ≡ false → Kept o q (look l) → Kept (follow o other_t) (note q (sdi_gave (get_or l.queues.sdi.words 0 0))) (look (settle_lists l (taken_first Sdi (view_lists l))))
gave_kept none none l f h = (h.0, ap (λ (w : List ℕ). drop 1 w) h.1)
gave_kept none (some x) l f h = absurd h
gave_kept (some t) none l f h = absurd h
gave_kept (some t) (some x) l f h =
    let q = l.queues.sdi.words in
    record {
      cmds = h.cmds;
      pasts = h.pasts;
      nows = h.nows;
      strays = h.strays;
      flow = flow_gave x.past x.now (cut x.cmd) (look l).phase x.sdo (look l).sdo x.sdi (drop 1 q) (get_or q 0 0) (subst (FlowIn x x.now (look l).phase (look l).sdo) (nonempty l q f) h.flow);
    }

abbrev AfterRead : Option Tally → Option Ledger → Lists → ℕ → Event → DataEvent → Type 0
AfterRead o q l off e x = Kept (follow o e) (note q x) (look (settle_lists l (effect (read (row (register_at off)) (view_lists l)))))

-- after a read of SDI that decides so
abbrev AfterTake : Option Tally → Option Ledger → Lists → Decision → Type 0
AfterTake o q l d = Kept (follow o other_t) (note q (cond (eqb (effect d).number 0) (sdi_gave (effect d).value) no_data)) (look (settle_lists l (effect d)))

pub read_kept : (o : Option Tally) (q : Option Ledger) (l : Lists) (off : ℕ) → Kept o q (look l)
    → (let e = effect (read (row (register_at off)) (view_lists l)) in let ok = eqb e.number 0 in AfterRead o q l off (read_event off e.value ok) (cond ok (gave_at off e.value) no_data))
unfolding named entry_at
read_kept o q l off h = go (eqb off 0x0e0) refl
  where
    said : ℕ → Effect
    said n = effect (read (row (register_at n)) (view_lists l))

    done : ℕ → Bool
    done n = eqb (said n).number 0

    go : (a : Bool) → eqb off 0x0e0 ≡ a → AfterRead o q l off (read_event off (said off).value (done off)) (cond (done off) (cond a (sdi_gave (said off).value) no_data) no_data)
    go true m =
        subst (λ (x : ℕ). AfterRead o q l x (read_event x (said x).value (done x)) (cond (done x) (sdi_gave (said x).value) no_data)) (sym (eqb-true off 0x0e0 m))
        (of_take (AfterTake o q l) Sdi (view_lists l) (λ e. other_kept o q (look l) h) (λ e. gave_kept o q l e h))
    go false m = subst (Kept (follow o (read_event off (said off).value (done off))) (note q (cond (done off) no_data no_data))) (same_read l (row (register_at off)) (read_quiet off m)) (told o q (look l) off (said off).value (done off) h)

-- a release: both books begin
released_kept : (l : Lists) (k : Look) → Kept none none k → Kept (some nothing) (some blank) k
unfolding taken_words cut departures AllLeft arrivals
released_kept l k h = record { cmds = refl; pasts = tt; nows = tt; strays = refl; flow = record { before = []; here = []; all = sym h.0; gone = tt; came = h.1; is_open = refl } }

enable_kept : (o : Option Tally) (q : Option Ledger) (l : Lists) (b : Bool) → Kept o q (look l) → Kept (follow o (enabled_t b)) (note q (switched b)) (look (settle_lists l (enable (view_lists l) b)))
unfolding enable
enable_kept none none l true h = (refl, refl)
enable_kept none none l false h = released_kept l (look l) h
enable_kept none (some x) l b h = absurd h
enable_kept (some t) none l b h = absurd h
enable_kept (some t) (some x) l true h = (refl, refl)
enable_kept (some t) (some x) l false h = h

command_kept : (o : Option Tally) (q : Option Ledger) (l : Lists) (v : ℕ) → l.control.held ≡ false → Good o (key l) → Kept o q (look l) → Kept (follow o (word (wrote true v))) (note q (cmd_took v)) (look (settle_lists l (effect (write (pushes Cmd) (view_lists l) v))))
command_kept none q l v f g h = absurd (true≢false (sym g.is_held ∙ f))
command_kept (some t) none l v f g h = absurd h
command_kept (some t) (some x) l v f g h =
    let m = cut_more x.cmd v in
    let n = enough (taken_words t.words.written) t.past t.now (key l).phase l.queues.cmd.words g.inv.order in
    let a = alike_length t.past x.past h.pasts in
    let b = ap (λ (w : List ℕ). length (cut w)) h.cmds in
    record {
      cmds = took_one t.words v ∙ ap (λ (w : List ℕ). snoc w v) h.cmds;
      pasts = h.pasts;
      nows = h.nows;
      strays = h.strays;
      flow =
          subst (λ (c : List Command). Flow x.past x.now c (look l).phase x.sdo (look l).sdo x.sdi (look l).sdi) (sym m.same)
          (flow_command x.past x.now (cut x.cmd) (look l).phase x.sdo (look l).sdo x.sdi (look l).sdi m.more (omega arith) h.flow);
    }

sdo_kept : (o : Option Tally) (q : Option Ledger) (l : Lists) (v : ℕ) → l.control.held ≡ false → Good o (key l) → Kept o q (look l) → Kept (follow o other_t) (note q (sdo_took v)) (look (settle_lists l (effect (write (pushes Sdo) (view_lists l) v))))
sdo_kept none q l v f g h = absurd (true≢false (sym g.is_held ∙ f))
sdo_kept (some t) none l v f g h = absurd h
sdo_kept (some t) (some x) l v f g h = record { cmds = h.cmds; pasts = h.pasts; nows = h.nows; strays = h.strays; flow = flow_took x.past x.now (cut x.cmd) (look l).phase x.sdo (look l).sdo x.sdi (look l).sdi v h.flow }

abbrev AfterWrite : Option Tally → Option Ledger → Lists → ℕ → ℕ → Event → DataEvent → Type 0
AfterWrite o q l off v e x = Kept (follow o e) (note q x) (look (settle_lists l (effect (write (row (register_at off)) (view_lists l) v))))

pub write_kept : (o : Option Tally) (q : Option Ledger) (l : Lists) (off v : ℕ) → Passed (write (row (register_at off)) (view_lists l) v) → Good o (key l) → Kept o q (look l) → AfterWrite o q l off v (write_event off v true) (took_at off v)
unfolding named entry_at
write_kept o q l off v f g h = go (eqb off 0x040) (eqb off 0x0d4) (eqb off 0x0dc) refl refl refl f
  where
    go : (a b c : Bool) → eqb off 0x040 ≡ a → eqb off 0x0d4 ≡ b → eqb off 0x0dc ≡ c → Passed (write (row (register_at off)) (view_lists l) v)
        → AfterWrite o q l off v (cond a (enabled_t (bit 0 v)) (cond b (word (wrote true v)) other_t)) (cond a (switched (bit 0 v)) (cond b (cmd_took v) (cond c (sdo_took v) no_data)))
    go true b c m n s f = subst (λ (x : ℕ). AfterWrite o q l x v (enabled_t (bit 0 v)) (switched (bit 0 v))) (sym (eqb-true off 0x040 m)) (enable_kept o q l (bit 0 v) h)
    go false true c m n s f = subst (λ (x : ℕ). Passed (write (row (register_at x)) (view_lists l) v) → AfterWrite o q l x v (word (wrote true v)) (cmd_took v)) (sym (eqb-true off 0x0d4 n)) (λ p. command_kept o q l v p.0 g h) f
    go false false true m n s f = subst (λ (x : ℕ). Passed (write (row (register_at x)) (view_lists l) v) → AfterWrite o q l x v other_t (sdo_took v)) (sym (eqb-true off 0x0dc s)) (λ p. sdo_kept o q l v p.0 g h) f
    go false false false m n s f = subst (Kept (follow o other_t) (note q no_data)) (same_write l (row (register_at off)) v (write_quiet off m s)) (other_kept o q (look l) h)
