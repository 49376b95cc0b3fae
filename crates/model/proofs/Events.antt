-- Each call keeps the invariant between the tally and the lists: one lemma for each call.
use Prim.Native.Nat.{ℕ, suc, ◌-◌, ◌/◌, ◌%◌, ◌^◌, zero-le}
use native.Mathlib.Omega.{arith}
use mathlib.Core.Path.{◌≡◌, refl, ap, sym, ◌∙◌, subst}
use mathlib.Core.Bool.{Bool, true, false, cond, not, true≢false, false≢true}
use mathlib.Core.List.{List, [], ◌∷◌}
use mathlib.Core.Option.{Option, none, some, none-ne-some}
use lib.Dec.{leb, ltb, eqb}
use lib.ListN.{length, get_or, drop}
use lib.Count.{ones}
use borrow.Author.Tests.{ltb-false, leb-true, leb-false, eqb-true, not-false}
use Rattle.bank.specs.declared.Transfer.{Transfer}
use Rattle.bank.specs.declared.Phase.{Phase}
use Rattle.bank.specs.declared.Phase.TheVariants.{Writing, Reading, Requested, Answered}
use Rattle.bank.specs.Phases.{idle, writing, reading, assigning, requested, transfer}
use Rattle.bank.proofs.Bools.{or_left}
use Rattle.registers.specs.Map.{named, entry_at, register_at}
use Rattle.bank.specs.Bits.{bit}
use Rattle.queues.specs.declared.Queue.TheVariants.{Cmd, Cmdr, Sdo, Sdi, Ibi}
use Rattle.model.specs.Decision.{Effect, Decision, first, effect}
use Rattle.model.specs.Commands.{Command, first_word, length_of, receipt_word}
use Rattle.model.specs.Registers.{Row, absent, shows, holds, pushes, takes, enables, acknowledges, row, enable, taken_first, read, write}
use Rattle.model.specs.Calls.{command, advanced, start, send, receive, finish, interrupt, request, take_address}
use Rattle.model.specs.Lists.{Lists, view_list, view_lists, settle_lists}
use Rattle.model.specs.Demand.{Event, enabled, word, wrote, saw_room, bus, started, sent, received, addressed, finished, got_receipt, other, Tally, Run, follow, direct_phase, write_event, read_event, count_run, change, nothing, moved, Fitting, Every, taken_words, joined, Each}
use Rattle.model.proofs.Tests.{Passed, of_take}
use Rattle.model.proofs.Phases.{writing_is, reading_is, requested_assigns, neither}
use Rattle.model.proofs.Invariant.{OpenAs, Done, Inv, inv_took, inv_lost, inv_room, inv_start, inv_move, inv_finish, inv_got}
use Rattle.model.proofs.Offsets.{quiet_write, quiet_read, write_quiet, read_quiet}

-- what the invariant looks at
pub record Key : Type 0 where
  pub held : Bool
  pub cap : ℕ
  pub phase : Phase
  pub cmd : List ℕ
  pub cmdr : List ℕ
  pub sync : ℕ

abbrev pub key_at : Phase → Lists → Key
key_at p l = record { held = l.control.held; cap = l.queues.cmd.cap; phase = p; cmd = l.queues.cmd.words; cmdr = l.queues.cmdr.words; sync = l.control.sync }

-- while a burst is open no direct transfer is
abbrev pub key : Lists → Key
key l = key_at (direct_phase l.control l.phase) l

-- outside a burst
abbrev pub direct : Lists → Key
direct l = key_at l.phase l

-- held in reset, all is empty
pub record HeldIn (k : Key) : Type 0 where
  pub is_held : k.held ≡ true
  pub is_idle : idle k.phase ≡ true
  pub no_commands : k.cmd ≡ []
  pub no_receipts : k.cmdr ≡ []
  pub no_sync : k.sync ≡ 0

pub record Running (t : Tally) (k : Key) : Type 0 where
  pub is_released : k.held ≡ false
  pub inv : Inv t.words t.past t.now t.receipts k.cap k.phase k.cmd k.cmdr k.sync

abbrev pub Good : Option Tally → Key → Type 0
Good none k = HeldIn k
Good (some t) k = Running t k

not_held : (k : Key) → HeldIn k → k.held ≡ false → ⊥
not_held k g e = true≢false (sym g.is_held ∙ e)

-- a call that changes nothing of it
pub other_good : (o : Option Tally) (k : Key) → Good o k → Good (follow o other) k
other_good none k g = g
other_good (some t) k g = g

-- ── Bytes and addresses ───────────────────────────────────────────────────────────────────────────────────────
-- a byte more, of a write or of a read
byte_open : (r r' : Run) (c : Command) (p p' : Phase) (t : Transfer) (w : ℕ) → transfer p ≡ t → transfer p' ≡ advanced t w → leb t.length.0 t.moved.0 ≡ false → idle p' ≡ false → writing p' ≡ writing p → reading p' ≡ reading p → assigning p' ≡ assigning p
    → r'.value ≡ r.value → r'.ending ≡ r.ending → moved r' ≡ suc (moved r) → Fitting r' c → OpenAs r c p → OpenAs r' c p'
byte_open r r' c p p' t w e e' l i hw hr ha v n m f o =
    let below = leb-false t.length.0 t.moved.0 l in
    let k : t.moved.0 ≡ moved r = ap (λ (x : Transfer). x.moved.0) (sym e) ∙ o.counted in
    let j : t.length.0 ≡ length_of c = ap (λ (x : Transfer). x.length.0) (sym e) ∙ o.length in
    record {
      cut_as = o.cut_as;
      is_open = i;
      value = v ∙ o.value;
      ending = n ∙ o.ending;
      length = ap (λ (x : Transfer). x.length.0) e' ∙ j;
      counted = ap (λ (x : Transfer). x.moved.0) e' ∙ (omega arith);
      most = omega arith;
      writes = hw ∙ o.writes;
      reads = hr ∙ o.reads;
      assigns = ha ∙ o.assigns;
      fitting = f;
    }

sent_open : (r : Run) (c : Command) (t : Transfer) (w : ℕ) → leb t.length.0 t.moved.0 ≡ false → OpenAs r c (Writing t) → OpenAs (count_run sent r) c (Writing (advanced t w))
sent_open r c t w l o =
    byte_open r (count_run sent r) c (Writing t) (Writing (advanced t w)) t w refl refl l refl refl refl refl refl refl (omega arith) (record { sends = λ n. absurd (true≢false (o.writes ∙ n)); receives = o.fitting.receives; addresses = o.fitting.addresses }) o

received_open : (r : Run) (c : Command) (t : Transfer) (w : ℕ) → leb t.length.0 t.moved.0 ≡ false → OpenAs r c (Reading t) → OpenAs (count_run received r) c (Reading (advanced t w))
received_open r c t w l o =
    byte_open r (count_run received r) c (Reading t) (Reading (advanced t w)) t w refl refl l refl refl refl refl refl refl (omega arith) (record { sends = o.fitting.sends; receives = λ n. absurd (true≢false (o.reads ∙ n)); addresses = o.fitting.addresses }) o

-- from one state of an assignment to another, with the same transfer
addressed_open : (r : Run) (c : Command) (p p' : Phase) → assigning p ≡ true → transfer p' ≡ transfer p → idle p' ≡ false → assigning p' ≡ true → OpenAs r c p → OpenAs (count_run addressed r) c p'
addressed_open r c p p' a e i a' o =
    let n = neither p a in
    let n' = neither p' a' in
    record {
      cut_as = o.cut_as;
      is_open = i;
      value = o.value;
      ending = o.ending;
      length = ap (λ (t : Transfer). t.length.0) e ∙ o.length;
      counted = ap (λ (t : Transfer). t.moved.0) e ∙ o.counted;
      most = o.most;
      writes = n'.0 ∙ sym n.0 ∙ o.writes;
      reads = n'.1 ∙ sym n.1 ∙ o.reads;
      assigns = a' ∙ sym a ∙ o.assigns;
      fitting = record { sends = o.fitting.sends; receives = o.fitting.receives; addresses = λ n. absurd (true≢false (sym a ∙ o.assigns ∙ n)) };
    }

-- a byte or an address moves the open run and the phase, and nothing else
run_good : (t : Tally) (k : Key) (p : Phase) (f : Run → Run) → idle k.phase ≡ false → ((r : Run) (c : Command) → OpenAs r c k.phase → OpenAs (f r) c p) → Running t k
    → Running (record { words = t.words; past = t.past; now = change f t.now; receipts = t.receipts }) (record { held = k.held; cap = k.cap; phase = p; cmd = k.cmd; cmdr = k.cmdr; sync = k.sync })
run_good t k p f i m g = record { is_released = g.is_released; inv = inv_move t.words t.past t.receipts k.cap k.phase k.cmd k.cmdr k.sync t.now p f i m g.inv }

pub send_good : (o : Option Tally) (l : Lists) → Passed (send (view_lists l)) → Good o (direct l) → Good (follow o (bus sent)) (direct (settle_lists l (effect (send (view_lists l)))))
unfolding send
send_good none l f g = absurd (not_held (direct l) g f.0)
send_good (some t) l f g =
    let e = writing_is l.phase (not-false (writing l.phase) f.1.1.1.0) in
    run_good t (direct l) _ (count_run sent) f.1.0 (λ r c o. sent_open r c (transfer l.phase) _ f.1.1.1.1.0 (subst (OpenAs r c) e o)) g

pub receive_good : (o : Option Tally) (l : Lists) (b : ℕ) → Passed (receive (view_lists l) b) → Good o (direct l) → Good (follow o (bus received)) (direct (settle_lists l (effect (receive (view_lists l) b))))
unfolding receive
receive_good none l b f g = absurd (not_held (direct l) g f.0)
receive_good (some t) l b f g =
    let e = reading_is l.phase (not-false (reading l.phase) f.1.1.1.0) in
    run_good t (direct l) _ (count_run received) f.1.0 (λ r c o. received_open r c (transfer l.phase) _ f.1.1.1.1.0 (subst (OpenAs r c) e o)) g

pub request_good : (o : Option Tally) (l : Lists) (v w : ℕ) → Passed (request (view_lists l) v w) → Good o (direct l) → Good (follow o (bus addressed)) (direct (settle_lists l (effect (request (view_lists l) v w))))
unfolding request
request_good none l v w f g = absurd (not_held (direct l) g f.0)
request_good (some t) l v w f g =
    let a = not-false (assigning l.phase) (or_left (not (assigning l.phase)) (requested l.phase) f.1.1.0) in
    run_good t (direct l) _ (count_run addressed) f.1.0 (λ r c o. addressed_open r c l.phase (Requested (transfer l.phase)) a refl refl refl o) g

-- an address taken well, or with a wrong parity bit
taken_open : (b : Bool) (r : Run) (c : Command) (p : Phase) → assigning p ≡ true → OpenAs r c p → OpenAs (count_run addressed r) c (cond b (Answered (transfer p)) (Requested (transfer p)))
taken_open true r c p a o = addressed_open r c p (Answered (transfer p)) a refl refl refl o
taken_open false r c p a o = addressed_open r c p (Requested (transfer p)) a refl refl refl o

pub take_good : (o : Option Tally) (l : Lists) → Passed (take_address (view_lists l)) → Good o (direct l) → Good (follow o (bus addressed)) (direct (settle_lists l (effect (take_address (view_lists l)))))
unfolding take_address
take_good none l f g = absurd (not_held (direct l) g f.0)
take_good (some t) l f g =
    let a = requested_assigns l.phase (not-false (requested l.phase) f.1.1.0) in
    run_good t (direct l) _ (count_run addressed) f.1.0 (λ r c o. taken_open (eqb (ones (get_or l.queues.sdo.words 0 0 / 2 ^ 24) % 2) 1) r c l.phase a o) g

-- ── Start, finish, interrupt ──────────────────────────────────────────────────────────────────────────────────
pub start_good : (o : Option Tally) (l : Lists) → Passed (start (view_lists l)) → Good o (direct l) → Good (follow o (bus (started (first_word (command (view_list l.queues.cmd)))))) (direct (settle_lists l (effect (start (view_lists l)))))
unfolding start
start_good none l f g = absurd (not_held (direct l) g f.0)
start_good (some t) l f g =
    record {
      is_released = g.is_released;
      inv = inv_start t.words t.past t.receipts l.queues.cmd.cap l.phase l.queues.cmd.words l.queues.cmdr.words l.control.sync t.now _ (not-false _ f.1.0) (not-false _ f.1.1.1.0) g.inv;
    }

pub finish_good : (o : Option Tally) (l : Lists) (code : ℕ) → ltb 15 code ≡ false → Passed (finish (view_lists l) code) → Good o (direct l)
    → Good (follow o (bus (finished code (receipt_word code (transfer l.phase).moved.0 l.control.sync)))) (direct (settle_lists l (effect (finish (view_lists l) code))))
unfolding finish
finish_good none l code r f g = absurd (not_held (direct l) g f.0)
finish_good (some t) l code r f g =
    record {
      is_released = g.is_released;
      inv = inv_finish t.words t.past t.receipts l.queues.cmd.cap l.phase l.queues.cmd.words l.queues.cmdr.words l.control.sync t.now code (let d = ltb-false 15 code r in omega arith) f.1.0 g.inv;
    }

pub interrupt_good : (o : Option Tally) (l : Lists) (a b : ℕ) → Good o (key l) → Good (follow o other) (key (settle_lists l (effect (interrupt (view_lists l) a b))))
unfolding interrupt
interrupt_good o l a b g = other_good o (key l) g

-- ── Register reads ────────────────────────────────────────────────────────────────────────────────────────────
nonempty : (q : List ℕ) → eqb (length q) 0 ≡ false → q ≡ get_or q 0 0 ∷ drop 1 q
nonempty [] e = absurd (true≢false e)
nonempty (w ∷ q) e = refl

room_good : (o : Option Tally) (l : Lists) → Good o (key l) → Good (follow o (word (saw_room (l.queues.cmd.cap - length l.queues.cmd.words)))) (key l)
room_good none l g = g
room_good (some t) l g = record { is_released = g.is_released; inv = inv_room t.words t.past t.receipts l.queues.cmd.cap (key l).phase l.queues.cmd.words l.queues.cmdr.words l.control.sync t.now g.inv }

receipt_good : (o : Option Tally) (l : Lists) → eqb (length l.queues.cmdr.words) 0 ≡ false → Good o (key l) → Good (follow o (got_receipt (get_or l.queues.cmdr.words 0 0))) (key (settle_lists l (taken_first Cmdr (view_lists l))))
receipt_good none l f g = record { is_held = g.is_held; is_idle = g.is_idle; no_commands = g.no_commands; no_receipts = ap (λ (q : List ℕ). drop 1 q) g.no_receipts; no_sync = g.no_sync }
receipt_good (some t) l f g =
    let q = l.queues.cmdr.words in
    let cap = l.queues.cmd.cap in
    let words = l.queues.cmd.words in
    let p = (key l).phase in
    let sync = l.control.sync in
    record {
      is_released = g.is_released;
      inv =
          inv_got t.words t.past t.now t.receipts cap p words (drop 1 q) (get_or q 0 0) sync
          (subst (λ (x : List ℕ). Inv t.words t.past t.now t.receipts cap p words x sync) (nonempty q f) g.inv);
    }

quiet_read_lem : (l : Lists) (x : Row) → quiet_read x ≡ true → key l ≡ key (settle_lists l (effect (read x (view_lists l))))
quiet_read_lem l absent h = refl
quiet_read_lem l (shows f) h = refl
quiet_read_lem l (holds c) h = refl
quiet_read_lem l (pushes q) h = refl
quiet_read_lem l (takes Cmd) h = absurd (false≢true h)
quiet_read_lem l (takes Cmdr) h = absurd (false≢true h)
quiet_read_lem l (takes Sdo) h = of_take (λ d. key l ≡ key (settle_lists l (effect d))) Sdo (view_lists l) (λ e. refl) (λ e. refl)
quiet_read_lem l (takes Sdi) h = of_take (λ d. key l ≡ key (settle_lists l (effect d))) Sdi (view_lists l) (λ e. refl) (λ e. refl)
quiet_read_lem l (takes Ibi) h = of_take (λ d. key l ≡ key (settle_lists l (effect d))) Ibi (view_lists l) (λ e. refl) (λ e. refl)
quiet_read_lem l enables h = refl
quiet_read_lem l acknowledges h = refl

abbrev AfterRead : Option Tally → Lists → ℕ → Event → Type 0
AfterRead o l off e = Good (follow o e) (key (settle_lists l (effect (read (row (register_at off)) (view_lists l)))))

-- after a read of CMDR: the receipt counts where it was taken; one shown again does not
abbrev CountsTaken : Option Tally → Lists → Decision → Type 0
CountsTaken o l d = Good (follow o (cond (eqb (effect d).number 0) (got_receipt (effect d).value) other)) (key (settle_lists l (effect d)))

pub read_good : (o : Option Tally) (l : Lists) (off : ℕ) → Good o (key l) → (let e = effect (read (row (register_at off)) (view_lists l)) in AfterRead o l off (read_event off e.value (eqb e.number 0)))
unfolding named entry_at
read_good o l off g = go (eqb off 0x0c0) (eqb off 0x0d8) refl refl
  where
    said : ℕ → Effect
    said n = effect (read (row (register_at n)) (view_lists l))

    zero_at : ℕ → Bool
    zero_at n = eqb (said n).number 0

    go : (a b : Bool) → eqb off 0x0c0 ≡ a → eqb off 0x0d8 ≡ b → AfterRead o l off (cond a (cond (zero_at off) (word (saw_room (said off).value)) other) (cond b (cond (zero_at off) (got_receipt (said off).value) other) other))
    go true b m n = subst (λ (x : ℕ). AfterRead o l x (cond (zero_at x) (word (saw_room (said x).value)) other)) (sym (eqb-true off 0x0c0 m)) (room_good o l g)
    go false true m n =
        subst (λ (x : ℕ). AfterRead o l x (cond (zero_at x) (got_receipt (said x).value) other)) (sym (eqb-true off 0x0d8 n))
        (of_take (CountsTaken o l) Cmdr (view_lists l) (λ e. other_good o (key l) g) (λ e. receipt_good o l e g))
    go false false m n = subst (Good (follow o other)) (quiet_read_lem l (row (register_at off)) (read_quiet off n)) (other_good o (key l) g)

pub read_refused : (o : Option Tally) (k : Key) (off : ℕ) → Good o k → Good (follow o (read_event off 0 false)) k
read_refused o k off g = go (eqb off 0x0c0) (eqb off 0x0d8)
  where
    go : (a b : Bool) → Good (follow o (cond a other (cond b other other))) k
    go true b = other_good o k g
    go false true = other_good o k g
    go false false = other_good o k g

-- ── Register writes ───────────────────────────────────────────────────────────────────────────────────────────
each_none : Each Done 0 [] []
unfolding Each
each_none = tt

-- a release: nothing is counted yet, and all is empty
released_good : (k : Key) → HeldIn k → Running nothing (record { held = false; cap = k.cap; phase = k.phase; cmd = k.cmd; cmdr = k.cmdr; sync = k.sync })
unfolding joined taken_words Every
released_good k g =
    record {
      is_released = refl;
      inv =
          record {
            words = record { seen = tt; promised = tt; fits = λ e. absurd (false≢true e); credit = zero-le };
            order = record { done = []; here = []; well = tt; took = sym g.no_commands; count = refl; served = each_none; is_open = (g.is_idle, refl) };
            receipts = record { same = g.no_receipts; counted = g.no_sync };
          };
    }

-- a write to ENABLE, by its bit 0
enable_good : (o : Option Tally) (l : Lists) (b : Bool) → Good o (key l) → Good (follow o (enabled b)) (key (settle_lists l (enable (view_lists l) b)))
unfolding enable
enable_good none l true g = record { is_held = refl; is_idle = refl; no_commands = refl; no_receipts = refl; no_sync = refl }
enable_good none l false g = released_good (key l) g
enable_good (some t) l true g = record { is_held = refl; is_idle = refl; no_commands = refl; no_receipts = refl; no_sync = refl }
enable_good (some t) l false g = record { is_released = refl; inv = g.inv }

took_good : (o : Option Tally) (l : Lists) (v : ℕ) → l.control.held ≡ false → Good o (key l) → Good (follow o (word (wrote true v))) (key (settle_lists l (effect (write (pushes Cmd) (view_lists l) v))))
took_good none l v f g = absurd (not_held (key l) g f)
took_good (some t) l v f g = record { is_released = g.is_released; inv = inv_took t.words t.past t.receipts l.queues.cmd.cap (key l).phase l.queues.cmd.words l.queues.cmdr.words l.control.sync t.now v g.inv }

quiet_write_lem : (l : Lists) (x : Row) (v : ℕ) → quiet_write x ≡ true → key l ≡ key (settle_lists l (effect (write x (view_lists l) v)))
quiet_write_lem l absent v h = refl
quiet_write_lem l (shows f) v h = refl
quiet_write_lem l (holds c) v h = refl
quiet_write_lem l (pushes Cmd) v h = absurd (false≢true h)
quiet_write_lem l (pushes Cmdr) v h = absurd (false≢true h)
quiet_write_lem l (pushes Sdo) v h = refl
quiet_write_lem l (pushes Sdi) v h = refl
quiet_write_lem l (pushes Ibi) v h = refl
quiet_write_lem l (takes q) v h = refl
quiet_write_lem l enables v h = absurd (false≢true h)
quiet_write_lem l acknowledges v h = refl

abbrev AfterWrite : Option Tally → Lists → ℕ → ℕ → Event → Type 0
AfterWrite o l off v e = Good (follow o e) (key (settle_lists l (effect (write (row (register_at off)) (view_lists l) v))))

pub write_good : (o : Option Tally) (l : Lists) (off v : ℕ) → Passed (write (row (register_at off)) (view_lists l) v) → Good o (key l) → AfterWrite o l off v (write_event off v true)
unfolding named entry_at
write_good o l off v f g = go (eqb off 0x040) (eqb off 0x0d4) refl refl f
  where
    go : (a b : Bool) → eqb off 0x040 ≡ a → eqb off 0x0d4 ≡ b → Passed (write (row (register_at off)) (view_lists l) v) → AfterWrite o l off v (cond a (enabled (bit 0 v)) (cond b (word (wrote true v)) other))
    go true b m n f = subst (λ (x : ℕ). AfterWrite o l x v (enabled (bit 0 v))) (sym (eqb-true off 0x040 m)) (enable_good o l (bit 0 v) g)
    go false true m n f = subst (λ (x : ℕ). Passed (write (row (register_at x)) (view_lists l) v) → AfterWrite o l x v (word (wrote true v))) (sym (eqb-true off 0x0d4 n)) (λ p. took_good o l v p.0 g) f
    go false false m n f = subst (Good (follow o other)) (quiet_write_lem l (row (register_at off)) v (write_quiet off m n)) (other_good o (key l) g)

-- ── A refused write to CMD: the queue is full ─────────────────────────────────────────────────────────────────
full_test : (b c : Bool) (n : ℕ) → b ≡ false → cond b (some 5) (cond c (some 1) none) ≡ some n → c ≡ true
full_test true c n h e = absurd (true≢false h)
full_test false true n h e = refl
full_test false false n h e = absurd (none-ne-some n e)

lost_good : (o : Option Tally) (l : Lists) (v n : ℕ) → first (write (pushes Cmd) (view_lists l) v) ≡ some n → Good o (key l) → Good (follow o (word (wrote false v))) (key l)
lost_good none l v n e g = g
lost_good (some t) l v n e g =
    let z = leb-true l.queues.cmd.cap (length l.queues.cmd.words) (full_test l.control.held (leb l.queues.cmd.cap (length l.queues.cmd.words)) n g.is_released e) in
    record { is_released = g.is_released; inv = inv_lost t.words t.past t.receipts l.queues.cmd.cap (key l).phase l.queues.cmd.words l.queues.cmdr.words l.control.sync t.now v z g.inv }

pub write_refused : (o : Option Tally) (l : Lists) (off v n : ℕ) → first (write (row (register_at off)) (view_lists l) v) ≡ some n → Good o (key l) → Good (follow o (write_event off v false)) (key l)
unfolding named entry_at
write_refused o l off v n e g = go (eqb off 0x040) (eqb off 0x0d4) refl
  where
    go : (a b : Bool) → eqb off 0x0d4 ≡ b → Good (follow o (cond a other (cond b (word (wrote false v)) other))) (key l)
    go true b m = other_good o (key l) g
    go false true m = lost_good o l v n (subst (λ (x : ℕ). first (write (row (register_at x)) (view_lists l) v) ≡ some n) (eqb-true off 0x0d4 m) e) g
    go false false m = other_good o (key l) g
