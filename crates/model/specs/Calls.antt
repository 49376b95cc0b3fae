-- The seven events of 01, 'Bus events', outside a burst: each is one decision. Bursts.antt has send, receive and finish in an open burst,
-- and `decide`, with 18 before each event's own tests.
use Rattle.std.specs.Prelude.{ℕ, ◌+◌, ◌-◌, ◌*◌, ◌/◌, ◌%◌, ◌^◌, min, Bool, true, false, cond, not, ◌&&◌, ◌||◌, leb, ltb, eqb}
use Rattle.std.specs.Int.Count.{ones}
use Rattle.number.specs.Names as number
use Rattle.ring.specs.Units.{bytes, words_for}
use Rattle.bank.specs.declared.Control.{Control}
use Rattle.bank.specs.declared.Transfer.{Transfer}
use Rattle.bank.specs.declared.Phase.{Phase}
use Rattle.bank.specs.declared.Phase.TheVariants.{Idle, Writing, Reading, Requested, Answered}
use Rattle.bank.specs.Phases.{idle, writing, reading, assigning, requested, unrequested, transfer, private, broadcast, unattached}
use Rattle.bank.specs.Bits.{bit}
use Rattle.model.specs.View.{QueueView, room, empty, full, last, View}
use Rattle.queues.specs.Each.{each}
use Rattle.model.specs.Decision.{keep, take, push, push2, unchanged, ◌with_value◌, ◌with_number◌, ◌with_control◌, ◌with_phase◌, ◌with_queues◌, Decision, does, ◌⇒◌∣◌}
use Rattle.model.specs.Commands.{Command, Single, Ccc, two_words, first_word, kind_of, is_entdaa, address_of, begun, receipt_word, entry_word}
use Rattle.model.specs.Registers.{device, pending}

-- a transfer is open: 6 of `event.open`
abbrev pub busy : View → Bool
busy s = not (idle s.phase)

-- ── Start ─────────────────────────────────────────────────────────────────────────────────────────────────────
-- the first command is there with all its words, else 9 of `start.tests`
abbrev pub whole : QueueView → Bool
whole q = cond (empty q) false (cond (eqb q.level 1) (not (two_words q.first)) true)

-- the first command of CMD
abbrev pub command : QueueView → Command
command q = cond (two_words q.first) (Ccc q.first q.second) (Single q.first)

-- how many words it has
abbrev pub word_count : QueueView → ℕ
word_count q = cond (two_words q.first) 2 1

-- `start.attached`; `command.broadcast`: for a broadcast CCC and for ENTDAA no device is looked up, and true is noted
abbrev pub attached : View → Command → Bool
attached s c = broadcast (kind_of c) || bit 0 (device (address_of c) s)

-- `start.tests`, `start.opens`: the whole command leaves CMD, and its first word is the value. Bit 0 of OPS is the mode, 1 for offload
-- (`ops.keeps`). It looks neither for payload in SDO nor for room in SDI (`start.blocked`).
unfoldable pub start : View → Decision
start s =
    let q = s.queues in
    let c = command q.cmd in
    s.control.held ⇒ number.held_in_reset
    ∣ busy s ⇒ number.transfer_open
    ∣ bit 0 s.regs.ops ⇒ number.not_in_this_mode
    ∣ not (whole q.cmd) ⇒ number.no_command
    ∣ is_entdaa c && not (empty q.sdo) ⇒ number.sdo_not_empty
    ∣ does (unchanged s with_value first_word c with_phase begun c (attached s c) with_queues each (take (word_count q.cmd)) keep keep keep keep)

-- ── Bytes ─────────────────────────────────────────────────────────────────────────────────────────────────────
-- the transfer with one byte more moved, and w as its part word
abbrev pub advanced : Transfer → ℕ → Transfer
advanced t w = record { kind = t.kind; header = t.header; length = t.length; moved = bytes (t.moved.0 + 1); attached = t.attached; part = w }

-- all bytes of the commanded length have moved: 11 of `send.tests` and `receive.tests`
abbrev pub reached : Transfer → Bool
reached t = leb t.length.0 t.moved.0

-- the next byte is the first of its word
abbrev pub first_of_word : Transfer → Bool
first_of_word t = eqb (t.moved.0 % 4) 0

-- the next byte is the fourth of its word
abbrev pub last_of_word : Transfer → Bool
last_of_word t = eqb (t.moved.0 % 4) 3

-- `send.tests`, `send.byte`. The byte sent is the top one (`payload.order`); the bytes that are left of the word move up in the part word
-- (`formed.part`).
unfoldable pub send : View → Decision
send s =
    let t = transfer s.phase in
    let w = cond (first_of_word t) s.queues.sdo.first t.part in
    s.control.held ⇒ number.held_in_reset
    ∣ idle s.phase ⇒ number.no_transfer
    ∣ unattached s.phase ⇒ number.not_attached
    ∣ not (writing s.phase) ⇒ number.not_this_kind
    ∣ reached t ⇒ number.length_reached
    ∣ first_of_word t && empty s.queues.sdo ⇒ number.sdo_empty
    ∣ does (unchanged s with_value w / 2 ^ 24 % 256 with_phase Writing (advanced t (w % 2 ^ 24 * 2 ^ 8)) with_queues each keep keep (cond (first_of_word t) (take 1) keep) keep keep)

-- `receive.tests`, `receive.byte`. The byte goes behind those gathered, from the top (`payload.order`); a word that it fills goes to SDI.
unfoldable pub receive : View → ℕ → Decision
receive s byte =
    let t = transfer s.phase in
    let w = t.part + byte * 2 ^ (24 - 8 * (t.moved.0 % 4)) in
    s.control.held ⇒ number.held_in_reset
    ∣ idle s.phase ⇒ number.no_transfer
    ∣ unattached s.phase ⇒ number.not_attached
    ∣ not (reading s.phase) ⇒ number.not_this_kind
    ∣ reached t ⇒ number.length_reached
    ∣ last_of_word t && full s.queues.sdi ⇒ number.no_room
    ∣ does (unchanged s with_phase Reading (advanced t (cond (last_of_word t) 0 w)) with_queues each keep keep keep (cond (last_of_word t) (push w) keep) keep)

-- ── Finish ────────────────────────────────────────────────────────────────────────────────────────────────────
-- the codes that end an ENTDAA: 0 unless a request is open, and 4 before the first request (`finish.codes`)
abbrev pub ends_entdaa : Phase → ℕ → Bool
ends_entdaa p code = (eqb code 0 && not (requested p)) || (eqb code 4 && unrequested p)

-- the codes that end any other transfer (`finish.codes`), by whether none or all of its bytes have moved. 4 and 6 ask that none has; 0 asks
-- for all, but not of a private read; 1 is for a CCC read that has not moved all. Endings.antt has the same as a table.
abbrev pub ends_other : Phase → ℕ → Bool
ends_other p code =
    let t = transfer p in
    let nothing = eqb t.moved.0 0 in
    let everything = eqb t.moved.0 t.length.0 in
    let ccc = not (private t.kind) in
    (eqb code 4 && nothing && (ccc || t.header))
    || (eqb code 6 && nothing && not (broadcast t.kind))
    || (eqb code 0 && (everything || (reading p && not ccc)))
    || (eqb code 1 && reading p && ccc && not everything)

-- the codes that may end the open transfer, with 8 alone where its device was not attached; any other is 14 (`finish.codes`)
unfoldable pub allowed : Phase → ℕ → Bool
allowed p code = cond (unattached p) (eqb code 8) (cond (assigning p) (ends_entdaa p code) (ends_other p code))

-- `finish.receipt`: bytes of a read are left that fill no word, so the bytes moved need more words than they fill (`units.apart`). The
-- part word has 0 behind them already (`formed.part`), and goes to SDI as it is.
unfoldable pub padded : Phase → Bool
padded p = reading p && ltb ((transfer p).moved.0 / 4) (words_for (transfer p).moved).0

-- `receipt.sync`, `source.receipt`: a receipt raises the sync, modulo 256, and sets pending bit 5
abbrev pub receipted : Control → Control
receipted c = record { held = c.held; sync = (c.sync + 1) % 256; ibisync = c.ibisync; cmdrpending = true; ibipending = c.ibipending; daapending = c.daapending; burst = c.burst; latest = c.latest }

-- `finish.removal`: a write that ends with 4, 6 or 8 takes its payload out of SDO. ENTDAA is no write (`command.entdaa`), and a burst ends
-- by `burst_finish`.
abbrev pub removes : Phase → ℕ → Bool
removes p code = writing p && (eqb code 4 || eqb code 6 || eqb code 8)

-- the words that leave, of `level` in SDO: as many as the commanded length needs (`units.apart`), or all if there are fewer. Such a write
-- has moved no byte (`finish.codes`), so none of its words has left SDO before.
abbrev pub removed : Transfer → ℕ → ℕ
removed t level = min (words_for t.length).0 level

-- `finish.tests`, `finish.receipt`, `finish.removal`. Room for both words is tested before either is pushed. The rest of a write's part
-- word goes with the transfer (`send.rest`).
unfoldable pub finish : View → ℕ → Decision
finish s code =
    let t = transfer s.phase in
    let q = s.queues in
    let r = receipt_word code t.moved.0 s.control.sync in
    s.control.held ⇒ number.held_in_reset
    ∣ idle s.phase ⇒ number.no_transfer
    ∣ not (allowed s.phase code) ⇒ number.ending_not_allowed
    ∣ full q.cmdr || (padded s.phase && full q.sdi) ⇒ number.no_room
    ∣ does (unchanged s with_value r with_control receipted s.control with_phase Idle with_queues each keep (push r) (cond (removes s.phase code) (take (removed t q.sdo.level)) keep) (cond (padded s.phase) (push t.part) keep) keep)

-- ── Interrupt request ─────────────────────────────────────────────────────────────────────────────────────────
-- `interrupt.entry`, `source.interrupt`: an accepted interrupt raises the sync of the entries, modulo 256, and sets pending bit 6
abbrev pub interrupted : Control → Control
interrupted c = record { held = c.held; sync = c.sync; ibisync = (c.ibisync + 1) % 256; cmdrpending = c.cmdrpending; ibipending = true; daapending = c.daapending; burst = c.burst; latest = c.latest }

-- `interrupt.tests`, `interrupt.entry`. Of IBI_CONFIG bit 1 is listen and bit 0 enable (`ibi-config.keeps`); the device's flags are as
-- `device` has them.
unfoldable pub interrupt : View → ℕ → ℕ → Decision
interrupt s a byte =
    let f = device a s in
    let e = entry_word a (cond (bit 2 f) byte 0) s.control.ibisync in
    s.control.held ⇒ number.held_in_reset
    ∣ busy s ⇒ number.transfer_open
    ∣ not (bit 1 s.regs.config) ⇒ number.not_heard
    ∣ not (bit 0 s.regs.config && bit 0 f && bit 1 f) ⇒ number.not_acknowledged
    ∣ full s.queues.ibi ⇒ number.no_room
    ∣ does (unchanged s with_value e with_control interrupted s.control with_queues each keep keep keep keep (push e))

-- ── Address request ───────────────────────────────────────────────────────────────────────────────────────────
-- `source.address`: pending bit 7 is set where b holds, and else stays
abbrev pub asked : Bool → Control → Control
asked b c = pending c.cmdrpending c.ibipending (c.daapending || b) c

-- `request.tests`, `request.opens`: both words go to SDI, v first, and a request is open. It needs room for both.
unfoldable pub request : View → ℕ → ℕ → Decision
request s v w =
    s.control.held ⇒ number.held_in_reset
    ∣ idle s.phase ⇒ number.no_transfer
    ∣ not (assigning s.phase) || requested s.phase ⇒ number.not_this_kind
    ∣ ltb (room s.queues.sdi) 2 ⇒ number.no_room
    ∣ does (unchanged s with_control asked (empty s.queues.sdo) s.control with_phase Requested (transfer s.phase) with_queues each keep keep keep (push2 v w) keep)

-- ── Address take ──────────────────────────────────────────────────────────────────────────────────────────────
-- `take.tests`, `take.address`: the word leaves SDO whatever its parity. With an even number of ones the number is 19, the request stays
-- open, and bit 7 is set where that was the last word (`source.address`). The device table stays (`device.writer`).
unfoldable pub take_address : View → Decision
take_address s =
    let q = s.queues.sdo in
    let t = transfer s.phase in
    let odd = eqb (ones (q.first / 2 ^ 24) % 2) 1 in
    s.control.held ⇒ number.held_in_reset
    ∣ idle s.phase ⇒ number.no_transfer
    ∣ not (requested s.phase) ⇒ number.not_this_kind
    ∣ empty q ⇒ number.sdo_empty
    ∣ does (unchanged s with_value q.first / 2 ^ 25 with_number cond odd 0 number.wrong_parity with_control asked (not odd && last q) s.control with_phase cond odd (Answered t) (Requested t) with_queues each keep keep (take 1) keep keep)
