-- `finish.removal` for authors of drivers, as statements about `step`: what SDO holds after a finish, that the removal moves nothing else,
-- and sessions worked by hand. They speak of the phase and the code alone, and not of the definitions in Calls.antt. proofs/Removal.antt has
-- the proofs, `cases_model` that of the sessions.
use Rattle.std.specs.Prelude.{ℕ, ◌+◌, ◌/◌, ◌%◌, ◌≡◌, Bool, true, false, cond, not, ◌&&◌, ◌||◌, List, [], ◌∷◌, ◌++◌, eqb, length, drop, set}
use Rattle.ring.specs.Ring.{place_of}
use Rattle.bank.specs.declared.Control.{Control}
use Rattle.bank.specs.declared.Transfer.{Transfer}
use Rattle.bank.specs.declared.Phase.{Phase}
use Rattle.bank.specs.declared.Phase.TheVariants.{Idle, Writing, Reading, Unrequested, Requested, Answered}
use Rattle.bank.specs.Bursts.{bursting}
use Rattle.bank.specs.Queues.{queues_in}
use Rattle.model.specs.declared.Call.{Call}
use Rattle.model.specs.declared.Call.TheVariants.{Read, Write, Start, Send, Finish, Trigger}
use Rattle.queues.specs.declared.Queue.{Queue}
use Rattle.queues.specs.declared.Queue.TheVariants.{Cmdr, Sdo}
use Rattle.queues.specs.Each.{of}
use Rattle.model.specs.Engine.{step}
use Rattle.model.specs.Rings.{Controller, areas, rings}
use Rattle.model.specs.Laws.{same_queue}
use Rattle.model.specs.Driver.{held_words}
use Rattle.model.specs.Cases.{Line, ◌⇝◌·◌, Case, ◌then◌, all_hold, release}

-- ── SDO after a finish answered 0 ─────────────────────────────────────────────────────────────────────────────
-- the endings without a payload sent: 4 (CE2), 6 (not acknowledged), 8 (address unknown)
abbrev pub unsent : ℕ → Bool
unsent code = eqb code 4 || eqb code 6 || eqb code 8

-- the words that the payload of the open transfer has in SDO by its commanded length, four bytes to a word and the last word in part: a
-- write of any kind has such words, reads and ENTDAA have none
abbrev pub payload_words : Phase → ℕ
payload_words Idle = 0
payload_words (Writing t) = (t.length.0 + 3) / 4
payload_words (Reading t) = 0
payload_words (Unrequested t) = 0
payload_words (Requested t) = 0
payload_words (Answered t) = 0

-- the most words that a finish takes out of SDO
abbrev pub most_removed : Controller → ℕ → ℕ
most_removed l code = cond (unsent code && not (bursting l.bank.state.control)) (payload_words l.bank.state.phase) 0

-- Of every finish answered 0: SDO is without its first words, so many, or all that were there; where that number is 0 it is as before.
unfoldable pub SdoAfterFinish : Type 0
SdoAfterFinish = (l : Controller) (code : ℕ) → (step rings l (Finish code)).answer.number ≡ 0 → held_words Sdo (step rings l (Finish code)).next ≡ drop (most_removed l code) (held_words Sdo l)

-- So where the payload of a write that failed lay in SDO whole, what is left is what was queued behind it: the next write sends its own
-- bytes.
unfoldable pub NextPayloadFirst : Type 0
NextPayloadFirst =
    (l : Controller) (t : Transfer) (code : ℕ) (payload next : List ℕ) → l.bank.state.phase ≡ Writing t → bursting l.bank.state.control ≡ false → unsent code ≡ true
    → length payload ≡ (t.length.0 + 3) / 4 → held_words Sdo l ≡ payload ++ next → (step rings l (Finish code)).answer.number ≡ 0 → held_words Sdo (step rings l (Finish code)).next ≡ next

-- ── What else such a finish changes ───────────────────────────────────────────────────────────────────────────
-- `receipt.sync`, `source.receipt`: the next sync, and pending bit 5, which is the receipt's; bits 6 and 7 stay
pub record CountedIn (c d : Control) : Type 0 where
  pub held : d.held ≡ c.held
  pub sync : d.sync ≡ (c.sync + 1) % 256
  pub ibisync : d.ibisync ≡ c.ibisync
  pub cmdrpending : d.cmdrpending ≡ true
  pub ibipending : d.ibipending ≡ c.ibipending
  pub daapending : d.daapending ≡ c.daapending
  pub burst : d.burst ≡ c.burst
  pub latest : d.latest ≡ c.latest

-- l before it, m after it, r its value: the receipt is queued and counted, the transfer closes, and no other word, queue, pending bit or
-- register moves
pub record OnlyReceipt (l m : Controller) (r : ℕ) : Type 0 where
  pub receipts : held_words Cmdr m ≡ held_words Cmdr l ++ (r ∷ [])
  pub queues : (k : Queue) → same_queue Cmdr k ≡ false → same_queue Sdo k ≡ false → (of k (areas (queues_in m.bank)) ≡ of k (areas (queues_in l.bank))) × (held_words k m ≡ held_words k l)
  -- one store word is written, the receipt's, behind the last entry of CMDR
  pub store : (let a = (areas (queues_in l.bank)).cmdr in m.store ≡ set l.store (a.base + place_of a.ring a.ring.level.0) r)
  pub control : CountedIn l.bank.state.control m.bank.state.control
  pub phase : m.bank.state.phase ≡ Idle
  pub regs : m.bank.state.regs ≡ l.bank.state.regs
  pub flags : m.bank.flags ≡ l.bank.flags
  pub commands : m.bank.commands ≡ l.bank.commands
  pub payloads : m.bank.payloads ≡ l.bank.payloads
  pub output : m.output ≡ l.output

unfoldable pub RemovalAlone : Type 0
RemovalAlone =
    (l : Controller) (t : Transfer) (code : ℕ) → l.bank.state.phase ≡ Writing t → bursting l.bank.state.control ≡ false → unsent code ≡ true → (step rings l (Finish code)).answer.number ≡ 0
    → OnlyReceipt l (step rings l (Finish code)).next (step rings l (Finish code)).answer.value

-- ── Sessions worked by hand, on the session's bank ────────────────────────────────────────────────────────────
-- device 8: attached
abbrev pub sensor : Call
sensor = Write 0x180 0x1102

-- The sensor does not acknowledge a write of two bytes; the next write sends its own. SDO is empty in between, so source bit 2 is set.
unfoldable pub refused_once : Case
refused_once =
    release ∷ sensor ∷ Write 0xdc 0x01d00000 ∷ Write 0xd4 0x210 ∷ Start ∷ []
    then Read 0x088 ⇝ 0x01 · 0 ∷ Finish 6 ⇝ 0x600000 · 0 ∷ Read 0x0c8 ⇝ 4 · 0 ∷ Read 0x088 ⇝ 0x25 · 0
    ∷ Write 0xdc 0xa5c30000 ⇝ 0 · 0 ∷ Write 0xd4 0x210 ⇝ 0 · 0 ∷ Start ⇝ 0x210 · 0 ∷ Send ⇝ 0xa5 · 0 ∷ Send ⇝ 0xc3 · 0 ∷ Finish 0 ⇝ 0x201 · 0 ∷ []

-- Five bytes need two words: the third word in SDO is the next write's.
unfoldable pub rounded_up : Case
rounded_up =
    release ∷ sensor ∷ Write 0xdc 0x11111111 ∷ Write 0xdc 0x22000000 ∷ Write 0xdc 0x33000000 ∷ Write 0xd4 0x510 ∷ Write 0xd4 0x110 ∷ Start ∷ []
    then Finish 6 ⇝ 0x600000 · 0 ∷ Read 0x0c8 ⇝ 3 · 0 ∷ Start ⇝ 0x110 · 0 ∷ Send ⇝ 0x33 · 0 ∷ Finish 0 ⇝ 0x101 · 0 ∷ []

-- Nine bytes need three words and one is there, queued after the start: it goes, and a word that comes later stays.
unfoldable pub fewer : Case
fewer =
    release ∷ sensor ∷ Write 0xd4 0x910 ∷ Start ∷ Write 0xdc 0x11111111 ∷ []
    then Finish 6 ⇝ 0x600000 · 0 ∷ Read 0x0c8 ⇝ 4 · 0 ∷ Write 0xdc 0x22000000 ⇝ 0 · 0 ∷ Write 0xd4 0x110 ⇝ 0 · 0 ∷ Start ⇝ 0x110 · 0 ∷ Read 0x0c8 ⇝ 3 · 0 ∷ Send ⇝ 0x22 · 0 ∷ []

-- A write of no bytes needs no word.
unfoldable pub no_bytes : Case
no_bytes = release ∷ sensor ∷ Write 0xdc 0x11111111 ∷ Write 0xd4 0x010 ∷ Start ∷ [] then Finish 6 ⇝ 0x600000 · 0 ∷ Read 0x0c8 ⇝ 3 · 0 ∷ []

-- Every kind of write: with the header and code 4, to a device that is not attached and 8, a direct and a broadcast CCC and 4.
unfoldable pub kinds : Case
kinds =
    release ∷ sensor ∷ Write 0xdc 0x11111111 ∷ Write 0xdc 0x22222222 ∷ Write 0xdc 0x33333333 ∷ Write 0xdc 0x44444444 ∷ []
    then Write 0xd4 0x200410 ⇝ 0 · 0 ∷ Start ⇝ 0x200410 · 0 ∷ Finish 4 ⇝ 0x400000 · 0 ∷ Read 0x0c8 ⇝ 1 · 0
    ∷ Write 0xd4 0x312 ⇝ 0 · 0 ∷ Start ⇝ 0x312 · 0 ∷ Finish 8 ⇝ 0x800001 · 0 ∷ Read 0x0c8 ⇝ 2 · 0
    ∷ Write 0xd4 0x400110 ⇝ 0 · 0 ∷ Write 0xd4 0x80 ⇝ 0 · 0 ∷ Start ⇝ 0x400110 · 0 ∷ Finish 4 ⇝ 0x400002 · 0 ∷ Read 0x0c8 ⇝ 3 · 0
    ∷ Write 0xd4 0x400100 ⇝ 0 · 0 ∷ Write 0xd4 0x00 ⇝ 0 · 0 ∷ Start ⇝ 0x400100 · 0 ∷ Finish 4 ⇝ 0x400003 · 0 ∷ Read 0x0c8 ⇝ 4 · 0 ∷ []

-- The words removed lie at the last place of the area and at its first.
unfoldable pub round_the_end : Case
round_the_end =
    release ∷ sensor ∷ Write 0xdc 1 ∷ Write 0xdc 2 ∷ Write 0xdc 3 ∷ Write 0xd4 0xc10 ∷ Start ∷ Finish 6 ∷ Write 0xdc 4 ∷ Write 0xdc 5 ∷ Write 0xdc 0x66000000 ∷ Write 0xd4 0x810 ∷ Start ∷ []
    then Finish 6 ⇝ 0x600001 · 0 ∷ Read 0x0c8 ⇝ 3 · 0 ∷ Write 0xd4 0x110 ⇝ 0 · 0 ∷ Start ⇝ 0x110 · 0 ∷ Send ⇝ 0x66 · 0 ∷ []

-- Nothing is removed by a finish that is refused, here with 14; by a read; by a write that ends with 0.
unfoldable pub others_keep : Case
others_keep =
    release ∷ sensor ∷ Write 0xdc 0x11111111 ∷ Write 0xdc 0x22222222 ∷ Write 0xd4 0x410 ∷ Start ∷ []
    then Finish 8 ⇝ 0 · 14 ∷ Read 0x0c8 ⇝ 2 · 0 ∷ Send ⇝ 0x11 · 0 ∷ Send ⇝ 0x11 · 0 ∷ Send ⇝ 0x11 · 0 ∷ Send ⇝ 0x11 · 0 ∷ Finish 0 ⇝ 0x400 · 0 ∷ Read 0x0c8 ⇝ 3 · 0
    ∷ Write 0xd4 0x411 ⇝ 0 · 0 ∷ Start ⇝ 0x411 · 0 ∷ Finish 6 ⇝ 0x600001 · 0 ∷ Read 0x0c8 ⇝ 3 · 0 ∷ []

-- Nor by ENTDAA, whose length counts as 0 (`command.entdaa`).
unfoldable pub assignment_keeps : Case
assignment_keeps = release ∷ Write 0xd4 0x400400 ∷ Write 0xd4 0x07 ∷ Start ∷ Write 0xdc 0x11111111 ∷ [] then Finish 4 ⇝ 0x400000 · 0 ∷ Read 0x0c8 ⇝ 3 · 0 ∷ []

-- Nor while CMDR is full: the finish is 13, and removes once the receipt has room.
unfoldable pub no_room_keeps : Case
no_room_keeps =
    release ∷ sensor ∷ Write 0xd4 0x10 ∷ Write 0xd4 0x10 ∷ Write 0xd4 0x10 ∷ Write 0xd4 0x10 ∷ Start ∷ Finish 0 ∷ Start ∷ Finish 0 ∷ Start ∷ Finish 0 ∷ Start ∷ Finish 0 ∷ Write 0xdc 0x11111111 ∷ Write 0xd4 0x410 ∷ Start ∷ []
    then Finish 6 ⇝ 0 · 13 ∷ Read 0x0c8 ⇝ 3 · 0 ∷ Read 0x0d8 ⇝ 0 · 0 ∷ Finish 6 ⇝ 0x600004 · 0 ∷ Read 0x0c8 ⇝ 4 · 0 ∷ []

-- Nor in a burst (`burst.commands`).
unfoldable pub burst_keeps : Case
burst_keeps =
    release ∷ sensor ∷ Write 0xdc 0x11111111 ∷ Write 0x2c0 0x410 ∷ Write 0x100 0x03 ∷ [] then Trigger ⇝ 0 · 0 ∷ Finish 6 ⇝ 0 · 0 ∷ Read 0x0c8 ⇝ 3 · 0 ∷ []

unfoldable pub sessions : List Case
sessions = refused_once ∷ rounded_up ∷ fewer ∷ no_bytes ∷ kinds ∷ round_the_end ∷ others_keep ∷ assignment_keeps ∷ no_room_keeps ∷ burst_keeps ∷ []

unfoldable pub RemovalsWork : Type 0
RemovalsWork = all_hold sessions ≡ true
