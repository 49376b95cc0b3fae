-- Laws for authors of drivers, as statements about `step`: what is read back, rooms, what a read changes, reset and release, a finish made
-- again. proofs/Driver.antt has a proof of each.
use Rattle.std.specs.Prelude.{ℕ, ◌+◌, ◌*◌, ◌%◌, ◌^◌, ◌<◌, ◌≡◌, Bool, true, false, cond, ◌&&◌, ◌||◌, List, [], ◌∷◌, length, get_or, drop}
use Rattle.number.specs.Names as number
use Rattle.bank.specs.Queues.{queues_in}
use Rattle.bank.specs.declared.Control.{Control}
use Rattle.bank.specs.Fives.{Sizes}
use Rattle.bank.specs.Phases.{idle, transfer}
use Rattle.bank.specs.Bursts.{bursting}
use Rattle.bank.specs.SetUp.{set_up, total, cleared}
use Rattle.bank.specs.Formed.{well_formed}
use Rattle.registers.specs.Map.{register_at}
use Rattle.model.specs.declared.Call.{Call}
use Rattle.model.specs.declared.Call.TheVariants.{Read, Write, Finish}
use Rattle.bank.specs.Bits.{bit, bits, word_if}
use Rattle.model.specs.View.{View, full, last}
use Rattle.queues.specs.declared.Queue.{Queue}
use Rattle.queues.specs.declared.Queue.TheVariants.{Cmdr, Sdo, Ibi}
use Rattle.queues.specs.Each.{of}
use Rattle.model.specs.Commands.{receipt_word}
use Rattle.model.specs.Calls.{padded}
use Rattle.model.specs.Registers.{Cell, scratch, mask, ops, ibi_config, dev_char, watermark, offload_cmd, offload_sdo, Row, absent, shows, holds, pushes, takes, enables, acknowledges, burst_holds, above_capacity, row, remembered_in}
use Rattle.model.specs.Engine.{step, Lent, lending, final}
use Rattle.model.specs.Rings.{Controller, areas, words_in, view_rings, rings}
use Rattle.model.specs.Laws.{fresh_controller, same_queue}

-- ── What is written is read back, by the register's named bits ────────────────────────────────────────────────
-- what a read shows of the word v that was written: by `map.bits`, `map.write-only`, `ops.keeps`, `dev-char.read`
abbrev pub shown_of : Cell → ℕ → Controller → ℕ
shown_of scratch v l = v
shown_of mask v l = v % 2 ^ 8
shown_of ops v l = word_if (idle l.bank.state.phase) 128 + v % 2 ^ 7
shown_of ibi_config v l = 0
shown_of dev_char v l = bits 15 9 v * 2 ^ 9 + cond (bit 8 v) (bits 3 1 v) (get_or l.bank.flags (bits 15 9 v) 0) * 2
shown_of (watermark q) v l = v % 2 ^ 16
shown_of (offload_cmd i) v l = v
shown_of (offload_sdo i) v l = v

-- the tables have a place for it: by their types 128 devices and sixteen words
abbrev pub Within : Cell → ℕ → Controller → Type 0
Within scratch v l = Unit {0}
Within mask v l = Unit {0}
Within ops v l = Unit {0}
Within ibi_config v l = Unit {0}
Within dev_char v l = bits 15 9 v < length l.bank.flags
Within (watermark q) v l = Unit {0}
Within (offload_cmd i) v l = i < length l.bank.commands
Within (offload_sdo i) v l = i < length l.bank.payloads

-- `access.reset`, `burst.holds`, `watermark.keeps`: a write to such a register is taken, in reset too, but to OPS and the offload memories
-- not while a burst is open, then it is 6, and to a watermark not above the capacity, then it is 30
unfoldable pub PlainWriteTaken : Type 0
PlainWriteTaken =
    (l : Controller) (o v : ℕ) (c : Cell) → row (register_at o) ≡ holds c → well_formed l.bank ≡ true → length l.store ≡ total l.bank.state.caps → (step rings l (Write o v)).answer ≡ record { value = 0; number = cond (burst_holds c && bursting l.bank.state.control) 6 (cond (above_capacity c v (view_rings l)) 30 0) }

unfoldable pub ReadBack : Type 0
ReadBack =
    (l : Controller) (o v : ℕ) (c : Cell) → row (register_at o) ≡ holds c → Within c v l → (step rings l (Write o v)).answer.number ≡ 0
    → (step rings (step rings l (Write o v)).next (Read o)).answer ≡ record { value = shown_of c v l; number = 0 }

-- `map.write-only`: CMD and SDO read 0
unfoldable pub PushesReadZero : Type 0
PushesReadZero = (l : Controller) (o : ℕ) (q : Queue) → row (register_at o) ≡ pushes q → (step rings l (Read o)).answer.value ≡ 0

-- ── `room.read`: room and words of CMD and of SDO make the capacity, after any list of calls ──────────────────
pub record RoomIs (l : Controller) (caps : Sizes) : Type 0 where
  pub cmd : (step rings l (Read 0x0c0)).answer.value + length (words_in (areas (queues_in l.bank)).cmd l.store) ≡ caps.cmd
  pub sdo : (step rings l (Read 0x0c8)).answer.value + length (words_in (areas (queues_in l.bank)).sdo l.store) ≡ caps.sdo

unfoldable pub RoomAndWords : Type 0
RoomAndWords =
    (caps marks : Sizes) (id : ℕ) (store : List ℕ) (cs : List Lent) → (set_up caps marks id).answer.number ≡ 0 → length store ≡ total (set_up caps marks id).bank.state.caps → RoomIs (final rings (fresh_controller caps marks id store) cs) caps

-- ── What a read changes ───────────────────────────────────────────────────────────────────────────────────────
abbrev pub takes_word : Row → Bool
takes_word absent = false
takes_word (shows f) = false
takes_word (holds c) = false
takes_word (pushes q) = false
takes_word (takes q) = true
takes_word enables = false
takes_word acknowledges = false

-- `map.reads`: a read of any register but CMDR, SDI and IBI changes nothing
unfoldable pub ReadChangesNothing : Type 0
ReadChangesNothing = (l : Controller) (o : ℕ) → takes_word (row (register_at o)) ≡ false → (step rings l (Read o)).next ≡ l

-- `take.read`, of those three: its first word, which is the value, leaves that queue (OthersStay has the other queues); `source.receipt`,
-- `source.interrupt`: of CMDR and IBI the pending bit is cleared where the queue is then empty; `take.empty`: the word is the one last read
pub record ControlAfter (q : Queue) (emptied : Bool) (value : ℕ) (c d : Control) : Type 0 where
  pub held : d.held ≡ c.held
  pub sync : d.sync ≡ c.sync
  pub ibisync : d.ibisync ≡ c.ibisync
  pub cmdrpending : d.cmdrpending ≡ cond (same_queue Cmdr q && emptied) false c.cmdrpending
  pub ibipending : d.ibipending ≡ cond (same_queue Ibi q && emptied) false c.ibipending
  pub daapending : d.daapending ≡ c.daapending
  pub burst : d.burst ≡ c.burst
  pub latest : d.latest ≡ remembered_in q value c.latest

abbrev pub held_words : Queue → Controller → List ℕ
held_words q l = words_in (of q (areas (queues_in l.bank))) l.store

pub record ReadTook (l m : Controller) (value : ℕ) (q : Queue) : Type 0 where
  pub first : value ≡ get_or (held_words q l) 0 0
  pub words : held_words q m ≡ drop 1 (held_words q l)
  pub store : m.store ≡ l.store
  pub output : m.output ≡ l.output
  pub regs : m.bank.state.regs ≡ l.bank.state.regs
  pub phase : m.bank.state.phase ≡ l.bank.state.phase
  pub flags : m.bank.flags ≡ l.bank.flags
  pub commands : m.bank.commands ≡ l.bank.commands
  pub payloads : m.bank.payloads ≡ l.bank.payloads
  pub control : ControlAfter q (last (of q (view_rings l).queues)) value l.bank.state.control m.bank.state.control

-- SDO is excluded: no register takes from it
unfoldable pub ReadTakesOne : Type 0
ReadTakesOne =
    (l : Controller) (o : ℕ) (q : Queue) → row (register_at o) ≡ takes q → same_queue Sdo q ≡ false → (step rings l (Read o)).answer.number ≡ 0 → ReadTook l (step rings l (Read o)).next (step rings l (Read o)).answer.value q

-- ── Reset and release: `enable.reset`, `enable.release`, `enable.keeps` ───────────────────────────────────────
-- after a release: no transfer and no burst, syncs and pending bits 0, no word last read, all queues empty, whatever was before
pub record Clean (l : Controller) : Type 0 where
  pub control : l.bank.state.control ≡ cleared false
  pub phase : idle l.bank.state.phase ≡ true
  pub words : (k : Queue) → held_words k l ≡ []

-- both writes to ENABLE are taken, in every state
unfoldable pub ReleasedClean : Type 0
ReleasedClean =
    (l : Controller) → well_formed l.bank ≡ true → length l.store ≡ total l.bank.state.caps
    → let held = step rings l (Write 0x040 1) in
    let free = step rings held.next (Write 0x040 0) in
    (held.answer ≡ record { value = 0; number = 0 }) × (free.answer ≡ record { value = 0; number = 0 }) × Clean free.next

-- the registers, the device table and the offload memories are as before the reset
pub record Outlives (l m : Controller) : Type 0 where
  pub regs : m.bank.state.regs ≡ l.bank.state.regs
  pub flags : m.bank.flags ≡ l.bank.flags
  pub commands : m.bank.commands ≡ l.bank.commands
  pub payloads : m.bank.payloads ≡ l.bank.payloads

unfoldable pub ResetKeeps : Type 0
ResetKeeps = (l : Controller) (v : ℕ) → Outlives l (step rings l (Write 0x040 v)).next

-- ── A finish outside a burst that was refused with 13, made again after reads: `finish.tests`, `answer.refusal` ─
-- It is 13 again where there is still no room, and else gives the receipt that the first would have given.
abbrev pub reads : List ℕ → List Call
reads [] = []
reads (o ∷ os) = Read o ∷ reads os

abbrev pub finish_lacks_room : View → Bool
finish_lacks_room s = full s.queues.cmdr || (padded s.phase && full s.queues.sdi)

unfoldable pub RefusedFinishAgain : Type 0
RefusedFinishAgain =
    (l : Controller) (code : ℕ) (os : List ℕ) → bursting l.bank.state.control ≡ false → (step rings l (Finish code)).answer.number ≡ number.no_room
    → let m = final rings (step rings l (Finish code)).next (lending l.output (reads os)) in
    (step rings m (Finish code)).answer ≡ cond (finish_lacks_room (view_rings m)) (record { value = 0; number = number.no_room }) (record { value = receipt_word code (transfer l.bank.state.phase).moved.0 l.bank.state.control.sync; number = 0 })
