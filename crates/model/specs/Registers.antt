-- One row for each register of the map: what a read is answered and what a write does follow from the row alone.
use Rattle.std.specs.Prelude.{ℕ, ◌+◌, ◌*◌, ◌%◌, ◌^◌, Bool, true, false, cond, not, ◌&&◌, ltb, eqb, get_or, set}
use Rattle.number.specs.Names as number
use Rattle.ring.specs.Units.{words}
use Rattle.bank.specs.Fives.{Counts}
use Rattle.bank.specs.declared.Regs.{Regs}
use Rattle.bank.specs.declared.Latest.{Latest}
use Rattle.bank.specs.declared.Control.{Control}
use Rattle.bank.specs.declared.Phase.TheVariants.{Idle}
use Rattle.bank.specs.Phases.{idle}
use Rattle.bank.specs.Bursts.{bursting}
use Rattle.bank.specs.SetUp.{cleared}
use Rattle.registers.specs.declared.Register.{Register}
use Rattle.registers.specs.declared.Register.TheVariants.{Version, Id, Scratch, Enable, IrqMask, IrqPending, IrqSource, CmdRoom, CmdrLevel, SdoRoom, SdiLevel, IbiLevel, CmdFifo, CmdrFifo, SdoFifo, SdiFifo, IbiFifo, FifoStatus, Ops, IbiConfig, DevChar, Watermark, OffloadCmd, OffloadSdo, Unmapped}
use Rattle.bank.specs.Bits.{bit, bits, word_if}
use Rattle.model.specs.View.{room, empty, full, last, Tables, View}
use Rattle.queues.specs.declared.Queue.{Queue}
use Rattle.queues.specs.declared.Queue.TheVariants.{Cmd, Cmdr, Sdo, Sdi, Ibi}
use Rattle.queues.specs.Each.{each, of, with}
use Rattle.model.specs.Decision.{clear, take, push, only, Effect, unchanged, ◌with_value◌, ◌with_number◌, ◌with_regs◌, ◌with_control◌, ◌with_phase◌, ◌with_tables◌, ◌with_queues◌, Decision, does, ◌⇒◌∣◌}

-- the registers that keep what is written
pub data Cell : Type 0 where
  scratch mask ops ibi_config dev_char : Cell
  watermark : Queue → Cell
  offload_cmd offload_sdo : ℕ → Cell

-- what a register does with reads and writes
pub data Row : Type 0 where
  absent : Row  -- no register: `map.offsets`
  shows : (View → ℕ) → Row  -- a read gives the number, a write is refused: `map.read-only`
  holds : Cell → Row
  pushes takes : Queue → Row  -- a write puts a word into the queue, a read gives 0; a read takes the first word, a write is refused
  enables acknowledges : Row  -- ENABLE; IRQ_PENDING

-- ── The table ─────────────────────────────────────────────────────────────────────────────────────────────────
-- `device.flags`, of the device at an address: bit 0 attached, bit 1 may interrupt, bit 2 sends a data byte
abbrev pub device : ℕ → View → ℕ
device a s = get_or s.tables.flags a 0

-- the interrupt sources that the mask m has: `source.levels` for bits 0 to 4, then the pending bits, `source.receipt`, `source.interrupt`
-- and `source.address`
abbrev pub sources : ℕ → View → ℕ
sources m s =
    let q = s.queues in
    let w = s.regs.marks in
    let c = s.control in
    word_if (ltb q.cmd.level w.cmd.0 && bit 0 m) 1
    + word_if (ltb w.cmdr.0 q.cmdr.level && bit 1 m) 2
    + word_if (ltb q.sdo.level w.sdo.0 && bit 2 m) 4
    + word_if (ltb w.sdi.0 q.sdi.level && bit 3 m) 8
    + word_if (ltb w.ibi.0 q.ibi.level && bit 4 m) 0x10
    + word_if (c.cmdrpending && bit 5 m) 0x20
    + word_if (c.ibipending && bit 6 m) 0x40
    + word_if (c.daapending && bit 7 m) 0x80

-- `status.read`: a bit for each queue that the driver reads, set where it is empty
abbrev pub status : View → ℕ
status s = word_if (empty s.queues.cmdr) 1 + word_if (empty s.queues.ibi) 2 + word_if (empty s.queues.sdi) 4

-- the queue of a watermark register, in the order of `store.order`
abbrev pub queue_at : ℕ → Queue
queue_at i = cond (eqb i 0) Cmd (cond (eqb i 1) Cmdr (cond (eqb i 2) Sdo (cond (eqb i 3) Sdi Ibi)))

-- the row of each register. Those that show a number: `version.value`, `id.value`, `source.read`, `room.read`, `level.read`, `status.read`.
abbrev pub row : Register → Row
row Version = shows (λ s. 0x00000100)
row Id = shows (λ s. s.regs.id)
row Scratch = holds scratch
row Enable = enables
row IrqMask = holds mask
row IrqPending = acknowledges
row IrqSource = shows (sources 0xff)
row CmdRoom = shows (λ s. room s.queues.cmd)
row CmdrLevel = shows (λ s. s.queues.cmdr.level)
row SdoRoom = shows (λ s. room s.queues.sdo)
row SdiLevel = shows (λ s. s.queues.sdi.level)
row IbiLevel = shows (λ s. s.queues.ibi.level)
row CmdFifo = pushes Cmd
row CmdrFifo = takes Cmdr
row SdoFifo = pushes Sdo
row SdiFifo = takes Sdi
row IbiFifo = takes Ibi
row FifoStatus = shows status
row Ops = holds ops
row IbiConfig = holds ibi_config
row DevChar = holds dev_char
row (Watermark i) = holds (watermark (queue_at i))
row (OffloadCmd i) = holds (offload_cmd i)
row (OffloadSdo i) = holds (offload_sdo i)
row Unmapped = absent

-- ── Watermarks ────────────────────────────────────────────────────────────────────────────────────────────────
-- one of five numbers, by its queue
abbrev pub count_of : Queue → Counts → ℕ
count_of q m = (of q m).0

-- five numbers with x for that of a queue
abbrev pub counts_with : Queue → ℕ → Counts → Counts
counts_with q x m = with q (words x) m

-- ── Stored fields ─────────────────────────────────────────────────────────────────────────────────────────────
-- What a read gives: of OPS bit 7 from the phase (`ops.keeps`), of IBI_CONFIG 0 (`map.write-only`), of DEV_CHAR the selected address and
-- its flags (`dev-char.read`), of the others what was written.
abbrev pub shown : Cell → View → ℕ
shown scratch s = s.regs.scratch
shown mask s = s.regs.mask
shown ops s = word_if (idle s.phase) 0x80 + s.regs.ops
shown ibi_config s = 0
shown dev_char s = s.regs.selected * 2 ^ 9 + device s.regs.selected s * 2
shown (watermark q) s = count_of q s.regs.marks
shown (offload_cmd i) s = get_or s.tables.commands i 0
shown (offload_sdo i) s = get_or s.tables.payloads i 0

-- What a write keeps among the registers, by `map.bits`: `scratch.keeps`, `mask.keeps`, `ops.keeps`, `ibi-config.keeps`,
-- `dev-char.select`, `watermark.keeps`.
abbrev pub stored_regs : Cell → ℕ → Regs → Regs
stored_regs scratch v g = record { id = g.id; scratch = v; mask = g.mask; ops = g.ops; config = g.config; selected = g.selected; marks = g.marks }
stored_regs mask v g = record { id = g.id; scratch = g.scratch; mask = v % 2 ^ 8; ops = g.ops; config = g.config; selected = g.selected; marks = g.marks }
stored_regs ops v g = record { id = g.id; scratch = g.scratch; mask = g.mask; ops = v % 2 ^ 7; config = g.config; selected = g.selected; marks = g.marks }
stored_regs ibi_config v g = record { id = g.id; scratch = g.scratch; mask = g.mask; ops = g.ops; config = v % 2 ^ 2; selected = g.selected; marks = g.marks }
stored_regs dev_char v g = record { id = g.id; scratch = g.scratch; mask = g.mask; ops = g.ops; config = g.config; selected = bits 15 9 v; marks = g.marks }
stored_regs (watermark q) v g = record { id = g.id; scratch = g.scratch; mask = g.mask; ops = g.ops; config = g.config; selected = g.selected; marks = counts_with q (v % 2 ^ 16) g.marks }
stored_regs (offload_cmd i) v g = g
stored_regs (offload_sdo i) v g = g

-- What a write keeps in the tables: `dev-char.flags`, `offload.keeps`. Of the devices' flags no other definition writes any
-- (`device.writer`).
abbrev pub stored_tables : Cell → ℕ → Tables → Tables
stored_tables scratch v t = t
stored_tables mask v t = t
stored_tables ops v t = t
stored_tables ibi_config v t = t
stored_tables dev_char v t = record { flags = cond (bit 8 v) (set t.flags (bits 15 9 v) (bits 3 1 v)) t.flags; commands = t.commands; payloads = t.payloads; output = t.output }
stored_tables (watermark q) v t = t
stored_tables (offload_cmd i) v t = record { flags = t.flags; commands = set t.commands i v; payloads = t.payloads; output = t.output }
stored_tables (offload_sdo i) v t = record { flags = t.flags; commands = t.commands; payloads = set t.payloads i v; output = t.output }

-- `burst.holds`: the registers that an open burst holds
abbrev pub burst_holds : Cell → Bool
burst_holds scratch = false
burst_holds mask = false
burst_holds ops = true
burst_holds ibi_config = false
burst_holds dev_char = false
burst_holds (watermark q) = false
burst_holds (offload_cmd i) = true
burst_holds (offload_sdo i) = true

-- 30 of `watermark.keeps`: the named bits of v are above the capacity of the queue whose watermark is written
abbrev pub above_capacity : Cell → ℕ → View → Bool
above_capacity scratch v s = false
above_capacity mask v s = false
above_capacity ops v s = false
above_capacity ibi_config v s = false
above_capacity dev_char v s = false
above_capacity (watermark q) v s = ltb (of q s.queues).cap (v % 2 ^ 16)
above_capacity (offload_cmd i) v s = false
above_capacity (offload_sdo i) v s = false

-- ── Control bits ──────────────────────────────────────────────────────────────────────────────────────────────
-- the control bits with these pending bits: r is bit 5 (receipt), i bit 6 (interrupt), a bit 7 (address request)
abbrev pub pending : Bool → Bool → Bool → Control → Control
pending r i a c = record { held = c.held; sync = c.sync; ibisync = c.ibisync; cmdrpending = r; ibipending = i; daapending = a; burst = c.burst; latest = c.latest }

-- where b holds, the pending bit of the queue is cleared: of CMDR bit 5 (`source.receipt`), of IBI bit 6 (`source.interrupt`), of SDO bit 7
-- (`source.address`)
abbrev pub clears : Queue → Bool → Control → Control
clears Cmd b c = c
clears Cmdr b c = pending (not b && c.cmdrpending) c.ibipending c.daapending c
clears Sdo b c = pending c.cmdrpending c.ibipending (not b && c.daapending) c
clears Sdi b c = c
clears Ibi b c = pending c.cmdrpending (not b && c.ibipending) c.daapending c

-- `pending.clear`: the pending bits without those at which v has a 1
abbrev pub acknowledged : ℕ → Control → Control
acknowledged v c = pending (not (bit 5 v) && c.cmdrpending) (not (bit 6 v) && c.ibipending) (not (bit 7 v) && c.daapending) c

-- the control bits out of reset; nothing else of them changes
abbrev pub released : Control → Control
released c = record { held = false; sync = c.sync; ibisync = c.ibisync; cmdrpending = c.cmdrpending; ibipending = c.ibipending; daapending = c.daapending; burst = c.burst; latest = c.latest }

-- ── Words last read ───────────────────────────────────────────────────────────────────────────────────────────
-- `take.empty`: the word last read from a queue since the release, 0 where none was. Nothing is read from CMD and SDO.
abbrev pub latest_of : Queue → Control → ℕ
latest_of Cmd c = 0
latest_of Cmdr c = c.latest.cmdr
latest_of Sdo c = 0
latest_of Sdi c = c.latest.sdi
latest_of Ibi c = c.latest.ibi

abbrev pub remembered_in : Queue → ℕ → Latest → Latest
remembered_in Cmd w l = l
remembered_in Cmdr w l = record { cmdr = w; sdi = l.sdi; ibi = l.ibi }
remembered_in Sdo w l = l
remembered_in Sdi w l = record { cmdr = l.cmdr; sdi = w; ibi = l.ibi }
remembered_in Ibi w l = record { cmdr = l.cmdr; sdi = l.sdi; ibi = w }

-- w is the word last read from the queue
abbrev pub remembered : Queue → ℕ → Control → Control
remembered q w c = record { held = c.held; sync = c.sync; ibisync = c.ibisync; cmdrpending = c.cmdrpending; ibipending = c.ibipending; daapending = c.daapending; burst = c.burst; latest = remembered_in q w c.latest }

-- ── ENABLE ────────────────────────────────────────────────────────────────────────────────────────────────────
-- bit 0 written to ENABLE: 1 is `enable.reset`, which closes an open burst and forgets the words last read too (`cleared`), and leaves
-- registers and tables (`enable.keeps`); 0 is `enable.release`
unfoldable pub enable : View → Bool → Effect
enable s true = unchanged s with_control cleared true with_phase Idle with_queues each clear clear clear clear clear
enable s false = unchanged s with_control released s.control

-- ── Reads of CMDR, SDI and IBI ────────────────────────────────────────────────────────────────────────────────
-- `take.read`: the first word leaves the queue and is remembered
abbrev pub taken_first : Queue → View → Effect
taken_first q s =
    let v = of q s.queues in
    unchanged s with_value v.first with_control remembered q v.first (clears q (last v) s.control) with_queues only q (take 1)

-- `take.empty`: the word remembered last is shown once more, with number 3, and nothing changes
abbrev pub shown_again : Queue → View → Effect
shown_again q s = unchanged s with_value latest_of q s.control with_number number.empty

-- ── Reads and writes, by their row ────────────────────────────────────────────────────────────────────────────
-- A read, by the register's row (`access.order`; 21 and 22 are the engine's). Without a register it is 4. Of CMDR, SDI and IBI the first
-- word is taken; an empty one shows its last word again. Every other read changes nothing (`map.reads`). CMD and SDO give 0
-- (`map.write-only`), ENABLE 1 in reset (`enable.release`), IRQ_PENDING the sources of the mask (`pending.read`).
abbrev pub read : Row → View → Decision
read absent s = true ⇒ number.no_register ∣ does (unchanged s)
read (shows f) s = does (unchanged s with_value f s)
read (holds c) s = does (unchanged s with_value shown c s)
read (pushes q) s = does (unchanged s)
read (takes q) s = cond (empty (of q s.queues)) (does (shown_again q s)) (does (taken_first q s))
read enables s = does (unchanged s with_value word_if s.control.held 1)
read acknowledges s = does (unchanged s with_value sources s.regs.mask s)

-- A write, by the register's row (`access.order`). Without a register it is 4, to one that is only read 2 (`map.read-only`), to one that an
-- open burst holds 6 (`burst.holds`), to a watermark 30 where it would be above the capacity (`watermark.keeps`). CMD and SDO take the
-- word, with 5 in reset and 1 where they are full (`cmd.push`, `sdo.push`). All else is 0, whatever bits are set (`map.ignored`).
abbrev pub write : Row → View → ℕ → Decision
write absent s v = true ⇒ number.no_register ∣ does (unchanged s)
write (shows f) s v = true ⇒ number.dropped_read_only ∣ does (unchanged s)
write (holds c) s v =
    burst_holds c && bursting s.control ⇒ number.transfer_open
    ∣ above_capacity c v s ⇒ number.watermark_above_capacity
    ∣ does (unchanged s with_regs stored_regs c v s.regs with_tables stored_tables c v s.tables)
write (pushes q) s v =
    s.control.held ⇒ number.held_in_reset ∣ full (of q s.queues) ⇒ number.dropped_full ∣ does (unchanged s with_control clears q true s.control with_queues only q (push v))
write (takes q) s v = true ⇒ number.dropped_read_only ∣ does (unchanged s)
write enables s v = does (enable s (bit 0 v))
write acknowledges s v = does (unchanged s with_control acknowledged v s.control)
