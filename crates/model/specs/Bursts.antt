-- Offload bursts, 02 §3: the trigger, and the events of 01 in an open burst; and `decide`, which is every call.
use Rattle.std.specs.Prelude.{ℕ, ◌+◌, ◌-◌, ◌*◌, ◌/◌, ◌%◌, ◌^◌, Bool, false, cond, not, ◌&&◌, leb, ltb, eqb, length, get_or, set}
use Rattle.number.specs.Names as number
use Rattle.bank.specs.declared.Control.{Control}
use Rattle.bank.specs.declared.Phase.{Phase}
use Rattle.bank.specs.declared.Phase.TheVariants.{Idle, Writing, Reading}
use Rattle.bank.specs.Phases.{idle, writing, reading, transfer, unattached}
use Rattle.bank.specs.Bursts.{offloads, span, all_carried, reads_in, writes_in, bursting, place}
use Rattle.registers.specs.Map.{register_at}
use Rattle.model.specs.declared.Call.{Call}
use Rattle.model.specs.declared.Call.TheVariants.{Read, Write, Start, Send, Receive, Finish, Interrupt, Request, Take, Trigger}
use Rattle.model.specs.View.{Tables, View}
use Rattle.model.specs.Decision.{unchanged, ◌with_value◌, ◌with_control◌, ◌with_phase◌, ◌with_tables◌, Decision, does, ◌⇒◌∣◌}
use Rattle.model.specs.Commands.{Single, begun}
use Rattle.model.specs.Registers.{row, read, write}
use Rattle.model.specs.Calls.{busy, attached, advanced, reached, allowed, start, send, receive, finish, interrupt, request, take_address}

-- ── What a burst runs ─────────────────────────────────────────────────────────────────────────────────────────
-- the transfer of the command at place k, which notes attachment as it opens: `trigger.opens`, `burst.finish`
abbrev pub opening : View → ℕ → Phase
opening s k = let c = Single (get_or s.tables.commands k 0) in begun c (attached s c)

-- the control bits where the burst stands at command n, counted from 1; 0 closes it
abbrev pub burst_at : ℕ → Control → Control
burst_at n c = record { held = c.held; sync = c.sync; ibisync = c.ibisync; cmdrpending = c.cmdrpending; ibipending = c.ibipending; daapending = c.daapending; burst = n; latest = c.latest }

-- the lent output has fewer words than the burst of OPS and the offload commands has reads
abbrev pub output_short : View → Bool
output_short s = ltb (length s.tables.output) (reads_in (span s.regs) s.tables.commands)

-- `burst.output`: 13 at any event, where a burst is open and the output is too short for it
unfoldable pub short_in_burst : View → Bool
short_in_burst s = bursting s.control && output_short s

-- ── Trigger ───────────────────────────────────────────────────────────────────────────────────────────────────
-- `trigger.tests`, `trigger.opens`: the burst stands at its first command, whose transfer opens
unfoldable pub trigger : View → Decision
trigger s =
    s.control.held ⇒ number.held_in_reset
    ∣ busy s ⇒ number.transfer_open
    ∣ not (offloads s.regs) ⇒ number.not_in_this_mode
    ∣ eqb (span s.regs) 0 ⇒ number.burst_has_no_commands
    ∣ not (all_carried (span s.regs) s.tables.commands) ⇒ number.not_carried
    ∣ output_short s ⇒ number.no_room
    ∣ does (unchanged s with_control burst_at 1 s.control with_phase opening s 0)

-- ── Events in an open burst: `burst.events` ───────────────────────────────────────────────────────────────────
-- `burst.bytes`: the data word of a write is told by how many writes stand before it
abbrev pub data_word : View → ℕ
data_word s = get_or s.tables.payloads (writes_in (place s.control) s.tables.commands) 0

-- `send.tests` without 12; the byte is the next of the data word, by how many have moved
unfoldable pub burst_send : View → Decision
burst_send s =
    let t = transfer s.phase in
    s.control.held ⇒ number.held_in_reset
    ∣ idle s.phase ⇒ number.no_transfer
    ∣ unattached s.phase ⇒ number.not_attached
    ∣ not (writing s.phase) ⇒ number.not_this_kind
    ∣ reached t ⇒ number.length_reached
    ∣ does (unchanged s with_value data_word s / 2 ^ (24 - 8 * t.moved.0) % 256 with_phase Writing (advanced t 0))

-- `receive.tests` without 13; up to four bytes stay in the part word
unfoldable pub burst_receive : View → ℕ → Decision
burst_receive s byte =
    let t = transfer s.phase in
    s.control.held ⇒ number.held_in_reset
    ∣ idle s.phase ⇒ number.no_transfer
    ∣ unattached s.phase ⇒ number.not_attached
    ∣ not (reading s.phase) ⇒ number.not_this_kind
    ∣ reached t ⇒ number.length_reached
    ∣ does (unchanged s with_phase Reading (advanced t (t.part + byte * 2 ^ (24 - 8 * t.moved.0))))

-- the transfer is that of the last command
abbrev pub last_command : View → Bool
last_command s = leb (span s.regs) s.control.burst

-- `burst.finish`: of a read the part word goes to the output, at the place that the number of reads before it tells
abbrev pub delivered : View → Tables
delivered s =
    let t = s.tables in
    let at = reads_in (place s.control) t.commands in
    record { flags = t.flags; commands = t.commands; payloads = t.payloads; output = cond (reading s.phase) (set t.output at (transfer s.phase).part) t.output }

-- `finish.tests` without 13; `burst.finish`: no receipt and no sync, the value 0, and after any code the next command's transfer opens,
-- or after the last command the burst closes
unfoldable pub burst_finish : View → ℕ → Decision
burst_finish s code =
    let n = s.control.burst in
    s.control.held ⇒ number.held_in_reset
    ∣ idle s.phase ⇒ number.no_transfer
    ∣ not (allowed s.phase code) ⇒ number.ending_not_allowed
    ∣ does (unchanged s with_control burst_at (cond (last_command s) 0 (n + 1)) s.control with_phase cond (last_command s) Idle (opening s n) with_tables delivered s)

-- ── Any call ──────────────────────────────────────────────────────────────────────────────────────────────────
-- `burst.output`: the test of the lent output, ahead of an event's own
abbrev pub output_first : View → Decision → Decision
output_first s d = short_in_burst s ⇒ number.no_room ∣ d

-- an event that an open burst serves: decided by `inside` in a burst, by `outside` else
abbrev pub burst_or : View → Decision → Decision → Decision
burst_or s inside outside = output_first s (cond (bursting s.control) inside outside)

-- `answer.range`: the code of a finish, or the address of an interrupt request
abbrev pub misfit : Call → Bool
misfit (Read o) = false
misfit (Write o v) = false
misfit Start = false
misfit Send = false
misfit (Receive byte) = false
misfit (Finish code) = ltb 15 code
misfit (Interrupt a byte) = ltb 127 a
misfit (Request v w) = false
misfit Take = false
misfit Trigger = false

-- Every call. Of an event 18 comes first (`answer.range`), then 13 in an open burst (`burst.output`), then its own tests; the engine has
-- 21 and 22 before them (`answer.bank`). In an open burst a private transfer is open, so by their own tests a start, a trigger and an
-- interrupt request are 6, an address request and an address take 10 (`burst.events`).
abbrev pub decide : View → Call → Decision
decide s (Read o) = read (row (register_at o)) s
decide s (Write o v) = write (row (register_at o)) s v
decide s Start = output_first s (start s)
decide s Send = burst_or s (burst_send s) (send s)
decide s (Receive byte) = burst_or s (burst_receive s byte) (receive s byte)
decide s (Finish code) = misfit (Finish code) ⇒ number.out_of_range ∣ burst_or s (burst_finish s code) (finish s code)
decide s (Interrupt a byte) = misfit (Interrupt a byte) ⇒ number.out_of_range ∣ output_first s (interrupt s a byte)
decide s (Request v w) = output_first s (request s v w)
decide s Take = output_first s (take_address s)
decide s Trigger = output_first s (trigger s)
