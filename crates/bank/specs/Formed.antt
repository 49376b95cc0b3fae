-- When a bank is well formed: 01, 'Numbers that come back', 02 §3 of an open burst and 02 §5 of the words last read. What the types of the code already say (an ID below
-- 256, 128 flags, 32 bits) is not asked again.
use Rattle.std.specs.Prelude.{ℕ, ◌-◌, ◌*◌, ◌%◌, ◌^◌, Bool, true, cond, not, ◌&&◌, ◌||◌, List, [], ◌∷◌, leb, ltb, eqb, get_or}
use Rattle.ring.specs.declared.Ring.{Ring}
use Rattle.bank.specs.declared.Regs.{Regs}
use Rattle.bank.specs.declared.Latest.{Latest}
use Rattle.bank.specs.declared.Control.{Control}
use Rattle.bank.specs.declared.Transfer.{Transfer}
use Rattle.bank.specs.declared.Phase.{Phase}
use Rattle.bank.specs.declared.Bank.{Bank}
use Rattle.bank.specs.Phases.{idle, transfer, limit, part_bytes}
use Rattle.bank.specs.Bursts.{offloads, span, all_carried, bursting, place, opens, gathered_bytes}
use Rattle.bank.specs.Queues.{Queues, queues_in}
use Rattle.bank.specs.SetUp.{size_ok, marks_ok}

-- `formed.set-up`, of one queue: capacity, first place and level
abbrev pub ring_ok : ℕ → Ring → Bool
ring_ok least r = size_ok least r.cap.0 && ltb r.head r.cap.0 && leb r.level.0 r.cap.0

unfoldable pub queues_ok : Queues → Bool
queues_ok q = ring_ok 2 q.cmd && ring_ok 1 q.cmdr && ring_ok 1 q.sdo && ring_ok 2 q.sdi && ring_ok 1 q.ibi

-- `formed.fields`, of the registers, and of the devices' flags
unfoldable pub regs_ok : Regs → Bool
regs_ok g = ltb g.ops 128 && ltb g.config 4 && ltb g.selected 128

unfoldable pub flags_ok : List ℕ → Bool
flags_ok [] = true
flags_ok (f ∷ fs) = ltb f 8 && flags_ok fs

-- a transfer whose length has 12 bits (`formed.fields`), with no more bytes moved than `most` (`formed.moved`), and with 0 in its part word
-- behind the first `parts` bytes (`formed.part`)
abbrev pub transfer_ok : Transfer → ℕ → ℕ → Bool
transfer_ok t most parts = ltb t.length.0 4096 && leb t.moved.0 most && eqb (t.part % 2 ^ (32 - 8 * parts)) 0

-- the transfer that is open outside a burst; a phase has one at most
unfoldable pub phase_ok : Phase → Bool
phase_ok p = transfer_ok (transfer p) (limit p) (part_bytes p)

-- `formed.burst`: mode and commands would pass a trigger's tests, it stands at one of its commands, and that command's transfer is the
-- open one. That it has a command at all (28) follows from where it stands.
unfoldable pub burst_ok : Control → Regs → Phase → List ℕ → Bool
burst_ok c g p ws =
    offloads g && all_carried (span g) ws && leb c.burst (span g) && opens (get_or ws (place c) 0) p && transfer_ok (transfer p) (limit p) (gathered_bytes p)

unfoldable pub open_ok : Control → Regs → Phase → List ℕ → Bool
open_ok c g p ws = cond (bursting c) (burst_ok c g p ws) (phase_ok p)

-- `formed.reset`, by parts: queues, control bits with the words last read, and no transfer
abbrev pub ring_clear : Ring → Bool
ring_clear r = eqb r.head 0 && eqb r.level.0 0

unfoldable pub queues_clear : Queues → Bool
queues_clear q = ring_clear q.cmd && ring_clear q.cmdr && ring_clear q.sdo && ring_clear q.sdi && ring_clear q.ibi

abbrev pub latest_clear : Latest → Bool
latest_clear w = eqb w.cmdr 0 && eqb w.sdi 0 && eqb w.ibi 0

unfoldable pub control_clear : Control → Bool
control_clear c = eqb c.sync 0 && eqb c.ibisync 0 && not c.cmdrpending && not c.ibipending && not c.daapending && (eqb c.burst 0 && latest_clear c.latest)

unfoldable pub reset_ok : Control → Phase → Queues → Bool
reset_ok c p q = not c.held || (queues_clear q && control_clear c && idle p)

-- a bank is well formed; the watermarks of `formed.set-up` stand among the registers
unfoldable pub well_formed : Bank → Bool
well_formed b =
    let s = b.state in
    queues_ok (queues_in b) && (regs_ok s.regs && marks_ok s.regs.marks s.caps) && open_ok s.control s.regs s.phase b.commands && reset_ok s.control s.phase (queues_in b) && flags_ok b.flags
