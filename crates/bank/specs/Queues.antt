-- The five rings of a bank, in the order of `store.order`, put together from its numbers: capacities and levels in the state, heads beside
-- it.
use Rattle.std.specs.Prelude.{ℕ}
use Rattle.queues.specs.declared.Five.{Five}
use Rattle.ring.specs.declared.Words.{Words}
use Rattle.ring.specs.declared.Ring.{Ring}
use Rattle.bank.specs.Fives.{Counts}
use Rattle.bank.specs.Fives.{Heads}
use Rattle.bank.specs.declared.Bank.{Bank}

abbrev pub Queues : Type 0
Queues = Five Ring

abbrev pub ring : Words → ℕ → Words → Ring
ring cap head level = record { cap = cap; head = head; level = level }

abbrev pub queues_of : Counts → Counts → Heads → Queues
queues_of k l h =
    record { cmd = ring k.cmd h.cmd l.cmd; cmdr = ring k.cmdr h.cmdr l.cmdr; sdo = ring k.sdo h.sdo l.sdo; sdi = ring k.sdi h.sdi l.sdi; ibi = ring k.ibi h.ibi l.ibi }

abbrev pub queues_in : Bank → Queues
queues_in b = queues_of b.state.caps b.state.levels b.heads

-- the numbers of five rings
abbrev pub caps_of : Queues → Counts
caps_of q = record { cmd = q.cmd.cap; cmdr = q.cmdr.cap; sdo = q.sdo.cap; sdi = q.sdi.cap; ibi = q.ibi.cap }

abbrev pub levels_of : Queues → Counts
levels_of q = record { cmd = q.cmd.level; cmdr = q.cmdr.level; sdo = q.sdo.level; sdi = q.sdi.level; ibi = q.ibi.level }

abbrev pub heads_of : Queues → Heads
heads_of q = record { cmd = q.cmd.head; cmdr = q.cmdr.head; sdo = q.sdo.head; sdi = q.sdi.head; ibi = q.ibi.head }
