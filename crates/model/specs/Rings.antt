-- The ring engine: a bank, the store with its queues, and the output. The promises of functions cite this engine.
use Rattle.std.specs.Prelude.{ℕ, ◌+◌, not, List, eqb, length, get_or, set}
use Rattle.number.specs.Names as number
use Rattle.ring.specs.declared.Ring.{Ring}
use Rattle.ring.specs.Ring.{place_of, pushed_of, taken_of, cleared_of, entries}
use Rattle.bank.specs.Fives.{Counts}
use Rattle.bank.specs.declared.Bank.{Bank}
use Rattle.bank.specs.Queues.{Queues, queues_in, caps_of, levels_of, heads_of}
use Rattle.bank.specs.SetUp.{total}
use Rattle.bank.specs.Formed.{well_formed}
use Rattle.model.specs.View.{QueueView, View}
use Rattle.queues.specs.declared.Five.{Five}
use Rattle.queues.specs.Each.{each}
use Rattle.model.specs.Decision.{QueueOp, keep, clear, take, push, push2, Effect, Decision, ◌⇒◌∣◌}
use Rattle.model.specs.Engine.{Engine}

-- the state of the ring engine: a bank, the lent store, and the output that is lent to a call
pub record Controller : Type 0 where
  pub bank : Bank
  pub store : List ℕ
  pub output : List ℕ

-- ── Areas: `store.order` ──────────────────────────────────────────────────────────────────────────────────────
-- a queue's ring, and the place in the store where its area begins
pub record Area : Type 0 where
  pub ring : Ring
  pub base : ℕ

abbrev pub area : Ring → ℕ → Area
area r b = record { ring = r; base = b }

-- where the area of each queue behind CMD begins, by the capacities
abbrev pub cmdr_at : Counts → ℕ
cmdr_at k = k.cmd.0

abbrev pub sdo_at : Counts → ℕ
sdo_at k = k.cmd.0 + k.cmdr.0

abbrev pub sdi_at : Counts → ℕ
sdi_at k = k.cmd.0 + k.cmdr.0 + k.sdo.0

abbrev pub ibi_at : Counts → ℕ
ibi_at k = k.cmd.0 + k.cmdr.0 + k.sdo.0 + k.sdi.0

abbrev pub areas : Queues → Five Area
areas q = let k = caps_of q in each (area q.cmd 0) (area q.cmdr (cmdr_at k)) (area q.sdo (sdo_at k)) (area q.sdi (sdi_at k)) (area q.ibi (ibi_at k))

-- the words of a queue, first word first
abbrev pub words_in : Area → List ℕ → List ℕ
words_in a st = entries a.ring a.base st

-- ── What it shows ─────────────────────────────────────────────────────────────────────────────────────────────
abbrev pub view_area : Area → List ℕ → QueueView
view_area a st =
    record { cap = a.ring.cap.0; level = a.ring.level.0; first = get_or (words_in a st) 0 0; second = get_or (words_in a st) 1 0 }

abbrev pub view_queues : Queues → List ℕ → Five QueueView
view_queues q st = let a = areas q in each (view_area a.cmd st) (view_area a.cmdr st) (view_area a.sdo st) (view_area a.sdi st) (view_area a.ibi st)

abbrev pub view_rings : Controller → View
view_rings l =
    let b = l.bank in
    record {
      regs = b.state.regs;
      control = b.state.control;
      phase = b.state.phase;
      tables = record { flags = b.flags; commands = b.commands; payloads = b.payloads; output = l.output };
      queues = view_queues (queues_in b) l.store;
    }

-- ── What an effect does ───────────────────────────────────────────────────────────────────────────────────────
-- what an operation does to a ring's first place and level: `ring.push`, `ring.take`, `ring.clear`
unfoldable pub on_ring : QueueOp → Ring → Ring
on_ring keep r = r
on_ring clear r = cleared_of r
on_ring (take k) r = taken_of r k
on_ring (push w) r = pushed_of r
on_ring (push2 v w) r = pushed_of (pushed_of r)

-- what it does to the store: a push writes its word behind the last entry, and no other operation writes (`ring.push`, `ring.take`,
-- `ring.clear`)
unfoldable pub on_store : QueueOp → Area → List ℕ → List ℕ
on_store keep a st = st
on_store clear a st = st
on_store (take k) a st = st
on_store (push w) a st = set st (a.base + place_of a.ring a.ring.level.0) w
on_store (push2 v w) a st = set (set st (a.base + place_of a.ring a.ring.level.0) v) (a.base + place_of a.ring (a.ring.level.0 + 1)) w

abbrev pub on_rings : Five QueueOp → Queues → Queues
on_rings o q = record { cmd = on_ring o.cmd q.cmd; cmdr = on_ring o.cmdr q.cmdr; sdo = on_ring o.sdo q.sdo; sdi = on_ring o.sdi q.sdi; ibi = on_ring o.ibi q.ibi }

abbrev pub on_stores : Five QueueOp → Five Area → List ℕ → List ℕ
on_stores o a st = on_store o.ibi a.ibi (on_store o.sdi a.sdi (on_store o.sdo a.sdo (on_store o.cmdr a.cmdr (on_store o.cmd a.cmd st))))

abbrev pub settle_rings : Controller → Effect → Controller
settle_rings l e =
    let q = queues_in l.bank in
    let r = on_rings e.ops q in
    record {
      bank =
          record {
            state = record { caps = caps_of r; levels = levels_of r; regs = e.regs; control = e.control; phase = e.phase };
            heads = heads_of r;
            flags = e.tables.flags;
            commands = e.tables.commands;
            payloads = e.tables.payloads;
          };
      store = on_stores e.ops (areas q) l.store;
      output = e.tables.output;
    }

-- the tests before every call: 21 for the bank, then 22 for the length of the store (`answer.bank`)
unfoldable pub guard_rings : Controller → Decision → Decision
guard_rings l d = not (well_formed l.bank) ⇒ number.not_well_formed ∣ not (eqb (length l.store) (total l.bank.state.caps)) ⇒ number.store_length ∣ d

abbrev pub rings : Engine Controller
rings = record { view = view_rings; guard = guard_rings; settle = settle_rings; lend = λ o l. record { bank = l.bank; store = l.store; output = o } }
