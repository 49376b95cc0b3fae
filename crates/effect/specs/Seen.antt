-- A view put together from what code sees, for contracts that hold for any engine: the state, the tables, and the first two words of each
-- queue.
use Rattle.std.specs.Prelude.{ℕ, get_or}
use Rattle.ring.specs.declared.Words.{Words}
use Rattle.bank.specs.declared.State.{State}
use Rattle.bank.specs.Bits.{bits}
use Rattle.model.specs.View.{QueueView, Tables, View}
use Rattle.queues.specs.declared.Five.{Five}
use Rattle.queues.specs.Each.{each, of}
use Rattle.model.specs.Registers.{Row, absent, shows, holds, pushes, takes, enables, acknowledges}

-- the first words of a queue, 0 for a word that is not there
pub record Front : Type 0 where
  pub first : ℕ
  pub second : ℕ

abbrev pub Fronts : Type 0
Fronts = Five Front

abbrev pub seen_queue : Words → Words → Front → QueueView
seen_queue cap level f = record { cap = cap.0; level = level.0; first = f.first; second = f.second }

abbrev pub seen : State → Tables → Fronts → View
seen st t f =
    let k = st.caps in
    let l = st.levels in
    record {
      regs = st.regs;
      control = st.control;
      phase = st.phase;
      tables = t;
      queues = each (seen_queue k.cmd l.cmd f.cmd) (seen_queue k.cmdr l.cmdr f.cmdr) (seen_queue k.sdo l.sdo f.sdo) (seen_queue k.sdi l.sdi f.sdi) (seen_queue k.ibi l.ibi f.ibi);
    }

-- the word that a read of a register takes, 0 where it takes none
abbrev pub taken_by : Row → Fronts → ℕ
taken_by absent f = 0
taken_by (shows g) f = 0
taken_by (holds c) f = 0
taken_by (pushes q) f = 0
taken_by (takes q) f = (of q f).first
taken_by enables f = 0
taken_by acknowledges f = 0

-- the flags of the device that a command word names
abbrev pub flags_of : ℕ → Tables → ℕ
flags_of w t = get_or t.flags (bits 7 1 w) 0
