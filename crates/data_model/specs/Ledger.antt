-- The ledger of a list of calls (`data.counted`): since the release, from calls and answers alone, the words that CMD and SDO took and that
-- SDI gave, and for each start what moved until its finish. Demand 3's tally counts bytes and keeps none, so this fold is one of its own;
-- release, reset and the cut into commands are demand 3's.
use Rattle.std.specs.Prelude.{ℕ, ◌+◌, Bool, true, false, cond, ◌||◌, List, [], ◌∷◌, ◌++◌, eqb, length}
use Rattle.std.proofs.Math.Option.{Option, none, some}
use Rattle.number.specs.Names as number
use Rattle.bank.specs.declared.Answer.{Answer}
use Rattle.bank.specs.Bits.{bit}
use Rattle.model.specs.declared.Call.{Call}
use Rattle.model.specs.declared.Call.TheVariants.{Read, Write, Start, Send, Receive, Finish, Interrupt, Request, Take, Trigger}
use Rattle.model.specs.Commands.{Command}
use Rattle.model.specs.Engine.{Engine, Lent, step_lent}
use Rattle.model.specs.Demand.{snoc, opt, cut}

-- ── What a call with its answer tells ─────────────────────────────────────────────────────────────────────────
-- an address taken: its value, and whether its parity was right (answered 0) or wrong (19)
pub record Address : Type 0 where
  pub value : ℕ
  pub right : Bool

-- of the bus: each answered 0, an address take 0 or 19
pub data Move : Type 0 where
  starting : ℕ → Move  -- a start, with its value
  sending receiving : ℕ → Move  -- with the byte
  asking : ℕ → ℕ → Move  -- an address request, with both words
  taking : Address → Move
  finishing : ℕ → Move  -- a finish, with its code

pub data DataEvent : Type 0 where
  switched : Bool → DataEvent  -- a write to ENABLE answered 0, with its bit 0
  cmd_took sdo_took : ℕ → DataEvent  -- a write to CMD, to SDO, answered 0
  sdi_gave : ℕ → DataEvent  -- a read of SDI answered 0
  moving : Move → DataEvent
  no_data : DataEvent  -- anything else

-- ENABLE is at 0x040, CMD at 0x0d4, SDO at 0x0dc, SDI at 0x0e0
abbrev pub took_at : ℕ → ℕ → DataEvent
took_at o v = cond (eqb o 0x040) (switched (bit 0 v)) (cond (eqb o 0x0d4) (cmd_took v) (cond (eqb o 0x0dc) (sdo_took v) no_data))

abbrev pub gave_at : ℕ → ℕ → DataEvent
gave_at o v = cond (eqb o 0x0e0) (sdi_gave v) no_data

abbrev pub took_address : ℕ → ℕ → DataEvent
took_address v n = cond (eqb n 0 || eqb n number.wrong_parity) (moving (taking (record { value = v; right = eqb n 0 }))) no_data

-- e, where the call was answered 0
abbrev pub if_done : Answer → DataEvent → DataEvent
if_done a e = cond (eqb a.number 0) e no_data

abbrev pub data_event : Call → Answer → DataEvent
data_event (Read o) a = if_done a (gave_at o a.value)
data_event (Write o v) a = if_done a (took_at o v)
data_event Start a = if_done a (moving (starting a.value))
data_event Send a = if_done a (moving (sending a.value))
data_event (Receive byte) a = if_done a (moving (receiving byte))
data_event (Finish code) a = if_done a (moving (finishing code))
data_event (Interrupt d byte) a = no_data
data_event (Request v w) a = if_done a (moving (asking v w))
data_event Take a = took_address a.value a.number
data_event Trigger a = no_data

-- ── The ledger since the last release ─────────────────────────────────────────────────────────────────────────
-- the code of a finish, and how many words SDO had taken by then: a removal reaches no word that comes later
pub record Closing : Type 0 where
  pub code : ℕ
  pub sdo_so_far : ℕ

-- a start answered 0, and what moved until the next finish answered 0: demand 3's run with its bytes and words
pub record DataRun : Type 0 where
  pub value : ℕ
  pub sent : List ℕ  -- bytes
  pub received : List ℕ  -- bytes
  pub asked : List ℕ  -- words, two for each address request
  pub addresses : List Address  -- those taken
  pub closed : Option Closing

pub record Ledger : Type 0 where
  pub cmd : List ℕ  -- the words that CMD took
  pub sdo : List ℕ  -- the words that SDO took
  pub sdi : List ℕ  -- the words that reads took from SDI
  pub past : List DataRun
  pub now : Option DataRun  -- the open one
  pub astray : ℕ  -- address requests and takes while no start was open

abbrev pub new_data_run : ℕ → DataRun
new_data_run v = record { value = v; sent = []; received = []; asked = []; addresses = []; closed = none }

-- what a move adds to the open run, SDO having taken n words
abbrev pub grow : ℕ → Move → DataRun → DataRun
grow n (starting v) r = r
grow n (sending b) r = record { value = r.value; sent = snoc r.sent b; received = r.received; asked = r.asked; addresses = r.addresses; closed = r.closed }
grow n (receiving b) r = record { value = r.value; sent = r.sent; received = snoc r.received b; asked = r.asked; addresses = r.addresses; closed = r.closed }
grow n (asking v w) r = record { value = r.value; sent = r.sent; received = r.received; asked = r.asked ++ (v ∷ w ∷ []); addresses = r.addresses; closed = r.closed }
grow n (taking a) r = record { value = r.value; sent = r.sent; received = r.received; asked = r.asked; addresses = snoc r.addresses a; closed = r.closed }
grow n (finishing k) r = record { value = r.value; sent = r.sent; received = r.received; asked = r.asked; addresses = r.addresses; closed = some (record { code = k; sdo_so_far = n }) }

-- `data.bursts`: bytes and finishes while no start is open are a burst's, and count for no run
abbrev pub if_open : (DataRun → DataRun) → Option DataRun → Option DataRun
if_open f none = none
if_open f (some r) = some (f r)

abbrev pub within : Ledger → Move → Ledger
within l e = record { cmd = l.cmd; sdo = l.sdo; sdi = l.sdi; past = l.past; now = if_open (grow (length l.sdo) e) l.now; astray = l.astray }

-- A burst has no request and no take.
abbrev pub outside_run : Option DataRun → ℕ
outside_run none = 1
outside_run (some r) = 0

abbrev pub in_assignment : Ledger → Move → Ledger
in_assignment l e = record { cmd = l.cmd; sdo = l.sdo; sdi = l.sdi; past = l.past; now = if_open (grow (length l.sdo) e) l.now; astray = l.astray + outside_run l.now }

abbrev pub enter : Ledger → Move → Ledger
enter l (starting v) = record { cmd = l.cmd; sdo = l.sdo; sdi = l.sdi; past = l.past ++ opt l.now; now = some (new_data_run v); astray = l.astray }
enter l (sending b) = within l (sending b)
enter l (receiving b) = within l (receiving b)
enter l (asking v w) = in_assignment l (asking v w)
enter l (taking a) = in_assignment l (taking a)
enter l (finishing k) = record { cmd = l.cmd; sdo = l.sdo; sdi = l.sdi; past = l.past ++ opt (if_open (grow (length l.sdo) (finishing k)) l.now); now = none; astray = l.astray }

abbrev pub blank : Ledger
blank = record { cmd = []; sdo = []; sdi = []; past = []; now = none; astray = 0 }

-- `data.counted`: none in reset, and a release begins anew, as demand 3's tally does
abbrev pub note : Option Ledger → DataEvent → Option Ledger
note none (switched true) = none
note none (switched false) = some blank
note none (cmd_took w) = none
note none (sdo_took w) = none
note none (sdi_gave w) = none
note none (moving e) = none
note none no_data = none
note (some l) (switched true) = none
note (some l) (switched false) = some l
note (some l) (cmd_took w) = some (record { cmd = snoc l.cmd w; sdo = l.sdo; sdi = l.sdi; past = l.past; now = l.now; astray = l.astray })
note (some l) (sdo_took w) = some (record { cmd = l.cmd; sdo = snoc l.sdo w; sdi = l.sdi; past = l.past; now = l.now; astray = l.astray })
note (some l) (sdi_gave w) = some (record { cmd = l.cmd; sdo = l.sdo; sdi = snoc l.sdi w; past = l.past; now = l.now; astray = l.astray })
note (some l) (moving e) = some (enter l e)
note (some l) no_data = some l

-- the ledger of a list of calls on an engine, going on from o
module _ {B : Type 0} (g : Engine B) where
  unfoldable pub ledger : Option Ledger → B → List Lent → Option Ledger
  ledger o b [] = o
  ledger o b (c ∷ cs) = ledger (note o (data_event c.call (step_lent g b c).answer)) (step_lent g b c).next cs

abbrev pub data_runs : Ledger → List DataRun
data_runs l = l.past ++ opt l.now

-- the commands, cut from the words that CMD took as demand 3 cuts them
abbrev pub commands_in : Ledger → List Command
commands_in l = cut l.cmd
