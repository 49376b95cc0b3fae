-- What a phase says of the open transfer: whether there is one, its direction, its state in ENTDAA, and how many bytes it may move and
-- its part word has.
use Rattle.std.specs.Prelude.{ℕ, ◌-◌, ◌%◌, Bool, true, false, cond, not, ◌&&◌, ◌||◌}
use Rattle.ring.specs.Units.{bytes}
use Rattle.bank.specs.declared.Kind.{Kind}
use Rattle.bank.specs.declared.Kind.TheVariants.{Private, Direct, Broadcast}
use Rattle.bank.specs.declared.Transfer.{Transfer}
use Rattle.bank.specs.declared.Phase.{Phase}
use Rattle.bank.specs.declared.Phase.TheVariants.{Idle, Writing, Reading, Unrequested, Requested, Answered}

-- the number of a phase, for an image
abbrev pub stage : Phase → ℕ
stage Idle = 0
stage (Writing t) = 1
stage (Reading t) = 2
stage (Unrequested t) = 3
stage (Requested t) = 4
stage (Answered t) = 5

abbrev pub idle : Phase → Bool
idle Idle = true
idle (Writing t) = false
idle (Reading t) = false
idle (Unrequested t) = false
idle (Requested t) = false
idle (Answered t) = false

abbrev pub writing : Phase → Bool
writing Idle = false
writing (Writing t) = true
writing (Reading t) = false
writing (Unrequested t) = false
writing (Requested t) = false
writing (Answered t) = false

abbrev pub reading : Phase → Bool
reading Idle = false
reading (Writing t) = false
reading (Reading t) = true
reading (Unrequested t) = false
reading (Requested t) = false
reading (Answered t) = false

-- ENTDAA, in any of its three states (E5 of docs/DECISIONS.md)
abbrev pub assigning : Phase → Bool
assigning Idle = false
assigning (Writing t) = false
assigning (Reading t) = false
assigning (Unrequested t) = true
assigning (Requested t) = true
assigning (Answered t) = true

-- ENTDAA, and no request was made since its start
abbrev pub unrequested : Phase → Bool
unrequested Idle = false
unrequested (Writing t) = false
unrequested (Reading t) = false
unrequested (Unrequested t) = true
unrequested (Requested t) = false
unrequested (Answered t) = false

-- ENTDAA, and a request is open
abbrev pub requested : Phase → Bool
requested Idle = false
requested (Writing t) = false
requested (Reading t) = false
requested (Unrequested t) = false
requested (Requested t) = true
requested (Answered t) = false

-- the open transfer; where none is open, one of zeros, so that definitions need no case for it
abbrev pub transfer : Phase → Transfer
transfer Idle = record { kind = Private; header = false; length = bytes 0; moved = bytes 0; attached = false; part = 0 }
transfer (Writing t) = t
transfer (Reading t) = t
transfer (Unrequested t) = t
transfer (Requested t) = t
transfer (Answered t) = t

abbrev pub private : Kind → Bool
private Private = true
private Direct = false
private Broadcast = false

abbrev pub broadcast : Kind → Bool
broadcast Private = false
broadcast Direct = false
broadcast Broadcast = true

-- `start.attached`: the transfer has a device, and that was not attached when it opened. Where no transfer is open this says nothing: 7
-- is tested before it.
abbrev pub unattached : Phase → Bool
unattached p = not (assigning p) && not (broadcast (transfer p).kind) && not (transfer p).attached

-- `formed.moved`: the most bytes that the transfer may have moved
abbrev pub limit : Phase → ℕ
limit p = cond (assigning p || unattached p) 0 (transfer p).length.0

-- `formed.part`: the bytes that the part word has, gathered of a read, still to send of a write
abbrev pub part_bytes : Phase → ℕ
part_bytes p = cond (reading p) ((transfer p).moved.0 % 4) ((4 - (transfer p).moved.0 % 4) % 4)
