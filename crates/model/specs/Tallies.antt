-- Demand 3 is not empty (D7 of docs/DECISIONS.md): five lists of calls on the session's bank, each with the tally that it comes to.
use Rattle.std.specs.Prelude.{ℕ, zero, suc, ◌≡◌, Bool, true, false, List, [], ◌∷◌, ◌++◌}
use Rattle.std.proofs.Math.Option.{none, some}
use Rattle.model.specs.declared.Call.{Call}
use Rattle.model.specs.declared.Call.TheVariants.{Read, Write, Start, Send, Receive, Finish, Request, Take, Trigger}
use Rattle.model.specs.Engine.{lending}
use Rattle.model.specs.Rings.{rings}
use Rattle.model.specs.Demand.{Written, Run, Tally, tally}
use Rattle.model.specs.Cases.{worked_session, release}

-- a word that was taken
abbrev pub took : ℕ → Bool → Bool → Written
took w room_seen promised = record { word = w; taken = true; room_seen = room_seen; promised = promised }

-- a run that ended with code 0
abbrev pub ended : ℕ → ℕ → ℕ → ℕ → Run
ended value sends addresses receipt = record { value = value; sends = sends; receives = 0; addresses = addresses; ending = some (record { code = 0; receipt = receipt }) }

-- the worked session, with a read of the room before its command
unfoldable pub session_calls : List Call
session_calls = release ∷ Write 0x180 0x1102 ∷ Read 0x0c0 ∷ Write 0xdc 0xa5c30000 ∷ Write 0xd4 0x210 ∷ Start ∷ Send ∷ Send ∷ Finish 0 ∷ Read 0xd8 ∷ Read 0xd8 ∷ []

unfoldable pub session_tally : Tally
session_tally = record { words = record { written = took 0x210 true true ∷ []; room_seen = false; credit = 3 }; past = ended 0x210 2 0 0x200 ∷ []; now = none; receipts = 0x200 ∷ [] }

-- an address assignment with one wrong parity bit: a request, a take answered 19, a take answered 0
unfoldable pub assignment_calls : List Call
assignment_calls =
    release ∷ Read 0x0c0 ∷ Write 0xd4 0x400000 ∷ Write 0xd4 0x07 ∷ Start ∷ Request 1 2 ∷ Write 0xdc 0x11000000 ∷ Take ∷ Write 0xdc 0x13000000 ∷ Take ∷ Finish 0 ∷ Read 0xd8 ∷ []

unfoldable pub assignment_tally : Tally
assignment_tally = record { words = record { written = took 0x400000 true true ∷ took 0x07 false true ∷ []; room_seen = false; credit = 2 }; past = ended 0x400000 0 3 0 ∷ []; now = none; receipts = 0 ∷ [] }

-- CMDR holds four receipts: the fifth finish is refused by 13, one receipt is read, and the same finish is made again
unfoldable pub writes : ℕ → List Call
writes zero = []
writes (suc n) = Write 0xd4 0x10 ∷ Start ∷ Finish 0 ∷ writes n

unfoldable pub retry_calls : List Call
retry_calls = release ∷ Write 0x180 0x1102 ∷ writes 5 ++ (Read 0xd8 ∷ Finish 0 ∷ [])

unfoldable pub retry_tally : Tally
retry_tally =
    let w = took 0x10 false false in
    record {
      words = record { written = w ∷ w ∷ w ∷ w ∷ w ∷ []; room_seen = false; credit = 0 };
      past = ended 0x10 0 0 0 ∷ ended 0x10 0 0 1 ∷ ended 0x10 0 0 2 ∷ ended 0x10 0 0 3 ∷ ended 0x10 0 0 4 ∷ [];
      now = none;
      receipts = 0 ∷ [];
    }

-- what stood before a reset does not count; CMD takes four words and drops the fifth; a read of two bytes, a device that does not
-- acknowledge, and a run still open
unfoldable pub dropped_calls : List Call
dropped_calls =
    release ∷ Write 0x180 0x1102 ∷ Write 0xd4 0x10 ∷ Start ∷ Write 0x040 1 ∷ release ∷ Read 0x0c0 ∷ Write 0xd4 0x511 ∷ Write 0xd4 0x512 ∷ Write 0xd4 0x311 ∷ Write 0xd4 0x411 ∷ Write 0xd4 0x611
    ∷ Start ∷ Receive 1 ∷ Receive 2 ∷ Finish 0 ∷ Start ∷ Finish 8 ∷ Start ∷ Finish 6 ∷ Start ∷ Receive 3 ∷ Read 0xd8 ∷ Read 0xd8 ∷ []

unfoldable pub dropped_tally : Tally
dropped_tally =
    let dropped : Written = record { word = 0x611; taken = false; room_seen = false; promised = false } in
    record {
      words = record { written = took 0x511 true true ∷ took 0x512 false true ∷ took 0x311 false true ∷ took 0x411 false true ∷ dropped ∷ []; room_seen = false; credit = 0 };
      past =
          record { value = 0x511; sends = 0; receives = 2; addresses = 0; ending = some (record { code = 0; receipt = 0x200 }) }
          ∷ record { value = 0x512; sends = 0; receives = 0; addresses = 0; ending = some (record { code = 8; receipt = 0x800001 }) }
          ∷ record { value = 0x311; sends = 0; receives = 0; addresses = 0; ending = some (record { code = 6; receipt = 0x600002 }) }
          ∷ [];
      now = some (record { value = 0x411; sends = 0; receives = 1; addresses = 0; ending = none });
      receipts = 0x200 ∷ 0x800001 ∷ [];
    }

-- a burst between two direct commands counts for neither
unfoldable pub burst_calls : List Call
burst_calls =
    release ∷ Write 0x180 0x1102 ∷ Write 0xd4 0x10 ∷ Start ∷ Finish 0 ∷ Write 0x2c0 0x110 ∷ Write 0x100 0x03 ∷ Write 0xd4 0x10 ∷ Trigger ∷ Send ∷ Finish 0 ∷ Write 0x100 0 ∷ Start ∷ Finish 0 ∷ Read 0xd8 ∷ []

unfoldable pub burst_tally : Tally
burst_tally = let w = took 0x10 false false in record { words = record { written = w ∷ w ∷ []; room_seen = false; credit = 0 }; past = ended 0x10 0 0 0 ∷ ended 0x10 0 0 1 ∷ []; now = none; receipts = 0 ∷ [] }

pub record WorkedTallies : Type 0 where
  pub worked : tally rings none worked_session (lending [] session_calls) ≡ some session_tally
  pub assignment : tally rings none worked_session (lending [] assignment_calls) ≡ some assignment_tally
  pub retry : tally rings none worked_session (lending [] retry_calls) ≡ some retry_tally
  pub dropped : tally rings none worked_session (lending [] dropped_calls) ≡ some dropped_tally
  pub burst : tally rings none worked_session (lending [] burst_calls) ≡ some burst_tally
