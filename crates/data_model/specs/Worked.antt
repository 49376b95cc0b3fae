-- Ledgers worked by hand (D7 of docs/DECISIONS.md): lists of calls on the session's bank, each with its ledger, why each word left SDO, what
-- came to SDI, and what waits.
use Rattle.std.specs.Prelude.{ℕ, ◌≡◌, true, false, List, [], ◌∷◌}
use Rattle.std.proofs.Math.Option.{Option, none, some}
use Rattle.bank.specs.Queues.{queues_in}
use Rattle.model.specs.declared.Call.{Call}
use Rattle.model.specs.declared.Call.TheVariants.{Read, Write, Start, Send, Receive, Finish, Request, Take, Trigger}
use Rattle.model.specs.Engine.{lending, final}
use Rattle.model.specs.Rings.{areas, words_in, rings}
use Rattle.model.specs.Cases.{worked_session, release}
use Rattle.model.specs.Removal.{sensor}
use Rattle.data_model.specs.Ledger.{Address, Closing, DataRun, Ledger, ledger, data_runs}
use Rattle.data_model.specs.Account.{Departure, sent_for, removed_for, address_for, gone, arrivals}

-- The calls, each lent the output o, come to the ledger l: the words ds left SDO, ws came to SDI, and sdo and sdi wait.
pub record Booked (o : List ℕ) (cs : List Call) (l : Ledger) (ds : List Departure) (ws sdo sdi : List ℕ) : Type 0 where
  pub booked : ledger rings none worked_session (lending o cs) ≡ some l
  pub left : gone l ≡ ds
  pub came : arrivals (data_runs l) ≡ ws
  pub in_sdo : (let e = final rings worked_session (lending o cs) in words_in (areas (queues_in e.bank)).sdo e.store) ≡ sdo
  pub in_sdi : (let e = final rings worked_session (lending o cs) in words_in (areas (queues_in e.bank)).sdi e.store) ≡ sdi

-- a run of a write, of a read, of an assignment
abbrev pub write_run : ℕ → List ℕ → Option Closing → DataRun
write_run v bs e = record { value = v; sent = bs; received = []; asked = []; addresses = []; closed = e }

abbrev pub read_run : ℕ → List ℕ → Option Closing → DataRun
read_run v bs e = record { value = v; sent = []; received = bs; asked = []; addresses = []; closed = e }

abbrev pub assignment_run : ℕ → List ℕ → List Address → Option Closing → DataRun
assignment_run v ws xs e = record { value = v; sent = []; received = []; asked = ws; addresses = xs; closed = e }

-- with this code, SDO having taken n words
abbrev pub closed_with : ℕ → ℕ → Option Closing
closed_with k n = some (record { code = k; sdo_so_far = n })

abbrev pub right_address : ℕ → Address
right_address v = record { value = v; right = true }

abbrev pub wrong_address : ℕ → Address
wrong_address v = record { value = v; right = false }

-- A write of five bytes leaves three bytes of its second word unsent; the next write, of three, begins with a new word. The fourth word
-- waits, the fifth found SDO full, and the one before the reset does not count.
unfoldable pub five_then_three : List Call
five_then_three =
    release ∷ Write 0xdc 0x99999999 ∷ Write 0x040 1 ∷ release ∷ sensor
    ∷ Write 0xdc 0xa1a2a3a4 ∷ Write 0xdc 0xa5ffffff ∷ Write 0xdc 0xb1b2b3ee ∷ Write 0xdc 0x77777777 ∷ Write 0xdc 0x66666666 ∷ Write 0xd4 0x510 ∷ Write 0xd4 0x310
    ∷ Start ∷ Send ∷ Send ∷ Send ∷ Send ∷ Send ∷ Send ∷ Finish 0 ∷ Start ∷ Send ∷ Send ∷ Send ∷ Send ∷ Finish 0 ∷ []

unfoldable pub five_then_three_ledger : Ledger
five_then_three_ledger =
    record {
      cmd = 0x510 ∷ 0x310 ∷ [];
      sdo = 0xa1a2a3a4 ∷ 0xa5ffffff ∷ 0xb1b2b3ee ∷ 0x77777777 ∷ [];
      sdi = [];
      past = write_run 0x510 (0xa1 ∷ 0xa2 ∷ 0xa3 ∷ 0xa4 ∷ 0xa5 ∷ []) (closed_with 0 4) ∷ write_run 0x310 (0xb1 ∷ 0xb2 ∷ 0xb3 ∷ []) (closed_with 0 4) ∷ [];
      now = none;
      astray = 0;
    }

unfoldable pub five_then_three_left : List Departure
five_then_three_left = sent_for 0 (0xa1 ∷ 0xa2 ∷ 0xa3 ∷ 0xa4 ∷ []) ∷ sent_for 0 (0xa5 ∷ []) ∷ sent_for 1 (0xb1 ∷ 0xb2 ∷ 0xb3 ∷ []) ∷ []

-- A read of five bytes is padded at its finish; one of six, open after five, has brought its first four alone.
unfoldable pub open_read : List Call
open_read =
    release ∷ sensor ∷ Write 0xd4 0x511 ∷ Start ∷ Receive 1 ∷ Receive 2 ∷ Receive 3 ∷ Receive 4 ∷ Receive 5 ∷ Finish 0 ∷ Read 0xe0
    ∷ Write 0xd4 0x611 ∷ Start ∷ Receive 6 ∷ Receive 7 ∷ Receive 8 ∷ Receive 9 ∷ Receive 10 ∷ []

unfoldable pub open_read_ledger : Ledger
open_read_ledger =
    record { cmd = 0x511 ∷ 0x611 ∷ []; sdo = []; sdi = 0x01020304 ∷ []; past = read_run 0x511 (1 ∷ 2 ∷ 3 ∷ 4 ∷ 5 ∷ []) (closed_with 0 0) ∷ []; now = some (read_run 0x611 (6 ∷ 7 ∷ 8 ∷ 9 ∷ 10 ∷ []) none); astray = 0 }

-- An assignment: the word with the wrong parity has left SDO too. A second request is open, and its words have come.
unfoldable pub wrong_then_right : List Call
wrong_then_right =
    release ∷ Write 0xd4 0x400000 ∷ Write 0xd4 0x07 ∷ Start ∷ Request 0x11 0x12 ∷ Write 0xdc 0x11000000 ∷ Take ∷ Take ∷ Write 0xdc 0x13000000 ∷ Take ∷ Read 0xe0 ∷ Request 0x21 0x22 ∷ Write 0xdc 0x10000000 ∷ []

unfoldable pub wrong_then_right_ledger : Ledger
wrong_then_right_ledger =
    record {
      cmd = 0x400000 ∷ 0x07 ∷ [];
      sdo = 0x11000000 ∷ 0x13000000 ∷ 0x10000000 ∷ [];
      sdi = 0x11 ∷ [];
      past = [];
      now = some (assignment_run 0x400000 (0x11 ∷ 0x12 ∷ 0x21 ∷ 0x22 ∷ []) (wrong_address 8 ∷ right_address 9 ∷ []) none);
      astray = 0;
    }

-- A read, an assignment, a read that ends early: their words in this order. A read of SDI while it is empty takes none, and a second write
-- of 0 to ENABLE is no release.
unfoldable pub read_assign_read : List Call
read_assign_read =
    release ∷ sensor ∷ Write 0xd4 0x411 ∷ Start ∷ Receive 1 ∷ Receive 2 ∷ Receive 3 ∷ Receive 4 ∷ Finish 0 ∷ Read 0xe0 ∷ Read 0xe0
    ∷ Write 0xd4 0x400000 ∷ Write 0xd4 0x07 ∷ Start ∷ Request 0x11 0x12 ∷ Write 0xdc 0x13000000 ∷ Take ∷ Finish 0 ∷ release ∷ Write 0xd4 0x211 ∷ Start ∷ Receive 5 ∷ Finish 0 ∷ []

unfoldable pub read_assign_read_ledger : Ledger
read_assign_read_ledger =
    record {
      cmd = 0x411 ∷ 0x400000 ∷ 0x07 ∷ 0x211 ∷ [];
      sdo = 0x13000000 ∷ [];
      sdi = 0x01020304 ∷ [];
      past = read_run 0x411 (1 ∷ 2 ∷ 3 ∷ 4 ∷ []) (closed_with 0 0) ∷ assignment_run 0x400000 (0x11 ∷ 0x12 ∷ []) (right_address 9 ∷ []) (closed_with 0 1) ∷ read_run 0x211 (5 ∷ []) (closed_with 0 1) ∷ [];
      now = none;
      astray = 0;
    }

-- A finished assignment leaves SDO alone: the word that waits is sent by the next write.
unfoldable pub assignment_ends : List Call
assignment_ends = release ∷ sensor ∷ Write 0xd4 0x400000 ∷ Write 0xd4 0x07 ∷ Start ∷ Write 0xdc 0xe1000000 ∷ Finish 4 ∷ Write 0xd4 0x110 ∷ Start ∷ Send ∷ Finish 0 ∷ []

unfoldable pub assignment_ends_ledger : Ledger
assignment_ends_ledger =
    record {
      cmd = 0x400000 ∷ 0x07 ∷ 0x110 ∷ [];
      sdo = 0xe1000000 ∷ [];
      sdi = [];
      past = assignment_run 0x400000 [] [] (closed_with 4 1) ∷ write_run 0x110 (0xe1 ∷ []) (closed_with 0 1) ∷ [];
      now = none;
      astray = 0;
    }

-- A burst of a write and a read stands between a write and a read, and its bytes are of no word. The write after it is open, its word partly
-- sent.
unfoldable pub burst_between : List Call
burst_between =
    release ∷ sensor ∷ Write 0xdc 0xa1000000 ∷ Write 0xdc 0xb1b2b3b4 ∷ Write 0xd4 0x110 ∷ Start ∷ Send ∷ Finish 0
    ∷ Write 0x2c0 0x210 ∷ Write 0x2c4 0x211 ∷ Write 0x300 0xc1c2c3c4 ∷ Write 0x100 0x05 ∷ Trigger ∷ Send ∷ Send ∷ Finish 0 ∷ Receive 1 ∷ Receive 2 ∷ Finish 0 ∷ Write 0x100 0
    ∷ Write 0xd4 0x111 ∷ Start ∷ Receive 3 ∷ Finish 0 ∷ Write 0xd4 0x410 ∷ Start ∷ Send ∷ []

unfoldable pub burst_between_ledger : Ledger
burst_between_ledger =
    record {
      cmd = 0x110 ∷ 0x111 ∷ 0x410 ∷ [];
      sdo = 0xa1000000 ∷ 0xb1b2b3b4 ∷ [];
      sdi = [];
      past = write_run 0x110 (0xa1 ∷ []) (closed_with 0 2) ∷ read_run 0x111 (3 ∷ []) (closed_with 0 2) ∷ [];
      now = some (write_run 0x410 (0xb1 ∷ []) none);
      astray = 0;
    }

-- A write of nine bytes needs three words and is not acknowledged while two are there: both go, and the word that comes later stays. Of one
-- of five bytes, to device 9, which is not attached, two of three words go. A read that is not acknowledged removes none.
unfoldable pub refused_writes : List Call
refused_writes =
    release ∷ sensor ∷ Write 0xdc 0xa1 ∷ Write 0xdc 0xa2 ∷ Write 0xd4 0x910 ∷ Start ∷ Finish 0 ∷ Finish 6 ∷ Write 0xdc 0xb1 ∷ Write 0xdc 0xb2 ∷ Write 0xdc 0xc1000000
    ∷ Write 0xd4 0x512 ∷ Start ∷ Finish 8 ∷ Write 0xd4 0x110 ∷ Start ∷ Send ∷ Finish 0 ∷ Write 0xdc 0xd1 ∷ Write 0xd4 0x411 ∷ Start ∷ Finish 6 ∷ []

unfoldable pub refused_writes_ledger : Ledger
refused_writes_ledger =
    record {
      cmd = 0x910 ∷ 0x512 ∷ 0x110 ∷ 0x411 ∷ [];
      sdo = 0xa1 ∷ 0xa2 ∷ 0xb1 ∷ 0xb2 ∷ 0xc1000000 ∷ 0xd1 ∷ [];
      sdi = [];
      past = write_run 0x910 [] (closed_with 6 2) ∷ write_run 0x512 [] (closed_with 8 5) ∷ write_run 0x110 (0xc1 ∷ []) (closed_with 0 5) ∷ read_run 0x411 [] (closed_with 6 6) ∷ [];
      now = none;
      astray = 0;
    }

-- Two CCC writes: for the first a word was sent; the second ends with 4, needs two words, and one is left, queued after its start.
unfoldable pub fewer_left : List Call
fewer_left =
    release ∷ sensor ∷ Write 0xdc 0xa1a2a3a4 ∷ Write 0xd4 0x400410 ∷ Write 0xd4 0x80 ∷ Start ∷ Send ∷ Send ∷ Send ∷ Send ∷ Finish 0
    ∷ Write 0xd4 0x400810 ∷ Write 0xd4 0x80 ∷ Start ∷ Write 0xdc 0xb1 ∷ Finish 4 ∷ Write 0xdc 0xc1 ∷ []

unfoldable pub fewer_left_ledger : Ledger
fewer_left_ledger =
    record {
      cmd = 0x400410 ∷ 0x80 ∷ 0x400810 ∷ 0x80 ∷ [];
      sdo = 0xa1a2a3a4 ∷ 0xb1 ∷ 0xc1 ∷ [];
      sdi = [];
      past = write_run 0x400410 (0xa1 ∷ 0xa2 ∷ 0xa3 ∷ 0xa4 ∷ []) (closed_with 0 1) ∷ write_run 0x400810 [] (closed_with 4 2) ∷ [];
      now = none;
      astray = 0;
    }

-- While CMDR is full a finish is 13 and removes nothing; a word that comes meanwhile is behind the one that goes.
unfoldable pub no_receipt_room : List Call
no_receipt_room =
    release ∷ sensor ∷ Write 0xd4 0x10 ∷ Start ∷ Finish 0 ∷ Write 0xd4 0x10 ∷ Start ∷ Finish 0 ∷ Write 0xd4 0x10 ∷ Start ∷ Finish 0 ∷ Write 0xd4 0x10 ∷ Start ∷ Finish 0
    ∷ Write 0xdc 0x11111111 ∷ Write 0xd4 0x410 ∷ Start ∷ Finish 6 ∷ Write 0xdc 0x22222222 ∷ Read 0xd8 ∷ Finish 6 ∷ []

unfoldable pub no_receipt_room_ledger : Ledger
no_receipt_room_ledger =
    let r = write_run 0x10 [] (closed_with 0 0) in
    record { cmd = 0x10 ∷ 0x10 ∷ 0x10 ∷ 0x10 ∷ 0x410 ∷ []; sdo = 0x11111111 ∷ 0x22222222 ∷ []; sdi = []; past = r ∷ r ∷ r ∷ r ∷ write_run 0x410 [] (closed_with 6 2) ∷ []; now = none; astray = 0 }

pub record WorkedLedgers : Type 0 where
  pub writes : Booked [] five_then_three five_then_three_ledger five_then_three_left [] (0x77777777 ∷ []) []
  pub reads : Booked [] open_read open_read_ledger [] (0x01020304 ∷ 0x05000000 ∷ 0x06070809 ∷ []) [] (0x05000000 ∷ 0x06070809 ∷ [])
  pub addresses :
      Booked [] wrong_then_right wrong_then_right_ledger (address_for 0 (wrong_address 8) ∷ address_for 0 (right_address 9) ∷ []) (0x11 ∷ 0x12 ∷ 0x21 ∷ 0x22 ∷ []) (0x10000000 ∷ []) (0x12 ∷ 0x21 ∷ 0x22 ∷ [])
  pub order : Booked [] read_assign_read read_assign_read_ledger (address_for 1 (right_address 9) ∷ []) (0x01020304 ∷ 0x11 ∷ 0x12 ∷ 0x05000000 ∷ []) [] (0x11 ∷ 0x12 ∷ 0x05000000 ∷ [])
  pub assignment : Booked [] assignment_ends assignment_ends_ledger (sent_for 1 (0xe1 ∷ []) ∷ []) [] [] []
  pub burst : Booked (0 ∷ []) burst_between burst_between_ledger (sent_for 0 (0xa1 ∷ []) ∷ sent_for 2 (0xb1 ∷ []) ∷ []) (0x03000000 ∷ []) [] (0x03000000 ∷ [])
  pub refused :
      Booked [] refused_writes refused_writes_ledger (removed_for 0 ∷ removed_for 0 ∷ removed_for 1 ∷ removed_for 1 ∷ sent_for 2 (0xc1 ∷ []) ∷ []) [] (0xd1 ∷ []) []
  pub fewer : Booked [] fewer_left fewer_left_ledger (sent_for 0 (0xa1 ∷ 0xa2 ∷ 0xa3 ∷ 0xa4 ∷ []) ∷ removed_for 1 ∷ []) [] (0xc1 ∷ []) []
  pub no_room : Booked [] no_receipt_room no_receipt_room_ledger (removed_for 4 ∷ []) [] (0x22222222 ∷ []) []
