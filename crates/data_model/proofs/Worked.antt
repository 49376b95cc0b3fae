-- Nine lists of calls come to their ledgers: by computation.
use mathlib.Core.Path.{refl}
use Rattle.model.specs.Demand.{cut}
use Rattle.model.proofs.Steps.{steps}
use Rattle.data_model.specs.Ledger.{ledger}
use Rattle.data_model.specs.Account.{fours, packed_words, departures, arrivals}
use Rattle.data_model.specs.Worked.{five_then_three, five_then_three_ledger, five_then_three_left, open_read, open_read_ledger, wrong_then_right, wrong_then_right_ledger, read_assign_read, read_assign_read_ledger}
use Rattle.data_model.specs.Worked.{assignment_ends, assignment_ends_ledger, burst_between, burst_between_ledger, refused_writes, refused_writes_ledger, fewer_left, fewer_left_ledger, no_receipt_room, no_receipt_room_ledger, WorkedLedgers}

-- the lists and their ledgers
unfoldable lists : Unit {0}
unfolding five_then_three five_then_three_ledger five_then_three_left open_read open_read_ledger wrong_then_right wrong_then_right_ledger read_assign_read read_assign_read_ledger assignment_ends assignment_ends_ledger burst_between burst_between_ledger refused_writes refused_writes_ledger fewer_left fewer_left_ledger no_receipt_room no_receipt_room_ledger
lists = tt

pub worked_ledgers : WorkedLedgers
unfolding steps cut ledger fours packed_words departures arrivals lists
worked_ledgers =
    record {
      writes = record { booked = refl; left = refl; came = refl; in_sdo = refl; in_sdi = refl };
      reads = record { booked = refl; left = refl; came = refl; in_sdo = refl; in_sdi = refl };
      addresses = record { booked = refl; left = refl; came = refl; in_sdo = refl; in_sdi = refl };
      order = record { booked = refl; left = refl; came = refl; in_sdo = refl; in_sdi = refl };
      assignment = record { booked = refl; left = refl; came = refl; in_sdo = refl; in_sdi = refl };
      burst = record { booked = refl; left = refl; came = refl; in_sdo = refl; in_sdi = refl };
      refused = record { booked = refl; left = refl; came = refl; in_sdo = refl; in_sdi = refl };
      fewer = record { booked = refl; left = refl; came = refl; in_sdo = refl; in_sdi = refl };
      no_room = record { booked = refl; left = refl; came = refl; in_sdo = refl; in_sdi = refl };
    }
