-- The number that a refusal has (`number: Names`), and what code tells that gives a refusal or something else.
use Rattle.std.specs.Prelude.{ℕ, Result, Ok, Err}
use Rattle.number.specs.Names as number
use Rattle.number.specs.declared.Refusal.{Refusal}
use Rattle.number.specs.declared.Refusal.TheVariants.{DroppedFull, DroppedReadOnly, Empty, NoRegister, HeldInReset, TransferOpen, NoTransfer, NotInThisMode, NoCommand, NotThisKind, LengthReached, SdoEmpty, NoRoom, EndingNotAllowed, SdoNotEmpty, NotHeard, NotAcknowledged, OutOfRange, WrongParity, NotAttached, NotWellFormed, StoreLength, SetUpOutOfRange, WrongMark, WrongTable, NoSuchSection, WrongRecord, BurstHasNoCommands, NotCarried, WatermarkAboveCapacity}

abbrev pub number_of : Refusal → ℕ
number_of DroppedFull = number.dropped_full
number_of DroppedReadOnly = number.dropped_read_only
number_of Empty = number.empty
number_of NoRegister = number.no_register
number_of HeldInReset = number.held_in_reset
number_of TransferOpen = number.transfer_open
number_of NoTransfer = number.no_transfer
number_of NotInThisMode = number.not_in_this_mode
number_of NoCommand = number.no_command
number_of NotThisKind = number.not_this_kind
number_of LengthReached = number.length_reached
number_of SdoEmpty = number.sdo_empty
number_of NoRoom = number.no_room
number_of EndingNotAllowed = number.ending_not_allowed
number_of SdoNotEmpty = number.sdo_not_empty
number_of NotHeard = number.not_heard
number_of NotAcknowledged = number.not_acknowledged
number_of OutOfRange = number.out_of_range
number_of WrongParity = number.wrong_parity
number_of NotAttached = number.not_attached
number_of NotWellFormed = number.not_well_formed
number_of StoreLength = number.store_length
number_of SetUpOutOfRange = number.set_up_out_of_range
number_of WrongMark = number.wrong_mark
number_of WrongTable = number.wrong_table
number_of NoSuchSection = number.no_such_section
number_of WrongRecord = number.wrong_record
number_of BurstHasNoCommands = number.burst_has_no_commands
number_of NotCarried = number.not_carried
number_of WatermarkAboveCapacity = number.watermark_above_capacity

-- 0 where there is no refusal
abbrev pub told : {T : Type 0} → Result T Refusal → ℕ
told (Ok x) = 0
told (Err why) = number_of why

-- n where there is no refusal
abbrev pub told_or : {T : Type 0} → ℕ → Result T Refusal → ℕ
told_or n (Ok x) = n
told_or n (Err why) = number_of why
