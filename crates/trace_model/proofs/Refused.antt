-- No refusal has the number 0, which is done.
use native.Mathlib.Omega.{arith}
use mathlib.Core.Path.{◌≡◌}
use Rattle.number.specs.declared.Refusal.{Refusal}
use Rattle.number.specs.declared.Refusal.TheVariants.{DroppedFull, DroppedReadOnly, Empty, NoRegister, HeldInReset, TransferOpen, NoTransfer, NotInThisMode, NoCommand, NotThisKind, LengthReached, SdoEmpty, NoRoom, EndingNotAllowed, SdoNotEmpty, NotHeard, NotAcknowledged, OutOfRange, WrongParity, NotAttached, NotWellFormed, StoreLength, SetUpOutOfRange, WrongMark, WrongTable, NoSuchSection, WrongRecord, BurstHasNoCommands, NotCarried, WatermarkAboveCapacity}
use Rattle.number.specs.Refusals.{number_of}

pub not_zero : (why : Refusal) → number_of why ≡ 0 → ⊥
not_zero DroppedFull e = omega arith
not_zero DroppedReadOnly e = omega arith
not_zero Empty e = omega arith
not_zero NoRegister e = omega arith
not_zero HeldInReset e = omega arith
not_zero TransferOpen e = omega arith
not_zero NoTransfer e = omega arith
not_zero NotInThisMode e = omega arith
not_zero NoCommand e = omega arith
not_zero NotThisKind e = omega arith
not_zero LengthReached e = omega arith
not_zero SdoEmpty e = omega arith
not_zero NoRoom e = omega arith
not_zero EndingNotAllowed e = omega arith
not_zero SdoNotEmpty e = omega arith
not_zero NotHeard e = omega arith
not_zero NotAcknowledged e = omega arith
not_zero OutOfRange e = omega arith
not_zero WrongParity e = omega arith
not_zero NotAttached e = omega arith
not_zero NotWellFormed e = omega arith
not_zero StoreLength e = omega arith
not_zero SetUpOutOfRange e = omega arith
not_zero WrongMark e = omega arith
not_zero WrongTable e = omega arith
not_zero NoSuchSection e = omega arith
not_zero WrongRecord e = omega arith
not_zero BurstHasNoCommands e = omega arith
not_zero NotCarried e = omega arith
not_zero WatermarkAboveCapacity e = omega arith
