-- No refusal has the number 0, which is done.
use Prim.Native.Nat.{ℕ}
use native.Mathlib.Omega.{arith}
use mathlib.Core.Path.{◌≡◌}
use Rattle.number.specs.declared.Refusal.{Refusal}
use Rattle.number.specs.declared.Refusal.TheVariants.{DroppedFull, DroppedReadOnly, Empty, NoRegister, HeldInReset, TransferOpen, NoTransfer, NotInThisMode, NoCommand, NotThisKind, LengthReached, SdoEmpty, NoRoom, EndingNotAllowed, SdoNotEmpty, NotHeard, NotAcknowledged, OutOfRange, WrongParity, NotAttached, NotWellFormed, StoreLength, SetUpOutOfRange, WrongMark, WrongTable, NoSuchSection, WrongRecord, BurstHasNoCommands, NotCarried, WatermarkAboveCapacity}
use Rattle.number.specs.Refusals.{number_of}

pub not_0 : (why : Refusal) → number_of why ≡ 0 → ⊥
not_0 DroppedFull z = omega (arith, z)
not_0 DroppedReadOnly z = omega (arith, z)
not_0 Empty z = omega (arith, z)
not_0 NoRegister z = omega (arith, z)
not_0 HeldInReset z = omega (arith, z)
not_0 TransferOpen z = omega (arith, z)
not_0 NoTransfer z = omega (arith, z)
not_0 NotInThisMode z = omega (arith, z)
not_0 NoCommand z = omega (arith, z)
not_0 NotThisKind z = omega (arith, z)
not_0 LengthReached z = omega (arith, z)
not_0 SdoEmpty z = omega (arith, z)
not_0 NoRoom z = omega (arith, z)
not_0 EndingNotAllowed z = omega (arith, z)
not_0 SdoNotEmpty z = omega (arith, z)
not_0 NotHeard z = omega (arith, z)
not_0 NotAcknowledged z = omega (arith, z)
not_0 OutOfRange z = omega (arith, z)
not_0 WrongParity z = omega (arith, z)
not_0 NotAttached z = omega (arith, z)
not_0 NotWellFormed z = omega (arith, z)
not_0 StoreLength z = omega (arith, z)
not_0 SetUpOutOfRange z = omega (arith, z)
not_0 WrongMark z = omega (arith, z)
not_0 WrongTable z = omega (arith, z)
not_0 NoSuchSection z = omega (arith, z)
not_0 WrongRecord z = omega (arith, z)
not_0 BurstHasNoCommands z = omega (arith, z)
not_0 NotCarried z = omega (arith, z)
not_0 WatermarkAboveCapacity z = omega (arith, z)
