-- A read of any register but the three that take a word takes none (`take.read`).
use Prim.Native.Nat.{ℕ}
use mathlib.Core.Path.{◌≡◌, refl}
use mathlib.Core.List.{List, [], ◌∷◌}
use types.Run.{OneOf, miss}
use denote.Enum.Declared.{tag_of}
use Rattle.registers.specs.declared.Register.{Register}
use Rattle.registers.specs.declared.Register.TheVariants.{Version, Id, Scratch, Enable, IrqMask, IrqPending, IrqSource, CmdRoom, CmdrLevel, SdoRoom, SdiLevel, IbiLevel, CmdFifo, CmdrFifo, SdoFifo, SdiFifo, IbiFifo, FifoStatus, Ops, IbiConfig, DevChar, Watermark, OffloadCmd, OffloadSdo, Unmapped}
use Rattle.registers.specs.contracts.Register.{the_type}
use Rattle.model.specs.Registers.{row}
use Rattle.effect.specs.Seen.{Fronts, taken_by}

-- the others, by their places among the variants, as a `match` names them
abbrev others : List ℕ
others = 0 ∷ 1 ∷ 2 ∷ 3 ∷ 4 ∷ 5 ∷ 6 ∷ 7 ∷ 8 ∷ 9 ∷ 10 ∷ 11 ∷ 12 ∷ 14 ∷ 17 ∷ 18 ∷ 19 ∷ 20 ∷ 21 ∷ 22 ∷ 23 ∷ 24 ∷ []

pub takes_none : (r : Register) (f : Fronts) → OneOf others (tag_of the_type r) → 0 ≡ taken_by (row r) f
takes_none Version f h = refl
takes_none Id f h = refl
takes_none Scratch f h = refl
takes_none Enable f h = refl
takes_none IrqMask f h = refl
takes_none IrqPending f h = refl
takes_none IrqSource f h = refl
takes_none CmdRoom f h = refl
takes_none CmdrLevel f h = refl
takes_none SdoRoom f h = refl
takes_none SdiLevel f h = refl
takes_none IbiLevel f h = refl
takes_none CmdFifo f h = refl
takes_none CmdrFifo f h = absurd (miss others 13 tt h)
takes_none SdoFifo f h = refl
takes_none SdiFifo f h = absurd (miss others 15 tt h)
takes_none IbiFifo f h = absurd (miss others 16 tt h)
takes_none FifoStatus f h = refl
takes_none Ops f h = refl
takes_none IbiConfig f h = refl
takes_none DevChar f h = refl
takes_none (Watermark i) f h = refl
takes_none (OffloadCmd i) f h = refl
takes_none (OffloadSdo i) f h = refl
takes_none Unmapped f h = refl
