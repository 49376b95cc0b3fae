-- `map.offsets`: the registers with an offset of their own, and the two offload memories. 01, 'Register map', and 02 §6 for the watermarks.
use Rattle.std.specs.Prelude.{ℕ, ◌+◌, ◌-◌, ◌/◌, ◌%◌, Bool, cond, ◌&&◌, List, [], ◌∷◌, leb, eqb}
use Rattle.registers.specs.declared.Register.{Register}
use Rattle.registers.specs.declared.Register.TheVariants.{Version, Id, Scratch, Enable, IrqMask, IrqPending, IrqSource, CmdRoom, CmdrLevel, SdoRoom, SdiLevel, IbiLevel, CmdFifo, CmdrFifo, SdoFifo, SdiFifo, IbiFifo, FifoStatus, Ops, IbiConfig, DevChar, Watermark, OffloadCmd, OffloadSdo, Unmapped}

pub record Entry : Type 0 where
  pub offset : ℕ
  pub register : Register

infix 70 ◌is◌
abbrev pub ◌is◌ : ℕ → Register → Entry
o is r = record { offset = o; register = r }

unfoldable pub named : List Entry
named =
    0x000 is Version ∷ 0x004 is Id ∷ 0x008 is Scratch
    ∷ 0x040 is Enable
    ∷ 0x080 is IrqMask ∷ 0x084 is IrqPending ∷ 0x088 is IrqSource
    ∷ 0x0c0 is CmdRoom ∷ 0x0c4 is CmdrLevel ∷ 0x0c8 is SdoRoom ∷ 0x0cc is SdiLevel ∷ 0x0d0 is IbiLevel
    ∷ 0x0d4 is CmdFifo ∷ 0x0d8 is CmdrFifo ∷ 0x0dc is SdoFifo ∷ 0x0e0 is SdiFifo ∷ 0x0e4 is IbiFifo
    ∷ 0x0e8 is FifoStatus
    ∷ 0x100 is Ops
    ∷ 0x140 is IbiConfig
    ∷ 0x180 is DevChar
    ∷ 0x200 is Watermark 0 ∷ 0x204 is Watermark 1 ∷ 0x208 is Watermark 2 ∷ 0x20c is Watermark 3 ∷ 0x210 is Watermark 4
    ∷ []

-- the offset of one of sixteen words from base on
abbrev pub in_memory : ℕ → ℕ → Bool
in_memory base o = leb base o && leb o (base + 0x3c) && eqb (o % 4) 0

-- `offload.keeps`: the offload command or data word at an offset; Unmapped, which is answered 4, at any other
unfoldable pub offload : ℕ → Register
offload o = cond (in_memory 0x2c0 o) (OffloadCmd ((o - 0x2c0) / 4)) (cond (in_memory 0x300 o) (OffloadSdo ((o - 0x300) / 4)) Unmapped)

unfoldable pub entry_at : ℕ → List Entry → Register → Register
entry_at o [] other = other
entry_at o (e ∷ es) other = let r = entry_at o es other in cond (eqb o e.offset) e.register r

-- the register at an offset
abbrev pub register_at : ℕ → Register
register_at o = entry_at o named (offload o)
