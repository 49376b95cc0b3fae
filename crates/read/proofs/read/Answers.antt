-- `read::read`: each register, by its row.
use Rattle.std.proofs.Common.{arith, refl, ◌∙◌}
use Rattle.registers.specs.declared.Register.TheVariants.{Version, Id, Scratch, Enable, IrqMask, IrqPending, IrqSource, CmdRoom, CmdrLevel, SdoRoom, SdiLevel, IbiLevel, CmdFifo, SdoFifo, FifoStatus, Ops, IbiConfig, DevChar, Watermark, OffloadCmd, OffloadSdo, Unmapped}
use Rattle.model.specs.Registers.{row, read}
use Rattle.effect.proofs.Laws.{refused_as, no_tables, no_fronts}
use Rattle.read.proofs.Rows.{shown_row}
use Rattle.read.proofs.read.Goals as goal

pub returns-in-Version : goal.returns-in-Version
returns-in-Version c = λ o f. rw c.in-Version.is (λ w. c.show.ensures _ f ∙ shown_row Version _ refl refl)

pub returns-in-Id : goal.returns-in-Id
returns-in-Id c = λ o f. rw c.in-Id.is (λ w. c.show-in-Id.ensures _ f ∙ shown_row Id _ c.from.ensures refl)

pub returns-in-Scratch : goal.returns-in-Scratch
returns-in-Scratch c = λ o f. rw c.in-Scratch.is (λ w. c.show-in-Scratch.ensures _ f ∙ shown_row Scratch _ refl refl)

pub returns-in-Enable : goal.returns-in-Enable
returns-in-Enable c = λ o f. rw c.in-Enable.is (λ w. c.show-in-Enable.ensures _ f ∙ shown_row Enable _ c.word_if.ensures.0 refl)

pub returns-in-IrqMask : goal.returns-in-IrqMask
returns-in-IrqMask c = λ o f. rw c.in-IrqMask.is (λ w. c.show-in-IrqMask.ensures _ f ∙ shown_row IrqMask _ c.from-in-IrqMask.ensures refl)

pub returns-in-IrqPending : goal.returns-in-IrqPending
returns-in-IrqPending c = λ o f. rw c.in-IrqPending.is (λ w. c.show-in-IrqPending.ensures _ f ∙ shown_row IrqPending _ (c.sources_in.ensures no_tables no_fronts) refl)

pub returns-in-IrqSource : goal.returns-in-IrqSource
returns-in-IrqSource c = λ o f. rw c.in-IrqSource.is (λ w. c.show-in-IrqSource.ensures _ f ∙ shown_row IrqSource _ (c.sources_in-in-IrqSource.ensures no_tables no_fronts) refl)

pub returns-in-CmdRoom : goal.returns-in-CmdRoom
returns-in-CmdRoom c = λ o f. rw c.in-CmdRoom.is (λ w. c.show-in-CmdRoom.ensures _ f ∙ shown_row CmdRoom _ c.room.ensures refl)

pub returns-in-CmdrLevel : goal.returns-in-CmdrLevel
returns-in-CmdrLevel c = λ o f. rw c.in-CmdrLevel.is (λ w. c.show-in-CmdrLevel.ensures _ f ∙ shown_row CmdrLevel _ refl refl)

pub returns-in-SdoRoom : goal.returns-in-SdoRoom
returns-in-SdoRoom c = λ o f. rw c.in-SdoRoom.is (λ w. c.show-in-SdoRoom.ensures _ f ∙ shown_row SdoRoom _ c.room-in-SdoRoom.ensures refl)

pub returns-in-SdiLevel : goal.returns-in-SdiLevel
returns-in-SdiLevel c = λ o f. rw c.in-SdiLevel.is (λ w. c.show-in-SdiLevel.ensures _ f ∙ shown_row SdiLevel _ refl refl)

pub returns-in-IbiLevel : goal.returns-in-IbiLevel
returns-in-IbiLevel c = λ o f. rw c.in-IbiLevel.is (λ w. c.show-in-IbiLevel.ensures _ f ∙ shown_row IbiLevel _ refl refl)

pub returns-in-CmdFifo : goal.returns-in-CmdFifo
returns-in-CmdFifo c = λ o f. rw c.in-CmdFifo.is (λ w. c.show-in-CmdFifo.ensures _ f ∙ shown_row CmdFifo _ refl refl)

pub returns-in-SdoFifo : goal.returns-in-SdoFifo
returns-in-SdoFifo c = λ o f. rw c.in-SdoFifo.is (λ w. c.show-in-SdoFifo.ensures _ f ∙ shown_row SdoFifo _ refl refl)

pub returns-in-FifoStatus : goal.returns-in-FifoStatus
returns-in-FifoStatus c = λ o f. rw c.in-FifoStatus.is (λ w. c.show-in-FifoStatus.ensures _ f ∙ shown_row FifoStatus _ c.status_word.ensures refl)

pub returns-in-Ops : goal.returns-in-Ops
returns-in-Ops c = λ o f. rw c.in-Ops.is (λ w. c.show-in-Ops.ensures _ f ∙ shown_row Ops _ (c.ops_word.ensures ∙ rw c.is_idle.ensures) refl)

pub returns-in-IbiConfig : goal.returns-in-IbiConfig
returns-in-IbiConfig c = λ o f. rw c.in-IbiConfig.is (λ w. c.show-in-IbiConfig.ensures _ f ∙ shown_row IbiConfig _ refl refl)

pub returns-in-DevChar : goal.returns-in-DevChar
returns-in-DevChar c = λ o f. rw c.in-DevChar.is (λ w. c.show-in-DevChar.ensures _ f ∙ shown_row DevChar _ (c.device_word.ensures ∙ rw c.entry_at.ensures) refl)

pub returns-in-Watermark : goal.returns-in-Watermark
returns-in-Watermark c = λ o f. rw c.in-Watermark.is (λ w. c.show-in-Watermark.ensures _ f ∙ shown_row (Watermark c.in-Watermark.i) _ c.count_at.ensures refl)

pub returns-in-OffloadCmd : goal.returns-in-OffloadCmd
returns-in-OffloadCmd c = λ o f. rw c.in-OffloadCmd.is (λ w. c.show-in-OffloadCmd.ensures _ f ∙ shown_row (OffloadCmd c.in-OffloadCmd.i) _ c.entry_at-in-OffloadCmd.ensures refl)

pub returns-in-OffloadSdo : goal.returns-in-OffloadSdo
returns-in-OffloadSdo c = λ o f. rw c.in-OffloadSdo.is (λ w. c.show-in-OffloadSdo.ensures _ f ∙ shown_row (OffloadSdo c.in-OffloadSdo.i) _ c.entry_at-in-OffloadSdo.ensures refl)

pub returns-in-Unmapped : goal.returns-in-Unmapped
returns-in-Unmapped c = λ o f. rw c.in-Unmapped.is (λ w. c.refused.ensures _ f ∙ refused_as (read (row Unmapped)) _ 4 (λ z. omega arith) refl)
