-- `write::write`: each register, by its row.
use Rattle.std.proofs.Common.{arith, refl, ◌∙◌}
use Rattle.registers.specs.declared.Register.TheVariants.{Version, Id, IrqSource, CmdRoom, CmdrLevel, SdoRoom, SdiLevel, IbiLevel, CmdrFifo, SdiFifo, IbiFifo, FifoStatus, Unmapped}
use Rattle.model.specs.Registers.{row, write}
use Rattle.effect.proofs.Laws.{refused_as}
use Rattle.write.proofs.Rows.{read_only_row}
use Rattle.write.proofs.write.Goals as goal

pub returns-in-Version : goal.returns-in-Version
returns-in-Version c = λ t f. rw c.in-Version.is (c.refused.ensures t f ∙ read_only_row Version _ c.args.x refl)

pub returns-in-Id : goal.returns-in-Id
returns-in-Id c = λ t f. rw c.in-Id.is (c.refused-in-Id.ensures t f ∙ read_only_row Id _ c.args.x refl)

pub returns-in-Scratch : goal.returns-in-Scratch
returns-in-Scratch c = λ t f. rw c.in-Scratch.is (c.write_scratch.ensures t f)

pub returns-in-Enable : goal.returns-in-Enable
returns-in-Enable c = λ t f. rw c.in-Enable.is (c.write_enable.ensures t f)

pub returns-in-IrqMask : goal.returns-in-IrqMask
returns-in-IrqMask c = λ t f. rw c.in-IrqMask.is (c.write_mask.ensures t f)

pub returns-in-IrqPending : goal.returns-in-IrqPending
returns-in-IrqPending c = λ t f. rw c.in-IrqPending.is (c.write_pending.ensures t f)

pub returns-in-IrqSource : goal.returns-in-IrqSource
returns-in-IrqSource c = λ t f. rw c.in-IrqSource.is (c.refused-in-IrqSource.ensures t f ∙ read_only_row IrqSource _ c.args.x refl)

pub returns-in-CmdRoom : goal.returns-in-CmdRoom
returns-in-CmdRoom c = λ t f. rw c.in-CmdRoom.is (c.refused-in-CmdRoom.ensures t f ∙ read_only_row CmdRoom _ c.args.x refl)

pub returns-in-CmdrLevel : goal.returns-in-CmdrLevel
returns-in-CmdrLevel c = λ t f. rw c.in-CmdrLevel.is (c.refused-in-CmdrLevel.ensures t f ∙ read_only_row CmdrLevel _ c.args.x refl)

pub returns-in-SdoRoom : goal.returns-in-SdoRoom
returns-in-SdoRoom c = λ t f. rw c.in-SdoRoom.is (c.refused-in-SdoRoom.ensures t f ∙ read_only_row SdoRoom _ c.args.x refl)

pub returns-in-SdiLevel : goal.returns-in-SdiLevel
returns-in-SdiLevel c = λ t f. rw c.in-SdiLevel.is (c.refused-in-SdiLevel.ensures t f ∙ read_only_row SdiLevel _ c.args.x refl)

pub returns-in-IbiLevel : goal.returns-in-IbiLevel
returns-in-IbiLevel c = λ t f. rw c.in-IbiLevel.is (c.refused-in-IbiLevel.ensures t f ∙ read_only_row IbiLevel _ c.args.x refl)

pub returns-in-CmdFifo : goal.returns-in-CmdFifo
returns-in-CmdFifo c = λ t f. rw c.in-CmdFifo.is (c.write_cmd.ensures t f)

pub returns-in-CmdrFifo : goal.returns-in-CmdrFifo
returns-in-CmdrFifo c = λ t f. rw c.in-CmdrFifo.is (c.refused-in-CmdrFifo.ensures t f ∙ read_only_row CmdrFifo _ c.args.x refl)

pub returns-in-SdoFifo : goal.returns-in-SdoFifo
returns-in-SdoFifo c = λ t f. rw c.in-SdoFifo.is (c.write_sdo.ensures t f)

pub returns-in-SdiFifo : goal.returns-in-SdiFifo
returns-in-SdiFifo c = λ t f. rw c.in-SdiFifo.is (c.refused-in-SdiFifo.ensures t f ∙ read_only_row SdiFifo _ c.args.x refl)

pub returns-in-IbiFifo : goal.returns-in-IbiFifo
returns-in-IbiFifo c = λ t f. rw c.in-IbiFifo.is (c.refused-in-IbiFifo.ensures t f ∙ read_only_row IbiFifo _ c.args.x refl)

pub returns-in-FifoStatus : goal.returns-in-FifoStatus
returns-in-FifoStatus c = λ t f. rw c.in-FifoStatus.is (c.refused-in-FifoStatus.ensures t f ∙ read_only_row FifoStatus _ c.args.x refl)

pub returns-in-Ops : goal.returns-in-Ops
returns-in-Ops c = λ t f. rw c.in-Ops.is (c.write_ops.ensures t f)

pub returns-in-IbiConfig : goal.returns-in-IbiConfig
returns-in-IbiConfig c = λ t f. rw c.in-IbiConfig.is (c.write_config.ensures t f)

pub returns-in-DevChar : goal.returns-in-DevChar
returns-in-DevChar c = λ t f. rw c.in-DevChar.is (c.write_device.ensures t f)

pub returns-in-Watermark : goal.returns-in-Watermark
returns-in-Watermark c = λ t f. rw c.in-Watermark.is (c.write_watermark.ensures t f)

pub returns-in-OffloadCmd : goal.returns-in-OffloadCmd
returns-in-OffloadCmd c = λ t f. rw c.in-OffloadCmd.is (c.write_offload_cmd.ensures t f)

pub returns-in-OffloadSdo : goal.returns-in-OffloadSdo
returns-in-OffloadSdo c = λ t f. rw c.in-OffloadSdo.is (c.write_offload_sdo.ensures t f)

pub returns-in-Unmapped : goal.returns-in-Unmapped
returns-in-Unmapped c = λ t f. rw c.in-Unmapped.is (c.refused-in-Unmapped.ensures t f ∙ refused_as (λ v. write (row Unmapped) v c.args.x) _ 4 (λ z. omega arith) refl)
