-- `write_control::write_sdo`: refused, or pushed.
use Rattle.std.proofs.Common.{refl, ◌∙◌}
use Rattle.registers.specs.declared.Register.TheVariants.{SdoFifo}
use Rattle.model.specs.View.{View}
use Rattle.model.specs.Registers.{row, write}
use Rattle.effect.specs.Seen.{seen}
use Rattle.effect.proofs.Laws.{refused_err, served_ok}
use Rattle.write_control.proofs.write_sdo.Goals as goal

pub returns-in-Err : goal.returns-in-Err
returns-in-Err c = λ t f.
    c.refused.ensures t f ∙ refused_err (λ (v : View). write (row SdoFifo) v c.args.x) (seen c.args.st t f) _ c.push_tests.ensures _ c.in-Err.is

pub returns : goal.returns
returns c = λ t f.
    rw (c.done.ensures t, c.on.ensures)
    (served_ok (λ (v : View). write (row SdoFifo) v c.args.x) (seen c.args.st t f) _ c.push_tests.ensures refl _ c.in_default.is)
