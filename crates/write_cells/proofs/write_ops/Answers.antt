-- `write_cells::write_ops`: refused while a burst is open, or kept.
use Rattle.std.proofs.Common.{refl, ◌∙◌}
use Rattle.registers.specs.declared.Register.TheVariants.{Ops}
use Rattle.model.specs.View.{View}
use Rattle.model.specs.Registers.{row, write}
use Rattle.effect.specs.Seen.{seen}
use Rattle.effect.proofs.Laws.{refused_err, served_ok}
use Rattle.write_cells.proofs.write_ops.Goals as goal

pub returns-in-Err : goal.returns-in-Err
returns-in-Err c = λ t f.
    c.refused.ensures t f ∙ refused_err (λ (v : View). write (row Ops) v c.args.x) (seen c.args.st t f) _ c.burst_tests.ensures _ c.in-Err.is

pub returns : goal.returns
returns c = λ t f.
    c.put_regs.ensures t f ∙ served_ok (λ (v : View). write (row Ops) v c.args.x) (seen c.args.st t f) _ c.burst_tests.ensures refl _ c.in_default.is
