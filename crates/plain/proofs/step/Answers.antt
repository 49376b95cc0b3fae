-- `plain::step`: what the two tests refuse, and that the others pass.
use Rattle.std.proofs.Common.{ap, sym, ◌∙◌}
use Rattle.number.specs.Refusals.{told}
use Rattle.number.proofs.Refusals.{not_0}
use Rattle.plain.specs.Given.{plain_lent}
use Rattle.plain.proofs.Laws.{refuses}
use Rattle.plain.proofs.step.Goals as goal

pub returns-in-Err : goal.returns-in-Err
returns-in-Err c =
    let a = c.args in
    c.refuse.ensures _ _ ∙ refuses (plain_lent a.b a.store.now a.output.now) a.call _ (not_0 c.in-Err.why) (sym (ap told c.in-Err.is) ∙ c.fault.ensures)
