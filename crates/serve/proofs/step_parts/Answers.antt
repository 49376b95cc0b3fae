-- The two tests refuse, or the step is the decision.
use Rattle.std.proofs.Common.{ap, sym, ◌∙◌}
use Rattle.number.specs.Refusals.{told}
use Rattle.number.proofs.Refusals.{not_0}
use Rattle.serve.proofs.Guards.{sound, opens}
use Rattle.faults.proofs.Guards.{refuses}
use Rattle.answer.specs.Given.{bank_with, controller}
use Rattle.model.specs.View.{tables}
use Rattle.serve.proofs.step_parts.Goals as goal

pub returns-in-Err : goal.returns-in-Err
returns-in-Err c =
    let a = c.args in
    let b = bank_with a.st a.h (tables a.flags.now a.commands.now a.payloads.now a.output.now) in
    rw (c.refuse.ensures, c.from.ensures) (refuses (controller b a.store.now a.output.now) a.call _ (not_0 c.in-Err.why) (sym (ap told c.in-Err.is) ∙ c.requires))

pub serve-requires : goal.serve-requires
serve-requires c =
    let a = c.args in
    let b = bank_with a.st a.h (tables a.flags.now a.commands.now a.payloads.now a.output.now) in
    opens b a.store.now (sym c.requires ∙ ap told c.in_default.is)

pub returns : goal.returns
returns c =
    let a = c.args in
    let b = bank_with a.st a.h (tables a.flags.now a.commands.now a.payloads.now a.output.now) in
    c.serve.ensures ∙ sound b a.store.now a.output.now a.call (sym c.requires ∙ ap told c.in_default.is)
