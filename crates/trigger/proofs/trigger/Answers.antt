-- A trigger that is refused, and one that opens a burst.
use Rattle.std.proofs.Common.{◌∙◌, refl}
use Rattle.model.specs.View.{tables}
use Rattle.model.specs.Bursts.{trigger}
use Rattle.effect.specs.Seen.{seen}
use Rattle.effect.proofs.Laws.{refused_err, served_ok}
use Rattle.trigger.proofs.trigger.Goals as goal

pub returns-in-Err : goal.returns-in-Err
returns-in-Err c = λ p o f h.
    let a = c.args in
    let t = tables a.flags.now a.commands.now p o in
    c.refused.ensures t f ∙ refused_err trigger (seen a.st t f) _ (c.trigger_tests.ensures a.flags.now p o f h) _ c.in-Err.is

pub returns : goal.returns
unfolding trigger
returns c = λ p o f h.
    let a = c.args in
    let t = tables a.flags.now a.commands.now p o in
    rw (c.done.ensures t, c.burst_at-control.ensures, c.private_phase-phase.ensures)
    (served_ok trigger (seen a.st t f) _ (c.trigger_tests.ensures a.flags.now p o f h) refl _ c.in_default.is)
