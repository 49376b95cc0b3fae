-- An interrupt request that is refused, and one that is accepted.
use Rattle.std.proofs.Common.{◌∙◌, refl}
use Rattle.model.specs.View.{View}
use Rattle.model.specs.Calls.{interrupt}
use Rattle.effect.specs.Seen.{seen}
use Rattle.effect.proofs.Laws.{refused_err, served_ok}
use Rattle.interrupt.proofs.interrupt.Goals as goal

pub returns-in-Err : goal.returns-in-Err
returns-in-Err c = λ t x h.
    let a = c.args in
    c.refused.ensures t x ∙ refused_err (λ (v : View). interrupt v a.address a.byte) (seen a.st t x) _ (c.interrupt_tests.ensures t x a.address a.byte h) _ c.in-Err.is

pub returns : goal.returns
unfolding interrupt
returns c = λ t x h.
    let a = c.args in
    c.done.ensures t
    ∙ rw (c.on.ensures, c.accept-control.ensures, c.entry-w.ensures, c.select-data.ensures, c.bit.ensures, h)
    (served_ok (λ (v : View). interrupt v a.address a.byte) (seen a.st t x) _ (c.interrupt_tests.ensures t x a.address a.byte h) refl _ c.in_default.is)
