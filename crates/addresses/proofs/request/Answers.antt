-- An address request that is refused, and one that opens.
use Rattle.std.proofs.Common.{◌∙◌, refl}
use Rattle.model.specs.View.{View}
use Rattle.model.specs.Calls.{request}
use Rattle.effect.specs.Seen.{seen}
use Rattle.effect.proofs.Laws.{refused_err, served_ok}
use Rattle.addresses.proofs.request.Goals as goal

pub returns-in-Err : goal.returns-in-Err
returns-in-Err c = λ t f.
    let a = c.args in
    c.refused.ensures t f ∙ refused_err (λ (v : View). request v a.x a.w) (seen a.st t f) _ (c.request_tests.ensures t f a.x a.w) _ c.in-Err.is

pub returns : goal.returns
unfolding request
returns c = λ t f.
    let a = c.args in
    c.done.ensures t
    ∙ rw (c.on.ensures, c.ask-control.ensures, c.transfer_of.ensures)
    (served_ok (λ (v : View). request v a.x a.w) (seen a.st t f) _ (c.request_tests.ensures t f a.x a.w) refl _ c.in_default.is)
