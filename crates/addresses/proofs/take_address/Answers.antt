-- An address take that is refused, and one that takes an address.
use Rattle.std.proofs.Common.{◌∙◌, refl}
use Rattle.model.specs.Calls.{take_address}
use Rattle.effect.specs.Seen.{seen}
use Rattle.effect.proofs.Laws.{refused_err, served_ok}
use Rattle.addresses.proofs.take_address.Goals as goal

pub returns-in-Err : goal.returns-in-Err
returns-in-Err c = λ t f w. c.refused.ensures t f ∙ refused_err take_address (seen c.args.st t f) _ (c.take_tests.ensures t f) _ c.in-Err.is

pub returns : goal.returns
unfolding take_address
returns c = λ t f w.
    c.done.ensures t
    ∙ rw (c.on.ensures, c.parity_number.ensures, c.ask-control.ensures, c.replied-phase.ensures, c.transfer_of.ensures, c.is_odd-odd.ensures, w)
    (served_ok take_address (seen c.args.st t f) _ (c.take_tests.ensures t f) refl _ c.in_default.is)
