-- A send that is refused, and one that sends a byte.
use Rattle.std.proofs.Common.{◌∙◌, ap, refl}
use Rattle.number.specs.Refusals.{told}
use Rattle.model.specs.Calls.{send}
use Rattle.effect.specs.Seen.{seen}
use Rattle.effect.proofs.Laws.{refused_err, served_ok}
use Rattle.payload.proofs.Bytes.{sent_below}
use Rattle.payload.proofs.send.Goals as goal

pub returns-in-Err : goal.returns-in-Err
returns-in-Err c = λ t f w. c.refused.ensures t f ∙ refused_err send (seen c.args.st t f) _ (c.send_tests.ensures t f) _ c.in-Err.is

pub advance-next-requires : goal.advance-next-requires
advance-next-requires c = sent_below c.args.st (told c.send_tests.result) c.transfer_of-t.result c.send_tests.ensures (ap told c.in_default.is) c.transfer_of-t.ensures

pub returns : goal.returns
unfolding send
returns c = λ t f w.
    rw (c.done.ensures t, c.on.ensures, c.advance-next.ensures, c.select-w.ensures, w, c.transfer_of-t.ensures)
    (served_ok send (seen c.args.st t f) _ (c.send_tests.ensures t f) refl _ c.in_default.is)
