-- A receive that is refused, and one that receives a byte.
use Rattle.std.proofs.Common.{◌∙◌, ap, refl}
use Rattle.number.specs.Refusals.{told}
use Rattle.model.specs.View.{View}
use Rattle.model.specs.Calls.{receive}
use Rattle.effect.specs.Seen.{seen}
use Rattle.effect.proofs.Laws.{refused_err, served_ok}
use Rattle.payload.proofs.Bytes.{read_below, read_room}
use Rattle.payload.proofs.receive.Goals as goal

pub returns-in-Err : goal.returns-in-Err
returns-in-Err c = λ t f.
    c.refused.ensures t f ∙ refused_err (λ (v : View). receive v c.args.byte) (seen c.args.st t f) _ (c.receive_tests.ensures t f c.args.byte) _ c.in-Err.is

pub gathered-w-requires : goal.gathered-w-requires
gathered-w-requires c = read_room c.args.st (told c.receive_tests.result) c.transfer_of-t.result c.receive_tests.ensures (ap told c.in_default.is) c.transfer_of-t.ensures c.requires

pub advance-next-requires : goal.advance-next-requires
advance-next-requires c = read_below c.args.st (told c.receive_tests.result) c.transfer_of-t.result c.receive_tests.ensures (ap told c.in_default.is) c.transfer_of-t.ensures

pub returns : goal.returns
unfolding receive
returns c = λ t f.
    rw (c.done.ensures t, c.on.ensures, c.advance-next.ensures, c.select.ensures, c.gathered-w.ensures, c.transfer_of-t.ensures)
    (served_ok (λ (v : View). receive v c.args.byte) (seen c.args.st t f) _ (c.receive_tests.ensures t f c.args.byte) refl _ c.in_default.is)
