-- A finish that is refused, and one that ends its transfer.
use Rattle.std.proofs.Common.{◌∙◌, refl}
use Rattle.model.specs.View.{View}
use Rattle.model.specs.Calls.{finish}
use Rattle.effect.specs.Seen.{seen}
use Rattle.effect.proofs.Laws.{refused_err, served_ok}
use Rattle.finish.proofs.Finishing.{moved_small}
use Rattle.finish.proofs.finish.Goals as goal

pub returns-in-Err : goal.returns-in-Err
returns-in-Err c = λ t f.
    c.refused.ensures t f ∙ refused_err (λ (v : View). finish v c.args.code) (seen c.args.st t f) _ (c.finish_tests.ensures t f) _ c.in-Err.is

pub returns : goal.returns
unfolding finish
returns c = λ t f.
    rw (c.done.ensures t, c.receipt_and-o.ensures, c.does_remove-removes.ensures, c.removed_words-n.ensures, c.counted-control.ensures, c.receipt-r.ensures, c.is_padded-pads.ensures, c.transfer_of-t.ensures)
    (served_ok (λ (v : View). finish v c.args.code) (seen c.args.st t f) _ (c.finish_tests.ensures t f) refl _ c.in_default.is)

pub receipt-r-requires : goal.receipt-r-requires
receipt-r-requires c = (c.requires.1, rw c.transfer_of-t.ensures (moved_small c.args.st.phase c.requires.0))
