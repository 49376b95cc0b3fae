-- A wrong record, and bytes past the last record that is due.
use Rattle.std.proofs.Common.{ap, ◌∙◌, arith}
use Rattle.stream_model.specs.Stream.{over}
use Rattle.stream_model.proofs.Text.{wrong_met, too_long}
use Rattle.stream_records.proofs.feed_records.Goals as goal

pub returns-then-p : goal.returns-then-p
returns-then-p c =
    let p = c.show-p in
    (c.close.ensures.0 _ ∙ ap (over _ _ _) c.from.ensures ∙ wrong_met _ _ _ _ _ c.whole-n.ensures.0 p.ensures.0 c.if-p.true, (omega arith, omega arith, omega arith))

pub returns-then-n-due : goal.returns-then-n-due
returns-then-n-due c =
    let p = c.show-p in
    (c.close-then-n-due.ensures.0 _ ∙ ap (over _ _ _) c.from-then-n-due.ensures ∙ too_long _ _ _ _ _ c.whole-n.ensures.0 p.ensures.0 c.if-p.false c.if-n-due.true, (omega arith, omega arith, omega arith))
