-- A wrong head, and the records behind a right one.
use Rattle.std.proofs.Common.{[], ap, ◌∙◌, arith}
use Rattle.answer.specs.Given.{controller}
use Rattle.stream_model.specs.Stream.{over}
use Rattle.stream.proofs.Stages.{head_there, head_wrong, head_right, rest_length}
use Rattle.stream.proofs.open.Goals as goal

pub returns-in-Wrong : goal.returns-in-Wrong
returns-in-Wrong c =
    let a = c.args in
    let told = ap (over (controller a.b a.store.now []) a.bytes.now []) c.from.ensures in
    (head_wrong _ _ c.read_head.ensures _ _ _ _ c.in-Wrong.is (c.close.ensures.0 _ ∙ told), (omega arith, omega arith, omega arith))

pub returns-in-Right : goal.returns-in-Right
returns-in-Right c =
    let a = c.args in
    let r = c.in-Right in
    let y = c.feed_records-f in
    let there = head_there a.bytes.now _ c.read_head.ensures r.len _ r.is in
    let rest = rest_length r.len a.bytes.now in (
      head_right a.bytes.now _ c.read_head.ensures a.b a.store.now y.result _ _ r.len _ r.is y.ensures.0,
      (omega arith, omega arith, omega arith),
    )
