-- A write takes the front of the rest.
use Rattle.std.proofs.Common.{rules}
use Rattle.notice.proofs.Writes.{write_more}
use Rattle.notice.proofs.write_counted.Goals as goal

pub loop-done-preserved : goal.loop-done-preserved
loop-done-preserved g c = record {
  bounded = search rules;
  written = write_more _ _ _ c.write.result c.args.bytes.now c.loop-done.done c.unwrap_or-n.result c.loop-done.invariant.written c.write.ensures.bytes c.unwrap_or-n.ensures;
}
