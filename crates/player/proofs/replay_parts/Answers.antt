-- A record that is done, a wrong one, and past the last one.
use Rattle.std.proofs.Common.{arith}
use Rattle.player.proofs.Records.{fault_kept, record_done, record_wrong, records_done}
use Rattle.player.proofs.replay_parts.Goals as goal

pub returns-in_default : goal.returns-in_default
returns-in_default c =
    record_wrong _ _ _ _ _ _ _ c.loop-i.invariant.rest c.at.result c.loop-i-test.true c.at.ensures c.in_default.is (c.stopped.ensures _ _)

pub loop-i-preserved : goal.loop-i-preserved
loop-i-preserved c =
    let l = c.loop-i in
    let y = c.step_parts-y in
    record {
      tested = fault_kept _ c.in-Some.c y.result _ _ _ _ _ y.ensures c.by_field-s.result _ c.by_field-s.ensures l.invariant.tested;
      rest =
          record_done _ c.in-Some.c y.result _ _ _ _ _ y.ensures c.by_field-s.result c.args.n l.i c.args.records.now l.a _ c.at.result c.by_field-s.ensures
          c.loop-i-test.true c.at.ensures c.in-Some.is l.invariant.rest;
    }

pub returns : goal.returns
returns c = records_done _ _ _ _ _ _ _ c.loop-i.invariant.rest (omega arith) c.loop-i-test.false (c.reach.ensures _ _)
