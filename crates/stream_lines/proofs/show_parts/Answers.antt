-- A record that is done, a wrong one, and past the last one.
use Rattle.std.proofs.Common.{arith}
use Rattle.stream_lines.proofs.Turns.{fault_kept, line_done, line_wrong, lines_done}
use Rattle.stream_lines.proofs.show_parts.Goals as goal

pub loop-i-preserved : goal.loop-i-preserved
loop-i-preserved c =
    let l = c.loop-i in
    let y = c.step_parts-y in
    record {
      tested = fault_kept _ c.in-Some.c y.result _ _ _ _ _ y.ensures _ l.invariant.tested;
      rest =
          line_done _ c.in-Some.c y.result _ _ _ _ _ y.ensures c.args.n l.i c.args.records.now _ c.line.result _ _ c.at.result c.loop-i-test.true c.at.ensures
          c.in-Some.is c.line.ensures c.put.ensures l.invariant.rest;
    }

pub returns-in_default : goal.returns-in_default
returns-in_default c =
    (line_wrong _ _ _ _ _ _ c.loop-i.invariant.rest c.at.result c.loop-i-test.true c.at.ensures c.in_default.is, omega arith)

pub returns : goal.returns
returns c = (lines_done _ _ _ _ _ _ c.loop-i.invariant.rest (omega arith) c.loop-i-test.false, omega arith)
