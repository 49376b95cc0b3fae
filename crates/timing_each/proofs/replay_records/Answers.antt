-- A record that is wrong ends the replay; one whose call is made leaves the others to be made.
use Rattle.std.proofs.Common.{rules}
use Rattle.record_model.proofs.Kept.{output_kept}
use Rattle.timing_each.proofs.Records.{record_done, wrong_told, wrong_left, done_told, done_left}
use Rattle.timing_each.proofs.replay_records.Goals as goal

pub returns-in_default : goal.returns-in_default
returns-in_default c =
    let l = c.loop-i in
    let a = c.args in (
      rw c.from.ensures (wrong_told a.n l.i a.records.now l.a l.bank l.store l.none _ l.invariant.left c.at.result c.loop-i-test.true c.at.ensures c.in_default.is),
      wrong_left a.n l.i a.records.now l.a l.bank l.store l.none _ l.invariant.left c.at.result c.loop-i-test.true c.at.ensures c.in_default.is,
    )

pub loop-i-preserved : goal.loop-i-preserved
loop-i-preserved c = record {
  lent = output_kept _ _ _ _ c.step_once-out.ensures c.loop-i.invariant.lent;
  left = record_done _ _ _ _ _ c.step_once-out.ensures c.args.n c.loop-i.i c.args.records.now _ _ c.at.result c.loop-i-test.true c.at.ensures c.in-Some.is c.loop-i.invariant.left;
}

pub returns : goal.returns
returns c = (search (done_told, rules), search (done_left, rules))
