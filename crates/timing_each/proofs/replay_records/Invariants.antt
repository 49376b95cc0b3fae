-- The records still to come make what all of them make, of the bank and the store as they are now.
use Rattle.std.proofs.Common.{◌≡◌, [], ◌-◌, length}
use Rattle.answer.specs.Given.{controller}
use Rattle.record_model.specs.Record.{each_record}
use Rattle.playback_model.specs.Replay.{telling, replay_begun, did, wrong}
use Rattle.timing_each.proofs.replay_records.Given as goal

abbrev pub invariant-loop-i : goal.invariant-loop-i
invariant-loop-i l = record {
  lent : length l.none ≡ 0;
  left : each_record did wrong (l.n - l.i) l.records l.i (telling 0 l.i l.a (controller l.bank l.store l.none)) ≡ each_record did wrong l.n l.records 0 (replay_begun 0 (controller l.initial.bank l.initial.store []));
}
