-- The two tests of bank and store say what they said, and the records from i on give what all of them gave from the start.
use Rattle.std.proofs.Common.{◌≡◌, ◌-◌, length}
use Rattle.number.specs.Refusals.{told}
use Rattle.model.specs.View.{tables}
use Rattle.answer.specs.Given.{bank_with, controller}
use Rattle.faults.specs.Faults.{fault_number}
use Rattle.record_model.specs.Record.{each_record}
use Rattle.playback_model.specs.Replay.{telling, replay_begun, did, wrong}
use Rattle.player.proofs.replay_parts.Given as goal

abbrev pub invariant-loop-i : goal.invariant-loop-i
invariant-loop-i l = record {
  tested : told l.fault ≡ fault_number (bank_with l.s l.h (tables l.flags l.commands l.payloads l.output)) (length l.store);
  rest : each_record did wrong (l.n - l.i) l.records l.i (telling 0 l.i l.a (controller (bank_with l.s l.h (tables l.flags l.commands l.payloads l.output)) l.store l.output))
      ≡ each_record did wrong l.n l.records 0 (replay_begun 0 (controller (bank_with l.initial.s l.initial.h (tables l.initial.flags l.initial.commands l.initial.payloads l.initial.output)) l.initial.store l.initial.output));
}
