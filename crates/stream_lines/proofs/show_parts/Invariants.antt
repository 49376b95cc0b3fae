-- The two tests of bank and store say what they said, and the records from i on print, behind what is printed, what all of them print from the start.
use Rattle.std.proofs.Common.{◌≡◌, ◌-◌, ◌*◌, false, [], length, take}
use Rattle.number.specs.Refusals.{told}
use Rattle.model.specs.View.{tables}
use Rattle.answer.specs.Given.{bank_with, controller}
use Rattle.faults.specs.Faults.{fault_number}
use Rattle.record_model.specs.Record.{each_record}
use Rattle.stream_model.specs.Stream.{records_printed, said, met}
use Rattle.stream_lines.proofs.show_parts.Given as goal

abbrev pub invariant-loop-i : goal.invariant-loop-i
invariant-loop-i l = record {
  tested : told l.fault ≡ fault_number (bank_with l.s l.h (tables l.flags l.commands l.payloads l.output)) (length l.store);
  rest : each_record said met (l.n - l.i) l.records l.i (records_printed (controller (bank_with l.s l.h (tables l.flags l.commands l.payloads l.output)) l.store l.output) (take (12 * l.i) l.out) false)
      ≡ each_record said met l.n l.records 0 (records_printed (controller (bank_with l.initial.s l.initial.h (tables l.initial.flags l.initial.commands l.initial.payloads l.initial.output)) l.initial.store l.initial.output) [] false);
}
