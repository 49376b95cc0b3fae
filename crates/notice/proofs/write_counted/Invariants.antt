-- The bytes written so far are those that the writer got, and are no more than there are.
use Rattle.std.proofs.Common.{length, take, ◌-◌, ◌≤◌}
use Rattle.std.specs.Io.KnownBytes.{Appends}
use Rattle.notice.proofs.write_counted.Given as goal

abbrev pub invariant-loop-done : goal.invariant-loop-done
invariant-loop-done g l = record {
  bounded : l.done ≤ length l.bytes;
  written : Appends (g.W.Write.contents l.fn.to) (g.W.Write.contents l.to) (take l.done l.bytes);
}

abbrev pub decreases-loop-done : goal.decreases-loop-done
decreases-loop-done g l = length l.bytes - l.done
