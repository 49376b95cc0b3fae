-- The text has a line a byte at most.
use Rattle.std.proofs.Common.{◌*◌, ◌≤◌}
use Rattle.trial_lines.proofs.Console.feed.Given as goal

abbrev pub invariant-loop-byte : goal.invariant-loop-byte
invariant-loop-byte g l = l.count ≤ 12 * l.byte-index
