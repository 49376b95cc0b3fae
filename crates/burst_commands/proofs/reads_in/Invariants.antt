-- `count` has the reads of the commands passed.
use Rattle.std.proofs.Common.{◌≡◌, ◌≤◌}
use Rattle.bank.specs.Bursts.{reads_in}
use Rattle.burst_commands.proofs.reads_in.Given as goal

abbrev pub invariant-loop-w : goal.invariant-loop-w
invariant-loop-w l = record {
  below : l.count ≤ l.w-index;
  same : l.count ≡ reads_in l.w-index l.commands;
}
