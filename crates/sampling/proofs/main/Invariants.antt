-- There is always room for a line on the page.
use Rattle.std.proofs.Common.{◌+◌, ◌≤◌}
use Rattle.sampling.proofs.main.Given as goal

abbrev pub invariant-loop-sample : goal.invariant-loop-sample
invariant-loop-sample l = l.page.at + 44 ≤ 4096
