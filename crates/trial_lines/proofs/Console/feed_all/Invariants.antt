-- The output so far is what it was and text behind it.
use Rattle.trial_lines.specs.Growing.{Grows}
use Rattle.trial_lines.proofs.Console.feed_all.Given as goal

abbrev pub invariant-loop : goal.invariant-loop
invariant-loop g l = Grows (g.W.Write.contents l.fn.output) (g.W.Write.contents l.output)
