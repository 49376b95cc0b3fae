-- The last line is written behind what all pieces print.
use Rattle.trial_lines.proofs.Writes.{grown}
use Rattle.trial_lines.proofs.Console.run.Goals as goal

pub returns : goal.returns
returns g c = grown _ _ _ _ c.in_ok-feed_all.ensures c.write_last.ensures
