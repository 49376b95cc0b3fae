-- The last line is written behind what was there.
use Rattle.trial_lines.proofs.Writes.{grows}
use Rattle.trial_lines.proofs.Console.write_last.Goals as goal

pub returns : goal.returns
returns g c = grows _ _ _ _ c.write_all.ensures.bytes
