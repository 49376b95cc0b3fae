-- The last line is written behind what all pieces print.
use Rattle.std.proofs.Common.{◌≡◌}
use Rattle.std.specs.Result.{result_and}
use Rattle.trial_lines.proofs.Writes.{both}
use Rattle.trial_lines.proofs.Console.run_to_last.Goals as goal

pub returns : goal.returns
returns g c =
    let told : c.and.result ≡ result_and c.feed_all-fed.result c.write_last-last.result = c.and.ensures in
    both _ _ _ _ _ _ told c.feed_all-fed.ensures c.write_last-last.ensures
