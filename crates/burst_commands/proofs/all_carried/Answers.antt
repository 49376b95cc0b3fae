-- The chain answers of the first commands.
use Rattle.std.proofs.Common.{rules, arith}
use Rattle.burst_commands.proofs.First.{all_first}
use Rattle.burst_commands.proofs.all_carried.Goals as goal

pub returns : goal.returns
returns c = all_first c.args.n c.args.commands.now c.all.result (omega (arith, c.requires, c.fits-commands)) (search rules) (search rules)
