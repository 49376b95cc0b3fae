-- The payload words are those of the bank.
use Rattle.formed.proofs.well_formed.Goals as goal

pub returns : goal.returns
returns c = c.parts_formed.ensures c.args.b.payloads
