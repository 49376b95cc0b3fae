-- The table's entry, the five rings and the state together are what the definition settles.
use Rattle.settle.proofs.Laws.{settled}
use Rattle.settle.proofs.settle.Goals as goal

pub returns : goal.returns
returns c = settled c.args.st c.args.h c.args.e _ _ _ _ _ _ c.requires.0 c.put_table.ensures c.move_any-m.ensures c.done.ensures
