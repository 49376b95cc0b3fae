-- Levels and heads of five rings, as the code of `settle` has them.
use Rattle.bank.specs.Queues.{Queues, levels_of, heads_of}
use Rattle.ring_moves.specs.declared.Moved.{Moved}

abbrev pub moved_to : Queues → Moved
moved_to q = record { levels = levels_of q; heads = heads_of q }
