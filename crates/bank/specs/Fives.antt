-- The numbers of five queues, as code has them.
use Rattle.std.specs.Prelude.{ℕ}
use Rattle.queues.specs.declared.Five.{Five}
use Rattle.ring.specs.declared.Words.{Words}

-- counts of words: capacities, levels or watermarks
abbrev pub Counts : Type 0
Counts = Five Words

-- first places
abbrev pub Heads : Type 0
Heads = Five ℕ

-- capacities or watermarks as a caller gives them
abbrev pub Sizes : Type 0
Sizes = Five ℕ
