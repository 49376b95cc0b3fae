-- `ring::look`: an entry lies at its place, and past the last one there is 0.
use Rattle.std.proofs.Common.{sym}
use Rattle.ring.proofs.Laws.{entries_at, entries_past}
use Rattle.ring.proofs.look.Goals as goal

pub returns-then-i-r : goal.returns-then-i-r
returns-then-i-r c = rw c.place.ensures.0 (sym (entries_at _ _ _ _ c.if-i-r.true))

pub returns-else-i-r : goal.returns-else-i-r
returns-else-i-r c = sym (entries_past _ _ _ _ c.if-i-r.false)
