-- When an operation fits a queue: it pushes only where there is room, and takes only what is there. Code that settles an effect asks this.
use Rattle.std.specs.Prelude.{ℕ, ◌+◌, ◌≤◌}
use Rattle.model.specs.View.{QueueView}
use Rattle.queues.specs.declared.Queue.{Queue}
use Rattle.queues.specs.declared.Five.{Five}
use Rattle.queues.specs.Each.{of}
use Rattle.model.specs.Decision.{QueueOp, keep, clear, take, push, push2}

abbrev pub Fits : QueueOp → ℕ → ℕ → Type 0
Fits keep cap level = Unit {0}
Fits clear cap level = Unit {0}
Fits (take k) cap level = k ≤ level
Fits (push w) cap level = level + 1 ≤ cap
Fits (push2 v w) cap level = level + 2 ≤ cap

abbrev pub FitsIn : QueueOp → QueueView → Type 0
FitsIn o q = Fits o q.cap q.level

abbrev pub AllFit : Five QueueOp → Five QueueView → Type 0
AllFit o f = (k : Queue) → FitsIn (of k o) (of k f)
