-- What code that moves words asks of its caller: an operation stays within its area, and the areas within the store.
use Rattle.std.specs.Prelude.{ℕ, ◌≤◌, ◌≡◌, List, length}
use Rattle.bank.specs.Fives.{Counts}
use Rattle.bank.specs.SetUp.{total}
use Rattle.queues.specs.declared.Queue.{Queue}
use Rattle.queues.specs.declared.Five.{Five}
use Rattle.queues.specs.Each.{of}
use Rattle.model.specs.Decision.{QueueOp}
use Rattle.model.specs.Fits.{Fits}
use Rattle.plain_model.specs.declared.PlainArea.{PlainArea}
use Rattle.plain_model.specs.Areas.{plain_areas}

-- the level is at most the capacity, and the operation finds its room, or its words
pub record FitsArea (o : QueueOp) (a : PlainArea) : Type 0 where
  pub most : a.level ≤ a.cap
  pub fit : Fits o a.cap a.level

-- so of the five queues, in a store of the right length
pub record AllFitAreas (o : Five QueueOp) (k l : Counts) (st : List ℕ) : Type 0 where
  pub each : (q : Queue) → FitsArea (of q o) (of q (plain_areas k l))
  pub size : length st ≡ total k
