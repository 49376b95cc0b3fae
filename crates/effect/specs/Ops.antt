-- What code says that happens to the queues, as operations of the model.
use Rattle.std.specs.Prelude.{Option, Some, None}
use Rattle.queues.specs.declared.Five.{Five}
use Rattle.queues.specs.Each.{each}
use Rattle.model.specs.Decision.{QueueOp, keep, clear, take, push, push2, keep_all}
use Rattle.effect.specs.declared.Op.{Op}
use Rattle.effect.specs.declared.Op.TheVariants.{Keep, Clear, Take, Push, Push2}

abbrev pub op_of : Op → QueueOp
op_of Keep = keep
op_of Clear = clear
op_of (Take k) = take k
op_of (Push w) = push w
op_of (Push2 v w) = push2 v w

unfoldable pub five_of : Five Op → Five QueueOp
five_of f = each (op_of f.cmd) (op_of f.cmdr) (op_of f.sdo) (op_of f.sdi) (op_of f.ibi)

-- the five, or none
abbrev pub Ops : Type 0
Ops = Option (Five Op)

abbrev pub ops_of : Ops → Five QueueOp
ops_of (Some f) = five_of f
ops_of None = keep_all
