-- `offload::bar` by what an event looks at.
use Rattle.std.proofs.Common.{◌∙◌}
use Rattle.offload.proofs.bar_event.Goals as goal

pub returns : goal.returns
returns c = λ t f. c.bar.ensures t f ∙ rw (c.is_output_short-lacks.ensures, c.from.ensures)
