-- A look-up that is refused.
use Rattle.std.proofs.Common.{◌∙◌}
use Rattle.playback_model.proofs.Laws.{refuses_by}
use Rattle.host_replay.proofs.on_parts.Goals as goal

pub returns-in-Err : goal.returns-in-Err
returns-in-Err c = c.reach.ensures _ _ ∙ refuses_by _ _ _ _ _ _ c.from.ensures c.in-Err.ensures.number
