-- A look-up that is refused.
use Rattle.std.proofs.Common.{◌∙◌}
use Rattle.playback_model.proofs.Laws.{refuses_by}
use Rattle.playback.proofs.replay.Goals as goal

pub returns-in-Err : goal.returns-in-Err
returns-in-Err c = c.refused.ensures _ ∙ refuses_by _ _ _ _ _ _ c.from.ensures c.in-Err.ensures.number
