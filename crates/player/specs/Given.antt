-- Contracts of replays on lent memory.
use Rattle.answer.specs.Memory.{Memory}
use Rattle.playback_model.specs.Replay.{Replay}
use Rattle.replayed.specs.declared.Reached.{Reached}
use Rattle.replayed.specs.Given.{replay_reached}

-- a result, with the memory that the code left
abbrev pub reached_with : Reached → Memory → Replay
reached_with r m = replay_reached r m.tables m.store
