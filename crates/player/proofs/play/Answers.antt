-- `player::play`: as many records as the bytes have, at most `limit`.
use Rattle.std.proofs.Common.{◌∙◌, ℕ, ap}
use Rattle.answer.specs.Given.{controller}
use Rattle.record_model.specs.Record.{each_record}
use Rattle.playback_model.specs.Replay.{replay_begun, did, wrong}
use Rattle.player.proofs.play.Goals as goal

pub returns : goal.returns
returns c =
    let a = c.args in
    c.replay_parts-y.ensures ∙ ap (λ (n : ℕ). each_record did wrong n a.records.now 0 (replay_begun 0 (controller a.b a.store.now a.output.now))) c.whole-n.ensures.0
