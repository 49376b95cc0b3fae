-- All records of the section are replayed, on a fresh bank.
use Rattle.std.proofs.Common.{◌%◌, ◌^◌, [], length, refl, ap, ◌∙◌}
use Rattle.bank.specs.declared.Bank.{Bank}
use Rattle.answer.specs.Given.{controller}
use Rattle.playback_model.specs.Replay.{Replay, replay_of}
use Rattle.timing.specs.Timing.{kept_in, timed}
use Rattle.timing_each.proofs.Records.{unnumbered, same}
use Rattle.timing_each.proofs.replay_each.Goals as goal

pub returns : goal.returns
returns c =
    let a = c.args in
    let t = c.replay_records-told.ensures in
    let e = same a.file.now _ (controller c.fresh.result a.store.now []) _ _ refl c.section-records.ensures.result_value c.whole-n.ensures.0 c.whole-n.ensures.1
    ∙ ap (λ (b : Bank). unnumbered (replay_of a.file.now 0 (length a.file.now) (controller b a.store.now []))) c.fresh.ensures in
    ap (timed _ _) c.keep.ensures
    ∙ (λ i. timed ((t.0 i).count % 2 ^ 32) (t.1 i) (kept_in a.last.now (t.0 i).answer))
    ∙ ap (λ (x : Replay). timed (x.told.count % 2 ^ 32) x.left.store (kept_in a.last.now x.told.answer)) e
