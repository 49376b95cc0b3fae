-- `watermarks::write_watermark`: a number above the capacity is refused.
use Rattle.std.proofs.Common.{ℕ, ◌∙◌, ◌<◌, ◌%◌, ◌^◌, subst}
use Rattle.model.specs.Registers.{queue_at}
use Rattle.watermarks.proofs.Laws.{above}
use Rattle.watermarks.proofs.write_watermark.Goals as goal

pub returns-then-cap-low : goal.returns-then-cap-low
returns-then-cap-low c =
    let a = c.args in
    λ t f. c.refused.ensures t f ∙ above (queue_at a.i) a.x a.st t f (subst (λ (n : ℕ). n < a.x % 2 ^ 16) c.count_at-cap.ensures c.if-cap-low.true)
