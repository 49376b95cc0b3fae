-- The number of a refusal is that of its name.
use Rattle.std.proofs.Common.{ℕ, ap, ◌∙◌}
use Rattle.model.specs.Decision.{unchanged, ◌with_number◌}
use Rattle.effect.specs.Seen.{seen}
use Rattle.effect.proofs.refused.Goals as goal

pub returns : goal.returns
returns c = λ t f. c.refuse.ensures t f ∙ ap (λ (n : ℕ). unchanged (seen c.args.st t f) with_number n) c.from.ensures
