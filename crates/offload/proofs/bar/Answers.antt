-- A refusal, with its number by two tests.
use Rattle.std.proofs.Common.{rules, ℕ, ap, ◌∙◌}
use Rattle.model.specs.Decision.{unchanged, ◌with_number◌}
use Rattle.effect.specs.Seen.{seen}
use Rattle.offload.proofs.bar.Goals as goal

pub returns : goal.returns
returns c = λ t f. c.refuse.ensures t f ∙ ap (λ (n : ℕ). (unchanged (seen c.args.st t f) with_number n)) (search rules)
