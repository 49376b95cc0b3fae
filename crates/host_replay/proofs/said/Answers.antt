-- An image of another length, or with words that no state has, is kept of no bank.
use Rattle.std.proofs.Common.{◌≡◌, rules, length, false, ap, sym, ◌∙◌}
use Rattle.image_model.specs.Image.{encoded}
use Rattle.host_model.proofs.Hosting.{wrong_size, not_encoded}
use Rattle.host_replay.proofs.said.Goals as goal

pub returns-in_default : goal.returns-in_default
returns-in_default c =
    let n : length c.args.image.now ≡ 43 → ⊥ = search rules in
    λ k e. wrong_size k (λ z. n (sym (ap length e) ∙ z))

pub returns-then-not-is_encoded : goal.returns-then-not-is_encoded
returns-then-not-is_encoded c =
    let n : encoded c.args.image.now ≡ false = search rules in
    λ k e. not_encoded k (ap encoded e ∙ n)
