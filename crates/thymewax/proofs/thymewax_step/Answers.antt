-- An image of another length, or with words that no state has, is left as it was.
use Rattle.std.proofs.Common.{◌≡◌, ℕ, List, rules, length, false, ap, ◌∙◌}
use Rattle.image_model.specs.Image.{kept, encoded}
use Rattle.host_model.specs.Host.{call_of}
use Rattle.host_model.proofs.Hosting.{wrong_size, not_encoded, no_bank}
use Rattle.host_parts.specs.Lent.{loan, gave}
use Rattle.host_parts.proofs.Kept.{refuses}
use Rattle.thymewax.proofs.thymewax_step.Goals as goal

pub returns-in_default : goal.returns-in_default
returns-in_default c =
    let a = c.args in
    let k = kept a.image.now a.flags.now a.commands.now a.payloads.now in
    let n : length a.image.now ≡ 43 → ⊥ = search rules in
    refuses _ _ _ k _ _ _ c.refused.ensures c.from.ensures (no_bank k a.store.now a.output.now (call_of a.letter a.offset a.first a.second) (wrong_size k n))

pub returns-then-not-is_encoded : goal.returns-then-not-is_encoded
returns-then-not-is_encoded c =
    let a = c.args in
    let k = kept a.image.now a.flags.now a.commands.now a.payloads.now in
    let e : encoded a.image.now ≡ false = search rules in
    let w : c.in-Some.image.now ≡ a.image.now = search rules in
    let n = no_bank k a.store.now a.output.now (call_of a.letter a.offset a.first a.second) (not_encoded k e) in
    ap (λ (x : List ℕ). gave c.refused-then-not-is_encoded.result (loan (kept x a.flags.now a.commands.now a.payloads.now) a.store.now a.output.now)) w
    ∙ refuses _ _ _ k _ _ _ c.refused-then-not-is_encoded.ensures c.from-then-not-is_encoded.ensures n
