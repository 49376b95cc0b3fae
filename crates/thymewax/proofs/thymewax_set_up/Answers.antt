-- An image of another length is left as it was.
use Rattle.std.proofs.Common.{◌≡◌, ℕ, rules, length, ap, ◌∙◌}
use Rattle.image_model.specs.Image.{kept}
use Rattle.host_model.proofs.Hosting.{unsized, no_size}
use Rattle.host_parts.specs.Lent.{fresh, sizes_given}
use Rattle.thymewax.proofs.thymewax_set_up.Goals as goal

pub returns-in_default : goal.returns-in_default
returns-in_default c =
    let a = c.args in
    let k = kept a.image.now a.flags.now a.commands.now a.payloads.now in
    let caps = sizes_given a.cmd a.cmdr a.sdo a.sdi a.ibi in
    let marks = sizes_given a.cmdmark a.cmdrmark a.sdomark a.sdimark a.ibimark in
    let n : length a.image.now ≡ 43 → ⊥ = search rules in
    ap (λ (x : ℕ). fresh x k) c.from.ensures ∙ no_size k caps marks a.id (unsized k n)
