-- `plain_moves::take`: the words that are left were copied to the front.
use Rattle.std.proofs.Common.{◌≡◌, ◌+◌, ◌-◌, ◌≤◌, ℕ, length, ap, refl, ◌∙◌, arith}
use Rattle.plain_model.specs.Moves.{shift, on_plain_store}
use Rattle.plain_moves.proofs.Shifting.{moved}
use Rattle.plain_moves.proofs.take.Goals as goal

pub returns : goal.returns
unfolding on_plain_store
returns c =
    let a = c.args in
    let from = a.a.base + a.k in
    let left = a.a.level - a.k in
    let b = c.copy_within.ensures.by_index in
    let n : from + left - from ≡ left = omega arith in
    let least = c.requires.0.fit in
    let most = c.requires.0.most in
    let room = c.requires.1 in
    let l : from + (from + left - from) ≤ length a.store.now = omega (arith, n, least, most, room) in (
      refl,
      moved a.a.base from (from + left - from) a.store.now _ (omega arith) l c.copy_within.ensures.len b.0 b.1 b.2 ∙ ap (λ (x : ℕ). shift a.a.base from x a.store.now) n,
    )
