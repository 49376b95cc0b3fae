-- `read_rows::take`: of an empty queue the last word is shown again.
use Rattle.std.proofs.Common.{rules, ℕ, ap, ◌∙◌}
use Rattle.number.specs.Names as number
use Rattle.model.specs.Decision.{unchanged, ◌with_value◌, ◌with_number◌}
use Rattle.effect.specs.Seen.{seen}
use Rattle.effect.proofs.Laws.{level_seen}
use Rattle.read_rows.proofs.Rows.{empty_row}
use Rattle.read_rows.proofs.take.Goals as goal

pub returns-then-level-eq0 : goal.returns-then-level-eq0
returns-then-level-eq0 c = λ t f _.
    let a = c.args in
    let s = seen a.st t f in
    c.show_again.ensures t f
    ∙ ap (λ (w : ℕ). (unchanged s with_value w with_number number.empty)) (search rules)
    ∙ empty_row a.q s (level_seen a.st t f a.q ∙ search rules)
