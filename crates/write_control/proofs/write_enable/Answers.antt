-- `write_control::write_enable`: by bit 0 of the word.
use Rattle.std.proofs.Common.{true, false, sym, ◌∙◌}
use Rattle.effect.specs.Seen.{seen}
use Rattle.write_control.proofs.Rows.{enabled}
use Rattle.write_control.proofs.write_enable.Goals as goal

pub returns-then-bit : goal.returns-then-bit
returns-then-bit c =
    let a = c.args in
    λ t f. c.reset.ensures t f ∙ enabled (seen a.st t f) a.x true (sym c.bit.ensures ∙ c.if-bit.true)

pub returns-else-bit : goal.returns-else-bit
returns-else-bit c =
    let a = c.args in
    λ t f. c.release.ensures t f ∙ enabled (seen a.st t f) a.x false (sym c.bit.ensures ∙ c.if-bit.false)
