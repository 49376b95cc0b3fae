-- `dispatch::read_at`: the register at the offset.
use Rattle.std.proofs.Common.{ap, ◌∙◌}
use Rattle.registers.specs.declared.Register.{Register}
use Rattle.model.specs.Registers.{row, read}
use Rattle.effect.specs.Effects.{verdict}
use Rattle.tables.specs.Shown.{tables_seen}
use Rattle.effect.specs.Seen.{seen}
use Rattle.dispatch.proofs.read_at.Goals as goal

pub returns : goal.returns
returns g c =
    let a = c.args in
    λ o f w.
    let v = seen a.st (tables_seen a.t o) f in
    c.read.ensures o f (c.taken_word-w.ensures f w) ∙ ap (λ (x : Register). verdict (read (row x)) v) c.register_at-r.ensures
