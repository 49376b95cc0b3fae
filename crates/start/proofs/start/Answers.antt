-- A start that is refused, and one that opens a transfer.
use Rattle.std.proofs.Common.{◌∙◌, sym, ap}
use Rattle.number.specs.Refusals.{told}
use Rattle.model.specs.Calls.{start}
use Rattle.effect.specs.Seen.{seen}
use Rattle.effect.proofs.Laws.{refused_err}
use Rattle.start.proofs.Starting.{started}
use Rattle.start.proofs.start.Goals as goal

pub returns-in-Err : goal.returns-in-Err
returns-in-Err c = λ t f h i j. c.refused.ensures t f ∙ refused_err start (seen c.args.st t f) _ (c.start_tests.ensures t f h i) _ c.in-Err.is

pub returns : goal.returns
returns c = λ t f h i j.
    let e = started (seen c.args.st t f) (sym (c.start_tests.ensures t f h i) ∙ ap told c.in_default.is) in
    rw (c.done.ensures t, c.on.ensures, c.select-words.ensures, c.begun_by-phase.ensures, c.is_attached-attached.ensures, c.kind_of.ensures, c.bit-two.ensures, j, h, i) e
