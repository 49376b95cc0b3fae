-- The section lies where its entry of the table says.
use Rattle.std.proofs.Common.{◌∙◌, sym, ap, arith}
use Rattle.number.specs.Refusals.{told}
use Rattle.trace.proofs.Found.{found}
use Rattle.trace.proofs.look_up.Goals as goal

pub returns-clause-place : goal.returns-clause-place
returns-clause-place c =
    found c.args.file.now c.args.i (sym c.check.ensures ∙ ap told c.in_ok-check.was) (omega arith) c.start_at-start.result c.count_at.result c.past-end.result c.start_at-start.ensures
    c.count_at.ensures (omega arith)
