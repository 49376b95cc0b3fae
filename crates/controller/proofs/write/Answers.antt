-- A write leaves whatever output is lent as it was.
use Rattle.std.proofs.Common.{[], refl, ap, sym, ◌∙◌}
use Rattle.answer.specs.Given.{controller}
use Rattle.cases_model.proofs.Accesses.{accesses_leave_output}
use Rattle.model.specs.Laws.{AccessesLeaveOutput}
use Rattle.model.specs.Rings.{Controller, rings}
use Rattle.model.specs.Engine.{Step}
use Rattle.model.specs.declared.Call.TheVariants.{Write}
use Rattle.controller.proofs.write.Goals as goal

pub returns : goal.returns
unfolding AccessesLeaveOutput
returns c = λ o.
    ap (λ (r : Step Controller). record { answer = r.answer; next = rings.lend o r.next }) c.step.ensures
    ∙ sym (accesses_leave_output (controller c.args.b c.args.store.now []) o (Write c.args.offset c.args.v) refl)
