-- What the call decides fits the queues, and settled it is the decision.
use Rattle.std.proofs.Common.{refl, ap, ◌∙◌}
use Rattle.calls.proofs.Fitting.{effect_fits}
use Rattle.serve.proofs.Settled.{settled_is}
use Rattle.answer.proofs.Laws.{ready_of}
use Rattle.answer.specs.Given.{view, served}
use Rattle.model.specs.Bursts.{decide}
use Rattle.model.specs.Decision.{Effect}
use Rattle.model.specs.View.{View, tables}
use Rattle.serve.proofs.serve.Goals as goal

pub settle-requires : goal.settle-requires
settle-requires c =
    let a = c.args in
    let s = a.store.now in
    let t = tables a.flags.now a.commands.now a.payloads.now a.output.now in
    (ready_of a.st a.h a.commands.now s c.requires, effect_fits (view a.st a.h t s) a.call _ (c.decide-e.ensures a.output.now refl))

pub returns : goal.returns
returns c =
    let a = c.args in
    let s = a.store.now in
    let t = tables a.flags.now a.commands.now a.payloads.now a.output.now in
    c.settle.ensures ∙ ap (λ (e : Effect). served a.st a.h t s e) (c.decide-e.ensures a.output.now refl) ∙ settled_is a.st a.h t s (λ (v : View). decide v a.call)
