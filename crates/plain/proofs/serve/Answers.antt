-- `plain::serve`: decided on the first words, then settled.
use Rattle.std.proofs.Common.{refl, ◌∙◌}
use Rattle.bank.proofs.Laws.{formed_of}
use Rattle.calls.proofs.Fitting.{effect_fits}
use Rattle.plain_model.specs.Plain.{view_plain, headed}
use Rattle.plain_model.proofs.Beside.{all_fit_areas}
use Rattle.plain_words.specs.Fronts.{plain_fronts}
use Rattle.plain.specs.Given.{plain_lent}
use Rattle.plain.proofs.Laws.{all_inside, served}
use Rattle.plain.proofs.serve.Goals as goal

pub look-words-requires : goal.look-words-requires
look-words-requires c =
    let a = c.args in
    all_inside (plain_lent a.b a.store.now a.output.now) c.requires.0 c.requires.1

pub decide-e-requires : goal.decide-e-requires
decide-e-requires c = (formed_of (headed c.args.b) c.requires.0).phase

pub settle-requires : goal.settle-requires
settle-requires c =
    let a = c.args in
    let p = plain_lent a.b a.store.now a.output.now in
    let f = plain_fronts a.b.state.caps a.b.state.levels a.store.now in
    all_fit_areas p _ c.requires.0 c.requires.1 (effect_fits (view_plain p) a.call _ (c.decide-e.ensures a.output.now f c.look-words.ensures refl))

pub returns : goal.returns
returns c =
    let a = c.args in
    let p = plain_lent a.b a.store.now a.output.now in
    let f = plain_fronts a.b.state.caps a.b.state.levels a.store.now in
    c.settle.ensures ∙ served p a.call _ c.requires.0 c.requires.1 (c.decide-e.ensures a.output.now f c.look-words.ensures refl)
