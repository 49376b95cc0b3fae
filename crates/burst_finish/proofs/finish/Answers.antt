-- A finish in a burst that is refused, and one that ends its transfer; the burst stands at a command.
use Rattle.std.proofs.Common.{◌∙◌, refl, arith}
use Rattle.bank.specs.Phases.{reading, transfer}
use Rattle.bank.specs.Bursts.{reads_in, place}
use Rattle.model.specs.View.{tables}
use Rattle.model.specs.Bursts.{output_first, burst_finish}
use Rattle.model.proofs.Open.{burst_place}
use Rattle.effect.specs.Seen.{seen}
use Rattle.effect.proofs.Laws.{refused_err, served_ok}
use Rattle.burst_finish.proofs.Output.{output_if}
use Rattle.burst_finish.proofs.finish.Goals as goal

pub returns-in-Err : goal.returns-in-Err
returns-in-Err c = λ p o f h.
    let a = c.args in
    let t = tables a.flags.now a.commands.now p o in
    c.refused.ensures t f ∙ refused_err (λ v. output_first v (burst_finish v a.code)) (seen a.st t f) _ (c.finish_tests.ensures a.flags.now p o f h) _ c.in-Err.is

pub reads_in-place-requires : goal.reads_in-place-requires
reads_in-place-requires c =
    let b = burst_place c.args.st c.args.commands.now c.requires.0 c.requires.1 in
    omega (arith, b.0)

pub bounds-commands-k : goal.bounds-commands-k
bounds-commands-k c =
    let b = burst_place c.args.st c.args.commands.now c.requires.0 c.requires.1 in
    omega (arith, b.0)

pub after-requires : goal.after-requires
after-requires c = (burst_place c.args.st c.args.commands.now c.requires.0 c.requires.1).0

pub returns : goal.returns
unfolding burst_finish
returns c = λ p o f h.
    let a = c.args in
    let st = a.st in
    let ws = a.commands.now in
    let t = tables a.flags.now ws p o in
    rw (c.done_with.ensures t, c.table_if-word.ensures t, c.burst_at-control.ensures, c.after.ensures, c.next_phase-phase.ensures, c.span_of.ensures.0, c.reads_in-place.ensures.0, c.is_reading.ensures, c.transfer_of-t.ensures)
    (rw (output_if (reading st.phase) (reads_in (place st.control) ws) (transfer st.phase).part t)
    (served_ok (λ v. output_first v (burst_finish v a.code)) (seen st t f) _ (c.finish_tests.ensures a.flags.now p o f h) refl _ c.in_default.is))
