-- A send in a burst that is refused, and one that sends a byte.
use Rattle.std.proofs.Common.{◌∙◌, ap, sym, ℕ, [], replicate, leb-false}
use Rattle.std.proofs.lemmas.List.{length-replicate}
use Rattle.number.specs.Refusals.{told}
use Rattle.model.specs.View.{tables}
use Rattle.model.specs.Bursts.{output_first, burst_send}
use Rattle.model.proofs.Open.{burst_place}
use Rattle.effect.specs.Seen.{seen}
use Rattle.effect.proofs.Laws.{refused_err, no_fronts}
use Rattle.trigger.proofs.Within.{lent}
use Rattle.burst_bytes.proofs.Laws.{below_four, sends, sent}
use Rattle.burst_bytes.proofs.send.Goals as goal

pub returns-in-Err : goal.returns-in-Err
returns-in-Err c = λ b o f h.
    let a = c.args in
    let p = a.payloads.now in
    let t = tables b a.commands.now p o in
    c.refused.ensures t f ∙ refused_err (λ v. output_first v (burst_send v)) (seen a.st t f) _ (c.send_tests.ensures b p o f h) _ c.in-Err.is

pub data_word-w-requires : goal.data_word-w-requires
data_word-w-requires c = (burst_place c.args.st c.args.commands.now c.requires.0 c.requires.1).0

pub advance-requires : goal.advance-requires
advance-requires c =
    let a = c.args in
    let number = c.send_tests.ensures [] [] (replicate a.len 0) no_fronts (length-replicate {A = ℕ} a.len 0) in
    let s = seen a.st (lent a.commands.now a.len) no_fronts in
    rw c.transfer_of-t.ensures (leb-false _ _ (sends s (sym number ∙ ap told c.in_default.is)))

pub returns : goal.returns
returns c = λ b o f h.
    let a = c.args in
    let ws = a.commands.now in
    let p = a.payloads.now in
    let t = tables b ws p o in
    let s = seen a.st t f in
    let e = sym (c.send_tests.ensures b p o f h) ∙ ap told c.in_default.is in
    let few = below_four a.st ws c.requires.0 c.requires.1 (sends s e) in
    rw (c.done.ensures t, c.advance.ensures, c.weight.ensures.0, c.data_word-w.ensures, c.transfer_of-t.ensures) (sent s few e)
