-- A receive in a burst that is refused, and one that receives a byte.
use Rattle.std.proofs.Common.{◌∙◌, ap, sym, ℕ, [], replicate, leb-false}
use Rattle.std.proofs.lemmas.List.{length-replicate}
use Rattle.number.specs.Refusals.{told}
use Rattle.model.specs.View.{tables}
use Rattle.model.specs.Bursts.{output_first, burst_receive}
use Rattle.effect.specs.Seen.{seen}
use Rattle.effect.proofs.Laws.{refused_err, no_fronts}
use Rattle.trigger.proofs.Within.{lent}
use Rattle.burst_bytes.proofs.Laws.{below_four, gathered_part, receives, received}
use Rattle.burst_bytes.proofs.receive.Goals as goal

pub returns-in-Err : goal.returns-in-Err
returns-in-Err c = λ b p o f h.
    let a = c.args in
    let t = tables b a.commands.now p o in
    c.refused.ensures t f ∙ refused_err (λ v. output_first v (burst_receive v a.byte)) (seen a.st t f) _ (c.receive_tests.ensures b p o f a.byte h) _ c.in-Err.is

pub gathered-w-requires : goal.gathered-w-requires
gathered-w-requires c =
    let a = c.args in
    let ws = a.commands.now in
    let number = c.receive_tests.ensures [] [] (replicate a.len 0) no_fronts a.byte (length-replicate {A = ℕ} a.len 0) in
    let r = receives (seen a.st (lent ws a.len) no_fronts) a.byte (sym number ∙ ap told c.in_default.is) in
    rw c.transfer_of-t.ensures (gathered_part a.st ws c.requires.0 c.requires.1 r.1 r.0)

pub advance-requires : goal.advance-requires
advance-requires c =
    let a = c.args in
    let number = c.receive_tests.ensures [] [] (replicate a.len 0) no_fronts a.byte (length-replicate {A = ℕ} a.len 0) in
    let r = receives (seen a.st (lent a.commands.now a.len) no_fronts) a.byte (sym number ∙ ap told c.in_default.is) in
    rw c.transfer_of-t.ensures (leb-false _ _ r.1)

pub returns : goal.returns
returns c = λ b p o f h.
    let a = c.args in
    let ws = a.commands.now in
    let t = tables b ws p o in
    let s = seen a.st t f in
    let e = sym (c.receive_tests.ensures b p o f a.byte h) ∙ ap told c.in_default.is in
    let few = below_four a.st ws c.requires.0 c.requires.1 (receives s a.byte e).1 in
    rw (c.done.ensures t, c.advance.ensures, c.gathered-w.ensures, c.transfer_of-t.ensures) (received s a.byte few e)
