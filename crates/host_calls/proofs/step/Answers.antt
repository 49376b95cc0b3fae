-- The bank that is said is not well formed, or the numbers name no call, or the call is made on it.
use Rattle.std.proofs.Common.{ap, sym, ◌∙◌}
use Rattle.bank.specs.declared.Bank.{Bank}
use Rattle.bank.specs.Formed.{well_formed}
use Rattle.model.specs.Engine.{step}
use Rattle.model.specs.Rings.{rings}
use Rattle.answer.specs.Given.{controller}
use Rattle.image_model.specs.Image.{kept}
use Rattle.host_model.specs.Host.{call_of}
use Rattle.host_model.proofs.Hosting.{sized_is, no_bank, not_formed, formed_kept, no_call, one_call}
use Rattle.host_parts.specs.Lent.{packed_step}
use Rattle.host_parts.proofs.Kept.{said_by_parts, refuses}
use Rattle.host_calls.proofs.step.Goals as goal

pub returns-then-not-parts_formed : goal.returns-then-not-parts_formed
returns-then-not-parts_formed c =
    let a = c.args in
    let k = kept a.image.now a.flags.now a.commands.now a.payloads.now in
    let b = said_by_parts k _ _ c.state_in-s.ensures c.heads_in-h.ensures in
    let n = not_formed k (ap well_formed (sym b) ∙ sym (c.if-not-parts_formed.ensures a.payloads.now)) in
    refuses _ _ _ k _ _ _ c.refused.ensures c.from.ensures (no_bank k a.store.now a.output.now (call_of a.letter a.offset a.first a.second) n)

pub returns-in-Some : goal.returns-in-Some
returns-in-Some c =
    let a = c.args in
    let q = call_of a.letter a.offset a.first a.second in
    let k = kept a.image.now a.flags.now a.commands.now a.payloads.now in
    let b = said_by_parts k _ _ c.state_in-s.ensures c.heads_in-h.ensures in
    let t = formed_kept k (sized_is k c.told-image c.told-flags c.told-commands c.told-payloads) c.requires ∙ ap well_formed (sym b) ∙ sym (c.if-not-parts_formed.ensures a.payloads.now) in
    let s = ap (λ (x : Bank). step rings (controller x a.store.now a.output.now) c.in-Some.c) b in
    c.make.ensures ∙ ap packed_step (one_call k a.store.now a.output.now q c.in-Some.c _ t (sym c.in-Some.ensures) s)

pub returns-in-None : goal.returns-in-None
returns-in-None c =
    let a = c.args in
    let q = call_of a.letter a.offset a.first a.second in
    let k = kept a.image.now a.flags.now a.commands.now a.payloads.now in
    let b = said_by_parts k _ _ c.state_in-s.ensures c.heads_in-h.ensures in
    let t = formed_kept k (sized_is k c.told-image c.told-flags c.told-commands c.told-payloads) c.requires ∙ ap well_formed (sym b) ∙ sym (c.if-not-parts_formed.ensures a.payloads.now) in
    refuses _ _ _ k _ _ _ c.refused-in-None.ensures c.from-in-None.ensures (no_call k a.store.now a.output.now q t (sym c.in-None.ensures))
