-- A set-up that is refused leaves what is kept; one that is done leaves its bank.
use Rattle.std.proofs.Common.{ap, sym, ◌∙◌}
use Rattle.bank.specs.declared.SetUp.{SetUp}
use Rattle.image_model.specs.Image.{kept, kept_of}
use Rattle.host_model.proofs.Hosting.{sized_is, set_up_done, set_up_refused}
use Rattle.host_parts.specs.Lent.{fresh}
use Rattle.host_parts.proofs.Kept.{kept_bank}
use Rattle.host_calls.proofs.set_up.Goals as goal

pub returns-then-number-ne0 : goal.returns-then-number-ne0
returns-then-number-ne0 c =
    let a = c.args in
    let k = kept a.image.now a.flags.now a.commands.now a.payloads.now in
    let s = c.set_up-r.ensures in
    ap (λ (r : SetUp). fresh r.answer.number k) s
    ∙ set_up_refused k a.caps a.marks a.id (sized_is k c.told-image c.told-flags c.told-commands c.told-payloads) (λ z. c.if-number-ne0.true (ap (λ (r : SetUp). r.answer.number) s ∙ z))

pub returns : goal.returns
returns c =
    let a = c.args in
    let k = kept a.image.now a.flags.now a.commands.now a.payloads.now in
    let u = c.set_up-r in
    ap (fresh u.result.answer.number) (kept_bank _ u.result.bank c.encode.ensures)
    ∙ ap (λ (r : SetUp). fresh r.answer.number (kept_of r.bank)) u.ensures
    ∙ set_up_done k a.caps a.marks a.id (sized_is k c.told-image c.told-flags c.told-commands c.told-payloads) (ap (λ (r : SetUp). r.answer.number) (sym u.ensures) ∙ c.if-number-ne0.false)
