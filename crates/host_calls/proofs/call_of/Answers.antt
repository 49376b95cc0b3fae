-- Numbers name the trigger, no call, or the call of a record.
use Rattle.std.proofs.Common.{◌≡◌, ◌<◌, rules, sym, ◌∙◌}
use Rattle.letters.specs.Forms.{form_of}
use Rattle.record_model.specs.Record.{rec, named_in}
use Rattle.host_model.proofs.Calling.{triggered, recorded, past_letters, past_offsets}
use Rattle.host_calls.proofs.call_of.Goals as goal

pub returns-then-is_trigger : goal.returns-then-is_trigger
returns-then-is_trigger c = let a = c.args in triggered a.letter a.offset a.first a.second (sym c.if-is_trigger.ensures)

pub returns-in_err-letter : goal.returns-in_err-letter
returns-in_err-letter c =
    let a = c.args in
    let big : 255 < a.letter = search rules in
    c.from_residual.ensures ∙ past_letters a.letter a.offset a.first a.second big ∙ recorded a.letter a.offset a.first a.second (sym c.if-is_trigger.ensures)

pub returns-in_err-offset : goal.returns-in_err-offset
returns-in_err-offset c =
    let a = c.args in
    let big : 65535 < a.offset = search rules in
    c.from_residual-in_err-offset.ensures ∙ past_offsets a.letter a.offset a.first a.second big ∙ recorded a.letter a.offset a.first a.second (sym c.if-is_trigger.ensures)

pub returns : goal.returns
returns c =
    let a = c.args in
    let same : c.in_ok-letter.letter ≡ a.letter = search rules in
    let whole : c.in_ok-offset.offset ≡ a.offset = search rules in
    c.named.ensures ∙ (λ i. named_in (form_of (same i)) (rec (same i) 0 (whole i) a.first a.second)) ∙ recorded a.letter a.offset a.first a.second (sym c.if-is_trigger.ensures)
