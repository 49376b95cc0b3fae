-- What no well-formed bank gives, and what a bank that is said gives.
use Rattle.std.proofs.Common.{◌≡◌, [], rules, length, true, false, ap, refl, ◌∙◌}
use Rattle.bank.specs.declared.Bank.{Bank}
use Rattle.model.specs.View.{tables}
use Rattle.answer.specs.Given.{bank_with, controller}
use Rattle.playback_model.specs.Replay.{replay_of}
use Rattle.image_model.specs.Image.{encoded, state_in, heads_in, Kept, kept, is_kept}
use Rattle.host_model.proofs.Hosting.{sized_is}
use Rattle.host_model.proofs.Replaying.{unformed, said}
use Rattle.host_parts.proofs.Kept.{kept_bank, said_by_parts}
use Rattle.host_replay.proofs.Given.{gives}
use Rattle.host_replay.proofs.Zeros.{zeros, unformed_zeros}
use Rattle.host_replay.proofs.replay.Goals as goal

pub returns-then-is_none : goal.returns-then-is_none
returns-then-is_none c =
    let a = c.args in
    let k = kept a.image.now a.flags.now a.commands.now a.payloads.now in
    let none : (k : Kept) → k.image ≡ a.image.now → is_kept k ≡ false = search rules in
    let z : c.unwrap_or-words.result.now ≡ zeros = search rules in
    let w = unformed_zeros _ _ a.flags.now a.commands.now a.payloads.now (c.state_in-s.ensures ∙ ap state_in z) (c.heads_in-h.ensures ∙ ap heads_in z) in
    let u = unformed a.file.now a.i a.limit k a.store.now a.told.now (none k refl) _ w _ c.on_parts-y.ensures in
    let tabled = ap (λ (b : Bank). kept a.image.now b.flags b.commands b.payloads) u.0 in
    gives _ _ _ _ _ c.tell.ensures.0 tabled c.tell.ensures.1 u.1

pub returns : goal.returns
returns c =
    let a = c.args in
    let k = kept a.image.now a.flags.now a.commands.now a.payloads.now in
    let w : c.unwrap_or-words.result.now ≡ a.image.now = search rules in
    let n : length a.image.now ≡ 43 = search rules in
    let e : encoded a.image.now ≡ true = search rules in
    let b = said_by_parts k _ _ (c.state_in-s.ensures ∙ ap state_in w) (c.heads_in-h.ensures ∙ ap heads_in w) in
    let y = c.on_parts-y in
    let left = bank_with y.result.state y.result.heads (tables y.new.flags y.new.commands y.new.payloads []) in
    let r = y.ensures ∙ ap (λ (x : Bank). replay_of a.file.now a.i a.limit (controller x a.store.now [])) b in
    let z = sized_is k n c.told-flags c.told-commands c.told-payloads in
    let written = kept_bank _ left c.encode.ensures in
    gives _ _ _ _ _ c.tell-2.ensures.0 written c.tell-2.ensures.1 (said a.file.now a.i a.limit k a.store.now a.told.now z e _ r)
