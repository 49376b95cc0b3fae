-- `plain_moves::move_each`: one operation after another.
use Rattle.std.proofs.Common.{ap, refl, ◌∙◌}
use Rattle.queues.specs.declared.Queue.TheVariants.{Cmd, Cmdr, Sdo, Sdi, Ibi}
use Rattle.queues.specs.declared.Five.{Five}
use Rattle.effect.specs.Ops.{five_of}
use Rattle.plain_model.specs.declared.PlainArea.{PlainArea}
use Rattle.plain_moves.proofs.Moving.{asked, all_moved}
use Rattle.plain_moves.proofs.move_each.Goals as goal

pub apply-cmd-requires : goal.apply-cmd-requires
unfolding five_of
apply-cmd-requires c =
    let a = c.args in
    asked (five_of a.o) a.caps a.levels a.store.now c.requires Cmd _ _ (ap (λ (x : Five PlainArea). x.cmd) c.areas-a.ensures) refl

pub apply-cmdr-requires : goal.apply-cmdr-requires
unfolding five_of
apply-cmdr-requires c =
    let a = c.args in
    asked (five_of a.o) a.caps a.levels a.store.now c.requires Cmdr _ _ (ap (λ (x : Five PlainArea). x.cmdr) c.areas-a.ensures) c.apply-cmd.ensures.2

pub apply-sdo-requires : goal.apply-sdo-requires
unfolding five_of
apply-sdo-requires c =
    let a = c.args in
    asked (five_of a.o) a.caps a.levels a.store.now c.requires Sdo _ _ (ap (λ (x : Five PlainArea). x.sdo) c.areas-a.ensures) (c.apply-cmdr.ensures.2 ∙ c.apply-cmd.ensures.2)

pub apply-sdi-requires : goal.apply-sdi-requires
unfolding five_of
apply-sdi-requires c =
    let a = c.args in
    asked (five_of a.o) a.caps a.levels a.store.now c.requires Sdi _ _ (ap (λ (x : Five PlainArea). x.sdi) c.areas-a.ensures) (c.apply-sdo.ensures.2 ∙ c.apply-cmdr.ensures.2 ∙ c.apply-cmd.ensures.2)

pub apply-ibi-requires : goal.apply-ibi-requires
unfolding five_of
apply-ibi-requires c =
    let a = c.args in
    asked (five_of a.o) a.caps a.levels a.store.now c.requires Ibi _ _ (ap (λ (x : Five PlainArea). x.ibi) c.areas-a.ensures) (c.apply-sdi.ensures.2 ∙ c.apply-sdo.ensures.2 ∙ c.apply-cmdr.ensures.2 ∙ c.apply-cmd.ensures.2)

pub returns : goal.returns
unfolding five_of
returns c = all_moved (five_of c.args.o) c.args.caps c.args.levels _ _ _ _ _ _ _ _ c.areas-a.ensures c.apply-cmd.ensures c.apply-cmdr.ensures c.apply-sdo.ensures c.apply-sdi.ensures c.apply-ibi.ensures
