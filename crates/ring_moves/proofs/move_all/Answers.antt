-- Each operation is asked for where its ring stands, and five of them are those of the definition.
use Rattle.std.proofs.Common.{refl, ◌∙◌}
use Rattle.bank.specs.Queues.{queues_of}
use Rattle.queues.specs.declared.Queue.TheVariants.{Cmd, Cmdr, Sdo, Sdi, Ibi}
use Rattle.effect.specs.Ops.{five_of}
use Rattle.ring_moves.proofs.Laws.{asked, moves, all_moved}
use Rattle.ring_moves.proofs.move_all.Goals as goal

pub apply-cmd-requires : goal.apply-cmd-requires
unfolding five_of
apply-cmd-requires c = asked (five_of c.args.o) _ _ c.requires.0 c.requires.1 Cmd _ _ _ c.ring.ensures c.base.ensures refl

pub apply-cmdr-requires : goal.apply-cmdr-requires
unfolding five_of
apply-cmdr-requires c = asked (five_of c.args.o) _ _ c.requires.0 c.requires.1 Cmdr _ _ _ c.ring-2.ensures c.base-2.ensures c.apply-cmd.ensures.2

pub apply-sdo-requires : goal.apply-sdo-requires
unfolding five_of
apply-sdo-requires c = asked (five_of c.args.o) _ _ c.requires.0 c.requires.1 Sdo _ _ _ c.ring-3.ensures c.base-3.ensures (c.apply-cmdr.ensures.2 ∙ c.apply-cmd.ensures.2)

pub apply-sdi-requires : goal.apply-sdi-requires
unfolding five_of
apply-sdi-requires c =
    asked (five_of c.args.o) _ _ c.requires.0 c.requires.1 Sdi _ _ _ c.ring-4.ensures c.base-4.ensures (c.apply-sdo.ensures.2 ∙ c.apply-cmdr.ensures.2 ∙ c.apply-cmd.ensures.2)

pub apply-ibi-requires : goal.apply-ibi-requires
unfolding five_of
apply-ibi-requires c =
    asked (five_of c.args.o) _ _ c.requires.0 c.requires.1 Ibi _ _ _ c.ring-5.ensures c.base-5.ensures (c.apply-sdi.ensures.2 ∙ c.apply-sdo.ensures.2 ∙ c.apply-cmdr.ensures.2 ∙ c.apply-cmd.ensures.2)

pub returns : goal.returns
unfolding five_of
returns c = let a = c.args in
    all_moved (five_of a.o) (queues_of a.k a.l a.h) _ _ _ _ _ _ _ _ c.gather.ensures
    (moves _ _ _ _ _ _ _ c.ring.ensures c.base.ensures c.apply-cmd.ensures)
    (moves _ _ _ _ _ _ _ c.ring-2.ensures c.base-2.ensures c.apply-cmdr.ensures)
    (moves _ _ _ _ _ _ _ c.ring-3.ensures c.base-3.ensures c.apply-sdo.ensures)
    (moves _ _ _ _ _ _ _ c.ring-4.ensures c.base-4.ensures c.apply-sdi.ensures)
    (moves _ _ _ _ _ _ _ c.ring-5.ensures c.base-5.ensures c.apply-ibi.ensures)
