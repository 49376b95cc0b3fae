-- `plain_words::look`: each word is looked for inside the store.
use Rattle.std.proofs.Common.{ap}
use Rattle.queues.specs.declared.Queue.TheVariants.{Cmd, Cmdr, Sdo, Sdi, Ibi}
use Rattle.queues.specs.declared.Five.{Five}
use Rattle.plain_model.specs.declared.PlainArea.{PlainArea}
use Rattle.plain_words.proofs.Laws.{reach}
use Rattle.plain_words.proofs.look.Goals as goal

pub word-requires : goal.word-requires
word-requires c = reach _ _ _ c.requires Cmd _ (ap (λ (x : Five PlainArea). x.cmd) c.areas-a.ensures)

pub word-requires-2 : goal.word-requires-2
word-requires-2 c = reach _ _ _ c.requires Cmd _ (ap (λ (x : Five PlainArea). x.cmd) c.areas-a.ensures)

pub word-requires-3 : goal.word-requires-3
word-requires-3 c = reach _ _ _ c.requires Cmdr _ (ap (λ (x : Five PlainArea). x.cmdr) c.areas-a.ensures)

pub word-requires-4 : goal.word-requires-4
word-requires-4 c = reach _ _ _ c.requires Sdo _ (ap (λ (x : Five PlainArea). x.sdo) c.areas-a.ensures)

pub word-requires-5 : goal.word-requires-5
word-requires-5 c = reach _ _ _ c.requires Sdi _ (ap (λ (x : Five PlainArea). x.sdi) c.areas-a.ensures)

pub word-requires-6 : goal.word-requires-6
word-requires-6 c = reach _ _ _ c.requires Ibi _ (ap (λ (x : Five PlainArea). x.ibi) c.areas-a.ensures)
