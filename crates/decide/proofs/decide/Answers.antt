-- `decide::decide`: the rings are ready, and their first words are those of the view.
use Rattle.std.proofs.Common.{refl}
use Rattle.bank.specs.Queues.{queues_of}
use Rattle.rings.specs.Fronts.{fronts}
use Rattle.answer.proofs.Laws.{ready_of}
use Rattle.decide.proofs.decide.Goals as goal

pub invariant_of-words : goal.invariant_of-words
invariant_of-words c = record { ready = ready_of _ _ _ _ c.requires }

pub returns : goal.returns
returns c = let a = c.args in λ o n. c.decide.ensures o (fronts (queues_of a.st.caps a.st.levels a.h) a.store.now) refl n
