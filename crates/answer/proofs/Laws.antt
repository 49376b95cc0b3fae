-- What the two tests of bank and store say of the rings.
use Prim.Native.Nat.{ℕ}
use mathlib.Core.List.{List}
use Rattle.bank.specs.declared.State.{State}
use Rattle.bank.specs.Fives.{Heads}
use Rattle.bank.specs.Queues.{queues_of}
use Rattle.bank.specs.Ready.{Ready}
use Rattle.bank.proofs.Laws.{ready}
use Rattle.answer.specs.Given.{Open}

pub ready_of : (st : State) (h : Heads) (w s : List ℕ) → Open st h w s → Ready (queues_of st.caps st.levels h) s
ready_of st h w s o = ready (queues_of st.caps st.levels h) s o.queues o.size
