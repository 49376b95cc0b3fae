-- Contracts of replays: what code gives, as a replay of the definitions.
use Rattle.std.specs.Prelude.{ℕ, List, []}
use Rattle.bank.specs.declared.Bank.{Bank}
use Rattle.model.specs.View.{Tables}
use Rattle.answer.specs.Given.{bank_with, controller}
use Rattle.playback_model.specs.declared.Report.{Report}
use Rattle.playback_model.specs.Replay.{Replay}
use Rattle.replayed.specs.declared.Reached.{Reached}
use Rattle.replayed.specs.declared.Replayed.{Replayed}

-- a result, with the tables, the store and the output that the code left
abbrev pub replay_reached : Reached → Tables → List ℕ → Replay
replay_reached r t s = record { told = r.told; left = controller (bank_with r.state r.heads t) s t.output }

abbrev pub replayed_with : Replayed → List ℕ → List ℕ → Replay
replayed_with r s o = record { told = r.told; left = controller r.bank s o }

-- the same with an empty output, which stays empty
abbrev pub replayed_out : Replayed → List ℕ → Replay
replayed_out r s = replayed_with r s []

abbrev pub replayed_place : Bank → Report → List ℕ → Replay
replayed_place b t s = record { told = t; left = controller b s [] }
