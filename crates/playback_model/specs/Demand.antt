-- `demand.replays`, `data.replays`: demand 3 of paper 00, and where every data word went, for every file that is replayed on a fresh bank.
use Rattle.std.specs.Prelude.{ℕ, ◌≡◌, not, List, []}
use Rattle.std.proofs.Math.Option.{none, some}
use Rattle.bank.specs.Fives.{Sizes}
use Rattle.bank.specs.Phases.{idle}
use Rattle.bank.specs.Queues.{queues_in}
use Rattle.bank.specs.SetUp.{set_up}
use Rattle.model.specs.Engine.{lending}
use Rattle.model.specs.Rings.{Controller, areas, words_in, rings}
use Rattle.model.specs.Laws.{fresh_controller}
use Rattle.model.specs.Demand.{Tally, tally, direct_phase, Demand3}
use Rattle.data_model.specs.Ledger.{Ledger, ledger}
use Rattle.data_model.specs.Account.{KeepsData}
use Rattle.playback_model.specs.Replay.{replay_of}
use Rattle.playback_model.specs.Done.{done_in}

-- demand 3 of a tally, and of the bank and the store that the calls left
abbrev pub KeepsDemand : Tally → Controller → Type 0
KeepsDemand t l =
    let b = l.bank in
    let a = areas (queues_in b) in
    Demand3 t (not (idle (direct_phase b.state.control b.state.phase))) (words_in a.cmd l.store) (words_in a.cmdr l.store)

-- of any file, also a wrong one: the calls that its replay makes, each lent an empty output, are counted with their answers, and what the
-- replay left keeps the demand
unfoldable pub ReplayKeepsDemand : Type 0
ReplayKeepsDemand =
    (file : List ℕ) (i limit : ℕ) (caps marks : Sizes) (id : ℕ) (store : List ℕ) (t : Tally) → (set_up caps marks id).answer.number ≡ 0
    → let l = fresh_controller caps marks id store in
    tally rings none l (lending [] (done_in file i limit)) ≡ some t → KeepsDemand t (replay_of file i limit l).left

-- likewise the ledger of these calls
unfoldable pub ReplayKeepsData : Type 0
ReplayKeepsData =
    (file : List ℕ) (i limit : ℕ) (caps marks : Sizes) (id : ℕ) (store : List ℕ) (x : Ledger) → (set_up caps marks id).answer.number ≡ 0
    → let l = fresh_controller caps marks id store in
    ledger rings none l (lending [] (done_in file i limit)) ≡ some x → KeepsData x (replay_of file i limit l).left
