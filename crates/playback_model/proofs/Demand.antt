-- `demand.replays`, `data.replays`: every replay on a fresh bank is a list of calls.
use Prim.Native.Nat.{ℕ}
use mathlib.Core.Path.{◌≡◌, refl, ap, sym, subst, ◌∙◌}
use mathlib.Core.List.{List, []}
use Rattle.bank.specs.Fives.{Sizes}
use Rattle.model.specs.Engine.{lending, final}
use Rattle.model.specs.Rings.{rings}
use Rattle.model.specs.Laws.{fresh_controller}
use Rattle.model.specs.Demand.{Demand}
use Rattle.model.proofs.Demand.{demand}
use Rattle.data_model.specs.Account.{KeepsData, DataKept}
use Rattle.data_model.proofs.Account.{data_kept}
use Rattle.playback_model.specs.Replay.{Replay, replay_of}
use Rattle.playback_model.specs.Laws.{EmptyIsLent}
use Rattle.playback_model.specs.Done.{done_in, EveryReplay}
use Rattle.playback_model.specs.Demand.{KeepsDemand, ReplayKeepsDemand, ReplayKeepsData}
use Rattle.playback_model.proofs.Calls.{empty_is_lent}
use Rattle.playback_model.proofs.Done.{every_replay}

-- what is left is what the calls leave, each lent an empty output
left_is : (file : List ℕ) (i limit : ℕ) (caps marks : Sizes) (id : ℕ) (store : List ℕ) → (let l = fresh_controller caps marks id store in final rings l (lending [] (done_in file i limit)) ≡ (replay_of file i limit l).left)
unfolding EmptyIsLent EveryReplay
left_is file i limit caps marks id store =
    let l = fresh_controller caps marks id store in
    sym (ap (λ (r : Replay). r.left) (every_replay file i limit l) ∙ ap (final rings l) (empty_is_lent (done_in file i limit) l refl))

pub replay_keeps_demand : ReplayKeepsDemand
unfolding ReplayKeepsDemand Demand
replay_keeps_demand file i limit caps marks id store t z e =
    subst (KeepsDemand t) (left_is file i limit caps marks id store) (demand caps marks id store (lending [] (done_in file i limit)) t z e)

pub replay_keeps_data : ReplayKeepsData
unfolding ReplayKeepsData DataKept
replay_keeps_data file i limit caps marks id store x z e =
    subst (KeepsData x) (left_is file i limit caps marks id store) (data_kept caps marks id store (lending [] (done_in file i limit)) x z e)
