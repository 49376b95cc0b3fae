-- Demand 3, of paper 00, for every list of calls that a host makes through the archive.
use Rattle.std.specs.Prelude.{ℕ, ◌≡◌, List, [], ◌∷◌, Some, None}
use Rattle.std.proofs.Math.Option.{Option, none, some}
use Rattle.bank.specs.declared.Answer.{Answer}
use Rattle.bank.specs.Fives.{Sizes}
use Rattle.model.specs.Demand.{Event, other, event, Tally, follow}
use Rattle.answer.specs.Given.{controller}
use Rattle.letters.specs.Named.{Parsed}
use Rattle.playback_model.specs.Demand.{KeepsDemand}
use Rattle.image_model.specs.Image.{Kept, bank_in}
use Rattle.host_model.specs.Host.{set_up_in, call_of, step_in}

-- what a host gives with a call: any four numbers, also such that name none, and any output
pub record Asked : Type 0 where
  pub letter : ℕ
  pub offset : ℕ
  pub first : ℕ
  pub second : ℕ
  pub output : List ℕ

-- numbers that name no call count for nothing
abbrev pub event_of : Parsed → Answer → Event
event_of (Some c) a = event c a
event_of None a = other

-- the tally of some calls by their answers, and what they left
pub record Counted : Type 0 where
  pub tally : Option Tally
  pub kept : Kept
  pub store : List ℕ

-- each call gets image, tables and store as the last one left them
unfoldable pub counted : Option Tally → Kept → List ℕ → List Asked → Counted
counted o k st [] = record { tally = o; kept = k; store = st }
counted o k st (q ∷ qs) =
    let p = call_of q.letter q.offset q.first q.second in
    let h = step_in p k st q.output in
    counted (follow o (event_of p h.answer)) h.kept h.store qs

-- from a set-up answered 0 into anything, with any store: the bank that is said last and the last store keep the demand
unfoldable pub HostKeepsDemand : Type 0
HostKeepsDemand =
    (k : Kept) (caps marks : Sizes) (id : ℕ) (store : List ℕ) (qs : List Asked) (t : Tally)
    → let f = set_up_in k caps marks id in
    let r = counted none f.kept store qs in
    f.number ≡ 0 → r.tally ≡ some t → KeepsDemand t (controller (bank_in r.kept) r.store [])
