-- `data.hosts`: where every data word went, for every list of calls that a host makes through the archive. Beside it stands demand 3
-- (Demand.antt).
use Rattle.std.specs.Prelude.{ℕ, ◌≡◌, List, [], ◌∷◌, Some, None}
use Rattle.std.proofs.Math.Option.{Option, none, some}
use Rattle.bank.specs.declared.Answer.{Answer}
use Rattle.bank.specs.Fives.{Sizes}
use Rattle.model.specs.declared.Call.{Call}
use Rattle.model.specs.Rings.{Controller}
use Rattle.data_model.specs.Ledger.{data_event, Ledger, note}
use Rattle.data_model.specs.Account.{KeepsData}
use Rattle.answer.specs.Given.{controller}
use Rattle.letters.specs.Named.{Parsed}
use Rattle.image_model.specs.Image.{Kept, bank_in}
use Rattle.host_model.specs.Host.{set_up_in, call_of, step_in}
use Rattle.host_model.specs.Demand.{Asked}

-- what some calls count as by their answers, and what they left
pub record Counted (S : Type 0) : Type 0 where
  pub count : S
  pub kept : Kept
  pub store : List ℕ

-- counting by f; numbers that name no call count for nothing
module _ {S : Type 0} (f : S → Call → Answer → S) where
  abbrev pub counted_as : S → Parsed → Answer → S
  counted_as s (Some c) a = f s c a
  counted_as s None a = s

  -- each call gets image, tables and store as the last one left them
  unfoldable pub counted : S → Kept → List ℕ → List Asked → Counted S
  counted s k st [] = record { count = s; kept = k; store = st }
  counted s k st (q ∷ qs) =
      let p = call_of q.letter q.offset q.first q.second in
      let h = step_in p k st q.output in
      counted (counted_as s p h.answer) h.kept h.store qs

-- the bank that is said last, and the last store
abbrev pub left_with : {S : Type 0} → Counted S → Controller
left_with r = controller (bank_in r.kept) r.store []

-- as the ledger does
abbrev pub host_ledger : Kept → List ℕ → List Asked → Counted (Option Ledger)
host_ledger = counted (λ o c a. note o (data_event c a)) none

-- `data.hosts`: likewise, where every data word went
unfoldable pub HostKeepsData : Type 0
HostKeepsData =
    (k : Kept) (caps marks : Sizes) (id : ℕ) (store : List ℕ) (qs : List Asked) (x : Ledger)
    → let f = set_up_in k caps marks id in
    let r = host_ledger f.kept store qs in
    f.number ≡ 0 → r.count ≡ some x → KeepsData x (left_with r)
