-- The ledger along any list of a host's calls: those that its numbers name are the model's, the others change nothing and count for nothing.
use Prim.Native.Nat.{ℕ}
use mathlib.Core.Path.{◌≡◌, refl, ap, sym, subst, ◌∙◌}
use mathlib.Core.Bool.{true}
use mathlib.Core.List.{List, [], ◌∷◌}
use mathlib.Core.Option.{none, some}
use Rattle.bank.specs.declared.Bank.{Bank}
use Rattle.bank.specs.Fives.{Sizes}
use Rattle.bank.specs.SetUp.{set_up}
use Rattle.bank.specs.Formed.{well_formed}
use Rattle.bank.specs.declared.Answer.{Answer}
use Rattle.model.specs.declared.Call.{Call}
use Rattle.model.specs.Engine.{Lent, step_lent, final}
use Rattle.model.specs.Rings.{Controller, rings}
use Rattle.model.specs.Laws.{StaysWellFormed, SetUpWellFormed, fresh_controller}
use Rattle.model.proofs.Simulation.{stays_well_formed, set_up_well_formed}
use Rattle.data_model.specs.Ledger.{data_event, note, ledger}
use Rattle.data_model.specs.Account.{KeepsData, DataKept}
use Rattle.data_model.proofs.Account.{data_kept}
use Rattle.answer.specs.Given.{controller}
use Rattle.letters.specs.Named.{Parsed}
use Rattle.std.specs.Prelude.{Some, None}
use Rattle.image_model.specs.Image.{Kept, kept_of}
use Rattle.image_model.proofs.Laws.{Typed}
use Rattle.host_model.specs.Host.{Fresh, set_up_in, Hosted, step_in}
use Rattle.host_model.specs.Demand.{Asked}
use Rattle.host_model.specs.DataDemand.{Counted, counted_as, counted, left_with, HostKeepsData}
use Rattle.host_model.proofs.Hosting.{set_up_done}
use Rattle.host_model.proofs.Types.{step_typed}
use Rattle.host_model.proofs.Along.{on_kept, fresh_typed}
use Rattle.host_model.proofs.Demand.{call_in, with_call, named, unnamed, stays, answered_0}

-- ── What is counted ───────────────────────────────────────────────────────────────────────────────────────────
-- by f, along calls of a host; and by g along calls of the model, which counts each call as f does
module _ {S : Type 0} (f : S → Call → Answer → S) (g : S → Controller → List Lent → S) (ends : (s : S) (l : Controller) → g s l [] ≡ s)
    (goes : (s : S) (l : Controller) (c : Lent) (cs : List Lent) → (let r = step_lent rings l c in g s l (c ∷ cs) ≡ g (f s c.call r.answer) r.next cs)) where
  abbrev by_model : S → Controller → List Lent → Counted S
  by_model s l cs = let m = final rings l cs in record { count = g s l cs; kept = kept_of m.bank; store = m.store }

  counts : (qs : List Asked) (s : S) (l : Controller) → Typed l.bank → well_formed l.bank ≡ true → counted f s (kept_of l.bank) l.store qs ≡ by_model s l (named qs)
  unfolding counted final StaysWellFormed
  counts [] s l t w = ap (λ (x : S). record { count = x; kept = kept_of l.bank; store = l.store }) (sym (ends s l))
  counts (q ∷ qs) s l t w = go (call_in q) (counts qs)
    where
      after : Parsed → Hosted → Counted S
      after p h = counted f (counted_as f s p h.answer) h.kept h.store qs

      go : (p : Parsed) → ((s : S) (l : Controller) → Typed l.bank → well_formed l.bank ≡ true → counted f s (kept_of l.bank) l.store qs ≡ by_model s l (named qs))
          → after p (step_in p (kept_of l.bank) l.store q.output) ≡ by_model s l (with_call p q.output (named qs))
      go (Some c) rest =
          let m = rings.lend q.output l in
          let lent : Lent = record { output = q.output; call = c } in
          let r = step_lent rings l lent in
          let e = final rings r.next (named qs) in
          ap (after (Some c)) (on_kept l.bank l.store q.output c t w)
          ∙ rest (f s c r.answer) r.next (step_typed m c t) (stays_well_formed m c w)
          ∙ ap (λ (x : S). record { count = x; kept = kept_of e.bank; store = e.store }) (sym (goes s l lent (named qs)))
      go None rest = ap (after None) (unnamed l.bank l.store q.output t w) ∙ rest s l t w

  -- what holds of the model's list from the same set-up holds of the host's
  from_set_up : (P : S → Controller → Type 0) (k : Kept) (caps marks : Sizes) (id : ℕ) (store : List ℕ) (qs : List Asked) (s : S) → (set_up_in k caps marks id).number ≡ 0
      → (let l = fresh_controller caps marks id store in (set_up caps marks id).answer.number ≡ 0 → P (g s l (named qs)) (controller (final rings l (named qs)).bank (final rings l (named qs)).store []))
      → (let r = counted f s (set_up_in k caps marks id).kept store qs in P r.count (left_with r))
  unfolding SetUpWellFormed
  from_set_up P k caps marks id store qs s z h =
      let n = answered_0 k caps marks id z in
      let l = fresh_controller caps marks id store in
      let cs = named qs in
      let m = final rings l cs in
      let typed = fresh_typed caps marks id n.1 in
      let formed = set_up_well_formed caps marks id n.1 in
      let r : counted f s (set_up_in k caps marks id).kept store qs ≡ by_model s l cs =
      ap (λ (x : Fresh). counted f s x.kept store qs) (sym (set_up_done k caps marks id n.0 n.1)) ∙ counts qs s l typed formed in
      subst (λ (x : Counted S). P x.count (left_with x)) (sym r)
      (subst (λ (b : Bank). P (g s l cs) (controller b m.store [])) (sym (stays cs l typed formed)) (h n.1))

pub host_keeps_data : HostKeepsData
unfolding HostKeepsData DataKept ledger
host_keeps_data k caps marks id store qs x z =
    from_set_up (λ o c a. note o (data_event c a)) (ledger rings) (λ o l. refl) (λ o l c cs. refl) (λ o c. o ≡ some x → KeepsData x c) k caps marks id store qs none z
    (λ n e. data_kept caps marks id store (named qs) x n e)
