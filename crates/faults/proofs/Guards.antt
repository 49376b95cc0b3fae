-- `answer.bank`, `formed.kept`: a call that the two tests of bank and store refuse, or pass; and that no call changes what they say.
use Prim.Native.Nat.{ℕ, zero, suc}
use native.Mathlib.Omega.{arith}
use mathlib.Core.Path.{◌≡◌, refl, ap, sym}
use mathlib.Core.Bool.{Bool, true, false, not}
use mathlib.Core.Option.{Option, some}
use lib.Dec.{eqb}
use lib.ListN.{length}
use borrow.Author.Tests.{eqb-true, eq-eqb}
use Rattle.bank.specs.SetUp.{total}
use Rattle.bank.specs.Formed.{well_formed}
use Rattle.bank.proofs.Laws.{formed_of, formed_is}
use Rattle.model.specs.declared.Call.{Call}
use Rattle.model.specs.Decision.{Decision, ◌⇒◌∣◌, first, effect}
use Rattle.model.specs.Bursts.{decide}
use Rattle.model.specs.Engine.{Step, step, outcome}
use Rattle.model.specs.Rings.{Controller, rings, view_rings, guard_rings, settle_rings}
use Rattle.model.proofs.Rings.{listed}
use Rattle.model.proofs.Simulation.{stays_sound}
use Rattle.faults.specs.Faults.{fault_by, fault_number}

refused : (a b : Bool) (d : Decision) (n : ℕ) → (n ≡ 0 → ⊥) → n ≡ fault_by a b → first (not a ⇒ 21 ∣ not b ⇒ 22 ∣ d) ≡ some n
refused true true d n z e = absurd (z e)
refused true false d n z e = ap some (sym e)
refused false b d n z e = ap some (sym e)

pub both : (a b : Bool) → fault_by a b ≡ 0 → (a ≡ true) × (b ≡ true)
both true true e = (refl, refl)
both true false e = absurd (omega arith)
both false b e = absurd (omega arith)

module _ (l : Controller) (c : Call) where
  abbrev fits : Bool
  fits = eqb (length l.store) (total l.bank.state.caps)

  -- the two tests refuse
  pub refuses : (n : ℕ) → (n ≡ 0 → ⊥) → n ≡ fault_number l.bank (length l.store) → record { answer = record { value = 0; number = n }; next = l } ≡ step rings l c
  unfolding step guard_rings
  refuses n z e =
      let d = decide (view_rings l) c in
      sym (ap (λ (k : Option ℕ). outcome k (effect d) l (settle_rings l (effect d))) (refused (well_formed l.bank) fits d n z e))

  -- they pass: the step is the decision
  pub passes : fault_number l.bank (length l.store) ≡ 0 → (let d = decide (view_rings l) c in outcome (first d) (effect d) l (settle_rings l (effect d)) ≡ step rings l c)
  unfolding step guard_rings
  passes e = let t = both (well_formed l.bank) fits e in rw (t.0, t.1)

  -- no call changes what they say
  pub kept : (let m = (step rings l c).next in fault_number m.bank (length m.store) ≡ fault_number l.bank (length l.store))
  kept = go (fault_number l.bank (length l.store)) refl
    where
      m : Controller
      m = (step rings l c).next

      go : (n : ℕ) → fault_number l.bank (length l.store) ≡ n → fault_number m.bank (length m.store) ≡ fault_number l.bank (length l.store)
      go zero e =
          let t = both (well_formed l.bank) fits e in
          let n = stays_sound l (listed l) c (record { is = refl; formed = formed_of l.bank t.0; size = eqb-true (length l.store) (total l.bank.state.caps) t.1 }) in
          rw (formed_is m.bank n.formed, eq-eqb (length m.store) (total m.bank.state.caps) n.size) (sym e)
      go (suc n) e = ap (λ (r : Step Controller). fault_number r.next.bank (length r.next.store)) (sym (refuses (suc n) (λ z. omega arith) (sym e)))
