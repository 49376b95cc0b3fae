-- The records of a replay one after another: one that is done, a wrong one, the last one.
use Prim.Native.Nat.{ℕ, suc, ◌+◌, ◌-◌, ◌<◌, ◌≤◌}
use native.Mathlib.Omega.{arith}
use mathlib.Core.Path.{◌≡◌, ap, sym, ◌∙◌}
use mathlib.Core.List.{List}
use lib.ListN.{length}
use Rattle.bank.specs.declared.Answer.{Answer}
use Rattle.bank.specs.declared.State.{State}
use Rattle.model.specs.declared.Call.{Call}
use Rattle.model.specs.Engine.{Step, step}
use Rattle.model.specs.Rings.{Controller, rings}
use Rattle.model.specs.View.{tables}
use Rattle.answer.specs.declared.Next.{Next}
use Rattle.answer.specs.Given.{bank_with, controller, given}
use Rattle.faults.specs.Faults.{fault_number}
use Rattle.faults.proofs.Guards.{kept}
use Rattle.letters.specs.Named.{Parsed}
use Rattle.std.specs.Prelude.{Some, None}
use Rattle.record_model.specs.Record.{record_at, each_record}
use Rattle.record_model.proofs.Each.{goes, stops, ends}
use Rattle.playback_model.specs.Replay.{Replay, telling, did, wrong}

-- a call that is made keeps what the two tests say
module _ (l : Controller) (k : Call) (y : Next) (flags commands payloads output store : List ℕ) (made : given y (tables flags commands payloads output) store ≡ step rings l k) where
  pub fault_kept : (s : State) (fault : ℕ) → s ≡ y.state → fault ≡ fault_number l.bank (length l.store)
      → fault ≡ fault_number (bank_with s y.heads (tables flags commands payloads output)) (length store)
  fault_kept s fault same e =
      e
      ∙ sym (kept l k)
      ∙ ap (λ (x : Step Controller). fault_number x.next.bank (length x.next.store)) (sym made)
      ∙ ap (λ (x : State). fault_number (bank_with x y.heads (tables flags commands payloads output)) (length store)) (sym same)

  -- and the records after it give what it and they gave
  pub record_done : (s : State) (n i : ℕ) (bytes : List ℕ) (a : Answer) (all : Replay) (found : Parsed) → s ≡ y.state → i < n → found ≡ record_at bytes i → found ≡ Some k
      → each_record did wrong (n - i) bytes i (telling 0 i a l) ≡ all
      → each_record did wrong (n - (i + 1)) bytes (i + 1) (telling 0 (i + 1) y.answer (controller (bank_with s y.heads (tables flags commands payloads output)) store output)) ≡ all
  record_done s n i bytes a all found same h e f g =
      let j : i + 1 ≡ suc i = omega arith in
      ap (λ (x : State). each_record did wrong (n - (i + 1)) bytes (i + 1) (telling 0 (i + 1) y.answer (controller (bank_with x y.heads (tables flags commands payloads output)) store output))) same
      ∙ ap (λ (x : Step Controller). each_record did wrong (n - (i + 1)) bytes (i + 1) (telling 0 (i + 1) x.answer x.next)) made
      ∙ ap (λ (m : ℕ). each_record did wrong (n - (i + 1)) bytes (i + 1) (telling 0 m (step rings l k).answer (step rings l k).next)) j
      ∙ goes did wrong n i bytes (telling 0 i a l) k h (sym e ∙ f)
      ∙ g

module _ (n i : ℕ) (bytes : List ℕ) (a : Answer) (l : Controller) (all x : Replay) (left : each_record did wrong (n - i) bytes i (telling 0 i a l) ≡ all) where
  -- a wrong record
  pub record_wrong : (found : Parsed) → i < n → found ≡ record_at bytes i → found ≡ None → x ≡ wrong (telling 0 i a l) → x ≡ all
  record_wrong found h e f g = g ∙ stops did wrong n i bytes (telling 0 i a l) h (sym e ∙ f) ∙ left

  -- past the last
  pub records_done : i ≤ n → n ≤ i → x ≡ telling 0 n a l → x ≡ all
  records_done h k g =
      let e : n ≡ i = omega arith in
      g ∙ ap (λ (m : ℕ). telling 0 m a l) e ∙ ends did wrong n i bytes (telling 0 i a l) k ∙ left
