-- Records one after another.
use Prim.Native.Nat.{ℕ, suc, ◌+◌, ◌-◌, ◌<◌, ◌≤◌}
use native.Mathlib.Omega.{arith}
use mathlib.Core.Path.{◌≡◌, ap, sym, ◌∙◌}
use mathlib.Core.List.{List}
use Rattle.model.specs.declared.Call.{Call}
use Rattle.letters.specs.Named.{Parsed}
use Rattle.std.specs.Prelude.{Some, None}
use Rattle.record_model.specs.Record.{record_at, onward, each_record}

module _ {A : Type 0} (make : Call → A → A) (stop : A → A) (n i : ℕ) (bytes : List ℕ) (a : A) where
  at_record : i < n → each_record make stop (n - i) bytes i a ≡ onward make stop (record_at bytes i) a (each_record make stop (n - suc i) bytes (suc i))
  unfolding each_record
  at_record h = let e : n - i ≡ suc (n - suc i) = omega (arith, h) in ap (λ (m : ℕ). each_record make stop m bytes i a) e

  -- a call is made
  pub goes : (k : Call) → i < n → record_at bytes i ≡ Some k → each_record make stop (n - (i + 1)) bytes (i + 1) (make k a) ≡ each_record make stop (n - i) bytes i a
  goes k h e =
      let j : i + 1 ≡ suc i = omega arith in
      ap (λ (m : ℕ). each_record make stop (n - m) bytes m (make k a)) j ∙ sym (at_record h ∙ ap (λ (p : Parsed). onward make stop p a (each_record make stop (n - suc i) bytes (suc i))) e)

  -- a wrong record stops
  pub stops : i < n → record_at bytes i ≡ None → stop a ≡ each_record make stop (n - i) bytes i a
  stops h e = sym (at_record h ∙ ap (λ (p : Parsed). onward make stop p a (each_record make stop (n - suc i) bytes (suc i))) e)

  -- past the last record
  pub ends : n ≤ i → a ≡ each_record make stop (n - i) bytes i a
  unfolding each_record
  ends h = let e : n - i ≡ 0 = omega (arith, h) in sym (ap (λ (m : ℕ). each_record make stop m bytes i a) e)

-- before the first
pub starts : {A : Type 0} (make : Call → A → A) (stop : A → A) (n : ℕ) (bytes : List ℕ) (a : A) → each_record make stop (n - 0) bytes 0 a ≡ each_record make stop n bytes 0 a
starts make stop n bytes a = let e : n - 0 ≡ n = omega arith in ap (λ (m : ℕ). each_record make stop m bytes 0 a) e
