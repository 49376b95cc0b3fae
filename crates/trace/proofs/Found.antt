-- Where a section lies that a look-up finds, and none where it is refused.
use Prim.Native.Nat.{ℕ, ◌+◌, ◌-◌, ◌*◌, ◌<◌, ◌≤◌}
use native.Mathlib.Omega.{arith}
use mathlib.Core.Path.{◌≡◌}
use mathlib.Core.List.{List, []}
use lib.ListN.{length, take, drop}
use borrow.Author.Tests.{lt-ltb}
use Rattle.number.specs.declared.Refusal.{Refusal}
use Rattle.number.specs.Refusals.{number_of}
use Rattle.trace_model.specs.Format.{sections, start_at, count_at, fault, look_number, section_start, section}
use Rattle.trace_model.proofs.Refused.{not_zero}
use Rattle.trace_model.proofs.Table.{sound}
use Rattle.trace_model.proofs.Sections.{handed_part, refused}

module _ (file : List ℕ) (i : ℕ) (right : fault file ≡ 0) (inside : i < sections file) where
  pub no_number : look_number file i ≡ 0
  unfolding look_number
  no_number = rw (right, lt-ltb i (sections file) inside)

  pub found : (start count end : ℕ) → start ≡ start_at file i → count ≡ count_at file i → end ≡ start + 12 * count
      → (start ≡ section_start file i) × (start ≤ end) × (end ≤ length file) × (end ≤ 0x1000000) × (take (end - start) (drop start file) ≡ section file i)
  found start count end s n e =
      let z = handed_part file i start count end no_number s n e in
      let size = (sound file right).size in
      (z.2, omega arith, z.0, omega (arith, z.0), z.1)

module _ (file : List ℕ) (i : ℕ) (why : Refusal) (is : number_of why ≡ look_number file i) where
  pub none_handed : [] ≡ section file i
  none_handed = (refused file i (number_of why) is (not_zero why)).0

  pub none_starts : 0 ≡ section_start file i
  none_starts = (refused file i (number_of why) is (not_zero why)).1
