-- What the first bytes of a trace tell stays so when more bytes come.
use Prim.Native.Nat.{ℕ, zero, suc, ◌+◌, ◌*◌, ◌≤◌}
use native.Mathlib.Omega.{arith}
use native.Mathlib.Decide.{dec_lt}
use mathlib.Core.Path.{◌≡◌, refl, ap, ap₂, subst⁻¹}
use mathlib.Core.Bool.{Bool, true, false, cond, ◌&&◌}
use mathlib.Core.List.{List, [], ◌∷◌, ◌++◌}
use lib.Dec.{eqb, ltb, leb}
use lib.ListN.{length, length-append, get_or-append}
use borrow.Author.Tests.{lt-ltb, le-ltb}
use Rattle.trace_model.specs.declared.Head.{Head}
use Rattle.number.specs.declared.Refusal.TheVariants.{WrongMark, WrongTable}
use Rattle.trace_model.specs.declared.Head.TheVariants.{More, Wrong, Right}
use Rattle.little_endian.specs.Numbers.{two_at, four_at}
use Rattle.trace_model.specs.Format.{mark, begins_with, sections, records, section_place, starts_right}
use Rattle.trace_model.specs.Head.{count_told, head_of}

-- what m bytes told is told again, and a right head is among them
abbrev pub Kept : ℕ → Head → Head → Type 0
Kept m More y = Unit {0}
Kept m (Wrong number) y = y ≡ Wrong number
Kept m (Right n r) y = (n ≤ m) × (y ≡ Right n r)

-- past a test that stays what it is, and past a length that was enough
either : (m : ℕ) (t : Bool) (x y z : Head) → Kept m x y → Kept m z z → Kept m (cond t x z) (cond t y z)
either m true x y z h k = h
either m false x y z h k = k

enough : (m m' k : ℕ) (x y : Head) → m ≤ m' → (k ≤ m → Kept m x y) → Kept m (cond (ltb m k) More x) (cond (ltb m' k) More y)
enough m m' k x y l f = elim (dec_lt m k) [ yes s ↦ rw (lt-ltb m k s) tt | no s ↦ rw (le-ltb m k (omega arith), le-ltb m' k (omega arith)) (f (omega arith)) ]

opens_more : (m a b : List ℕ) → length m ≤ length a → begins_with m (a ++ b) ≡ begins_with m a
opens_more [] a b h = refl
opens_more (x ∷ m) [] b h = absurd (omega arith)
opens_more (x ∷ m) (y ∷ a) b h = ap (λ (t : Bool). eqb y x && t) (opens_more m a b (omega arith))

module _ (a b : List ℕ) where
  longer : length a ≤ length (a ++ b)
  longer = omega (arith, length-append a b)

  pub two_more : (i : ℕ) → i + 2 ≤ length a → two_at (a ++ b) i ≡ two_at a i
  two_more i h = rw (get_or-append a b 0 i (omega arith), get_or-append a b 0 (i + 1) (omega arith))

  pub four_more : (i : ℕ) → i + 4 ≤ length a → four_at (a ++ b) i ≡ four_at a i
  four_more i h = ap₂ (λ (x y : ℕ). x + 65536 * y) (two_more i (omega arith)) (two_more (i + 2) (omega arith))

  records_more : (n : ℕ) → 6 + 8 * n ≤ length a → records (a ++ b) n ≡ records a n
  unfolding records
  records_more zero h = refl
  records_more (suc n) h = ap₂ ◌+◌ (records_more n (omega arith)) (four_more (10 + 8 * n) (omega arith))

  place_more : (n : ℕ) → 6 ≤ length a → 6 + 8 * n ≤ length a → section_place (a ++ b) n ≡ section_place a n
  place_more n l h = ap₂ (λ (x y : ℕ). 6 + 8 * x + 12 * y) (two_more 4 l) (records_more n h)

  starts_more : (n : ℕ) → 6 + 8 * n ≤ length a → starts_right (a ++ b) n ≡ starts_right a n
  unfolding starts_right
  starts_more zero h = refl
  starts_more (suc n) h = ap₂ ◌&&◌ (starts_more n (omega arith)) (ap₂ eqb (four_more (6 + 8 * n) (omega arith)) (place_more n (omega arith) (omega arith)))

  -- a table of n sections
  abbrev table : List ℕ → ℕ → Head
  table x n = cond (starts_right x n && leb (section_place x n) 0x1000000) (Right (6 + 8 * n) (records x n)) (Wrong WrongTable)

  table_kept : (n : ℕ) → 6 ≤ length a → 6 + 8 * n ≤ length a → Kept (length a) (table a n) (table (a ++ b) n)
  table_kept n l h =
      let r = Right (6 + 8 * n) (records a n) in
      rw (starts_more n h, place_more n l h, records_more n h) (either (length a) (starts_right a n && leb (section_place a n) 0x1000000) r r (Wrong WrongTable) (h, refl) refl)

  abbrev count : List ℕ → ℕ → Head
  count x n = cond (leb 1 n && leb n 64) (cond (ltb (length x) (6 + 8 * n)) More (table x n)) (Wrong WrongTable)

  count_kept : 6 ≤ length a → Kept (length a) (count_told a) (count_told (a ++ b))
  count_kept l =
      let n = sections a in
      let k : Kept (length a) (count a n) (count (a ++ b) n) = either (length a) (leb 1 n && leb n 64) _ _ (Wrong WrongTable) (enough (length a) (length (a ++ b)) (6 + 8 * n) (table a n) (table (a ++ b) n) longer (table_kept n l)) refl in
      subst⁻¹ (λ (i : ℕ). Kept (length a) (count_told a) (count (a ++ b) i)) (two_more 4 l) k

  pub head_kept : Kept (length a) (head_of a) (head_of (a ++ b))
  head_kept =
      let m = length a in
      let m' = length (a ++ b) in
      enough m m' 4 _ _ longer (λ h. rw (opens_more mark a b h) (either m (begins_with mark a) _ _ (Wrong WrongMark) (enough m m' 6 (count_told a) (count_told (a ++ b)) longer count_kept) refl))
