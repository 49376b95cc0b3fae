-- What the first bytes tell, test by test.
use Prim.Native.Nat.{ℕ, ◌+◌, ◌-◌, ◌*◌, ◌/◌, ◌<◌, ◌≤◌}
use native.Mathlib.Omega.{arith}
use native.Mathlib.Decide.{dec_lt}
use mathlib.Core.Path.{◌≡◌, refl, sym, ap, subst, ◌∙◌}
use mathlib.Core.Bool.{Bool, true, false, not, cond, ◌&&◌, false≢true}
use mathlib.Core.List.{List}
use lib.Dec.{ltb, leb}
use lib.ListN.{length}
use borrow.Author.Tests.{lt-ltb, le-ltb, le-leb, lt-leb, leb-true, ltb-false, not-true, not-false}
use Rattle.trace_model.specs.declared.Head.{Head}
use Rattle.number.specs.declared.Refusal.TheVariants.{WrongMark, WrongTable}
use Rattle.trace_model.specs.declared.Head.TheVariants.{More, Wrong, Right}
use Rattle.trace_model.specs.Format.{mark, begins_with, sections, records, section_place, starts_right}
use Rattle.trace_model.specs.Head.{head_length, table_told, count_told, head_of}
use Rattle.trace_model.proofs.Table.{and-true}

and_false : (a : Bool) → (a && false) ≡ false
and_false true = refl
and_false false = refl

module _ (bytes : List ℕ) (n : ℕ) (is : n ≡ sections bytes) where
  abbrev table : ℕ → Head
  table k = cond (starts_right bytes k && leb (section_place bytes k) 0x1000000) (Right (6 + 8 * k) (records bytes k)) (Wrong WrongTable)

  pub starts_wrong : (r : Bool) → r ≡ starts_right bytes n → not r ≡ true → Wrong WrongTable ≡ table_told bytes
  starts_wrong r e f = rw (sym is, sym e, not-true r f)

  pub too_large : (end : ℕ) → end ≡ section_place bytes n → 0x1000000 < end → Wrong WrongTable ≡ table_told bytes
  too_large end e h = let y : Wrong WrongTable ≡ table n = rw (sym e, lt-leb _ _ h, and_false (starts_right bytes n)) in y ∙ ap table is

  pub table_right_lem : (r : Bool) (end k : ℕ) → r ≡ starts_right bytes n → not r ≡ false → end ≡ section_place bytes n → end ≤ 0x1000000 → k ≡ (end - (6 + 8 * n)) / 12
      → Right (6 + 8 * n) k ≡ table_told bytes
  table_right_lem r end k e t f h g =
      let z : k ≡ records bytes n = omega (arith, f, g) in
      let y : Right (6 + 8 * n) (records bytes n) ≡ table n = rw (sym e, not-false r t, sym f, le-leb _ _ h) in
      ap (Right (6 + 8 * n)) z ∙ y ∙ ap table is

  abbrev count : ℕ → Head
  count k = cond (leb 1 k && leb k 64) (cond (ltb (length bytes) (6 + 8 * k)) More (table_told bytes)) (Wrong WrongTable)

  pub too_few : n < 1 → Wrong WrongTable ≡ count_told bytes
  too_few h = let y : Wrong WrongTable ≡ count n = rw (lt-leb _ _ h) in y ∙ ap count is

  pub too_many : 64 < n → Wrong WrongTable ≡ count_told bytes
  too_many h = let y : Wrong WrongTable ≡ count n = rw (lt-leb _ _ h, and_false (leb 1 n)) in y ∙ ap count is

  pub table_short : 1 ≤ n → n ≤ 64 → length bytes < 6 + 8 * n → More ≡ count_told bytes
  table_short l m h = let y : More ≡ count n = rw (le-leb _ _ l, le-leb _ _ m, lt-ltb _ _ h) in y ∙ ap count is

  pub table_whole : 1 ≤ n → n ≤ 64 → 6 + 8 * n ≤ length bytes → table_told bytes ≡ count_told bytes
  table_whole l m h = let y : table_told bytes ≡ count n = rw (le-leb _ _ l, le-leb _ _ m, le-ltb _ _ h) in y ∙ ap count is

module _ (bytes : List ℕ) where
  pub mark_cut : length bytes < 4 → More ≡ head_of bytes
  mark_cut h = rw (lt-ltb _ _ h)

  pub mark_wrong : (m : Bool) → 4 ≤ length bytes → m ≡ begins_with mark bytes → not m ≡ true → Wrong WrongMark ≡ head_of bytes
  mark_wrong m h e f = rw (le-ltb _ _ h, sym e, not-true m f)

  pub count_cut : (m : Bool) → 4 ≤ length bytes → m ≡ begins_with mark bytes → not m ≡ false → length bytes < 6 → More ≡ head_of bytes
  count_cut m h e t k = rw (le-ltb _ _ h, sym e, not-false m t, lt-ltb _ _ k)

  pub count_there : (m : Bool) → m ≡ begins_with mark bytes → not m ≡ false → 6 ≤ length bytes → count_told bytes ≡ head_of bytes
  count_there m e t h = rw (le-ltb _ _ (let y : 4 ≤ length bytes = omega (arith, h) in y), sym e, not-false m t, le-ltb _ _ h)

-- ── What follows for a reader ─────────────────────────────────────────────────────────────────────────────────
by_test : {X : Type 0} (b : Bool) → (b ≡ true → X) → (b ≡ false → X) → X
by_test true t f = t refl
by_test false t f = f refl

abbrev is_more : Head → Bool
is_more More = true
is_more (Wrong n) = false
is_more (Right n k) = false

abbrev length_in : Head → ℕ
length_in More = 0
length_in (Wrong n) = 0
length_in (Right n k) = n

module _ (bytes : List ℕ) where
  told_more : (b : Bool) (n k : ℕ) → is_more (cond b (Right n k) (Wrong WrongTable)) ≡ false
  told_more true n k = refl
  told_more false n k = refl

  told_length : (b : Bool) (n k : ℕ) → n ≤ length bytes → length_in (cond b (Right n k) (Wrong WrongTable)) ≤ length bytes
  told_length true n k h = h
  told_length false n k h = omega arith

  count_more : 518 ≤ length bytes → is_more (count_told bytes) ≡ false
  count_more h =
      let n = sections bytes in
      by_test (leb 1 n && leb n 64)
      (λ t. let m : n ≤ 64 = leb-true n 64 (and-true (leb 1 n) (leb n 64) t).1 in rw (t, le-ltb (length bytes) (6 + 8 * n) (omega (arith, h, m))) (told_more (starts_right bytes n && leb (section_place bytes n) 0x1000000) (head_length bytes) (records bytes n)))
      (λ f. rw f)

  count_length : length_in (count_told bytes) ≤ length bytes
  count_length =
      let n = sections bytes in
      by_test (leb 1 n && leb n 64)
      (λ t. by_test (ltb (length bytes) (6 + 8 * n))
      (λ u. rw (t, u) (let z : 0 ≤ length bytes = omega arith in z))
      (λ u. rw (t, u) (told_length (starts_right bytes n && leb (section_place bytes n) 0x1000000) (head_length bytes) (records bytes n) (ltb-false (length bytes) (6 + 8 * n) u))))
      (λ f. rw f (let z : 0 ≤ length bytes = omega arith in z))

  head_more : 518 ≤ length bytes → is_more (head_of bytes) ≡ false
  head_more h =
      by_test (begins_with mark bytes)
      (λ t. rw (le-ltb (length bytes) 4 (omega (arith, h)), t, le-ltb (length bytes) 6 (omega (arith, h))) (count_more h))
      (λ f. rw (le-ltb (length bytes) 4 (omega (arith, h)), f))

  head_length_lem : length_in (head_of bytes) ≤ length bytes
  head_length_lem =
      let none : 0 ≤ length bytes = omega arith in
      by_test (ltb (length bytes) 4) (λ s. rw s none)
      (λ s. by_test (begins_with mark bytes)
      (λ t. by_test (ltb (length bytes) 6) (λ u. rw (s, t, u) none) (λ u. rw (s, t, u) count_length))
      (λ f. rw (s, f) none))

  -- a head that wants more is short, and one that is whole is there
  pub more_short : head_of bytes ≡ More → length bytes < 518
  more_short e = elim (dec_lt (length bytes) 518) [ yes l ↦ l | no k ↦ absurd (false≢true (sym (head_more (omega (arith, k))) ∙ ap is_more e)) ]

  pub right_within : (n k : ℕ) → head_of bytes ≡ Right n k → n ≤ length bytes
  right_within n k e = subst (λ (h : Head). length_in h ≤ length bytes) e head_length_lem
