-- Where the sections of a right table lie (`trace.section`).
use Prim.Native.Nat.{ℕ, zero, suc, ◌+◌, ◌-◌, ◌*◌, ◌<◌, ◌≤◌}
use native.Mathlib.Omega.{arith}
use native.Mathlib.Decide.{dec_lt}
use mathlib.Core.Path.{◌≡◌, refl, sym, ap, subst, ◌∙◌}
use mathlib.Core.Bool.{Bool, true, false, cond}
use mathlib.Core.List.{List, []}
use lib.Dec.{eqb, ltb}
use lib.ListN.{length, take, drop, length-drop}
use lib.Seq.{length-take-le}
use borrow.Author.Tests.{eqb-true, eqb-false, eq-eqb, ne_eqb, ltb-true}
use Rattle.trace_model.specs.Format.{sections, start_at, count_at, records, section_place, starts_right, fault, look_number, section_start, section}
use Rattle.trace_model.proofs.Table.{Right, and-true, sound}

-- a start of the table is the section's place
pub start_right : (file : List ℕ) (n i : ℕ) → starts_right file n ≡ true → i < n → start_at file i ≡ section_place file i
unfolding starts_right
start_right file zero i e h = absurd (omega arith)
start_right file (suc n) i e h =
    let z = and-true (starts_right file n) (eqb (start_at file n) (section_place file n)) e in
    elim (dec_lt i n) [ yes l ↦ start_right file n i z.0 l | no k ↦ subst (λ (j : ℕ). start_at file j ≡ section_place file j) (let y : n ≡ i = omega arith in y) (eqb-true _ _ z.1) ]

-- a section's records are among all
pub records_before : (file : List ℕ) (n i : ℕ) → i < n → records file i + count_at file i ≤ records file n
unfolding records
records_before file zero i h = absurd (omega arith)
records_before file (suc n) i h =
    elim (dec_lt i n) [ yes l ↦ (let y = records_before file n i l in omega arith) | no k ↦ subst (λ (j : ℕ). records file j + count_at file j ≤ records file n + count_at file n) (let y : n ≡ i = omega arith in y) (omega arith) ]

-- a section lies in the file
pub within : (file : List ℕ) (i : ℕ) → Right file → i < sections file → start_at file i + 12 * count_at file i ≤ length file
within file i t h =
    let s = start_right file (sections file) i t.starts h in
    let r = records_before file (sections file) i h in
    let e = t.ends in
    omega arith

zero_bools : (t b : Bool) (x : ℕ) → cond t (cond b 0 26) x ≡ 0 → (t ≡ false → x ≡ 0 → ⊥) → (t ≡ true) × (b ≡ true)
zero_bools true true x e h = (refl, refl)
zero_bools true false x e h = absurd (omega arith)
zero_bools false b x e h = absurd (h refl e)

-- the number 0: a right table, and one of its sections
pub found : (file : List ℕ) (i : ℕ) → look_number file i ≡ 0 → Right file × (i < sections file)
unfolding look_number
found file i e =
    let z = zero_bools (eqb (fault file) 0) (ltb i (sections file)) (fault file) e (eqb-false _ _) in
    (sound file (eqb-true _ _ z.0), ltb-true _ _ z.1)

pub entry : (file : List ℕ) (i : ℕ) → look_number file i ≡ 0 → 14 + 8 * i ≤ length file
entry file i e =
    let f = found file i e in
    let w = f.0.whole in
    let h = f.1 in
    omega arith

-- what a look-up gives: no byte, or the part of the file that the entry tells
pub refused : (file : List ℕ) (i x : ℕ) → x ≡ look_number file i → (x ≡ 0 → ⊥) → ([] ≡ section file i) × (0 ≡ section_start file i)
unfolding section section_start
refused file i x e h =
    let y : eqb (look_number file i) 0 ≡ false = rw (sym e) (ne_eqb x 0 h) in
    (rw y, rw y)

pub handed : (file : List ℕ) (i : ℕ) → look_number file i ≡ 0 → (section file i ≡ take (12 * count_at file i) (drop (start_at file i) file)) × (start_at file i ≡ section_start file i)
unfolding section section_start
handed file i e =
    let y : eqb (look_number file i) 0 ≡ true = eq-eqb _ _ e in
    (rw y, rw y)

pub handed_part : (file : List ℕ) (i s n e : ℕ) → look_number file i ≡ 0 → s ≡ start_at file i → n ≡ count_at file i → e ≡ s + 12 * n
    → (e ≤ length file) × (take (e - s) (drop s file) ≡ section file i) × (s ≡ section_start file i)
handed_part file i s n e z f g h =
    let t = found file i z in
    let w = within file i t.0 t.1 in
    let y : e - s ≡ 12 * count_at file i = omega arith in
    (omega arith, rw (y, f) (sym (handed file i z).0), f ∙ (handed file i z).1)

pub handed_length : (file : List ℕ) (i : ℕ) → look_number file i ≡ 0 → length (section file i) ≡ 12 * count_at file i
handed_length file i e =
    let t = found file i e in
    let s = start_at file i in
    let k = 12 * count_at file i in
    let w : s + k ≤ length file = within file i t.0 t.1 in
    let d : length (drop s file) ≡ length file - s = length-drop s file in
    ap length (handed file i e).0 ∙ length-take-le k (drop s file) (omega arith)
