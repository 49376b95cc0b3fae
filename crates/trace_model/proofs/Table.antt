-- The mark and the table: the tests one by one, and the facts that a right table gives.
use Prim.Native.Nat.{ℕ, ◌+◌, ◌*◌, ◌<◌, ◌≤◌}
use native.Mathlib.Numerals.{add-one}
use native.Mathlib.Omega.{arith}
use mathlib.Core.Path.{◌≡◌, refl, sym, ap, ap₂, subst}
use mathlib.Core.Bool.{Bool, true, false, cond, ◌&&◌, false≢true}
use mathlib.Core.List.{List, [], ◌∷◌}
use lib.Dec.{eqb, leb}
use lib.ListN.{length}
use borrow.Author.Tests.{leb-true, le-leb, eqb-true, eqb-false}
use Rattle.std.specs.Prelude.{nat_eq}
use Rattle.std.specs.List.{starts_with}
use Rattle.trace_model.specs.Format.{mark, begins_with, sections, start_at, count_at, records, section_place, starts_right, table_right, fault}

pub and-true : (a b : Bool) → (a && b) ≡ true → (a ≡ true) × (b ≡ true)
and-true true b e = (refl, e)
and-true false b e = absurd (false≢true e)

not-true : (t : Bool) → (t ≡ true → ⊥) → t ≡ false
not-true true h = absurd (h refl)
not-true false h = refl

opens_length : (m file : List ℕ) → begins_with m file ≡ true → length m ≤ length file
opens_length [] file e = omega arith
opens_length (x ∷ m) [] e = absurd (false≢true e)
opens_length (x ∷ m) (b ∷ file) e =
    let z = opens_length m file (and-true (eqb b x) (begins_with m file) e).1 in
    omega arith

pub mark_short : (file : List ℕ) → length file < 4 → false ≡ begins_with mark file
mark_short file h = sym (not-true (begins_with mark file) (λ e. let z = opens_length mark file e in omega arith))

eqb_turned : (a b : ℕ) → eqb a b ≡ eqb b a
eqb_turned a b = go (eqb a b) (eqb b a) refl refl
  where
    go : (t u : Bool) → eqb a b ≡ t → eqb b a ≡ u → t ≡ u
    go true true e f = refl
    go true false e f = absurd (eqb-false b a f (sym (eqb-true a b e)))
    go false true e f = absurd (eqb-false a b e (sym (eqb-true b a f)))
    go false false e f = refl

-- the library's test
pub opens : (m file : List ℕ) → starts_with nat_eq file m ≡ begins_with m file
opens [] file = refl
opens (x ∷ m) [] = refl
opens (x ∷ m) (b ∷ file) = ap₂ ◌&&◌ (eqb_turned x b) (opens m file)

pub records_next : (file : List ℕ) (i : ℕ) → records file (i + 1) ≡ records file i + count_at file i
unfolding records
records_next file i = ap (records file) (add-one i)

pub starts_next : (file : List ℕ) (i : ℕ) → starts_right file (i + 1) ≡ (starts_right file i && eqb (start_at file i) (section_place file i))
unfolding starts_right
starts_next file i = ap (starts_right file) (add-one i)

-- a turn of the loop, and its end
pub starts_turn : (file : List ℕ) (i : ℕ) (r : Bool) (start at : ℕ) → r ≡ starts_right file i → start ≡ start_at file i → at ≡ section_place file i
    → (r && eqb start at) ≡ starts_right file (i + 1)
starts_turn file i r start at e f g = rw (e, f, g) (sym (starts_next file i))

pub place_turn : (file : List ℕ) (i count at next : ℕ) → count ≡ count_at file i → at ≡ section_place file i → next ≡ at + 12 * count → next ≡ section_place file (i + 1)
place_turn file i count at next e f g =
    let h = records_next file i in
    omega arith

pub turned : (file : List ℕ) (n i : ℕ) (r : Bool) (at : ℕ) → i ≤ n → n ≤ i → r ≡ starts_right file i → at ≡ section_place file i → (r ≡ starts_right file n) × (at ≡ section_place file n)
turned file n i r at p q e f = subst (λ (k : ℕ). (r ≡ starts_right file k) × (at ≡ section_place file k)) (let y : i ≡ n = omega arith in y) (e, f)

-- a right table, test by test
pub record Right (file : List ℕ) : Type 0 where
  pub head : 6 ≤ length file
  pub least : 1 ≤ sections file
  pub most : sections file ≤ 64
  pub whole : 6 + 8 * sections file ≤ length file
  pub starts : starts_right file (sections file) ≡ true
  pub ends : section_place file (sections file) ≡ length file
  pub size : length file ≤ 0x1000000

pub right : (file : List ℕ) → table_right file ≡ true → Right file
unfolding table_right
right file e =
    let n = sections file in
    let a = leb 6 (length file) in
    let b = leb 1 n in
    let c = leb n 64 in
    let d = leb (6 + 8 * n) (length file) in
    let s = starts_right file n in
    let g = eqb (section_place file n) (length file) in
    let z6 = and-true (a && b && c && d && s && g) (leb (length file) 0x1000000) e in
    let z5 = and-true (a && b && c && d && s) g z6.0 in
    let z4 = and-true (a && b && c && d) s z5.0 in
    let z3 = and-true (a && b && c) d z4.0 in
    let z2 = and-true (a && b) c z3.0 in
    let z1 = and-true a b z2.0 in
    record {
      head = leb-true _ _ z1.0;
      least = leb-true _ _ z1.1;
      most = leb-true _ _ z2.1;
      whole = leb-true _ _ z3.1;
      starts = z4.1;
      ends = eqb-true _ _ z5.1;
      size = leb-true _ _ z6.1;
    }

pub wrong : (file : List ℕ) → (Right file → ⊥) → false ≡ table_right file
wrong file h = sym (not-true (table_right file) (λ e. h (right file e)))

-- past the tests of the lengths
pub measured : (file : List ℕ) (n : ℕ) (r : Bool) (end : ℕ) → n ≡ sections file → 6 ≤ length file → 1 ≤ n → n ≤ 64 → 6 + 8 * n ≤ length file
    → r ≡ starts_right file n → end ≡ section_place file n → (r && eqb end (length file) && leb (length file) 0x1000000) ≡ table_right file
unfolding table_right
measured file n r end e h l m w f g = rw (f, g, e, le-leb _ _ h, le-leb _ _ (subst (λ (k : ℕ). 1 ≤ k) e l), le-leb _ _ (subst (λ (k : ℕ). k ≤ 64) e m), le-leb _ _ (subst (λ (k : ℕ). 6 + 8 * k ≤ length file) e w)) refl

sound_bools : (a b : Bool) → ◌≡◌ {A = ℕ} (cond a (cond b 0 25) 24) 0 → b ≡ true
sound_bools true true e = refl
sound_bools true false e = absurd (omega arith)
sound_bools false b e = absurd (omega arith)

-- a file without a fault has a right table
pub sound : (file : List ℕ) → fault file ≡ 0 → Right file
unfolding fault
sound file e = right file (sound_bools (begins_with mark file) (table_right file) e)
