-- A right record is the one that its call is written as: no two records name one call.
use Prim.Native.Nat.{ℕ, zero, suc, ◌+◌, ◌*◌, ◌/◌, ◌%◌, ◌<◌, ◌^◌}
use native.Mathlib.Omega.{arith}
use native.Mathlib.Nat.{mod-eq_of_lt}
use mathlib.Core.Path.{◌≡◌, refl, sym, ap, ◌∙◌}
use mathlib.Core.Bool.{Bool, true, false, cond, ◌&&◌}
use mathlib.Core.List.{List, [], ◌∷◌, ◌++◌}
use Rattle.std.specs.Prelude.{Option, Some, None}
use lib.Dec.{eqb}
use lib.ListN.{length, get_or}
use borrow.Author.Tests.{eqb-true, ltb-true}
use Rattle.model.specs.declared.Call.{Call}
use Rattle.letters.specs.Forms.{Fields, offset_digits, Form, forms, form_with}
use Rattle.trace_model.proofs.Table.{and-true}
use Rattle.record_model.specs.Record.{Record, fields_at, fits, right, named_in}
use Rattle.record_model.specs.Writer.{bytes_of, record_of, record_bytes, RightIsWritten}

-- ── Bytes ─────────────────────────────────────────────────────────────────────────────────────────────────────
-- bytes are written again from the number that they are
byte_again : (k a n : ℕ) → a < 256 → bytes_of (suc k) (a + 256 * n) ≡ a ∷ bytes_of k n
byte_again k a n h =
    let x : (a + 256 * n) % 256 ≡ a = omega arith in
    let y : (a + 256 * n) / 256 ≡ n = omega arith in
    λ j. x j ∷ bytes_of k (y j)

two_again : (a b : ℕ) → a < 256 → b < 256 → bytes_of 2 (a + 256 * b) ≡ a ∷ b ∷ []
two_again a b f g = byte_again 1 a b f ∙ ap (λ (x : ℕ). a ∷ x ∷ []) (mod-eq_of_lt g)

four_again : (a b c d : ℕ) → a < 256 → b < 256 → c < 256 → d < 256 → bytes_of 4 (a + 256 * b + 65536 * (c + 256 * d)) ≡ a ∷ b ∷ c ∷ d ∷ []
four_again a b c d f g h i =
    let n : a + 256 * b + 65536 * (c + 256 * d) ≡ a + 256 * (b + 256 * (c + 256 * d)) = omega arith in
    ap (bytes_of 4) n ∙ byte_again 3 a (b + 256 * (c + 256 * d)) f ∙ ap (λ (l : List ℕ). a ∷ l) (byte_again 2 b (c + 256 * d) g ∙ ap (λ (l : List ℕ). b ∷ l) (two_again c d h i))

-- a list, element by element
abbrev spelt : ℕ → (ℕ → ℕ) → List ℕ
spelt zero f = []
spelt (suc n) f = f 0 ∷ spelt n (λ i. f (suc i))

spelt_is : (l : List ℕ) → spelt (length l) (λ i. get_or l i 0) ≡ l
spelt_is [] = refl
spelt_is (x ∷ l) = ap (λ (r : List ℕ). x ∷ r) (spelt_is l)

record_again : (bytes : List ℕ) → length bytes ≡ 12 → ((i : ℕ) → get_or bytes i 0 < 256) → record_bytes (fields_at bytes 0) ≡ bytes
record_again bytes e h =
    let g : ℕ → ℕ = λ i. get_or bytes i 0 in
    let all : record_bytes (fields_at bytes 0) ≡ spelt 12 g = λ j. (g 0 ∷ g 1 ∷ two_again (g 2) (g 3) (h 2) (h 3) j) ++ (four_again (g 4) (g 5) (g 6) (g 7) (h 4) (h 5) (h 6) (h 7) j ++ four_again (g 8) (g 9) (g 10) (g 11) (h 8) (h 9) (h 10) (h 11) j) in
    all ∙ ap (λ (n : ℕ). spelt n g) (sym e) ∙ spelt_is bytes

-- ── Fields ────────────────────────────────────────────────────────────────────────────────────────────────────
-- what the tests of a right record tell
abbrev pub Fits : ℕ → ℕ → Type 0
Fits zero x = x ≡ 0
Fits (suc d) x = x < 16 ^ suc d

fits_true : (d x : ℕ) → fits d x ≡ true → Fits d x
fits_true zero x e = eqb-true x 0 e
fits_true (suc d) x e = ltb-true x (16 ^ suc d) e

abbrev pub Right : Fields → Record → Type 0
Right fs r = (r.zero_byte ≡ 0) × Fits (offset_digits fs) r.offset × Fits fs.first r.first × Fits fs.second r.second

pub right_true : (fs : Fields) (r : Record) → right fs r ≡ true → Right fs r
right_true fs r e =
    let d = offset_digits fs in
    let v = fs.first in
    let w = fs.second in
    let a = and-true (eqb r.zero_byte 0) (fits d r.offset && (fits v r.first && fits w r.second)) e in
    let b = and-true (fits d r.offset) (fits v r.first && fits w r.second) a.1 in
    let c = and-true (fits v r.first) (fits w r.second) b.1 in
    (eqb-true _ _ a.0, fits_true d r.offset b.0, fits_true v r.first c.0, fits_true w r.second c.1)

-- ── Rows ──────────────────────────────────────────────────────────────────────────────────────────────────────
-- the call that a row names, and that its record is the one at hand, field by field
abbrev called : Form → Record → Call
called f r = f.call r.offset r.first r.second

abbrev Same : Record → Record → Type 0
Same q r = (q.letter ≡ r.letter) × (q.zero_byte ≡ r.zero_byte) × (q.offset ≡ r.offset) × (q.first ≡ r.first) × (q.second ≡ r.second)

same : (q r : Record) → Same q r → q ≡ r
same q r e = λ j. record { letter = e.0 j; zero_byte = e.1 j; offset = e.2 j; first = e.3 j; second = e.4 j }

abbrev Told : Form → Type 0
Told f = (r : Record) → r.letter ≡ f.letter → Right f.fields r → Same (record_of (called f r)) r

abbrev AllTold : List Form → Type 0
AllTold [] = Unit
AllTold (f ∷ fs) = Told f × AllTold fs

-- of all rows; a goal of omega's has 64 parts at most
all_told : AllTold forms
unfolding forms
all_told = (omega arith, (omega arith, (omega arith, (omega arith, omega arith))))

-- a record that names a call has a row, and is right
named_true : (t : Bool) (c k : Call) → cond t (Some c) None ≡ Some k → (t ≡ true) × (c ≡ k)
named_true true c k e = (refl, cc)
named_true false c k e = absurd (let z : ◌≡◌ {A = ℕ} 0 1 = cc in omega arith)

module _ (r : Record) (k : Call) where
  by_row : (t : Bool) (f : Form) (o : Option Form) → (t ≡ true → r.letter ≡ f.letter) → Told f → (named_in o r ≡ Some k → record_of k ≡ r)
      → named_in (cond t (Some f) o) r ≡ Some k → record_of k ≡ r
  by_row true f o l p q e =
      let z = named_true (right f.fields r) (called f r) k e in
      ap record_of (sym z.1) ∙ same (record_of (called f r)) r (p r (l refl) (right_true f.fields r z.0))
  by_row false f o l p q e = q e

  by_rows : (fs : List Form) → AllTold fs → named_in (form_with r.letter fs) r ≡ Some k → record_of k ≡ r
  unfolding form_with
  by_rows [] a e = absurd (let z : ◌≡◌ {A = ℕ} 0 1 = cc in omega arith)
  by_rows (f ∷ fs) a e = by_row (eqb r.letter f.letter) f (form_with r.letter fs) (eqb-true _ _) a.0 (by_rows fs a.1) e

pub right_is_written : RightIsWritten
unfolding RightIsWritten
right_is_written bytes k l h e = ap record_bytes (by_rows (fields_at bytes 0) k forms all_told e) ∙ record_again bytes l h
