-- When words are encoded, by the ranges of their fields: most words always are, a byte is below 256, a bit below 2; a phase has its number
-- and its transfer, and where none is open zeros.
use Prim.Native.Nat.{ℕ, zero, suc, ◌+◌, ◌%◌, ◌<◌}
use native.Mathlib.Omega.{arith}
use native.Mathlib.Nat.{mod-eq_of_lt}
use mathlib.Core.Path.{◌≡◌, refl, ap, sym, subst, ◌∙◌}
use mathlib.Core.Bool.{Bool, true, false, ◌&&◌, and-true}
use mathlib.Core.List.{List, [], ◌∷◌}
use lib.Dec.{eqb, leb}
use lib.ListN.{length, get_or, drop, drop_of_length-le}
use lib.Seq.{drop-cons}
use borrow.Author.Tests.{eqb-true, eqb-false, leb-true, leb-false, eq-eqb, ne_eqb, le-leb, lt-leb}
use Rattle.std.proofs.Math.Bool.{and_assoc}
use Rattle.std.specs.List.{list_all}
use Rattle.ring.specs.Units.{bytes}
use Rattle.bank.specs.declared.Transfer.{Transfer}
use Rattle.bank.specs.declared.Phase.{Phase}
use Rattle.bank.specs.Bits.{word_if}
use Rattle.image_model.specs.Image.{kind_number, phase_words, kind_in, phase_in, same, encoded, state_in, heads_in, image_of}
use Rattle.image_model.proofs.Numbers.{answered_in}

-- ── Tests in another order ────────────────────────────────────────────────────────────────────────────────────
swap : (a b c : Bool) → (a && (b && c)) ≡ (b && (a && c))
swap true b c = refl
swap false true c = refl
swap false false c = refl

-- ── A field ───────────────────────────────────────────────────────────────────────────────────────────────────
pub itself : (w : ℕ) → eqb w w ≡ true
itself w = eq-eqb w w refl

pub byte_test : (w : ℕ) → leb w 255 ≡ eqb w (w % 256)
byte_test w = go (leb w 255) refl
  where
    go : (t : Bool) → leb w 255 ≡ t → t ≡ eqb w (w % 256)
    go true e = let h = leb-true w 255 e in sym (eq-eqb w (w % 256) (sym (mod-eq_of_lt (omega arith))))
    go false e = let h = leb-false w 255 e in sym (ne_eqb w (w % 256) (λ k. omega (arith, h, k)))

pub bit_test : (w : ℕ) → leb w 1 ≡ eqb w (word_if (eqb w 1) 1)
bit_test w = go (eqb w 1) refl
  where
    go : (t : Bool) → eqb w 1 ≡ t → leb w 1 ≡ eqb w (word_if t 1)
    go true e = subst (λ (n : ℕ). leb n 1 ≡ eqb n 1) (sym (eqb-true w 1 e)) refl
    go false e = zeros (eqb w 0) refl
      where
        zeros : (t : Bool) → eqb w 0 ≡ t → leb w 1 ≡ eqb w 0
        zeros true z = subst (λ (n : ℕ). leb n 1 ≡ eqb n 0) (sym (eqb-true w 0 z)) refl
        zeros false z =
            let a = eqb-false w 1 e in
            let b = eqb-false w 0 z in
            lt-leb w 1 (omega (arith, a, b)) ∙ sym z

kind_test : (k : ℕ) → leb k 2 ≡ eqb k (kind_number (kind_in k))
kind_test k = private (eqb k 0) refl
  where
    third : (t : Bool) → eqb k 0 ≡ false → eqb k 1 ≡ false → eqb k 2 ≡ t → leb k 2 ≡ eqb k 2
    third true a b c = le-leb k 2 (let e = eqb-true k 2 c in omega arith) ∙ sym c
    third false a b c =
        let x = eqb-false k 0 a in
        let y = eqb-false k 1 b in
        let z = eqb-false k 2 c in
        lt-leb k 2 (omega (arith, x, y, z)) ∙ sym c

    direct : (t : Bool) → eqb k 0 ≡ false → eqb k 1 ≡ t → leb k 2 ≡ eqb k (kind_number (kind_in k))
    direct true a b = subst (λ (n : ℕ). leb n 2 ≡ eqb n (kind_number (kind_in n))) (sym (eqb-true k 1 b)) refl
    direct false a b = rw (a, b) (third (eqb k 2) a b refl)

    private : (t : Bool) → eqb k 0 ≡ t → leb k 2 ≡ eqb k (kind_number (kind_in k))
    private true a = subst (λ (n : ℕ). leb n 2 ≡ eqb n (kind_number (kind_in n))) (sym (eqb-true k 0 a)) refl
    private false a = direct (eqb k 1) a refl

-- ── A phase ───────────────────────────────────────────────────────────────────────────────────────────────────
module _ (k a l m b p : ℕ) where
  abbrev pub transfer_of : Transfer
  transfer_of = record { kind = kind_in k; header = eqb a 1; length = bytes l; moved = bytes m; attached = eqb b 1; part = p }

  abbrev pub phase_test : ℕ → Bool
  phase_test at = same (at ∷ k ∷ a ∷ l ∷ m ∷ b ∷ p ∷ []) (phase_words (phase_in at transfer_of))

  pub idle_test : (at : ℕ) → at ≡ 0 → (eqb k 0 && eqb a 0 && eqb l 0 && eqb m 0 && eqb b 0 && eqb p 0) ≡ phase_test at
  idle_test at e =
      subst (λ (n : ℕ). (eqb k 0 && eqb a 0 && eqb l 0 && eqb m 0 && eqb b 0 && eqb p 0) ≡ phase_test n) (sym e)
      (simp (and_assoc, and-true) refl)

  -- the words of the transfer
  abbrev fields : Bool
  fields = eqb k (kind_number (kind_in k)) && (eqb a (word_if (eqb a 1) 1) && (eqb l l && (eqb m m && (eqb b (word_if (eqb b 1) 1) && (eqb p p && true)))))

  abbrev ranges : Bool
  ranges = leb k 2 && (leb a 1 && leb b 1)

  in_ranges : ranges ≡ fields
  in_ranges =
      ap (λ (t : Bool). leb k 2 && (leb a 1 && t)) (sym (and-true (leb b 1)))
      ∙ ap (λ (t : Bool). leb k 2 && (leb a 1 && (leb b 1 && (t && true)))) (sym (itself p))
      ∙ ap (λ (t : Bool). leb k 2 && (leb a 1 && (t && (eqb p p && true)))) (bit_test b)
      ∙ ap (λ (t : Bool). leb k 2 && (leb a 1 && (t && (eqb b (word_if (eqb b 1) 1) && (eqb p p && true))))) (sym (itself m))
      ∙ ap (λ (t : Bool). leb k 2 && (leb a 1 && (t && (eqb m m && (eqb b (word_if (eqb b 1) 1) && (eqb p p && true)))))) (sym (itself l))
      ∙ ap (λ (t : Bool). leb k 2 && (t && (eqb l l && (eqb m m && (eqb b (word_if (eqb b 1) 1) && (eqb p p && true)))))) (bit_test a)
      ∙ ap (λ (t : Bool). t && (eqb a (word_if (eqb a 1) 1) && (eqb l l && (eqb m m && (eqb b (word_if (eqb b 1) 1) && (eqb p p && true)))))) (kind_test k)

  pub open_test : (at : ℕ) → (at ≡ 0 → ⊥) → (leb at 5 && ranges) ≡ phase_test at
  open_test at z = one (eqb at 1) refl
    where
      here : (n : ℕ) → at ≡ n → (leb n 5 && ranges) ≡ phase_test n → (leb at 5 && ranges) ≡ phase_test at
      here n e h = subst (λ (x : ℕ). (leb x 5 && ranges) ≡ phase_test x) (sym e) h

      -- past the last number
      past : (at ≡ 1 → ⊥) → (at ≡ 2 → ⊥) → (at ≡ 3 → ⊥) → (at ≡ 4 → ⊥) → (at ≡ 5 → ⊥) → (leb at 5 && ranges) ≡ phase_test at
      past c d e f g =
          ap (λ (t : Bool). t && ranges) (lt-leb at 5 (above at z c d e f g) ∙ sym (ne_eqb at 5 g))
          ∙ dropped (eqb at 5) (ne_eqb at 5 g) ranges fields
          ∙ ap (λ (x : Phase). same (at ∷ k ∷ a ∷ l ∷ m ∷ b ∷ p ∷ []) (phase_words x)) (answered_in at transfer_of z c d e f)
        where
          above : (n : ℕ) → (n ≡ 0 → ⊥) → (n ≡ 1 → ⊥) → (n ≡ 2 → ⊥) → (n ≡ 3 → ⊥) → (n ≡ 4 → ⊥) → (n ≡ 5 → ⊥) → 5 < n
          above n a b c d e f = omega arith

          dropped : (t : Bool) → t ≡ false → (x y : Bool) → (t && x) ≡ (t && y)
          dropped t e x y = rw e

      five : (t : Bool) → (at ≡ 1 → ⊥) → (at ≡ 2 → ⊥) → (at ≡ 3 → ⊥) → (at ≡ 4 → ⊥) → eqb at 5 ≡ t → (leb at 5 && ranges) ≡ phase_test at
      five true c d e f g = here 5 (eqb-true at 5 g) in_ranges
      five false c d e f g = past c d e f (eqb-false at 5 g)

      four : (t : Bool) → (at ≡ 1 → ⊥) → (at ≡ 2 → ⊥) → (at ≡ 3 → ⊥) → eqb at 4 ≡ t → (leb at 5 && ranges) ≡ phase_test at
      four true c d e f = here 4 (eqb-true at 4 f) in_ranges
      four false c d e f = five (eqb at 5) c d e (eqb-false at 4 f) refl

      three : (t : Bool) → (at ≡ 1 → ⊥) → (at ≡ 2 → ⊥) → eqb at 3 ≡ t → (leb at 5 && ranges) ≡ phase_test at
      three true c d e = here 3 (eqb-true at 3 e) in_ranges
      three false c d e = four (eqb at 4) c d (eqb-false at 3 e) refl

      two : (t : Bool) → (at ≡ 1 → ⊥) → eqb at 2 ≡ t → (leb at 5 && ranges) ≡ phase_test at
      two true c d = here 2 (eqb-true at 2 d) in_ranges
      two false c d = three (eqb at 3) c (eqb-false at 2 d) refl

      one : (t : Bool) → eqb at 1 ≡ t → (leb at 5 && ranges) ≡ phase_test at
      one true c = here 1 (eqb-true at 1 c) in_ranges
      one false c = two (eqb at 2) (eqb-false at 1 c) refl

-- ── All words ─────────────────────────────────────────────────────────────────────────────────────────────────
-- n words of a list from a place on, one by one
abbrev from : ℕ → ℕ → List ℕ → List ℕ
from zero i ws = []
from (suc n) i ws = get_or ws i 0 ∷ from n (suc i) ws

from_is : (n i : ℕ) (ws : List ℕ) → i + n ≡ length ws → from n i ws ≡ drop i ws
from_is zero i ws e = sym (drop_of_length-le ws {i = i} (omega (arith, e)))
from_is (suc n) i ws e = ap (λ (l : List ℕ). get_or ws i 0 ∷ l) (from_is n (suc i) ws (omega (arith, e))) ∙ sym (drop-cons ws i 0 (omega (arith, e)))

reorder : (a b c d e f g h i j k l p : Bool) → ((a && (b && (c && (d && (e && (g && (h && (l && true)))))))) && (f && (i && (j && (k && true)))) && p) ≡ (a && (b && (c && (d && (e && (f && (g && (h && (i && (j && (k && (l && p))))))))))))
reorder a b c d e f g h i j k l p = simp (and_assoc, and-true, swap f g, swap f h, swap f l, swap i l, swap j l, swap k l) refl

module _ (ws : List ℕ) where
  abbrev w : ℕ → ℕ
  w i = get_or ws i 0

  abbrev byte : ℕ → Bool
  byte i = eqb (w i) (w i % 256)

  abbrev bit : ℕ → Bool
  bit i = eqb (w i) (word_if (eqb (w i) 1) 1)

  -- the tests of the fields: of bytes, of bits, and of the phase
  abbrev pub field_tests : Bool
  field_tests =
      list_all (λ x. leb x 255) (w 20 ∷ w 22 ∷ w 23 ∷ w 24 ∷ w 25 ∷ w 27 ∷ w 28 ∷ w 32 ∷ [])
      && list_all (λ x. leb x 1) (w 26 ∷ w 29 ∷ w 30 ∷ w 31 ∷ [])
      && phase_test (w 37) (w 38) (w 39) (w 40) (w 41) (w 42) (w 36)

  -- in the order of their words
  abbrev in_order : Bool
  in_order =
      byte 20 && (byte 22 && (byte 23 && (byte 24 && (byte 25 && (bit 26 && (byte 27 && (byte 28 && (bit 29 && (bit 30 && (bit 31 && (byte 32
      && phase_test (w 37) (w 38) (w 39) (w 40) (w 41) (w 42) (w 36))))))))))))

  ordered : field_tests ≡ in_order
  ordered = simp (byte_test, bit_test) (reorder (byte 20) (byte 22) (byte 23) (byte 24) (byte 25) (bit 26) (byte 27) (byte 28) (bit 29) (bit 30) (bit 31) (byte 32) _)

  pub encoded_by_fields : length ws ≡ 43 → field_tests ≡ encoded ws
  unfolding encoded
  encoded_by_fields n =
      ordered
      ∙ sym (simp itself refl)
      ∙ ap (λ (l : List ℕ). same l (image_of (state_in ws) (heads_in ws))) (from_is 43 0 ws (sym n))
