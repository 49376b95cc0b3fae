-- The automaton reads the grammar: for every list of bytes, the call that it names is the call of the line.
use Prim.Native.Nat.{ℕ, suc, ◌+◌, ◌-◌, ◌*◌, ◌^◌, ◌≤◌, ◌<◌}
use native.Mathlib.Omega.{arith}
use native.Mathlib.Nat.{mod-eq_of_lt, pow-suc, pow-le-pow_right}
use mathlib.Core.Path.{◌≡◌, refl, sym, ap, subst, ◌∙◌}
use mathlib.Core.Bool.{Bool, true, false, cond, not, ◌&&◌}
use mathlib.Core.List.{List, [], ◌∷◌, foldl}
use Rattle.std.specs.Prelude.{Option, None, Some}
use lib.Dec.{eqb, ltb, leb}
use lib.ListN.{length, get_or, drop}
use borrow.Author.Tests.{lt-ltb, le-ltb, le-leb, lt-leb, ltb-true, ltb-false, leb-true, leb-false, eqb-true, eqb-false, ne_eqb}
use Rattle.model.specs.declared.Call.{Call}
use Rattle.model.specs.declared.Call.TheVariants.{Read, Write, Start, Send, Receive, Finish, Interrupt, Request, Take}
use Rattle.lines.specs.declared.Reading.{Reading}
use Rattle.letters.specs.Named.{Parsed}
use Rattle.letters.specs.Forms.{Form, forms, form_with, form_of}
use Rattle.letters.specs.Named.{low_digits, named_by}
use Rattle.lines.specs.Lines.{hex_of, all_hex, is_field, value_of, before, behind, field, none_left, by_fields, by_letter, line_names}
use Rattle.lines.specs.Automaton.{reading_with, skipped, digits_of, letter_read, eat_of, reading_of, call_read}
use Rattle.lines.proofs.Choices.{chosen, passed, split, both}

-- ── Digits ────────────────────────────────────────────────────────────────────────────────────────────────────
-- whether bytes go on with a field that may take so many digits more; a bare one has no digit yet
abbrev goes_on : ℕ → Bool → List ℕ → Bool
goes_on room bare [] = not bare
goes_on room bare (b ∷ bytes) = ltb (hex_of b) 16 && (ltb 0 room && goes_on (room - 1) false bytes)

one_less : (n room : ℕ) → (ltb 0 room && leb n (room - 1)) ≡ leb (suc n) room
one_less n room =
    split (leb (suc n) room)
    (λ t. let h : suc n ≤ room = leb-true (suc n) room t in rw (t, lt-ltb 0 room (omega arith), le-leb n (room - 1) (omega arith)))
    (λ t.
    let h : room < suc n = leb-false (suc n) room t in
    split (ltb 0 room)
    (λ z. let g : 0 < room = ltb-true 0 room z in rw (t, z, lt-leb n (room - 1) (omega arith)))
    (λ z. rw (t, z)))

moved : (h z a x : Bool) → (h && (z && (a && x))) ≡ ((z && a) && (h && x))
moved true true a x = refl
moved true false a x = refl
moved false true true x = refl
moved false true false x = refl
moved false false a x = refl

goes_on_lem : (room : ℕ) (bytes : List ℕ) → goes_on room false bytes ≡ (leb (length bytes) room && all_hex bytes)
unfolding all_hex
goes_on_lem room [] = rw (le-leb 0 room (omega arith))
goes_on_lem room (b ∷ bytes) =
    let n = length bytes in
    ap (λ (x : Bool). ltb (hex_of b) 16 && (ltb 0 room && x)) (goes_on_lem (room - 1) bytes)
    ∙ moved (ltb (hex_of b) 16) (ltb 0 room) (leb n (room - 1)) (all_hex bytes)
    ∙ ap (λ (x : Bool). x && (ltb (hex_of b) 16 && all_hex bytes)) (one_less n room)

begins : (d : ℕ) (bytes : List ℕ) → goes_on d true bytes ≡ is_field d bytes
begins d [] = refl
begins d (b ∷ bytes) = goes_on_lem d (b ∷ bytes) ∙ rw (lt-ltb 0 (suc (length bytes)) (omega arith))

abbrev value_from : ℕ → List ℕ → ℕ
value_from v bytes = foldl (λ v b. v * 16 + hex_of b) v bytes

-- a number of k digits and one more are a number of k + 1 digits
grown : (v x k : ℕ) → v < 16 ^ k → x < 16 → v * 16 + x < 16 ^ suc k
grown v x k h i = subst (λ (n : ℕ). v * 16 + x < n) (sym (pow-suc 16 k)) (grow v x (16 ^ k) h i)
  where
    grow : (v x p : ℕ) → v < p → x < 16 → v * 16 + x < p * 16
    grow v x p h k = omega arith

-- the value of so many digits
value_below : (v k : ℕ) (bytes : List ℕ) → all_hex bytes ≡ true → v < 16 ^ k → value_from v bytes < 16 ^ (k + length bytes)
unfolding all_hex
value_below v k [] h s = subst (λ (m : ℕ). v < 16 ^ m) (let e : k ≡ k + 0 = omega arith in e) s
value_below v k (b ∷ bytes) h s =
    let a = both (ltb (hex_of b) 16) (all_hex bytes) h in
    subst (λ (m : ℕ). value_from (v * 16 + hex_of b) bytes < 16 ^ m) (let e : suc k + length bytes ≡ k + suc (length bytes) = omega arith in e) (value_below (v * 16 + hex_of b) (suc k) bytes a.1 (grown v (hex_of b) k s (ltb-true (hex_of b) 16 a.0)))

below : (d : ℕ) (bytes : List ℕ) → is_field d bytes ≡ true → value_of bytes < 16 ^ d
below d bytes e =
    let a = both (ltb 0 (length bytes)) (leb (length bytes) d && all_hex bytes) e in
    let b = both (leb (length bytes) d) (all_hex bytes) a.1 in
    least (value_of bytes) (16 ^ length bytes) (16 ^ d) (subst (λ (m : ℕ). value_of bytes < 16 ^ m) (let e : 0 + length bytes ≡ length bytes = omega arith in e) (value_below 0 0 bytes b.1 (omega arith))) (pow-le-pow_right (omega arith) (leb-true (length bytes) d b.0))
  where
    least : (a b c : ℕ) → a < b → b ≤ c → a < c
    least a b c h k = omega arith

-- ── Behind the letter ─────────────────────────────────────────────────────────────────────────────────────────
-- a skipped line stays skipped
stays : (bytes : List ℕ) → foldl eat_of skipped bytes ≡ skipped
stays [] = refl
stays (b ∷ bytes) = ap (λ (x : Reading). foldl eat_of x bytes) (either (eqb b 0x20) (ltb 15 (hex_of b)) skipped) ∙ stays bytes
  where
    either : (p q : Bool) (r : Reading) → cond p r (cond q r r) ≡ r
    either true q r = refl
    either false true r = refl
    either false false r = refl

lost : (r : Reading) (bytes : List ℕ) → r ≡ skipped → call_read (foldl eat_of r bytes) ≡ None
unfolding forms form_with
lost r bytes e = ap (λ (x : Reading). call_read (foldl eat_of x bytes)) e ∙ ap call_read (stays bytes)

-- what is named once a field ends: `first` and `v` are the last two values, n and m the digits of the fields to come, K the call by the last two values
unfoldable rest : (ℕ → ℕ → Parsed) → ℕ → ℕ → ℕ → ℕ → List (List ℕ) → Parsed
rest K n m first v [] = cond (eqb n 0) (K first v) None
rest K n m first v (part ∷ parts) = cond (eqb n 0) None (cond (is_field n part) (rest K m 0 v (value_of part) parts) None)

-- and with a field at hand
abbrev hand : (ℕ → ℕ → Parsed) → ℕ → ℕ → ℕ → Bool → ℕ → ℕ → List ℕ → List (List ℕ) → Parsed
hand K room n m bare first v part parts = cond (goes_on room bare part) (rest K n m first (value_from v part) parts) None

turned : (b : Bool) (x y : Parsed) → cond b y x ≡ cond (not b) x y
turned true x y = refl
turned false x y = refl

reads : (l room n m : ℕ) (bare : Bool) (first v k : ℕ) (bytes : List ℕ) → eqb l 0 ≡ false → n ≤ 8 → m ≤ 8 → v < 16 ^ k → k + room ≤ 8
    → call_read (foldl eat_of (reading_with l room n m bare first v) bytes) ≡ hand (named_by (form_of l)) room n m bare first v (before 0x20 bytes) (behind 0x20 bytes)
unfolding before behind rest
reads l room n m bare first v k [] q hn hm s t = turned bare (cond (eqb n 0) (named_by (form_of l) first v) None) None
reads l room n m bare first v k (b ∷ bytes) q hn hm s t =
    let K = named_by (form_of l) in
    let r = reading_with l room n m bare first v in
    let part = before 0x20 bytes in
    let parts = behind 0x20 bytes in
    split (eqb b 0x20)
    (λ e. split bare (λ f. lost (eat_of r b) bytes (rw (q, e, f)) ∙ rw (e, f))
    (λ f. split (eqb n 0) (λ z. lost (eat_of r b) bytes (rw (q, e, f, z)) ∙ rw (e, f, z))
    (λ z.
    let step : eat_of r b ≡ reading_with l n m 0 true v 0 = rw (q, e, f, z) in
    ap (λ (x : Reading). call_read (foldl eat_of x bytes)) step
    ∙ reads l n m 0 true v 0 0 bytes q hm (omega arith) (omega arith) (omega arith)
    ∙ ap (λ (x : Bool). cond x (rest K m 0 v (value_of part) parts) None) (begins n part)
    ∙ rw (e, f, z))))
    (λ e. split (ltb 15 (hex_of b))
    (λ f. let g : 15 < hex_of b = ltb-true 15 (hex_of b) f in lost (eat_of r b) bytes (rw (q, e, f)) ∙ rw (e, le-ltb (hex_of b) 16 (omega arith)))
    (λ f.
    let g : hex_of b ≤ 15 = ltb-false 15 (hex_of b) f in
    let small : ltb (hex_of b) 16 ≡ true = lt-ltb (hex_of b) 16 (omega arith) in
    split (eqb room 0)
    (λ z. let o : room ≡ 0 = eqb-true room 0 z in lost (eat_of r b) bytes (rw (q, e, f, z)) ∙ rw (e, small, le-ltb 0 room (omega arith)))
    (λ z.
    let o : room ≡ 0 → ⊥ = eqb-false room 0 z in
    let top : 16 ^ k ≤ 16 ^ 7 = let h : k ≤ 7 = omega arith in pow-le-pow_right (omega arith) h in
    let u : v < 0x10000000 = omega (arith, s, top) in
    let step : eat_of r b ≡ reading_with l (room - 1) n m false first (v * 16 + hex_of b) = rw (q, e, f, z, mod-eq_of_lt u) in
    ap (λ (x : Reading). call_read (foldl eat_of x bytes)) step
    ∙ reads l (room - 1) n m false first (v * 16 + hex_of b) (suc k) bytes q hn hm (grown v (hex_of b) k s (omega arith)) (omega arith)
    ∙ rw (e, small, lt-ltb 0 room (omega arith)))))

-- ── A row ─────────────────────────────────────────────────────────────────────────────────────────────────────
-- behind the last field, where the last is to come, and where two are; no remainder cuts a field's value
module _ (K : ℕ → ℕ → Parsed) where
  ends : (c : Call) (first v : ℕ) → K first v ≡ Some c → (parts : List (List ℕ)) → rest K 0 0 first v parts ≡ none_left c parts
  unfolding rest
  ends c first v e [] = e
  ends c first v e (part ∷ parts) = refl

  one_more : (g : ℕ → Call) (d first v : ℕ) → ((w : ℕ) → K v w ≡ Some (g (low_digits (suc d) w))) → (parts : List (List ℕ))
      → rest K (suc d) 0 first v parts ≡ field (suc d) parts (λ w parts₁. none_left (g w) parts₁)
  unfolding rest
  one_more g d first v h [] = rw (ne_eqb (suc d) 0 (λ e. omega (arith, e)))
  one_more g d first v h (part ∷ parts) =
      let w = value_of part in
      passed (eqb (suc d) 0) _ _ (ne_eqb (suc d) 0 (λ e. omega (arith, e)))
      ∙ split (is_field (suc d) part)
      (λ e. chosen _ _ _ e ∙ ends (g w) v w (h w ∙ ap (λ (n : ℕ). Some (g n)) (mod-eq_of_lt (below (suc d) part e))) parts ∙ sym (chosen _ _ _ e))
      (λ e. passed _ _ _ e ∙ sym (passed _ _ _ e))

  two_more : (g : ℕ → ℕ → Call) (d d' first v : ℕ) → ((w x : ℕ) → K w x ≡ Some (g (low_digits (suc d) w) (low_digits (suc d') x))) → (parts : List (List ℕ))
      → rest K (suc d) (suc d') first v parts ≡ field (suc d) parts (λ w parts₁. field (suc d') parts₁ (λ x parts₂. none_left (g w x) parts₂))
  unfolding rest
  two_more g d d' first v h [] = rw (ne_eqb (suc d) 0 (λ e. omega (arith, e)))
  two_more g d d' first v h (part ∷ parts) =
      let w = value_of part in
      passed (eqb (suc d) 0) _ _ (ne_eqb (suc d) 0 (λ e. omega (arith, e)))
      ∙ split (is_field (suc d) part)
      (λ e. chosen _ _ _ e ∙ one_more (g w) d' v w (λ x. h w x ∙ ap (λ (n : ℕ). Some (g n (low_digits (suc d') x))) (mod-eq_of_lt (below (suc d) part e))) parts ∙ sym (chosen _ _ _ e))
      (λ e. passed _ _ _ e ∙ sym (passed _ _ _ e))

abbrev next : Form → ℕ
next f = get_or (digits_of f.fields) 0 0

abbrev last : Form → ℕ
last f = get_or (digits_of f.fields) 1 0

-- a letter is a byte above the blank, and no field has more than eight digits
abbrev Bounded : Form → Type 0
Bounded f = (0x20 < f.letter) × (next f ≤ 8) × (last f ≤ 8)

-- behind its letter a row is read as its line says
abbrev IsRead : Form → Type 0
IsRead f = (parts : List (List ℕ)) → rest (named_by (Some f)) (next f) (last f) 0 0 parts ≡ by_fields (Some f) parts

abbrev All : (Form → Type 0) → List Form → Type 0
All P [] = Unit
All P (f ∷ fs) = P f × All P fs

all_bounded : All Bounded forms
unfolding forms
all_bounded = omega arith

last_read : All IsRead (drop 4 forms)
unfolding forms
last_read = (one_more _ Receive 1 0 0 (λ v. refl), (one_more _ Finish 1 0 0 (λ v. refl), (two_more _ Interrupt 1 1 0 0 (λ v w. refl), (two_more _ Request 7 7 0 0 (λ v w. refl), (ends _ Take 0 0 refl, tt)))))

all_read : All IsRead forms
unfolding forms
all_read = (two_more _ Write 3 7 0 0 (λ o v. refl), (one_more _ Read 3 0 0 (λ o. refl), (ends _ Start 0 0 refl, (ends _ Send 0 0 refl, last_read))))

-- ── A line ────────────────────────────────────────────────────────────────────────────────────────────────────
-- a letter, and what stands up to the first blank behind it
alone : (l : ℕ) (f : Form) → form_of l ≡ Some f → IsRead f → (part : List ℕ) (parts : List (List ℕ))
    → hand (named_by (Some f)) 0 (next f) (last f) false 0 0 part parts ≡ by_letter (l ∷ part) parts
alone l f e r [] parts = r parts ∙ ap (λ (o : Option Form). by_fields o parts) (sym e)
alone l f e r (b ∷ bytes) parts = split (ltb (hex_of b) 16) (λ t. rw t) (λ t. rw t)

module _ (l : ℕ) (bytes : List ℕ) where
  by_row : (f : Form) → l ≡ f.letter → form_of l ≡ Some f → Bounded f → IsRead f → call_read (foldl eat_of (letter_read (Some f)) bytes) ≡ line_names (l ∷ bytes)
  unfolding before behind
  by_row f g e h r =
      reads f.letter 0 (next f) (last f) false 0 0 0 bytes (ne_eqb f.letter 0 (λ z. omega (arith, z, h.0))) h.1 h.2 (omega arith) (omega arith)
      ∙ ap (λ (o : Option Form). hand (named_by o) 0 (next f) (last f) false 0 0 (before 0x20 bytes) (behind 0x20 bytes)) (ap form_of (sym g) ∙ e)
      ∙ alone l f e r (before 0x20 bytes) (behind 0x20 bytes)
      ∙ rw (ne_eqb l 0x20 (λ z. omega (arith, z, g, h.0)))

  -- a byte that is no letter
  no_row : form_of l ≡ None → call_read (foldl eat_of (letter_read None) bytes) ≡ line_names (l ∷ bytes)
  unfolding before behind
  no_row e =
      lost skipped bytes refl
      ∙ split (eqb l 0x20) (λ t. rw t)
      (λ t. sym (other (before 0x20 bytes) (behind 0x20 bytes)) ∙ rw t)
    where
      other : (part : List ℕ) (parts : List (List ℕ)) → by_letter (l ∷ part) parts ≡ None
      other [] parts = ap (λ (o : Option Form). by_fields o parts) e
      other (b ∷ part) parts = refl

  by_rows : (fs : List Form) → All Bounded fs → All IsRead fs → form_of l ≡ form_with l fs → call_read (foldl eat_of (letter_read (form_with l fs)) bytes) ≡ line_names (l ∷ bytes)
  unfolding form_with
  by_rows [] a r e = no_row e
  by_rows (f ∷ fs) a r e =
      split (eqb l f.letter)
      (λ t.
      let is : form_with l (f ∷ fs) ≡ Some f = chosen (eqb l f.letter) (Some f) (form_with l fs) t in
      ap (λ (o : Option Form). call_read (foldl eat_of (letter_read o) bytes)) is ∙ by_row f (eqb-true l f.letter t) (e ∙ is) a.0 r.0)
      (λ t.
      let is : form_with l (f ∷ fs) ≡ form_with l fs = passed (eqb l f.letter) (Some f) (form_with l fs) t in
      ap (λ (o : Option Form). call_read (foldl eat_of (letter_read o) bytes)) is ∙ by_rows fs a.1 r.1 (e ∙ is))

pub reads_the_grammar : (line : List ℕ) → call_read (reading_of line) ≡ line_names line
unfolding forms form_with before behind
reads_the_grammar [] = refl
reads_the_grammar (l ∷ bytes) = by_rows l bytes forms all_bounded all_read refl
