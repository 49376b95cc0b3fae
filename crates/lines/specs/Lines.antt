-- What a line names (`session.lines`; L1 to L3): a letter, then each field that the letter has, with one blank before it and of one to so many hex digits as it may have; nothing else. What is no such line names no call.
use Rattle.std.specs.Prelude.{ℕ, zero, suc, ◌+◌, ◌-◌, ◌*◌, Bool, true, cond, ◌&&◌, eqb, ltb, leb, length, Option, None, Some}
use Prim.Native.Char.{code}
use mathlib.Core.List.{List, [], ◌∷◌, foldl}
use Rattle.model.specs.declared.Call.{Call}
use Rattle.letters.specs.Named.{Parsed}
use Rattle.letters.specs.Forms.{Form, form_of, offset_digits}

-- ── Digits ────────────────────────────────────────────────────────────────────────────────────────────────────
-- the value of a hex digit, of either case; 16 for a byte that is None
abbrev pub hex_of : ℕ → ℕ
hex_of b =
    cond (leb (code "0") b && leb b (code "9")) (b - code "0")
    (cond (leb (code "A") b && leb b (code "F")) (b - code "A" + 10)
    (cond (leb (code "a") b && leb b (code "f")) (b - code "a" + 10)
    16))

unfoldable pub all_hex : List ℕ → Bool
all_hex [] = true
all_hex (b ∷ bytes) = ltb (hex_of b) 16 && all_hex bytes

-- one to d hex digits
abbrev pub is_field : ℕ → List ℕ → Bool
is_field d bytes = ltb 0 (length bytes) && (leb (length bytes) d && all_hex bytes)

-- their value, the first the most significant
abbrev pub value_of : List ℕ → ℕ
value_of = foldl (λ v b. v * 16 + hex_of b) 0

-- ── Parts ─────────────────────────────────────────────────────────────────────────────────────────────────────
-- the bytes before the first byte x
unfoldable pub before : ℕ → List ℕ → List ℕ
before x [] = []
before x (b ∷ bytes) = cond (eqb b x) [] (b ∷ before x bytes)

-- behind each byte x the bytes up to the next one or to the end
unfoldable pub behind : ℕ → List ℕ → List (List ℕ)
behind x [] = []
behind x (b ∷ bytes) = let rest = behind x bytes in cond (eqb b x) (before x bytes ∷ rest) rest

-- ── A line ────────────────────────────────────────────────────────────────────────────────────────────────────
-- a field of at most d digits is the next part, and its value goes on with the parts behind it; one that the letter does not use is 0 and no part
abbrev pub field : ℕ → List (List ℕ) → (ℕ → List (List ℕ) → Parsed) → Parsed
field zero parts goes_on = goes_on 0 parts
field (suc d) [] goes_on = None
field (suc d) (part ∷ parts) goes_on = cond (is_field (suc d) part) (goes_on (value_of part) parts) None

-- no part is left
abbrev pub none_left : Call → List (List ℕ) → Parsed
none_left c [] = Some c
none_left c (part ∷ parts) = None

abbrev pub by_fields : Option Form → List (List ℕ) → Parsed
by_fields None parts = None
by_fields (Some f) parts =
    field (offset_digits f.fields) parts (λ o parts₁.
    field f.fields.first parts₁ (λ v parts₂.
    field f.fields.second parts₂ (λ w parts₃.
    none_left (f.call o v w) parts₃)))

-- a letter alone stands before the first blank
abbrev pub by_letter : List ℕ → List (List ℕ) → Parsed
by_letter [] parts = None
by_letter (l ∷ []) parts = by_fields (form_of l) parts
by_letter (l ∷ b ∷ bytes) parts = None

abbrev pub line_names : List ℕ → Parsed
line_names line = let blank = code " " in by_letter (before blank line) (behind blank line)
