-- How the code reads a line: byte by byte, so that no line need be held and one of any length is read alike. proofs/Grammar.antt: this names what `line_names` says, for every line.
use Rattle.std.specs.Prelude.{ℕ, zero, suc, ◌+◌, ◌-◌, ◌*◌, ◌%◌, Bool, true, false, cond, eqb, ltb, get_or, Option, None, Some}
use mathlib.Core.List.{List, [], ◌∷◌, foldl}
use Rattle.lines.specs.declared.Reading.{Reading}
use Rattle.letters.specs.Named.{Parsed}
use Rattle.letters.specs.Forms.{Fields, offset_digits, Form, form_of}
use Rattle.letters.specs.Named.{named_by}
use Rattle.lines.specs.Lines.{hex_of}

abbrev pub reading_with : ℕ → ℕ → ℕ → ℕ → Bool → ℕ → ℕ → Reading
reading_with letter room next last bare first value =
    record { letter = letter; room = room; next = next; last = last; bare = bare; first = first; value = value }

-- a line before its first byte
abbrev pub unread : Reading
unread = reading_with 0 0 0 0 false 0 0

-- a line that names no call, whatever follows: 1 is no letter, and no field is to come
abbrev pub skipped : Reading
skipped = reading_with 1 0 0 0 false 0 0

-- the most digits of each field that a letter has, in their order
abbrev pub present : List ℕ → List ℕ
present [] = []
present (zero ∷ ds) = present ds
present (suc d ∷ ds) = suc d ∷ present ds

abbrev pub digits_of : Fields → List ℕ
digits_of fs = present (offset_digits fs ∷ fs.first ∷ fs.second ∷ [])

-- the first byte is the letter
abbrev pub letter_read : Option Form → Reading
letter_read None = skipped
letter_read (Some f) = let ds = digits_of f.fields in reading_with f.letter 0 (get_or ds 0 0) (get_or ds 1 0) false 0 0

-- a blank: the field at hand has a digit at least, and there is one more
abbrev pub spaced : Reading → Reading
spaced r = cond r.bare skipped (cond (eqb r.next 0) skipped (reading_with r.letter r.next r.last 0 true r.value 0))

-- one digit more of the field at hand. None has more than eight, so the remainder never cuts
abbrev pub extended : Reading → ℕ → Reading
extended r d =
    cond (ltb 15 d) skipped
    (cond (eqb r.room 0) skipped
    (reading_with r.letter (r.room - 1) r.next r.last false r.first (r.value % 0x10000000 * 16 + d)))

abbrev pub eat_of : Reading → ℕ → Reading
eat_of r b = cond (eqb r.letter 0) (letter_read (form_of b)) (cond (eqb b 0x20) (spaced r) (extended r (hex_of b)))

abbrev pub reading_of : List ℕ → Reading
reading_of = foldl eat_of unread

-- a line that ends here names a call if every field is there, with a digit at least
abbrev pub call_read : Reading → Parsed
call_read r = cond r.bare None (cond (eqb r.next 0) (named_by (form_of r.letter) r.first r.value) None)
