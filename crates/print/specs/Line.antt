-- An answer as text: 01, 'A session'.
use Rattle.std.specs.Prelude.{ℕ, zero, suc, ◌+◌, ◌/◌, ◌%◌, ◌^◌, cond, List, [], ◌∷◌, ◌++◌, ltb}

-- the ASCII code of a digit below 16: 0 to 9, then a to f
abbrev pub glyph : ℕ → ℕ
glyph d = cond (ltb d 10) (0x30 + d) (0x57 + d)

-- the last k digits of n in a base, the most significant first
abbrev pub digits : ℕ → ℕ → ℕ → List ℕ
digits base zero n = []
digits base (suc k) n = glyph (n / base ^ k % base) ∷ digits base k n

-- the line of an answer (`session.answers`): value, blank, number, newline. Every number of the model has two digits at most; of a greater
-- one the last two are here.
abbrev pub line_of : ℕ → ℕ → List ℕ
line_of value number = digits 16 8 value ++ (0x20 ∷ digits 10 2 number ++ (0x0a ∷ []))
