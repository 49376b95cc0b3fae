-- `trace.form`, and what asking for a section gives: 02 §1. A file is a list of bytes; sums are unbounded.
use Rattle.std.specs.Prelude.{ℕ, zero, suc, ◌+◌, ◌*◌, Bool, true, false, cond, ◌&&◌, List, [], ◌∷◌, eqb, ltb, leb, length, take, drop}
use Rattle.number.specs.Names as number
use Rattle.little_endian.specs.Numbers.{two_at, four_at}

-- the mark, I3TR in ASCII
abbrev pub mark : List ℕ
mark = 0x49 ∷ 0x33 ∷ 0x54 ∷ 0x52 ∷ []

-- the first list is the beginning of the second
abbrev pub begins_with : List ℕ → List ℕ → Bool
begins_with [] file = true
begins_with (m ∷ ms) [] = false
begins_with (m ∷ ms) (b ∷ file) = eqb b m && begins_with ms file

-- the count of sections, behind the mark
abbrev pub sections : List ℕ → ℕ
sections file = two_at file 4

-- of section i, counted from 0: its start, and its count of records
abbrev pub start_at : List ℕ → ℕ → ℕ
start_at file i = four_at file (6 + 8 * i)

abbrev pub count_at : List ℕ → ℕ → ℕ
count_at file i = four_at file (10 + 8 * i)

-- the records of the first i sections
unfoldable pub records : List ℕ → ℕ → ℕ
records file zero = 0
records file (suc i) = records file i + count_at file i

-- where section i has to begin and, past the last, where the file has to end: mark and table, then 12 bytes for each record before it
abbrev pub section_place : List ℕ → ℕ → ℕ
section_place file i = 6 + 8 * sections file + 12 * records file i

-- the first i starts are at those places
unfoldable pub starts_right : List ℕ → ℕ → Bool
starts_right file zero = true
starts_right file (suc i) = starts_right file i && eqb (start_at file i) (section_place file i)

-- 25 of `trace.refused`: the count of sections is there and in range, the table is whole, each start is where it has to be, and the file
-- ends where the counts say and has 16 MiB at most
unfoldable pub table_right : List ℕ → Bool
table_right file =
    leb 6 (length file)
    && leb 1 (sections file)
    && leb (sections file) 64
    && leb (6 + 8 * sections file) (length file)
    && starts_right file (sections file)
    && eqb (section_place file (sections file)) (length file)
    && leb (length file) 0x1000000

-- `trace.refused`, of the file as a whole: 24 for the mark, then 25
unfoldable pub fault : List ℕ → ℕ
fault file = cond (begins_with mark file) (cond (table_right file) 0 number.wrong_table) number.wrong_mark

-- `trace.refused`: 24 and 25, then 26
unfoldable pub look_number : List ℕ → ℕ → ℕ
look_number file i = cond (eqb (fault file) 0) (cond (ltb i (sections file)) 0 number.no_such_section) (fault file)

-- `trace.section`: the place in the file where the section begins, and its bytes
unfoldable pub section_start : List ℕ → ℕ → ℕ
section_start file i = cond (eqb (look_number file i) 0) (start_at file i) 0

unfoldable pub section : List ℕ → ℕ → List ℕ
section file i = cond (eqb (look_number file i) 0) (take (12 * count_at file i) (drop (start_at file i) file)) []
