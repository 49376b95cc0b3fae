-- What the first bytes of a trace tell a reader that has no more of it yet, 02 §1. Mark and table are those of Format.antt.
use Rattle.std.specs.Prelude.{ℕ, ◌+◌, ◌*◌, cond, ◌&&◌, List, ltb, leb, length}
use Rattle.number.specs.Names as number
use Rattle.number.specs.declared.Refusal.TheVariants.{WrongMark, WrongTable}
use Rattle.trace_model.specs.declared.Head.{Head}
use Rattle.trace_model.specs.declared.Head.TheVariants.{More, Wrong, Right}
use Rattle.trace_model.specs.Format.{mark, begins_with, sections, records, section_place, starts_right}

-- the length of mark and table; the records stand behind them
abbrev pub head_length : List ℕ → ℕ
head_length bytes = 6 + 8 * sections bytes

-- `replay.length`: 25 for starts that are wrong, and for counts that come to more than 16 MiB
abbrev pub table_told : List ℕ → Head
table_told bytes =
    let n = sections bytes in
    cond (starts_right bytes n && leb (section_place bytes n) 0x1000000) (Right (head_length bytes) (records bytes n)) (Wrong WrongTable)

-- 25 for a count of sections out of range
abbrev pub count_told : List ℕ → Head
count_told bytes =
    let n = sections bytes in
    cond (leb 1 n && leb n 64) (cond (ltb (length bytes) (head_length bytes)) More (table_told bytes)) (Wrong WrongTable)

-- 24 for the mark, once four bytes are there
abbrev pub head_of : List ℕ → Head
head_of bytes =
    cond (ltb (length bytes) 4) More
    (cond (begins_with mark bytes) (cond (ltb (length bytes) 6) More (count_told bytes)) (Wrong WrongMark))

-- the number of a file of n bytes that ends in its mark, or else in its table
abbrev pub cut_head : ℕ → ℕ
cut_head n = cond (ltb n 4) number.wrong_mark number.wrong_table
