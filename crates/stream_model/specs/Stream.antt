-- Replay of a trace that comes in pieces, 02 §1: `replay.program`, `replay.ends`, `replay.length`. A piece is fed behind those bytes of the
-- one before it that were not used.
use Rattle.std.specs.Prelude.{ℕ, ◌+◌, ◌-◌, ◌*◌, Bool, true, false, cond, ◌&&◌, List, [], ◌++◌, eqb, ltb, length, drop}
use Rattle.number.specs.Names as number
use Rattle.number.specs.Refusals.{number_of}
use Rattle.model.specs.declared.Call.{Call}
use Rattle.model.specs.Engine.{step}
use Rattle.model.specs.Rings.{Controller, rings}
use Rattle.print.specs.Line.{line_of}
use Rattle.trace_model.specs.declared.Head.{Head}
use Rattle.trace_model.specs.declared.Head.TheVariants.{More, Wrong, Right}
use Rattle.trace_model.specs.Head.{head_of, cut_head}
use Rattle.record_model.specs.Record.{each_record, whole_records}
use Rattle.stream_model.specs.declared.Stage.{Stage}
use Rattle.stream_model.specs.declared.Stage.TheVariants.{Opening, Records, Over}

-- ── Records, a line for each ──────────────────────────────────────────────────────────────────────────────────
-- the controller after some records, what was printed, and whether a wrong one was met
pub record RecordsPrinted : Type 0 where
  pub left : Controller
  pub text : List ℕ
  pub wrong : Bool

abbrev pub records_printed : Controller → List ℕ → Bool → RecordsPrinted
records_printed l t w = record { left = l; text = t; wrong = w }

-- `replay.program`: the call of a record is made, and its line is printed as in a session
abbrev pub said : Call → RecordsPrinted → RecordsPrinted
said k p = let s = step rings p.left k in records_printed s.next (p.text ++ line_of s.answer.value s.answer.number) false

-- a wrong record is met
abbrev pub met : RecordsPrinted → RecordsPrinted
met p = records_printed p.left p.text true

-- the first n records
abbrev pub lines : ℕ → List ℕ → Controller → RecordsPrinted
lines n bytes l = each_record said met n bytes 0 (records_printed l [] false)

-- ── A piece ───────────────────────────────────────────────────────────────────────────────────────────────────
-- what a piece leaves: the controller, what is to come, how many of the bytes were used, and what was printed
pub record Stream : Type 0 where
  pub left : Controller
  pub stage : Stage
  pub used : ℕ
  pub text : List ℕ

abbrev pub stream : Controller → Stage → ℕ → List ℕ → Stream
stream l s u t = record { left = l; stage = s; used = u; text = t }

-- `replay.ends`: one line more, and the replay is over
abbrev pub over : Controller → List ℕ → List ℕ → ℕ → Stream
over l bytes text number = stream l Over (length bytes) (text ++ line_of 0 number)

-- the whole records of a piece: 27 at a wrong one; 25 where bytes follow the last that the table has
abbrev pub records_of : Controller → ℕ → List ℕ → Stream
records_of l to-come bytes =
    let n = whole_records to-come bytes in
    let p = lines n bytes l in
    cond p.wrong (over p.left bytes p.text number.wrong_record)
    (cond (eqb n to-come && ltb (12 * n) (length bytes)) (over p.left bytes p.text number.wrong_table)
    (stream p.left (Records (to-come - n)) (12 * n) p.text))

-- the first piece, by what its first bytes tell
abbrev pub opened_by : Controller → List ℕ → Head → Stream
opened_by l bytes More = stream l Opening 0 []
opened_by l bytes (Wrong why) = over l bytes [] (number_of why)
opened_by l bytes (Right n records) = let s = records_of l records (drop n bytes) in stream s.left s.stage (n + s.used) s.text

-- what a piece does at a stage; once over, nothing
unfoldable pub stream_fed : Controller → Stage → List ℕ → Stream
stream_fed l Opening bytes = opened_by l bytes (head_of bytes)
stream_fed l (Records to-come) bytes = records_of l to-come bytes
stream_fed l Over bytes = stream l Over (length bytes) []

abbrev pub is_over : Stage → Bool
is_over Opening = false
is_over (Records k) = false
is_over Over = true

-- ── The end of the input ──────────────────────────────────────────────────────────────────────────────────────
-- the number of an input that ends with n bytes not used: 24 in the mark, 25 in the table or before the last record; 0 where all was there
unfoldable pub end_number : Stage → ℕ → ℕ
end_number Opening n = cut_head n
end_number (Records k) n = cond (eqb k 0) 0 number.wrong_table
end_number Over n = 0

abbrev pub end_text : Stage → ℕ → List ℕ
end_text s n = cond (eqb (end_number s n) 0) [] (line_of 0 (end_number s n))

-- what is printed for a whole input
abbrev pub transcript : Controller → List ℕ → List ℕ
transcript l bytes = let s = stream_fed l Opening bytes in s.text ++ end_text s.stage (length bytes - s.used)
