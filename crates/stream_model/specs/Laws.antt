-- Laws of a trace in pieces, as statements: how it is cut does not matter, and what is printed by the file's fault. proofs/ has a proof of
-- each.
use Rattle.std.specs.Prelude.{ℕ, ◌+◌, ◌≤◌, ◌≡◌, Bool, true, false, cond, ◌&&◌, leb, length, drop}
use mathlib.Core.List.{List, [], ◌∷◌, ◌++◌, foldl, flatten}
use Rattle.number.specs.Names as number
use Rattle.model.specs.declared.Call.{Call}
use Rattle.model.specs.Rings.{Controller}
use Rattle.print.specs.Line.{line_of}
use Rattle.trace_model.specs.Format.{sections, records, section_place, starts_right, fault}
use Rattle.trace_model.specs.Head.{head_length}
use Rattle.record_model.specs.Record.{whole_records}
use Rattle.record_model.specs.Writer.{trace_of, every_writable}
use Rattle.stream_model.specs.declared.Stage.{Stage}
use Rattle.stream_model.specs.declared.Stage.TheVariants.{Opening}
use Rattle.stream_model.specs.Stream.{records_printed, said, lines, Stream, stream, stream_fed, end_text, transcript}

-- what two pieces did, the one after the other
abbrev pub after_piece : Stream → Stream → Stream
after_piece s t = stream t.left t.stage (s.used + t.used) (s.text ++ t.text)

-- `replay.pieces`, of two pieces: the second, behind what the first did not use, leaves and prints with it what both at once do
unfoldable pub CutAnywhere : Type 0
CutAnywhere = (l : Controller) (s : Stage) (a b : List ℕ)
    → (let y = stream_fed l s a in after_piece y (stream_fed y.left y.stage (drop y.used a ++ b))) ≡ stream_fed l s (a ++ b)

-- what is printed for pieces one after another, each behind the bytes that those before did not use, and then the end
unfoldable pub fed_pieces : Controller → Stage → List ℕ → List (List ℕ) → List ℕ
fed_pieces l s held [] = end_text s (length held)
fed_pieces l s held (p ∷ ps) = let y = stream_fed l s (held ++ p) in y.text ++ fed_pieces y.left y.stage (drop y.used (held ++ p)) ps

-- `replay.pieces`, of any number of pieces, the end of the input included
unfoldable pub AnyPieces : Type 0
AnyPieces = (l : Controller) (ps : List (List ℕ)) → fed_pieces l Opening [] ps ≡ transcript l (flatten ps)

-- a file without a fault: the lines of its records, and 27 where one is wrong (`replay.program`, `replay.ends`)
unfoldable pub SoundIsPrinted : Type 0
SoundIsPrinted = (l : Controller) (file : List ℕ) → fault file ≡ 0
    → (let p = lines (records file (sections file)) (drop (head_length file) file) l in transcript l file ≡ p.text ++ cond p.wrong (line_of 0 number.wrong_record) [])

-- `replay.ends`: 24 is the one line of a file whose mark is wrong or cut
unfoldable pub MarkIsTold : Type 0
MarkIsTold = (l : Controller) (file : List ℕ) → fault file ≡ number.wrong_mark → transcript l file ≡ line_of 0 number.wrong_mark

-- a table that is whole and right and asks for 16 MiB at most: the length of the file may still be another
unfoldable pub table_sound : List ℕ → Bool
table_sound file =
    let n = sections file in
    leb 6 (length file) && leb 1 n && leb n 64 && leb (head_length file) (length file) && starts_right file n && leb (section_place file n) 0x1000000

-- `replay.length`: 25 is the one line where the table is wrong or its counts come to more than 16 MiB
unfoldable pub TableIsTold : Type 0
TableIsTold = (l : Controller) (file : List ℕ) → fault file ≡ number.wrong_table → table_sound file ≡ false → transcript l file ≡ line_of 0 number.wrong_table

-- `replay.length`: any other 25 is a wrong length, told behind the lines of the whole records that are there, up to the table's total;
-- where one of them is wrong it is 27 and not 25
unfoldable pub LengthIsTold : Type 0
LengthIsTold = (l : Controller) (file : List ℕ) → fault file ≡ number.wrong_table → table_sound file ≡ true
    → (let bytes = drop (head_length file) file in
    let p = lines (whole_records (records file (sections file)) bytes) bytes l in
    (section_place file (sections file) ≡ length file → ⊥) × (transcript l file ≡ p.text ++ line_of 0 (cond p.wrong number.wrong_record number.wrong_table)))

-- the lines of some calls, made one after another
abbrev pub spoken : List Call → Controller → List ℕ
spoken ks l = (foldl (λ p k. said k p) (records_printed l [] false) ks).text

-- `replay.program`, `trace.written`: for a written trace the lines of all its calls, section by section, and nothing else
unfoldable pub WrittenIsPrinted : Type 0
WrittenIsPrinted = (ss : List (List Call)) (l : Controller) → 1 ≤ length ss → length ss ≤ 64 → length (trace_of ss) ≤ 0x1000000 → every_writable ss ≡ true
    → transcript l (trace_of ss) ≡ spoken (flatten ss) l
