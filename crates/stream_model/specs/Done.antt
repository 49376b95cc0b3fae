-- Which calls the program makes of an input, whatever its bytes, what it prints for them, and of what they left demand 3 and where every data
-- word went.
use Rattle.std.specs.Prelude.{ℕ, ◌≡◌, cond, ◌&&◌, List, [], ◌++◌, eqb, length, drop}
use Rattle.std.proofs.Math.Option.{none, some}
use Rattle.number.specs.Names as number
use Rattle.bank.specs.Fives.{Sizes}
use Rattle.bank.specs.SetUp.{set_up}
use Rattle.model.specs.declared.Call.{Call}
use Rattle.model.specs.Engine.{lending}
use Rattle.model.specs.Rings.{Controller, rings}
use Rattle.model.specs.Laws.{fresh_controller}
use Rattle.model.specs.Demand.{Tally, tally}
use Rattle.data_model.specs.Ledger.{Ledger, ledger}
use Rattle.data_model.specs.Account.{KeepsData}
use Rattle.print.specs.Line.{line_of}
use Rattle.letters.specs.Named.{Parsed}
use Rattle.trace_model.specs.Format.{mark, begins_with, sections, records, section_place}
use Rattle.trace_model.specs.Head.{head_length}
use Rattle.record_model.specs.Record.{whole_records}
use Rattle.record_model.specs.Writer.{named_from}
use Rattle.record_model.specs.Done.{calls_before, any_wrong}
use Rattle.playback_model.specs.Demand.{KeepsDemand}
use Rattle.stream_model.specs.declared.Stage.TheVariants.{Opening}
use Rattle.stream_model.specs.Stream.{stream_fed, transcript}
use Rattle.stream_model.specs.Laws.{table_sound, spoken}

-- what the records name that it may look at: behind a sound table, the whole ones that are there, up to the table's total
unfoldable pub read_in : List ℕ → List Parsed
read_in file =
    let bytes = drop (head_length file) file in
    cond (begins_with mark file && table_sound file) (named_from (whole_records (records file (sections file)) bytes) bytes 0) []

-- the calls that it makes
abbrev pub said_in : List ℕ → List Call
said_in file = calls_before (read_in file)

-- the line behind theirs: 24, then 25 for the table, then 27, then 25 for the length; none where all is right
unfoldable pub last_line : List ℕ → List ℕ
last_line file =
    cond (begins_with mark file)
    (cond (table_sound file)
    (cond (any_wrong (read_in file)) (line_of 0 number.wrong_record) (cond (eqb (section_place file (sections file)) (length file)) [] (line_of 0 number.wrong_table)))
    (line_of 0 number.wrong_table))
    (line_of 0 number.wrong_mark)

-- `replay.program`, `replay.ends`, `replay.length`, of every input: a line for each of these calls, made one after another, and the last
-- line
unfoldable pub EveryInput : Type 0
EveryInput = (l : Controller) (file : List ℕ) → transcript l file ≡ spoken (said_in file) l ++ last_line file

-- `demand.replays`, of every input on a fresh bank: these calls are counted with their answers
unfoldable pub ProgramKeepsDemand : Type 0
ProgramKeepsDemand =
    (file : List ℕ) (caps marks : Sizes) (id : ℕ) (store : List ℕ) (t : Tally) → (set_up caps marks id).answer.number ≡ 0
    → let l = fresh_controller caps marks id store in
    tally rings none l (lending [] (said_in file)) ≡ some t → KeepsDemand t (stream_fed l Opening file).left

-- `data.replays`: likewise their ledger
unfoldable pub ProgramKeepsData : Type 0
ProgramKeepsData =
    (file : List ℕ) (caps marks : Sizes) (id : ℕ) (store : List ℕ) (x : Ledger) → (set_up caps marks id).answer.number ≡ 0
    → let l = fresh_controller caps marks id store in
    ledger rings none l (lending [] (said_in file)) ≡ some x → KeepsData x (stream_fed l Opening file).left
