-- What a replay of any file does: the calls of its records, up to the first wrong one, one by one; and what it tells on a bank that is not
-- well formed.
use Rattle.std.specs.Prelude.{ℕ, ◌≡◌, false, cond, List, eqb, length}
use Rattle.number.specs.Names as number
use Rattle.bank.specs.Formed.{well_formed}
use Rattle.model.specs.declared.Call.{Call}
use Rattle.model.specs.Rings.{Controller}
use Rattle.letters.specs.Named.{Parsed}
use Rattle.trace_model.specs.Format.{look_number, section}
use Rattle.record_model.specs.Record.{whole_records}
use Rattle.record_model.specs.Writer.{named_from}
use Rattle.record_model.specs.Done.{calls_before, any_wrong}
use Rattle.playback_model.specs.declared.Report.{Report}
use Rattle.playback_model.specs.Replay.{replay_of}
use Rattle.playback_model.specs.Laws.{made}

-- what the records name that a replay may look at: at most `limit` of them, and none of a file that is refused, whose section is empty
unfoldable pub wanted : List ℕ → ℕ → ℕ → List Parsed
wanted file i limit = let bytes = section file i in named_from (whole_records limit bytes) bytes 0

-- the calls that it makes
abbrev pub done_in : List ℕ → ℕ → ℕ → List Call
done_in file i limit = calls_before (wanted file i limit)

-- its number: 24, 25 and 26 first, then 27 where a wrong record is met
abbrev pub number_in : List ℕ → ℕ → ℕ → ℕ
number_in file i limit = let n = look_number file i in cond (eqb n 0) (cond (any_wrong (wanted file i limit)) number.wrong_record 0) n

-- `replay.calls`, `replay.tells`, of any bytes, and on any bank
unfoldable pub EveryReplay : Type 0
EveryReplay = (file : List ℕ) (i limit : ℕ) (l : Controller) → replay_of file i limit l ≡ made (number_in file i limit) (done_in file i limit) l

-- what is told where every record that is done is answered 21
abbrev pub all21 : List ℕ → ℕ → ℕ → Report
all21 file i limit =
    let n = length (done_in file i limit) in
    record { number = number_in file i limit; count = n; answer = record { value = 0; number = cond (eqb n 0) 0 number.not_well_formed } }

-- on a bank that is not well formed no record changes anything, and each that is looked at counts as done (`answer.bank`)
unfoldable pub IllFormedReplay : Type 0
IllFormedReplay = (file : List ℕ) (i limit : ℕ) (l : Controller) → well_formed l.bank ≡ false → replay_of file i limit l ≡ record { told = all21 file i limit; left = l }
