-- Replay of a section, 02 §1: `replay.calls`, `replay.tells`.
use Rattle.std.specs.Prelude.{ℕ, suc, cond, List, eqb}
use Rattle.number.specs.Names as number
use Rattle.bank.specs.declared.Answer.{Answer}
use Rattle.model.specs.declared.Call.{Call}
use Rattle.model.specs.Engine.{step}
use Rattle.model.specs.Rings.{Controller, rings}
use Rattle.trace_model.specs.Format.{look_number, section}
use Rattle.record_model.specs.Record.{each_record, whole_records}
use Rattle.playback_model.specs.declared.Report.{Report}

-- what a replay tells, and what its calls left
pub record Replay : Type 0 where
  pub told : Report
  pub left : Controller

abbrev pub telling : ℕ → ℕ → Answer → Controller → Replay
telling number count a l = record { told = record { number = number; count = count; answer = a }; left = l }

-- `replay.tells`: before the first record the last answer is 0 and 0
abbrev pub replay_begun : ℕ → Controller → Replay
replay_begun number l = telling number 0 (record { value = 0; number = 0 }) l

-- `replay.calls`: a record's call is made on what the one before it left; whatever its answer, it counts as done and the next follows
abbrev pub did : Call → Replay → Replay
did k r = let s = step rings r.left k in telling r.told.number (suc r.told.count) s.answer s.next

-- `replay.calls`: at a wrong record (`trace.wrong`) the number is 27, and what the records before it did stays
abbrev pub wrong : Replay → Replay
wrong r = telling number.wrong_record r.told.count r.told.answer r.left

-- the first records in some bytes, at most `limit` of them
abbrev pub played : ℕ → List ℕ → Controller → Replay
played limit bytes l = each_record did wrong (whole_records limit bytes) bytes 0 (replay_begun 0 l)

-- section i of a file, at most `limit` of its records; 24, 25 and 26 come first (`trace.refused`), and then no record is done
abbrev pub replay_of : List ℕ → ℕ → ℕ → Controller → Replay
replay_of file i limit l = cond (eqb (look_number file i) 0) (played limit (section file i) l) (replay_begun (look_number file i) l)
