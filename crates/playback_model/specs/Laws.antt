-- Laws of a replay, as statements: it makes the calls of its records one by one. proofs/ has a proof of each.
use Rattle.std.specs.Prelude.{ℕ, ◌<◌, ◌≤◌, ◌≡◌, Bool, true, false, leb, length, take, Some, None}
use mathlib.Core.List.{List, [], ◌∷◌, map, foldl}
use Rattle.number.specs.Names as number
use Rattle.bank.specs.declared.Answer.{Answer}
use Rattle.bank.specs.declared.Bank.{Bank}
use Rattle.bank.specs.SetUp.{total}
use Rattle.bank.specs.Formed.{well_formed}
use Rattle.bank.specs.Bursts.{bursting, reads_in, span}
use Rattle.model.specs.declared.Call.{Call}
use Rattle.model.specs.declared.Call.TheVariants.{Read, Write, Start, Send, Receive, Finish, Interrupt, Request, Take, Trigger}
use Rattle.model.specs.Engine.{step, Lent, lending, final, answers}
use Rattle.model.specs.Rings.{Controller, rings}
use Rattle.answer.specs.Given.{controller}
use Rattle.trace_model.specs.Format.{look_number}
use Rattle.record_model.specs.Record.{record_at, whole_records}
use Rattle.record_model.specs.Writer.{trace_of, named_from, section_of, every_writable}
use Rattle.playback_model.specs.Replay.{Replay, played, replay_of}

-- each call is lent the output as the one before left it
unfoldable pub lent_on : List Call → Controller → List Lent
lent_on [] l = []
lent_on (k ∷ ks) l = record { output = l.output; call = k } ∷ lent_on ks (step rings l k).next

-- `burst.replay`: a replay lends an empty output, and an empty output stays empty
unfoldable pub EmptyIsLent : Type 0
EmptyIsLent = (ks : List Call) (l : Controller) → l.output ≡ [] → lent_on ks l ≡ lending [] ks

-- the last of some answers; 0 and 0 where there is none
abbrev pub last_of : List Answer → Answer
last_of answers = foldl (λ _ a. a) (record { value = 0; number = 0 }) answers

-- a replay that made these calls one by one: how many they are, the answer of the last, and what they left
abbrev pub made : ℕ → List Call → Controller → Replay
made number ks l =
    record { told = record { number = number; count = length ks; answer = last_of (answers rings l (lent_on ks l)) }; left = final rings l (lent_on ks l) }

-- `replay.calls`: where the first records name the calls ks, and the limit asks for no more, a replay makes these
unfoldable pub OneByOne : Type 0
OneByOne = (ks : List Call) (bytes : List ℕ) (limit : ℕ) (l : Controller) → named_from (length ks) bytes 0 ≡ map Some ks → whole_records limit bytes ≤ length ks
    → played limit bytes l ≡ made 0 (take (whole_records limit bytes) ks) l

-- `replay.calls`: where the record behind these is wrong, and the limit asks for it, the number is 27
unfoldable pub StopsAtWrong : Type 0
StopsAtWrong = (ks : List Call) (bytes : List ℕ) (limit : ℕ) (l : Controller) → named_from (length ks) bytes 0 ≡ map Some ks → record_at bytes (length ks) ≡ None → length ks < whole_records limit bytes
    → played limit bytes l ≡ made number.wrong_record ks l

-- `replay.tells`, `answer.refusal`: at 24, 25 and 26 no record is done, and all stays as it was
unfoldable pub RefusedLeavesAll : Type 0
RefusedLeavesAll = (file : List ℕ) (i limit : ℕ) (l : Controller) → (look_number file i ≡ 0 → ⊥)
    → replay_of file i limit l ≡ record { told = record { number = look_number file i; count = 0; answer = record { value = 0; number = 0 } }; left = l }

-- `trace.written`: the replay of a section of a written trace makes the calls that were written
unfoldable pub WrittenIsMade : Type 0
WrittenIsMade = (ss : List (List Call)) (i limit : ℕ) (l : Controller) → 1 ≤ length ss → length ss ≤ 64 → length (trace_of ss) ≤ 0x1000000 → every_writable ss ≡ true → i < length ss
    → replay_of (trace_of ss) i limit l ≡ made 0 (take limit (section_of ss i)) l

-- an event that passes 18
abbrev pub in_range : Call → Bool
in_range (Read o) = false
in_range (Write o v) = false
in_range Start = true
in_range Send = true
in_range (Receive b) = true
in_range (Finish code) = leb code 15
in_range (Interrupt a b) = leb a 127
in_range (Request v w) = true
in_range Take = true
in_range Trigger = true

-- `burst.replay`: on a bank whose open burst has reads, the events of a trace are answered 13, and change nothing
unfoldable pub BurstUnserved : Type 0
BurstUnserved = (b : Bank) (store : List ℕ) (k : Call) → well_formed b ≡ true → length store ≡ total b.state.caps → bursting b.state.control ≡ true → 0 < reads_in (span b.state.regs) b.commands → in_range k ≡ true
    → (let l = controller b store [] in step rings l k ≡ record { answer = record { value = 0; number = number.no_room }; next = l })
