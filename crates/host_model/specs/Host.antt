-- The calls of a host: on what it keeps of a bank, an image and the tables, and a store, an output and a trace that are lent.
use Rattle.std.specs.Prelude.{ℕ, ◌+◌, ◌*◌, ◌%◌, ◌^◌, Bool, cond, ◌&&◌, ◌||◌, List, [], eqb, length, set, Some, None}
use Rattle.number.specs.Names as number
use Rattle.bank.specs.declared.Answer.{Answer}
use Rattle.bank.specs.declared.Bank.{Bank}
use Rattle.bank.specs.Fives.{Sizes}
use Rattle.bank.specs.SetUp.{refused_set_up, set_up}
use Rattle.model.specs.declared.Call.TheVariants.{Trigger}
use Rattle.model.specs.Engine.{Step, step}
use Rattle.model.specs.Rings.{Controller, rings}
use Rattle.answer.specs.Given.{controller}
use Rattle.letters.specs.Named.{Parsed}
use Rattle.letters.specs.Forms.{form_of}
use Rattle.trace_model.specs.Format.{look_number, section_start, section}
use Rattle.record_model.specs.Record.{rec, named_in}
use Rattle.playback_model.specs.declared.Report.{Report}
use Rattle.playback_model.specs.Replay.{Replay, replay_of}
use Rattle.image_model.specs.Image.{Kept, kept_of, bank_in, sized, is_kept}

-- the version of layout and calls, one number for archive, header and bindings
abbrev pub version : ℕ
version = 2

-- ── Set-up ────────────────────────────────────────────────────────────────────────────────────────────────────
pub record Fresh : Type 0 where
  pub number : ℕ
  pub kept : Kept

-- a set-up answered 23 leaves what is kept as it was, and so does 21, where a piece has another length
unfoldable pub set_up_in : Kept → Sizes → Sizes → ℕ → Fresh
set_up_in k caps marks id =
    let r = set_up caps marks id in
    let n = r.answer.number in
    cond (sized k) (record { number = n; kept = cond (eqb n 0) (kept_of r.bank) k }) (record { number = number.not_well_formed; kept = k })

-- ── One call ──────────────────────────────────────────────────────────────────────────────────────────────────
-- a call in numbers: those of a record of a trace, its second byte 0. The trigger has no letter there; here it has G
abbrev pub triggers : ℕ → ℕ → ℕ → ℕ → Bool
triggers letter offset v w = eqb letter 0x47 && (eqb offset 0 && (eqb v 0 && eqb w 0))

unfoldable pub call_of : ℕ → ℕ → ℕ → ℕ → Parsed
call_of letter offset v w = cond (triggers letter offset v w) (Some Trigger) (named_in (form_of letter) (rec letter 0 offset v w))

-- an answer, and what the call left
pub record Hosted : Type 0 where
  pub answer : Answer
  pub kept : Kept
  pub store : List ℕ
  pub output : List ℕ

abbrev pub hosted : Step Controller → Hosted
hosted s = record { answer = s.answer; kept = kept_of s.next.bank; store = s.next.store; output = s.next.output }

abbrev pub refusal : ℕ → Kept → List ℕ → List ℕ → Hosted
refusal n k st o = record { answer = record { value = 0; number = n }; kept = k; store = st; output = o }

-- on the bank that is said. 27 for numbers that name no call, as a replay has it for such a record
abbrev pub made_in : Parsed → Kept → List ℕ → List ℕ → Hosted
made_in (Some c) k st o = hosted (step rings (controller (bank_in k) st o) c)
made_in None k st o = refusal number.wrong_record k st o

unfoldable pub step_in : Parsed → Kept → List ℕ → List ℕ → Hosted
step_in p k st o = cond (is_kept k) (made_in p k st o) (refusal number.not_well_formed k st o)

-- value and number in one number
abbrev pub packed_of : Answer → ℕ
packed_of a = a.value + 2 ^ 32 * a.number

-- ── Replay of a section of a trace ────────────────────────────────────────────────────────────────────────────
-- its number, and what it left; `told` is lent for what it tells
pub record Replayed : Type 0 where
  pub number : ℕ
  pub kept : Kept
  pub store : List ℕ
  pub told : List ℕ

-- on the bank that is said. What is kept of no well-formed bank stands for the bank of a refused set-up: it is not well formed, so each record
-- is answered 21, as `step_in` answers its call
abbrev pub bank_for : Kept → Bank
bank_for k = cond (is_kept k) (bank_in k) refused_set_up.bank

-- what is kept of a well-formed bank becomes that of the bank that the records left, anything else stays
abbrev pub kept_after : Kept → Bank → Kept
kept_after k b = cond (is_kept k) (kept_of b) k

-- whether records may have been done: 24, 25 and 26 are refusals, and no lent word changes
abbrev pub tells : ℕ → Bool
tells n = eqb n 0 || eqb n number.wrong_record

-- how many records it did, value and number of its last answer: a lent word that is not there is not written. The remainder cuts nothing (`NothingCut`)
abbrev pub told_in : Report → List ℕ → List ℕ
told_in t ts = cond (tells t.number) (set (set (set ts 0 (t.count % 2 ^ 32)) 1 t.answer.value) 2 t.answer.number) ts

abbrev pub left_by : Kept → List ℕ → Replay → Replayed
left_by k ts r = record { number = r.told.number; kept = kept_after k r.left.bank; store = r.left.store; told = told_in r.told ts }

unfoldable pub replay_in : List ℕ → ℕ → ℕ → Kept → List ℕ → List ℕ → Replayed
replay_in file i limit k st ts = left_by k ts (replay_of file i limit (controller (bank_for k) st []))

-- ── Where a section of a trace lies ───────────────────────────────────────────────────────────────────────────
pub record Placed : Type 0 where
  pub number : ℕ
  pub place : List ℕ

-- where it begins and how many bytes it has; a refusal writes neither
abbrev pub placed_in : ℕ → ℕ → ℕ → List ℕ → List ℕ
placed_in number start bytes ws = cond (eqb number 0) (set (set ws 0 start) 1 (bytes % 2 ^ 32)) ws

unfoldable pub section_in : List ℕ → ℕ → List ℕ → Placed
section_in file i ws =
    let n = look_number file i in
    record { number = n; place = placed_in n (section_start file i) (length (section file i)) ws }
