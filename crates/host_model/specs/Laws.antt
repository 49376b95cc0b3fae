-- What the calls of a host promise beside their definitions: every call has its numbers, what is kept of no well-formed bank is refused, a
-- refusal changes nothing, what is done is told and not cut.
use Rattle.std.specs.Prelude.{ℕ, ◌*◌, ◌<◌, ◌^◌, ◌≡◌, true, false, List, [], ◌∷◌, length, Some}
use Rattle.number.specs.Names as number
use Rattle.model.specs.declared.Call.{Call}
use Rattle.model.specs.declared.Call.TheVariants.{Trigger}
use Rattle.model.specs.Rings.{Controller}
use Rattle.answer.specs.Given.{controller}
use Rattle.letters.specs.Named.{Parsed}
use Rattle.trace_model.specs.Format.{start_at, count_at, look_number, section}
use Rattle.record_model.specs.Writer.{record_of, writable}
use Rattle.playback_model.specs.Replay.{replay_of}
use Rattle.playback_model.specs.Done.{all21}
use Rattle.image_model.specs.Image.{Kept, is_kept}
use Rattle.host_model.specs.Host.{call_of, refusal, step_in, bank_for, told_in, replay_in, section_in}

-- every call whose arguments a record can hold is named by the numbers of its record, and the trigger by G
unfoldable pub CalledIsNamed : Type 0
CalledIsNamed =
    ((c : Call) → writable c ≡ true → (let r = record_of c in call_of r.letter r.offset r.first r.second ≡ Some c)) × (call_of 0x47 0 0 0 ≡ Some Trigger)

-- what is kept of no well-formed bank, or has another length: a call is answered 21, and so is each record of a replay, up to the limit or the
-- first wrong one; nothing but what is told changes
unfoldable pub NotKeptIsRefused : Type 0
NotKeptIsRefused = (k : Kept) → is_kept k ≡ false
    → ((p : Parsed) (st o : List ℕ) → step_in p k st o ≡ refusal number.not_well_formed k st o)
    × ((file : List ℕ) (i limit : ℕ) (st ts : List ℕ) → (let t = all21 file i limit in replay_in file i limit k st ts ≡ record { number = t.number; kept = k; store = st; told = told_in t ts }))

-- a number other than 0 and 19: image, tables, store and output are as they were
unfoldable pub RefusedStays : Type 0
RefusedStays = (p : Parsed) (k : Kept) (st o : List ℕ) → (let h = step_in p k st o in let n = h.answer.number in (n ≡ 0 → ⊥) → (n ≡ number.wrong_parity → ⊥) → h ≡ record { answer = h.answer; kept = k; store = st; output = o })

-- likewise a replay, but for 27, which leaves what the records before it left, and the look-up of a section: all that is lent, the words for what is told too
unfoldable pub RefusedReplayStays : Type 0
RefusedReplayStays = (file : List ℕ) (i limit : ℕ) (k : Kept) (st ts : List ℕ)
    → (let n = (replay_in file i limit k st ts).number in (n ≡ 0 → ⊥) → (n ≡ number.wrong_record → ⊥) → replay_in file i limit k st ts ≡ record { number = n; kept = k; store = st; told = ts })

unfoldable pub RefusedSectionStays : Type 0
RefusedSectionStays = (file : List ℕ) (i : ℕ) (ws : List ℕ)
    → (let n = (section_in file i ws).number in (n ≡ 0 → ⊥) → section_in file i ws ≡ record { number = n; place = ws })

-- a number other than 0, 3 and 19: the value is 0
unfoldable pub RefusedSilent : Type 0
RefusedSilent = (p : Parsed) (k : Kept) (st o : List ℕ) → (let h = step_in p k st o in let n = h.answer.number in (n ≡ 0 → ⊥) → (n ≡ number.empty → ⊥) → (n ≡ number.wrong_parity → ⊥) → h.answer.value ≡ 0)

-- what is told, where there are words for it: how many records were done and the last one's answer; start and length of the section by the file's table
unfoldable pub DoneIsTold : Type 0
DoneIsTold = (file : List ℕ) (i limit : ℕ) (k : Kept) (st ts : List ℕ) (a b c : ℕ) → look_number file i ≡ 0
    → (let t = (replay_of file i limit (controller (bank_for k) st [])).told in (replay_in file i limit k st (a ∷ b ∷ c ∷ ts)).told ≡ t.count ∷ t.answer.value ∷ t.answer.number ∷ ts)

unfoldable pub FoundIsPlaced : Type 0
FoundIsPlaced = (file : List ℕ) (i : ℕ) (ws : List ℕ) (a b : ℕ) → look_number file i ≡ 0 → (section_in file i (a ∷ b ∷ ws)).place ≡ start_at file i ∷ 12 * count_at file i ∷ ws

-- the length of a section and the count of a replay have 32 bits
unfoldable pub NothingCut : Type 0
NothingCut = (file : List ℕ) (i limit : ℕ) (l : Controller) → (length (section file i) < 2 ^ 32) × ((replay_of file i limit l).told.count < 2 ^ 32)
