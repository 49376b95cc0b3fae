-- A record of a trace (`trace.record`), and the call that it names by the row of its letter in crates/letters/specs/Forms.antt.
use Rattle.std.specs.Prelude.{ℕ, zero, suc, ◌+◌, ◌*◌, ◌/◌, ◌^◌, Bool, cond, ◌&&◌, List, eqb, ltb, length, get_or, Option, None, Some}
use Rattle.model.specs.declared.Call.{Call}
use Rattle.letters.specs.Named.{Parsed}
use Rattle.letters.specs.Forms.{Fields, offset_digits, Form, form_of}
use Rattle.little_endian.specs.Numbers.{two_at, four_at}

-- 12 bytes: a letter, a byte of 0, an offset of two bytes, and two values of four
pub record Record : Type 0 where
  pub letter : ℕ
  pub zero_byte : ℕ
  pub offset : ℕ
  pub first : ℕ
  pub second : ℕ

abbrev pub rec : ℕ → ℕ → ℕ → ℕ → ℕ → Record
rec l z o v w = record { letter = l; zero_byte = z; offset = o; first = v; second = w }

-- record i of a section. A byte past the end counts as 0; whoever goes over records stays before it
abbrev pub fields_at : List ℕ → ℕ → Record
fields_at bytes i = rec (get_or bytes (12 * i) 0) (get_or bytes (12 * i + 1) 0) (two_at bytes (12 * i + 2)) (four_at bytes (12 * i + 4)) (four_at bytes (12 * i + 8))

-- a field holds a number of so many hex digits at most, two where it is a byte, and 0 where the letter does not use it
abbrev pub fits : ℕ → ℕ → Bool
fits zero x = eqb x 0
fits (suc d) x = ltb x (16 ^ suc d)

-- whether a letter uses the record's offset
abbrev pub has_offset : Fields → Bool
has_offset fs = fs.offset

-- a record is right by its letter's row where its second byte is 0 and each field holds what the row says (`trace.wrong`)
abbrev pub right : Fields → Record → Bool
right fs r = eqb r.zero_byte 0 && (fits (offset_digits fs) r.offset && (fits fs.first r.first && fits fs.second r.second))

-- the call of a right record; `None` says of a record that it is wrong
abbrev pub named_in : Option Form → Record → Parsed
named_in None r = None
named_in (Some f) r = cond (right f.fields r) (Some (f.call r.offset r.first r.second)) None

abbrev pub record_at : List ℕ → ℕ → Parsed
record_at bytes i = let r = fields_at bytes i in named_in (form_of r.letter) r

-- a call is made, or a wrong record stops what goes on behind it
abbrev pub onward : {A : Type 0} → (Call → A → A) → (A → A) → Parsed → A → (A → A) → A
onward make stop (Some k) a rest = rest (make k a)
onward make stop None a rest = stop a

-- n records, from record i on, one after another
unfoldable pub each_record : {A : Type 0} → (Call → A → A) → (A → A) → ℕ → List ℕ → ℕ → A → A
each_record make stop zero bytes i a = a
each_record make stop (suc n) bytes i a = onward make stop (record_at bytes i) a (each_record make stop n bytes (suc i))

-- the whole records among some bytes, and no more than a limit
abbrev pub whole_records : ℕ → List ℕ → ℕ
whole_records limit bytes = let n = length bytes / 12 in cond (ltb limit n) limit n
