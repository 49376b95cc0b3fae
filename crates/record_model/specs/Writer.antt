-- A trace as it is written (`trace.form`, `trace.record`), and that what was written is read again.
use Rattle.std.specs.Prelude.{ℕ, zero, suc, ◌+◌, ◌*◌, ◌/◌, ◌%◌, ◌<◌, ◌≤◌, ◌≡◌, Bool, true, false, ◌&&◌, List, [], ◌∷◌, ◌++◌, map, ltb, length, get_or, Some}
use Prim.Native.Char.{code}
use Rattle.model.specs.declared.Call.{Call}
use Rattle.model.specs.declared.Call.TheVariants.{Read, Write, Start, Send, Receive, Finish, Interrupt, Request, Take, Trigger}
use Rattle.letters.specs.Named.{Parsed}
use Rattle.trace_model.specs.Format.{mark, look_number, section}
use Rattle.record_model.specs.Record.{Record, rec, record_at}

-- so many bytes of a number, the low byte first
abbrev pub bytes_of : ℕ → ℕ → List ℕ
bytes_of zero n = []
bytes_of (suc k) n = n % 256 ∷ bytes_of k (n / 256)

-- the record of a call, with 0 in each field that its letter does not use. The trigger has no letter: its record is a wrong one
abbrev pub record_of : Call → Record
record_of (Read o) = rec (code "R") 0 o 0 0
record_of (Write o v) = rec (code "W") 0 o v 0
record_of Start = rec (code "S") 0 0 0 0
record_of Send = rec (code "T") 0 0 0 0
record_of (Receive b) = rec (code "X") 0 0 b 0
record_of (Finish c) = rec (code "F") 0 0 c 0
record_of (Interrupt a b) = rec (code "I") 0 0 a b
record_of (Request v w) = rec (code "D") 0 0 v w
record_of Take = rec (code "A") 0 0 0 0
record_of Trigger = rec 0 0 0 0 0

abbrev pub record_bytes : Record → List ℕ
record_bytes r = r.letter ∷ r.zero_byte ∷ bytes_of 2 r.offset ++ (bytes_of 4 r.first ++ bytes_of 4 r.second)

-- a call whose arguments a record can hold
abbrev pub writable : Call → Bool
writable (Read o) = ltb o 0x10000
writable (Write o v) = ltb o 0x10000 && ltb v 0x100000000
writable Start = true
writable Send = true
writable (Receive b) = ltb b 0x100
writable (Finish c) = ltb c 0x100
writable (Interrupt a b) = ltb a 0x100 && ltb b 0x100
writable (Request v w) = ltb v 0x100000000 && ltb w 0x100000000
writable Take = true
writable Trigger = false

unfoldable pub all_writable : List Call → Bool
all_writable [] = true
all_writable (k ∷ ks) = writable k && all_writable ks

-- a section's bytes, those of all sections, and the table: a start and a count for each
unfoldable pub section_bytes : List Call → List ℕ
section_bytes [] = []
section_bytes (k ∷ ks) = record_bytes (record_of k) ++ section_bytes ks

unfoldable pub all_bytes : List (List Call) → List ℕ
all_bytes [] = []
all_bytes (ks ∷ rest) = section_bytes ks ++ all_bytes rest

unfoldable pub table_bytes : ℕ → List (List Call) → List ℕ
table_bytes at [] = []
table_bytes at (ks ∷ rest) = bytes_of 4 at ++ (bytes_of 4 (length ks) ++ table_bytes (at + 12 * length ks) rest)

-- a trace of some sections
abbrev pub trace_of : List (List Call) → List ℕ
trace_of ss = mark ++ (bytes_of 2 (length ss) ++ (table_bytes (6 + 8 * length ss) ss ++ all_bytes ss))

-- what the records of some bytes name, from record i on
unfoldable pub named_from : ℕ → List ℕ → ℕ → List Parsed
named_from zero bytes i = []
named_from (suc n) bytes i = record_at bytes i ∷ named_from n bytes (suc i)

-- a section among the sections; none past the last
unfoldable pub section_of : List (List Call) → ℕ → List Call
section_of [] i = []
section_of (ks ∷ rest) zero = ks
section_of (ks ∷ rest) (suc i) = section_of rest i

unfoldable pub every_writable : List (List Call) → Bool
every_writable [] = true
every_writable (ks ∷ rest) = all_writable ks && every_writable rest

-- the calls of a written trace are the calls that were written, for 1 to 64 sections, in a file of 16 MiB at most
unfoldable pub WrittenIsRead : Type 0
WrittenIsRead = (ss : List (List Call)) (i : ℕ) → 1 ≤ length ss → length ss ≤ 64 → length (trace_of ss) ≤ 0x1000000 → every_writable ss ≡ true → i < length ss
    → (look_number (trace_of ss) i ≡ 0) × (named_from (length (section (trace_of ss) i) / 12) (section (trace_of ss) i) 0 ≡ map Some (section_of ss i))

-- and the other way, for a record: 12 bytes that name a call are the record that the call is written as
unfoldable pub RightIsWritten : Type 0
RightIsWritten = (bytes : List ℕ) (k : Call) → length bytes ≡ 12 → ((i : ℕ) → get_or bytes i 0 < 256) → record_at bytes 0 ≡ Some k → record_bytes (record_of k) ≡ bytes
