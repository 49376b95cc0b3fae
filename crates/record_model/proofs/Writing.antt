-- A record as it is written: its call is read again, and so are those of a section.
use Prim.Native.Nat.{ℕ, zero, suc, ◌+◌, ◌*◌, ◌<◌}
use native.Mathlib.Omega.{arith}
use mathlib.Core.Path.{◌≡◌, refl, ap, ◌∙◌}
use mathlib.Core.Bool.{true, ◌&&◌, false≢true}
use mathlib.Core.List.{List, [], ◌∷◌, ◌++◌, map}
use lib.Dec.{ltb}
use lib.ListN.{length, get_or}
use lib.Seq.{get_or-append-add}
use borrow.Author.Tests.{lt-ltb, ltb-true}
use Rattle.model.specs.declared.Call.{Call}
use Rattle.model.specs.declared.Call.TheVariants.{Read, Write, Start, Send, Receive, Finish, Interrupt, Request, Take, Trigger}
use Rattle.std.specs.Prelude.{Some}
use Rattle.letters.specs.Forms.{forms, form_with, form_of}
use Rattle.little_endian.specs.Numbers.{two_at, four_at}
use Rattle.trace_model.proofs.Table.{and-true}
use Rattle.record_model.specs.Record.{Record, fields_at, named_in, record_at}
use Rattle.record_model.specs.Writer.{bytes_of, record_of, record_bytes, writable, all_writable, section_bytes, named_from}

-- ── Numbers ───────────────────────────────────────────────────────────────────────────────────────────────────
-- a number is read from its bytes
pub two_read : (n : ℕ) (rest : List ℕ) → n < 0x10000 → two_at (bytes_of 2 n ++ rest) 0 ≡ n
two_read n rest h = omega arith

pub four_read : (n : ℕ) (rest : List ℕ) → n < 0x100000000 → four_at (bytes_of 4 n ++ rest) 0 ≡ n
four_read n rest h = omega arith

-- bytes in front put a number off
module _ (x y : List ℕ) where
  byte_past : (m n : ℕ) → m ≡ length x + n → get_or (x ++ y) m 0 ≡ get_or y n 0
  byte_past m n e = ap (λ (k : ℕ). get_or (x ++ y) k 0) e ∙ get_or-append-add x y n 0

  two_past : (m n : ℕ) → m ≡ length x + n → two_at (x ++ y) m ≡ two_at y n
  two_past m n e = cc (byte_past m n e, byte_past (m + 1) (n + 1) (omega arith))

  pub four_past : (m n : ℕ) → m ≡ length x + n → four_at (x ++ y) m ≡ four_at y n
  four_past m n e = cc (two_past m n e, two_past (m + 2) (n + 2) (omega arith))

  fields_past : (i : ℕ) → length x ≡ 12 → fields_at (x ++ y) (suc i) ≡ fields_at y i
  fields_past i e =
      λ j. record {
        letter = byte_past (12 * suc i) (12 * i) (omega arith) j;
        zero_byte = byte_past (12 * suc i + 1) (12 * i + 1) (omega arith) j;
        offset = two_past (12 * suc i + 2) (12 * i + 2) (omega arith) j;
        first = four_past (12 * suc i + 4) (12 * i + 4) (omega arith) j;
        second = four_past (12 * suc i + 8) (12 * i + 8) (omega arith) j;
      }

-- ── A record ──────────────────────────────────────────────────────────────────────────────────────────────────
-- a record's fields, where its bytes can hold them
abbrev pub Holds : Record → Type 0
Holds r = (r.offset < 0x10000) × (r.first < 0x100000000) × (r.second < 0x100000000)

pub fields_read : (r : Record) (rest : List ℕ) → Holds r → fields_at (record_bytes r ++ rest) 0 ≡ r
fields_read r rest h = λ j. record {
  letter = r.letter;
  zero_byte = r.zero_byte;
  offset = two_read r.offset rest h.0 j;
  first = four_read r.first rest h.1 j;
  second = four_read r.second rest h.2 j;
}

both : (a m b n : ℕ) → (ltb a m && ltb b n) ≡ true → (a < m) × (b < n)
both a m b n e = let h = and-true (ltb a m) (ltb b n) e in (ltb-true _ _ h.0, ltb-true _ _ h.1)

holds : (k : Call) → writable k ≡ true → Holds (record_of k)
holds (Read o) e = omega (arith, ltb-true o 0x10000 e)
holds (Write o v) e = omega (arith, both o 0x10000 v 0x100000000 e)
holds Start e = omega arith
holds Send e = omega arith
holds (Receive b) e = omega (arith, ltb-true b 0x100 e)
holds (Finish c) e = omega (arith, ltb-true c 0x100 e)
holds (Interrupt a b) e = omega (arith, both a 0x100 b 0x100 e)
holds (Request v w) e = omega (arith, both v 0x100000000 w 0x100000000 e)
holds Take e = omega arith
holds Trigger e = absurd (false≢true e)

pub call_named : (k : Call) → writable k ≡ true → named_in (form_of (record_of k).letter) (record_of k) ≡ Some k
unfolding forms form_with
call_named (Read o) e = rw e
call_named (Write o v) e = let h = both o 0x10000 v 0x100000000 e in rw (lt-ltb _ _ h.0, lt-ltb _ _ h.1)
call_named Start e = refl
call_named Send e = refl
call_named (Receive b) e = rw e
call_named (Finish c) e = rw e
call_named (Interrupt a b) e = let h = both a 0x100 b 0x100 e in rw (lt-ltb _ _ h.0, lt-ltb _ _ h.1)
call_named (Request v w) e = let h = both v 0x100000000 w 0x100000000 e in rw (lt-ltb _ _ h.0, lt-ltb _ _ h.1)
call_named Take e = refl
call_named Trigger e = absurd (false≢true e)

pub record_read : (k : Call) (rest : List ℕ) → writable k ≡ true → record_at (record_bytes (record_of k) ++ rest) 0 ≡ Some k
record_read k rest e = ap (λ (r : Record). named_in (form_of r.letter) r) (fields_read (record_of k) rest (holds k e)) ∙ call_named k e

-- ── A section ─────────────────────────────────────────────────────────────────────────────────────────────────
named_past : (x y : List ℕ) (n i : ℕ) → length x ≡ 12 → named_from n (x ++ y) (suc i) ≡ named_from n y i
unfolding named_from
named_past x y zero i e = refl
named_past x y (suc n) i e = cc (ap (λ (r : Record). named_in (form_of r.letter) r) (fields_past x y i e), named_past x y n (suc i) e)

pub section_read : (ks : List Call) → all_writable ks ≡ true → named_from (length ks) (section_bytes ks) 0 ≡ map Some ks
unfolding named_from section_bytes all_writable
section_read [] e = refl
section_read (k ∷ ks) e =
    let h = and-true (writable k) (all_writable ks) e in
    let x = record_bytes (record_of k) in
    cc (record_read k (section_bytes ks) h.0, named_past x (section_bytes ks) (length ks) 0 refl, section_read ks h.1)

pub section_length : (ks : List Call) → length (section_bytes ks) ≡ 12 * length ks
unfolding section_bytes
section_length [] = refl
section_length (k ∷ ks) = let h = section_length ks in omega arith
