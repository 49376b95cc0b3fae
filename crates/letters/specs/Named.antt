-- What `letters::call` gives to a reader of lines, which holds two values: that of the last field, and that of the field before it.
use Rattle.std.specs.Prelude.{ℕ, ◌%◌, ◌^◌, cond, eqb, Option, None, Some}
use Rattle.model.specs.declared.Call.{Call}
use Rattle.letters.specs.Forms.{Form, offset_digits, unused}

-- what a line or a record names: a call, or None
abbrev pub Parsed : Type 0
Parsed = Option Call

-- the low digits of a number, as many as a field may have; a field's value is not changed by it
abbrev pub low_digits : ℕ → ℕ → ℕ
low_digits d x = x % 16 ^ d

-- the call of a row where v and w are the values of its last two fields, or w alone that of its one field
abbrev pub placed : Form → ℕ → ℕ → Call
placed f v w =
    let first = f.fields.first in
    let second = f.fields.second in
    let offset = offset_digits f.fields in
    cond f.fields.offset
    (cond (eqb first unused) (f.call (low_digits offset w) 0 0) (f.call (low_digits offset v) (low_digits first w) 0))
    (cond (eqb second unused) (f.call 0 (low_digits first w) 0) (f.call 0 (low_digits first v) (low_digits second w)))

abbrev pub named_by : Option Form → ℕ → ℕ → Parsed
named_by None v w = None
named_by (Some f) v w = Some (placed f v w)
