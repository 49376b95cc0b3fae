-- `finish.codes` as a table: which codes may end a transfer, by its kind, direction, header bit, length and the bytes moved.
-- docs/ENDINGS.md is the same table as a page. The statement is that the definition `allowed` is this table.
use Rattle.std.specs.Prelude.{ℕ, ◌≡◌, Bool, true, false, cond, ◌&&◌, ◌||◌, eqb}
use Rattle.bank.specs.declared.Kind.{Kind}
use Rattle.bank.specs.declared.Kind.TheVariants.{Private, Direct, Broadcast}
use Rattle.bank.specs.declared.Transfer.{Transfer}
use Rattle.bank.specs.declared.Phase.{Phase}
use Rattle.bank.specs.declared.Phase.TheVariants.{Writing, Reading, Unrequested, Requested, Answered}
use Rattle.bank.specs.Phases.{unattached}
use Rattle.model.specs.Calls.{allowed}

-- `receipt.codes`: 0, 1 (CE0), 4 (CE2), 6 (NACK); 8 has a row of its own
pub record Codes : Type 0 where
  pub done : Bool
  pub ce0 : Bool
  pub ce2 : Bool
  pub nack : Bool

abbrev pub codes : Bool → Bool → Bool → Bool → Codes
codes a b c d = record { done = a; ce0 = b; ce2 = c; nack = d }

abbrev pub permits : Codes → ℕ → Bool
permits c code = (eqb code 0 && c.done) || (eqb code 1 && c.ce0) || (eqb code 4 && c.ce2) || (eqb code 6 && c.nack)

-- of m bytes moved and L commanded: m = 0 < L, 0 < m < L, 0 < m = L, m = L = 0
pub data Stage : Type 0 where
  none some all empty : Stage

abbrev pub stage_of : ℕ → ℕ → Stage
stage_of m n = cond (eqb m 0) (cond (eqb m n) empty none) (cond (eqb m n) all some)

-- kind, reads, header bit, stage: codes 0, 1, 4, 6
abbrev pub endings : Kind → Bool → Bool → Stage → Codes
endings Private false h none = codes false false h true
endings Private false h some = codes false false false false
endings Private false h all = codes true false false false
endings Private false h empty = codes true false h true
endings Private true h none = codes true false h true
endings Private true h some = codes true false false false
endings Private true h all = codes true false false false
endings Private true h empty = codes true false h true
endings Direct false h none = codes false false true true
endings Direct false h some = codes false false false false
endings Direct false h all = codes true false false false
endings Direct false h empty = codes true false true true
endings Direct true h none = codes false true true true
endings Direct true h some = codes false true false false
endings Direct true h all = codes true false false false
endings Direct true h empty = codes true false true true
endings Broadcast false h none = codes false false true false
endings Broadcast false h some = codes false false false false
endings Broadcast false h all = codes true false false false
endings Broadcast false h empty = codes true false true false
endings Broadcast true h none = codes false true true false
endings Broadcast true h some = codes false true false false
endings Broadcast true h all = codes true false false false
endings Broadcast true h empty = codes true false true false

abbrev pub endings_of : Bool → Transfer → Codes
endings_of reads t = endings t.kind reads t.header (stage_of t.moved.0 t.length.0)

pub record Endings : Type 0 where
  pub writes : (t : Transfer) (code : ℕ) → unattached (Writing t) ≡ false → allowed (Writing t) code ≡ permits (endings_of false t) code
  pub reads : (t : Transfer) (code : ℕ) → unattached (Reading t) ≡ false → allowed (Reading t) code ≡ permits (endings_of true t) code
  -- a device that was not attached: 8 alone
  pub absent : (p : Phase) (code : ℕ) → unattached p ≡ true → allowed p code ≡ eqb code 8
  -- ENTDAA: no request made, one open, some made and none open
  pub unrequested : (t : Transfer) (code : ℕ) → allowed (Unrequested t) code ≡ permits (codes true false true false) code
  pub requested : (t : Transfer) (code : ℕ) → allowed (Requested t) code ≡ permits (codes false false false false) code
  pub answered : (t : Transfer) (code : ℕ) → allowed (Answered t) code ≡ permits (codes true false false false) code
