-- Bits and bit fields of a word.
use Rattle.std.specs.Prelude.{ℕ, suc, ◌-◌, ◌%◌, ◌/◌, ◌^◌, Bool, cond, eqb}

-- bit k of v
abbrev pub bit : ℕ → ℕ → Bool
bit k v = eqb (v / 2 ^ k % 2) 1

-- bits hi down to lo of v
abbrev pub bits : ℕ → ℕ → ℕ → ℕ
bits hi lo v = v / 2 ^ lo % 2 ^ (suc hi - lo)

-- the weight w where b holds, else 0
abbrev pub word_if : Bool → ℕ → ℕ
word_if b w = cond b w 0
