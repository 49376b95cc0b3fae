-- Counts of bytes and of words, which are types of their own: `units.apart`.
use Rattle.std.specs.Prelude.{ℕ, ◌+◌, ◌/◌}
use Rattle.ring.specs.declared.Bytes.{Bytes}
use Rattle.ring.specs.declared.Words.{Words}

abbrev pub words : ℕ → Words
words n = record { 0 = n }

-- `units.apart`: the words that hold b bytes
abbrev pub words_for : Bytes → Words
words_for b = words ((b.0 + 3) / 4)

abbrev pub bytes : ℕ → Bytes
bytes n = record { 0 = n }
