-- The numbers of two and of four bytes at a place, the low byte first; a byte past the end counts as 0.
use Rattle.std.specs.Prelude.{ℕ, ◌+◌, ◌*◌, List, get_or}

abbrev pub two_at : List ℕ → ℕ → ℕ
two_at file at = get_or file at 0 + 256 * get_or file (at + 1) 0

abbrev pub four_at : List ℕ → ℕ → ℕ
four_at file at = two_at file at + 65536 * two_at file (at + 2)
