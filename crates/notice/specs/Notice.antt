-- What a program says where its input or its output fails: `program.failure`.
use Rattle.std.specs.Prelude.{◌≡◌, ℕ, cond, ltb, List, [], ◌∷◌, ◌++◌, Result, Ok, Err}
use Rattle.io.specs.Digits.{last_digits, IsDigitCount}
use Rattle.notice.specs.declared.Failed.{Failed}
use Rattle.notice.specs.declared.Failed.TheVariants.{Output}

-- a line: words, a number in decimal with no digit too many, and a newline
abbrev pub Noticed : List ℕ → ℕ → List ℕ → Type 0
Noticed words n text = (k : ℕ) × IsDigitCount 10 1 n k × (text ≡ (words ++ last_digits 10 k n) ++ (0x0a ∷ []))

-- a text of `all` bytes of which n were written
abbrev pub sent_of : ℕ → ℕ → Result Unit Failed
sent_of n all = cond (ltb n all) (Err Output) (Ok tt)
