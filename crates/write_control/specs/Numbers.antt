-- The number of a push, over plain numbers: 5 in reset, 1 where the queue is full, else 0 (`cmd.push`, `sdo.push`).
use Rattle.std.specs.Prelude.{ℕ, Bool, cond, leb}

abbrev pub push_number : Bool → ℕ → ℕ → ℕ
push_number held cap level = cond held 5 (cond (leb cap level) 1 0)
