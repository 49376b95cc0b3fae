-- The bytes of a number, one after another, by what is left of it.
use Rattle.std.proofs.Common.{ℕ, ◌≡◌, ◌/◌, ◌%◌, refl, arith}
use Rattle.record.proofs.bytes_of.Goals as goal

third : (n : ℕ) → n / 65536 % 256 ≡ n / 256 / 256 % 256
third n = omega arith

fourth : (n : ℕ) → n / 16777216 % 256 ≡ n / 256 / 256 / 256 % 256
fourth n = omega arith

pub returns : goal.returns
returns c =
    let v = c.args.v in
    let w = c.args.w in
    rw (c.to_le_bytes.ensures, c.to_le_bytes-2.ensures, c.to_le_bytes-3.ensures, third v, fourth v, third w, fourth w) refl
