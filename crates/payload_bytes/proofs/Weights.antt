-- A byte more in the part word still fits a word.
use Rattle.std.proofs.Common.{◌≡◌, ℕ, zero, suc, ◌+◌, ◌-◌, ◌*◌, ◌%◌, ◌^◌, ◌<◌, arith}

-- a power with a place in the exponent, by the four places
pub word_fits : (k part byte : ℕ) → k < 4 → part % 2 ^ (32 - 8 * k) ≡ 0 → part < 0x100000000 → byte < 256 → part + byte * 2 ^ (24 - 8 * k) < 0x100000000
word_fits zero part byte h e p b = let z : part % 0x100000000 ≡ 0 = e in omega arith
word_fits (suc zero) part byte h e p b = let z : part % 0x1000000 ≡ 0 = e in omega arith
word_fits (suc (suc zero)) part byte h e p b = let z : part % 0x10000 ≡ 0 = e in omega arith
word_fits (suc (suc (suc zero))) part byte h e p b = let z : part % 0x100 ≡ 0 = e in omega arith
word_fits (suc (suc (suc (suc k)))) part byte h e p b = absurd (omega arith)
