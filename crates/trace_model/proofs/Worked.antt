-- Files worked by hand: two sections, of no record and of one; and the same with one fault each.
use Prim.Native.Nat.{ℕ}
use mathlib.Core.Path.{◌≡◌, refl}
use mathlib.Core.List.{List, [], ◌∷◌, ◌++◌}
use Rattle.trace_model.specs.Format.{mark, records, starts_right, table_right, fault, look_number, section}

-- W 0x00dc 0x00000001
abbrev write : List ℕ
write = 0x57 ∷ 0 ∷ 0xdc ∷ 0 ∷ 1 ∷ 0 ∷ 0 ∷ 0 ∷ 0 ∷ 0 ∷ 0 ∷ 0 ∷ []

-- a number of four bytes, below 256
abbrev small : ℕ → List ℕ
small n = n ∷ 0 ∷ 0 ∷ 0 ∷ []

-- the mark, two sections, their starts and counts, and the records
abbrev file : ℕ → ℕ → ℕ → ℕ → List ℕ → List ℕ
file a m b n rest = mark ++ (2 ∷ 0 ∷ []) ++ small a ++ small m ++ small b ++ small n ++ rest

abbrev right : List ℕ
right = file 22 0 22 1 write

first_section : (look_number right 0 ≡ 0) × (section right 0 ≡ [])
unfolding section look_number fault table_right starts_right records
first_section = (refl, refl)

second_section : (look_number right 1 ≡ 0) × (section right 1 ≡ write)
unfolding section look_number fault table_right starts_right records
second_section = (refl, refl)

no_third : (look_number right 2 ≡ 26) × (section right 2 ≡ [])
unfolding section look_number fault table_right starts_right records
no_third = (refl, refl)

no_mark : (fault [] ≡ 24) × (fault (0x49 ∷ 0x33 ∷ 0x54 ∷ []) ≡ 24)
unfolding fault
no_mark = (refl, refl)

no_count : (fault mark ≡ 25) × (fault (mark ++ 0 ∷ 0 ∷ []) ≡ 25) × (fault (mark ++ 2 ∷ 0 ∷ []) ≡ 25)
unfolding fault table_right
no_count = (refl, refl, refl)

wrong_start : (fault (file 22 0 23 1 write) ≡ 25) × (fault (file 21 0 22 1 write) ≡ 25)
unfolding fault table_right starts_right records
wrong_start = (refl, refl)

wrong_length : (fault (file 22 0 22 1 (write ++ 0 ∷ [])) ≡ 25) × (fault (file 22 0 22 2 write) ≡ 25)
unfolding fault table_right starts_right records
wrong_length = (refl, refl)
