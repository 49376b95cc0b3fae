-- A ring in an area of a store: its places, its entries, and its numbers after a push, a take and a clear. The word that a push writes is
-- named where the store is (crates/model/specs/Rings.antt).
use Rattle.std.specs.Prelude.{ℕ, zero, suc, ◌+◌, ◌-◌, ◌%◌, ◌<◌, ◌≤◌, List, [], ◌∷◌, get_or}
use Rattle.ring.specs.declared.Ring.{Ring}

-- the capacity may be any from 1 on, the head is below it, and the level at most that
pub record Valid (r : Ring) : Type 0 where
  pub cap_least : 0 < r.cap.0
  pub head_below : r.head < r.cap.0
  pub level_most : r.level.0 ≤ r.cap.0

-- the place i behind the head, going on at the start of the area past its end
abbrev pub place_of : Ring → ℕ → ℕ
place_of r i = (r.head + i) % r.cap.0

-- `ring.push`: one entry more
abbrev pub pushed_of : Ring → Ring
pushed_of r = record { cap = r.cap; head = r.head; level = record { 0 = r.level.0 + 1 } }

-- `ring.take`: without its first k entries
abbrev pub taken_of : Ring → ℕ → Ring
taken_of r k = record { cap = r.cap; head = place_of r k; level = record { 0 = r.level.0 - k } }

-- `ring.clear`: no entry, and the head at the first place
abbrev pub cleared_of : Ring → Ring
cleared_of r = record { cap = r.cap; head = 0; level = record { 0 = 0 } }

-- the words of a store at the first n of the places `at`
abbrev pub read_all : List ℕ → (ℕ → ℕ) → ℕ → List ℕ
read_all s at zero = []
read_all s at (suc n) = get_or s (at 0) 0 ∷ read_all s (λ i. at (suc i)) n

-- the entries of a ring whose area begins at base, first entry first
unfoldable pub entries : Ring → ℕ → List ℕ → List ℕ
entries r base s = read_all s (λ i. base + place_of r i) r.level.0
