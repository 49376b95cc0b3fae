-- The laws of a ring's entries, for any capacity and any base.
use Prim.Native.Nat.{ℕ, zero, suc, ◌+◌, ◌-◌, ◌%◌, ◌<◌, ◌≤◌}
use native.Mathlib.Nat.{mod-eq_of_lt, mod-eq-sub-mod, mod-add-mod, mod-lt}
use native.Mathlib.Numerals.{add-one}
use native.Mathlib.Omega.{arith}
use native.Mathlib.Decide.{dec_lt}
use mathlib.Core.Path.{◌≡◌, refl, sym, ap, ◌∙◌}
use mathlib.Core.List.{List, [], ◌∷◌, ◌++◌}
use mathlib.Core.Logic.{◌⊎◌, inl, inr, ⊎_elim}
use lib.ListN.{length, get_or, set, drop, get_or-eq_default}
use lib.Seq.{get_or-set_same, get_or-set_other}
use Rattle.ring.specs.declared.Ring.{Ring}
use Rattle.ring.specs.Ring.{Valid, place_of, pushed_of, taken_of, cleared_of, read_all, entries}

pub read_length : (s : List ℕ) (at : ℕ → ℕ) (n : ℕ) → length (read_all s at n) ≡ n
read_length s at zero = refl
read_length s at (suc n) = ap suc (read_length s (λ i. at (suc i)) n)

pub read_agree : (s t : List ℕ) (f g : ℕ → ℕ) (n : ℕ) → ((i : ℕ) → i < n → get_or s (f i) 0 ≡ get_or t (g i) 0) → read_all s f n ≡ read_all t g n
read_agree s t f g zero h = refl
read_agree s t f g (suc n) h =
    let e : get_or s (f 0) 0 ≡ get_or t (g 0) 0 = h 0 (omega arith) in
    let k : read_all s (λ i. f (suc i)) n ≡ read_all t (λ i. g (suc i)) n = read_agree s t (λ i. f (suc i)) (λ i. g (suc i)) n (λ i p. h (suc i) (omega arith)) in
    cc

pub read_at : (s : List ℕ) (f : ℕ → ℕ) (n i : ℕ) → i < n → get_or (read_all s f n) i 0 ≡ get_or s (f i) 0
read_at s f zero i h = absurd (omega arith)
read_at s f (suc n) zero h = refl
read_at s f (suc n) (suc i) h = read_at s (λ k. f (suc k)) n i (omega arith)

pub read_snoc : (s : List ℕ) (f : ℕ → ℕ) (n : ℕ) → read_all s f (suc n) ≡ read_all s f n ++ (get_or s (f n) 0 ∷ [])
read_snoc s f zero = refl
read_snoc s f (suc n) = ap (λ (l : List ℕ). get_or s (f 0) 0 ∷ l) (read_snoc s (λ i. f (suc i)) n)

-- a place before the wrap, or after it
pub wrap : (h i c : ℕ) → h < c → i ≤ c → ((h + i) % c ≡ h + i) ⊎ ((h + i) % c + c ≡ h + i)
wrap h i c p q =
    elim (dec_lt (h + i) c) [ yes l ↦ inl (mod-eq_of_lt l) | no n ↦ inr (let e : (h + i) % c ≡ h + i - c = mod-eq-sub-mod (omega arith) ∙ mod-eq_of_lt (omega arith) in omega arith) ]

-- past the wrap a place is the number less what is left before the wrap
pub wrapped : (h i c : ℕ) → h < c → i ≤ c → c - h ≤ i → i - (c - h) ≡ (h + i) % c
wrapped h i c p q l = let e : (h + i) % c ≡ h + i - c = mod-eq-sub-mod (omega arith) ∙ mod-eq_of_lt (omega arith) in omega arith

pub place_below : (r : Ring) → Valid r → (i : ℕ) → place_of r i < r.cap.0
place_below r f i = mod-lt (r.head + i) f.cap_least

-- two entries of one ring have two places
pub place_apart : (r : Ring) → Valid r → (i j : ℕ) → i < j → j < r.cap.0 → place_of r i ≡ place_of r j → ⊥
place_apart r f i j p q e =
    ⊎_elim (λ a. ⊎_elim (λ b. omega arith) (λ b. omega arith) (wrap r.head j r.cap.0 f.head_below (omega arith)))
    (λ a. ⊎_elim (λ b. omega arith) (λ b. omega arith) (wrap r.head j r.cap.0 f.head_below (omega arith)))
    (wrap r.head i r.cap.0 f.head_below (omega arith))

step : (r : Ring) (k i : ℕ) → place_of r (k + i) ≡ place_of (taken_of r k) i
step r k i = ap (λ (n : ℕ). n % r.cap.0) (omega arith) ∙ sym (mod-add-mod (r.head + k) r.cap.0 i)

-- the entries but the first k
read_drop : (s : List ℕ) (f : ℕ → ℕ) (k n : ℕ) → k ≤ n → drop k (read_all s f n) ≡ read_all s (λ i. f (k + i)) (n - k)
read_drop s f zero n h =
    let z : n - 0 ≡ n = omega arith in
    rw z (read_agree s s f (λ i. f (0 + i)) n (λ i p. ap (λ (m : ℕ). get_or s (f m) 0) (let y : i ≡ 0 + i = omega arith in y)))
read_drop s f (suc k) zero h = absurd (omega arith)
read_drop s f (suc k) (suc n) h =
    let z : suc n - suc k ≡ n - k = omega arith in
    rw z (read_drop s (λ i. f (suc i)) k n (omega arith) ∙ read_agree s s (λ i. f (suc (k + i))) (λ i. f (suc k + i)) (n - k) (λ i p. ap (λ (m : ℕ). get_or s (f m) 0) (let y : suc (k + i) ≡ suc k + i = omega arith in y)))

pub entries_length : (r : Ring) (base : ℕ) (s : List ℕ) → length (entries r base s) ≡ r.level.0
unfolding entries
entries_length r base s = read_length s (λ i. base + place_of r i) r.level.0

pub entries_at : (r : Ring) (base : ℕ) (s : List ℕ) (i : ℕ) → i < r.level.0 → get_or (entries r base s) i 0 ≡ get_or s (base + place_of r i) 0
unfolding entries
entries_at r base s i h = read_at s (λ k. base + place_of r k) r.level.0 i h

pub entries_past : (r : Ring) (base : ℕ) (s : List ℕ) (i : ℕ) → r.level.0 ≤ i → get_or (entries r base s) i 0 ≡ 0
entries_past r base s i h = get_or-eq_default (entries r base s) 0 (omega (arith, entries_length r base s))

pub entries_push : (r : Ring) (base : ℕ) (s : List ℕ) (w : ℕ) → Valid r → r.level.0 < r.cap.0 → base + r.cap.0 ≤ length s
    → entries (pushed_of r) base (set s (base + place_of r r.level.0) w) ≡ entries r base s ++ (w ∷ [])
unfolding entries
entries_push r base s w f room fits =
    let q : ℕ = base + place_of r r.level.0 in
    let inside : q < length s = omega (arith, place_below r f r.level.0) in
    let kept : read_all (set s q w) (λ i. base + place_of r i) r.level.0 ≡ read_all s (λ i. base + place_of r i) r.level.0 =
    read_agree (set s q w) s (λ i. base + place_of r i) (λ i. base + place_of r i) r.level.0
    (λ i p. get_or-set_other s q (base + place_of r i) w 0 (λ e. place_apart r f i r.level.0 p room (omega arith))) in
    let last : get_or (set s q w) q 0 ≡ w = get_or-set_same s q w 0 inside in
    rw (add-one, read_snoc (set s q w) (λ i. base + place_of r i) r.level.0) (cc)

pub entries_take : (r : Ring) (base : ℕ) (s : List ℕ) (k : ℕ) → k ≤ r.level.0 → entries (taken_of r k) base s ≡ drop k (entries r base s)
unfolding entries
entries_take r base s k h =
    sym (read_drop s (λ i. base + place_of r i) k r.level.0 h
    ∙ read_agree s s (λ i. base + place_of r (k + i)) (λ i. base + place_of (taken_of r k) i) (r.level.0 - k) (λ i p. ap (λ (n : ℕ). get_or s (base + n) 0) (step r k i)))

pub entries_clear : (r : Ring) (base : ℕ) (s : List ℕ) → entries (cleared_of r) base s ≡ []
unfolding entries
entries_clear r base s = refl

-- a word outside the area changes no entry
pub entries_other : (r : Ring) (base : ℕ) (s : List ℕ) (at w : ℕ) → Valid r → (at < base) ⊎ (base + r.cap.0 ≤ at)
    → entries r base (set s at w) ≡ entries r base s
unfolding entries
entries_other r base s at w f o =
    read_agree (set s at w) s (λ i. base + place_of r i) (λ i. base + place_of r i) r.level.0
    (λ i p. get_or-set_other s at (base + place_of r i) w 0 (λ e. let b = place_below r f i in ⊎_elim (λ l. omega arith) (λ l. omega arith) o))

-- a ring stays valid over a push and a take
pub valid_push : (r : Ring) → Valid r → r.level.0 < r.cap.0 → Valid (pushed_of r)
valid_push r f h = record { cap_least = f.cap_least; head_below = f.head_below; level_most = omega arith }

pub valid_take : (r : Ring) (k : ℕ) → Valid r → Valid (taken_of r k)
valid_take r k f = record { cap_least = f.cap_least; head_below = place_below r f k; level_most = omega arith }

pub valid_clear : (r : Ring) → Valid r → Valid (cleared_of r)
valid_clear r f = record { cap_least = f.cap_least; head_below = f.cap_least; level_most = omega arith }
