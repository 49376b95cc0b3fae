-- One operation on one queue, for any base, capacity and store: its words become those of the list, and no word outside its area changes.
use Prim.Native.Nat.{ℕ, zero, suc, ◌+◌, ◌-◌, ◌%◌, ◌≤◌, ◌<◌}
use native.Mathlib.Nat.{mod-eq_of_lt}
use native.Mathlib.Numerals.{add-one}
use native.Mathlib.Omega.{arith}
use mathlib.Core.Path.{◌≡◌, refl, ap, sym, ◌∙◌}
use mathlib.Core.List.{List, [], ◌∷◌, ◌++◌, append_assoc}
use mathlib.Core.Logic.{◌⊎◌, inl, inr, ⊎_elim}
use lib.ListN.{length, get_or, set, length-set}
use lib.Seq.{get_or-set_same, get_or-set_other}
use Rattle.ring.specs.declared.Ring.{Ring}
use Rattle.ring.specs.Ring.{read_all, entries, place_of, taken_of}
use Rattle.ring.specs.Units.{words}
use Rattle.ring.proofs.Laws.{read_agree, read_snoc, entries_take}
use Rattle.bank.specs.Queues.{ring}
use Rattle.model.specs.Decision.{QueueOp, keep, clear, take, push, push2}
use Rattle.model.specs.Lists.{on_words}
use Rattle.plain_model.specs.declared.PlainArea.{PlainArea}
use Rattle.plain_model.specs.Areas.{plain_words}
use Rattle.plain_model.specs.Moves.{on_level, shift, on_plain_store}
use Rattle.plain_model.specs.FitsArea.{FitsArea}
use Rattle.plain_model.specs.PlainLaws.{DeadWordsStay}

-- ── Words moved down, in any stretch of any store ─────────────────────────────────────────────────────────────
abbrev pub Outside : ℕ → ℕ → ℕ → Type 0
Outside to n x = (x < to) ⊎ (to + n ≤ x)

pub length_shift : (to from n : ℕ) (st : List ℕ) → length (shift to from n st) ≡ length st
unfolding shift
length_shift to from zero st = refl
length_shift to from (suc n) st = length_shift (suc to) (suc from) n (set st to (get_or st from 0)) ∙ length-set st to (get_or st from 0)

-- a word outside the stretch that is written stays
pub shift_outside : (to from n : ℕ) (st : List ℕ) (x : ℕ) → Outside to n x → get_or (shift to from n st) x 0 ≡ get_or st x 0
unfolding shift
shift_outside to from zero st x h = refl
shift_outside to from (suc n) st x h =
    shift_outside (suc to) (suc from) n (set st to (get_or st from 0)) x (⊎_elim (λ a. inl (omega arith)) (λ a. inr (omega arith)) h)
    ∙ get_or-set_other st to x (get_or st from 0) 0 (λ e. ⊎_elim (λ a. omega arith) (λ a. omega arith) h)

-- a word inside comes from as far behind `from` as it stands behind `to`
pub shift_inside : (to from n : ℕ) (st : List ℕ) (i : ℕ) → to ≤ from → to + n ≤ length st → i < n → get_or (shift to from n st) (to + i) 0 ≡ get_or st (from + i) 0
unfolding shift
shift_inside to from zero st i h l p = absurd (omega arith)
shift_inside to from (suc n) st zero h l p =
    let w = get_or st from 0 in
    let x : to + 0 ≡ to = omega arith in
    let y : from + 0 ≡ from = omega arith in
    rw (x, y) (shift_outside (suc to) (suc from) n (set st to w) to (inl (omega arith)) ∙ get_or-set_same st to w 0 (omega arith))
shift_inside to from (suc n) st (suc i) h l p =
    let w = get_or st from 0 in
    let z = length-set st to w in
    let x : to + suc i ≡ suc to + i = omega arith in
    let y : from + suc i ≡ suc from + i = omega arith in
    rw (x, y)
    (shift_inside (suc to) (suc from) n (set st to w) i (omega arith) (omega arith) (omega arith)
    ∙ get_or-set_other st to (suc from + i) w 0 (λ e. omega arith))

-- ── A plain queue is a ring whose first place is 0 ────────────────────────────────────────────────────────────
abbrev ring_at0 : PlainArea → Ring
ring_at0 a = ring (words a.cap) 0 (words a.level)

place_at_0 : (i cap : ℕ) → i < cap → (0 + i) % cap ≡ i
place_at_0 i cap h = let z : 0 + i ≡ i = omega arith in ap (λ (x : ℕ). x % cap) z ∙ mod-eq_of_lt h

pub words_at_0 : (a : PlainArea) (st : List ℕ) → a.level ≤ a.cap → entries (ring_at0 a) a.base st ≡ plain_words a st
unfolding entries plain_words
words_at_0 a st l =
    read_agree st st (λ i. a.base + place_of (ring_at0 a) i) (λ i. a.base + i) a.level
    (λ i p. ap (λ (x : ℕ). get_or st (a.base + x) 0) (place_at_0 i a.cap (omega arith)))

-- without its first k words it is a ring whose first place is k
taken_at_0 : (a : PlainArea) (st : List ℕ) (k : ℕ) → k ≤ a.level → a.level ≤ a.cap → entries (taken_of (ring_at0 a) k) a.base st ≡ read_all st (λ i. a.base + k + i) (a.level - k)
unfolding entries
taken_at_0 a st k h l =
    read_agree st st (λ i. a.base + place_of (taken_of (ring_at0 a) k) i) (λ i. a.base + k + i) (a.level - k)
    (λ i p.
    let y = place_at_0 k a.cap (omega arith) in
    let z : (k + i) % a.cap ≡ k + i = mod-eq_of_lt (omega arith) in
    let w : a.base + (k + i) ≡ a.base + k + i = omega arith in
    ap (λ (x : ℕ). get_or st (a.base + (x + i) % a.cap) 0) y ∙ ap (λ (x : ℕ). get_or st (a.base + x) 0) z ∙ ap (λ (x : ℕ). get_or st x 0) w)

-- ── One operation ─────────────────────────────────────────────────────────────────────────────────────────────
pub length_plain : (o : QueueOp) (a : PlainArea) (st : List ℕ) → length (on_plain_store o a st) ≡ length st
unfolding on_plain_store
length_plain keep a st = refl
length_plain clear a st = refl
length_plain (take k) a st = length_shift _ _ _ st
length_plain (push w) a st = length-set st _ w
length_plain (push2 v w) a st = length-set (set st _ v) _ w ∙ length-set st _ v

pub level_kept : (o : QueueOp) (a : PlainArea) → FitsArea o a → on_level o a.level ≤ a.cap
level_kept keep a w = w.most
level_kept clear a w = omega arith
level_kept (take k) a w = let l = w.most in omega arith
level_kept (push v) a w = w.fit
level_kept (push2 u v) a w = w.fit

-- no operation writes outside its area
pub plain_outside : (o : QueueOp) (a : PlainArea) (st : List ℕ) (x : ℕ) → FitsArea o a → Outside a.base a.cap x → get_or (on_plain_store o a st) x 0 ≡ get_or st x 0
unfolding on_plain_store
plain_outside keep a st x w d = refl
plain_outside clear a st x w d = refl
plain_outside (take k) a st x w d = let l = w.most in shift_outside _ _ _ st x (⊎_elim (λ e. inl e) (λ e. inr (omega arith)) d)
plain_outside (push v) a st x w d = let h : a.level + 1 ≤ a.cap = w.fit in get_or-set_other st _ x v 0 (λ e. ⊎_elim (λ f. omega arith) (λ f. omega arith) d)
plain_outside (push2 u v) a st x w d =
    let h : a.level + 2 ≤ a.cap = w.fit in
    get_or-set_other (set st (a.base + a.level) u) _ x v 0 (λ e. ⊎_elim (λ f. omega arith) (λ f. omega arith) d)
    ∙ get_or-set_other st _ x u 0 (λ e. ⊎_elim (λ f. omega arith) (λ f. omega arith) d)

pub dead_words_stay : DeadWordsStay
unfolding DeadWordsStay on_plain_store
dead_words_stay k a st x d = shift_outside _ _ _ st x d

read_push : (base n : ℕ) (st : List ℕ) (w : ℕ) → base + n < length st → read_all (set st (base + n) w) (λ i. base + i) (n + 1) ≡ read_all st (λ i. base + i) n ++ (w ∷ [])
read_push base n st w l =
    let kept : read_all (set st (base + n) w) (λ i. base + i) n ≡ read_all st (λ i. base + i) n =
    read_agree (set st (base + n) w) st (λ i. base + i) (λ i. base + i) n (λ i p. get_or-set_other st (base + n) (base + i) w 0 (λ e. omega arith)) in
    let last : get_or (set st (base + n) w) (base + n) 0 ≡ w = get_or-set_same st (base + n) w 0 l in
    rw (add-one, read_snoc (set st (base + n) w) (λ i. base + i) n) (cc)

abbrev pub on_plain_area : QueueOp → PlainArea → PlainArea
on_plain_area o a = record { base = a.base; cap = a.cap; level = on_level o a.level }

-- the queue's own words
pub own : (o : QueueOp) (a : PlainArea) (st : List ℕ) → FitsArea o a → a.base + a.cap ≤ length st → plain_words (on_plain_area o a) (on_plain_store o a st) ≡ on_words o (plain_words a st)
unfolding plain_words on_plain_store
own keep a st w z = refl
own clear a st w z = refl
own (take k) a st w z =
    let b = a.base in
    let n = a.level - k in
    let l = w.most in
    let h : k ≤ a.level = w.fit in
    read_agree (shift b (b + k) n st) st (λ i. b + i) (λ i. b + k + i) n (λ i p. shift_inside b (b + k) n st i (omega arith) (omega arith) p)
    ∙ sym (taken_at_0 a st k h l)
    ∙ entries_take (ring_at0 a) b st k h
    ∙ ap (on_words (take k)) (words_at_0 a st l)
own (push v) a st w z = let h : a.level + 1 ≤ a.cap = w.fit in read_push a.base a.level st v (omega arith)
own (push2 u v) a st w z =
    let b = a.base in
    let n = a.level in
    let h : n + 2 ≤ a.cap = w.fit in
    let y = length-set st (b + n) u in
    let two : n + 2 ≡ n + 1 + 1 = omega arith in
    ap (read_all (set (set st (b + n) u) (b + (n + 1)) v) (λ i. b + i)) two
    ∙ read_push b (n + 1) (set st (b + n) u) v (omega arith)
    ∙ ap (λ (x : List ℕ). x ++ (v ∷ [])) (read_push b n st u (omega arith))
    ∙ append_assoc (read_all st (λ i. b + i) n) (u ∷ []) (v ∷ [])
