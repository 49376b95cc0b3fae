-- Records one after another: where all name calls, and of any bytes.
use Prim.Native.Nat.{ℕ, zero, suc, ◌+◌, ◌≤◌, ◌<◌}
use native.Mathlib.Omega.{arith}
use mathlib.Core.Path.{◌≡◌, refl, ap, sym, ◌∙◌}
use mathlib.Core.Bool.{cond}
use mathlib.Core.List.{List, [], ◌∷◌, map, foldl}
use lib.ListN.{length, get_or, take, drop}
use Rattle.model.specs.declared.Call.{Call}
use Rattle.letters.specs.Named.{Parsed}
use Rattle.std.specs.Prelude.{Some, None}
use Rattle.record_model.specs.Record.{record_at, onward, each_record}
use Rattle.record_model.specs.Writer.{named_from}
use Rattle.record_model.specs.Done.{calls_before, any_wrong, EachIsMade}

-- so many of them
pub each_named : {A : Type 0} (make : Call → A → A) (stop : A → A) (ks : List Call) (bytes : List ℕ) (i m : ℕ) (a : A) → named_from (length ks) bytes i ≡ map Some ks → m ≤ length ks
    → each_record make stop m bytes i a ≡ foldl (λ x k. make k x) a (take m ks)
unfolding each_record named_from
each_named make stop ks bytes i zero a e h = refl
each_named make stop [] bytes i (suc m) a e h = absurd (omega (arith, h))
each_named make stop (k ∷ ks) bytes i (suc m) a e h =
    ap (λ (p : Parsed). onward make stop p a (each_record make stop m bytes (suc i))) (ap (λ (ps : List Parsed). get_or ps 0 None) e)
    ∙ each_named make stop ks bytes (suc i) m (make k a) (ap (drop 1) e) (omega (arith, h))

-- all of them, and then a wrong one
pub each_stopped : {A : Type 0} (make : Call → A → A) (stop : A → A) (ks : List Call) (bytes : List ℕ) (i m : ℕ) (a : A) → named_from (length ks) bytes i ≡ map Some ks → record_at bytes (i + length ks) ≡ None → length ks < m
    → each_record make stop m bytes i a ≡ stop (foldl (λ x k. make k x) a ks)
unfolding each_record named_from
each_stopped make stop ks bytes i zero a e f h = absurd (omega (arith, h))
each_stopped make stop [] bytes i (suc m) a e f h =
    let j : i + 0 ≡ i = omega arith in
    ap (λ (p : Parsed). onward make stop p a (each_record make stop m bytes (suc i))) (ap (record_at bytes) (sym j) ∙ f)
each_stopped make stop (k ∷ ks) bytes i (suc m) a e f h =
    let j : suc i + length ks ≡ i + suc (length ks) = omega arith in
    ap (λ (p : Parsed). onward make stop p a (each_record make stop m bytes (suc i))) (ap (λ (ps : List Parsed). get_or ps 0 None) e)
    ∙ each_stopped make stop ks bytes (suc i) m (make k a) (ap (drop 1) e) (ap (record_at bytes) j ∙ f) (omega (arith, h))

length_named : (n : ℕ) (bytes : List ℕ) (i : ℕ) → length (named_from n bytes i) ≡ n
unfolding named_from
length_named zero bytes i = refl
length_named (suc n) bytes i = ap suc (length_named n bytes (suc i))

length_map : (ks : List Call) → length (map Some ks) ≡ length ks
length_map [] = refl
length_map (k ∷ ks) = ap suc (length_map ks)

-- there are as many records as calls
pub named_count : (n : ℕ) (bytes : List ℕ) (i : ℕ) (ks : List Call) → named_from n bytes i ≡ map Some ks → n ≡ length ks
named_count n bytes i ks e = sym (length_named n bytes i) ∙ ap length e ∙ length_map ks

-- ── Records of any bytes ──────────────────────────────────────────────────────────────────────────────────────
abbrev ended_by : {A : Type 0} → (Call → A → A) → (A → A) → List Parsed → A → A
ended_by make stop ps a = let x = foldl (λ x k. make k x) a (calls_before ps) in cond (any_wrong ps) (stop x) x

onward_made : {A : Type 0} (make : Call → A → A) (stop : A → A) (p : Parsed) (ps : List Parsed) (a : A) (rest : A → A) → ((b : A) → rest b ≡ ended_by make stop ps b) → onward make stop p a rest ≡ ended_by make stop (p ∷ ps) a
unfolding calls_before any_wrong
onward_made make stop (Some k) ps a rest h = h (make k a)
onward_made make stop None ps a rest h = refl

pub each_is_made : EachIsMade
unfolding EachIsMade each_record named_from calls_before any_wrong
each_is_made A make stop zero bytes i a = refl
each_is_made A make stop (suc n) bytes i a = onward_made make stop (record_at bytes i) (named_from n bytes (suc i)) a (each_record make stop n bytes (suc i)) (λ b. each_is_made A make stop n bytes (suc i) b)
