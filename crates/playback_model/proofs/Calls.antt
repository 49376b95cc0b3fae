-- `replay.calls`: a replay makes the calls of its records, one by one.
use Prim.Native.Nat.{ℕ, suc, ◌+◌, ◌/◌, ◌≤◌}
use native.Mathlib.Omega.{arith}
use native.Mathlib.Decide.{dec_lt}
use mathlib.Core.Path.{◌≡◌, refl, ap, ap₂, sym, ◌∙◌}
use mathlib.Core.Bool.{cond}
use mathlib.Core.List.{List, [], ◌∷◌, foldl}
use lib.Dec.{ltb}
use lib.ListN.{length, take}
use lib.Seq.{take_all}
use borrow.Author.Tests.{lt-ltb, le-ltb}
use Rattle.bank.specs.declared.Answer.{Answer}
use Rattle.model.specs.declared.Call.{Call}
use Rattle.model.specs.Engine.{step, lending, answers, final}
use Rattle.model.specs.Rings.{Controller, rings}
use Rattle.trace_model.specs.Format.{look_number, section}
use Rattle.record_model.specs.Record.{record_at, whole_records}
use Rattle.record_model.specs.Writer.{WrittenIsRead, trace_of, named_from, section_of}
use Rattle.record_model.proofs.Kept.{same_output, empty}
use Rattle.record_model.proofs.Made.{each_named, each_stopped, named_count}
use Rattle.record_model.proofs.RoundTrip.{written_is_read}
use Rattle.playback_model.specs.Replay.{telling, replay_begun, did, wrong}
use Rattle.playback_model.specs.Laws.{lent_on, EmptyIsLent, made, OneByOne, StopsAtWrong, RefusedLeavesAll, WrittenIsMade}
use Rattle.playback_model.proofs.Laws.{refuses, plays}

-- from where some were made: number and count go on, the answer is the last one's
goes_on : (ks : List Call) (n c : ℕ) (a : Answer) (l : Controller)
    → foldl (λ r k. did k r) (telling n c a l) ks ≡ telling n (c + length ks) (foldl (λ _ x. x) a (answers rings l (lent_on ks l))) (final rings l (lent_on ks l))
unfolding lent_on answers final
goes_on [] n c a l = let z : c ≡ c + 0 = omega arith in ap (λ (m : ℕ). telling n m a l) z
goes_on (k ∷ ks) n c a l =
    let s = step rings l k in
    let z : suc c + length ks ≡ c + suc (length ks) = omega arith in
    goes_on ks n (suc c) s.answer s.next ∙ ap (λ (m : ℕ). telling n m (foldl (λ _ x. x) s.answer (answers rings s.next (lent_on ks s.next))) (final rings s.next (lent_on ks s.next))) z

pub one_after_another : (ks : List Call) (l : Controller) → foldl (λ r k. did k r) (replay_begun 0 l) ks ≡ made 0 ks l
one_after_another ks l =
    let z : 0 + length ks ≡ length ks = omega arith in
    goes_on ks 0 0 (record { value = 0; number = 0 }) l ∙ ap (λ (m : ℕ). telling 0 m (made 0 ks l).told.answer (made 0 ks l).left) z

pub empty_is_lent : EmptyIsLent
unfolding EmptyIsLent lent_on lending
empty_is_lent [] l e = refl
empty_is_lent (k ∷ ks) l e = let s = step rings l k in ap₂ (λ o rest. record { output = o; call = k } ∷ rest) e (empty_is_lent ks s.next (sym (empty s.next.output (same_output l k ∙ ap length e))))

-- as many as the limit allows, or all
some_of : (ks : List Call) (limit n : ℕ) → n ≡ length ks → (take (cond (ltb limit n) limit n) ks ≡ take limit ks) × (cond (ltb limit n) limit n ≤ length ks)
some_of ks limit n e = elim (dec_lt limit n) [
  | yes h ↦ (let t = lt-ltb limit n h in (rw t, rw t (let z : limit ≤ length ks = omega (arith, e, h) in z)))
  | no h ↦ (let t = le-ltb limit n (omega (arith, h)) in
      (rw t (take_all n ks (omega (arith, e)) ∙ sym (take_all limit ks (omega (arith, e, h)))), rw t (let z : n ≤ length ks = omega (arith, e) in z)))
]

pub one_by_one : OneByOne
unfolding OneByOne
one_by_one ks bytes limit l e h = each_named did _ ks bytes 0 (whole_records limit bytes) (replay_begun 0 l) e h ∙ one_after_another (take (whole_records limit bytes) ks) l

pub stops_at_wrong : StopsAtWrong
unfolding StopsAtWrong
stops_at_wrong ks bytes limit l e f h = let j : 0 + length ks ≡ length ks = omega arith in each_stopped did wrong ks bytes 0 (whole_records limit bytes) (replay_begun 0 l) e (ap (record_at bytes) j ∙ f) h ∙ ap wrong (one_after_another ks l)

pub refused_leaves_all : RefusedLeavesAll
unfolding RefusedLeavesAll
refused_leaves_all file i limit l h = sym (refuses file i limit l (look_number file i) refl h)

pub written_is_made : WrittenIsMade
unfolding WrittenIsMade WrittenIsRead OneByOne
written_is_made ss i limit l a b c d h =
    let w = written_is_read ss i a b c d h in
    let bytes = section (trace_of ss) i in
    let ks = section_of ss i in
    let n : length bytes / 12 ≡ length ks = named_count (length bytes / 12) bytes 0 ks w.1 in
    let s = some_of ks limit (length bytes / 12) n in
    sym (plays (trace_of ss) i limit l bytes refl w.0) ∙ one_by_one ks bytes limit l (ap (λ (m : ℕ). named_from m bytes 0) (sym n) ∙ w.1) s.1 ∙ ap (λ (xs : List Call). made 0 xs l) s.0
