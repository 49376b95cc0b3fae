-- Records one after another, each by a call in place: one that is done, a wrong one, the last one; and a whole section.
use Prim.Native.Nat.{ℕ, zero, suc, ◌+◌, ◌-◌, ◌*◌, ◌<◌, ◌≤◌}
use native.Mathlib.Omega.{arith}
use mathlib.Core.Path.{◌≡◌, ap, sym, ◌∙◌}
use mathlib.Core.List.{List}
use lib.ListN.{length}
use Rattle.bank.specs.declared.Answer.{Answer}
use Rattle.bank.specs.declared.Bank.{Bank}
use Rattle.model.specs.declared.Call.{Call}
use Rattle.model.specs.Engine.{Step, step}
use Rattle.model.specs.Rings.{Controller, rings}
use Rattle.answer.specs.declared.Out.{Out}
use Rattle.answer.specs.Given.{controller, given_out}
use Rattle.letters.specs.Named.{Parsed}
use Rattle.std.specs.Prelude.{Some, None}
use Rattle.trace_model.specs.Format.{look_number, section}
use Rattle.trace_model.proofs.Sections.{refused}
use Rattle.record_model.specs.Record.{record_at, each_record, whole_records}
use Rattle.record_model.proofs.Each.{goes, stops, ends}
use Rattle.playback_model.specs.Replay.{Replay, telling, replay_begun, did, wrong, replay_of}
use Rattle.playback_model.proofs.Laws.{refuses, plays}

-- a call is made: the records after it give what it and they gave
module _ (l : Controller) (k : Call) (y : Out) (output store : List ℕ) (made : given_out y store output ≡ step rings l k) where
  pub record_done : (n i : ℕ) (bytes : List ℕ) (a : Answer) (all : Replay) (found : Parsed) → i < n → found ≡ record_at bytes i → found ≡ Some k
      → each_record did wrong (n - i) bytes i (telling 0 i a l) ≡ all
      → each_record did wrong (n - (i + 1)) bytes (i + 1) (telling 0 (i + 1) y.answer (controller y.bank store output)) ≡ all
  record_done n i bytes a all found h e f g =
      let j : i + 1 ≡ suc i = omega arith in
      ap (λ (x : Step Controller). each_record did wrong (n - (i + 1)) bytes (i + 1) (telling 0 (i + 1) x.answer x.next)) made
      ∙ ap (λ (m : ℕ). each_record did wrong (n - (i + 1)) bytes (i + 1) (telling 0 m (step rings l k).answer (step rings l k).next)) j
      ∙ goes did wrong n i bytes (telling 0 i a l) k h (sym e ∙ f)
      ∙ g

-- what is told, and the store that is left
module _ (n i : ℕ) (bytes : List ℕ) (a : Answer) (b : Bank) (store output : List ℕ) (all : Replay)
    (left : each_record did wrong (n - i) bytes i (telling 0 i a (controller b store output)) ≡ all) where
  abbrev l : Controller
  l = controller b store output

  module _ (found : Parsed) (h : i < n) (e : found ≡ record_at bytes i) (f : found ≡ None) where
    stopped : wrong (telling 0 i a l) ≡ all
    stopped = stops did wrong n i bytes (telling 0 i a l) h (sym e ∙ f) ∙ left

    pub wrong_told : (telling 27 i a l).told ≡ all.told
    wrong_told = ap (λ (r : Replay). r.told) stopped

    pub wrong_left : store ≡ all.left.store
    wrong_left = ap (λ (r : Replay). r.left.store) stopped

  module _ (h : i ≤ n) (k : n ≤ i) where
    done : telling 0 n a l ≡ all
    done = let e : n ≡ i = omega arith in ap (λ (m : ℕ). telling 0 m a l) e ∙ ends did wrong n i bytes (telling 0 i a l) k ∙ left

    pub done_told : (telling 0 n a l).told ≡ all.told
    done_told = ap (λ (r : Replay). r.told) done

    pub done_left : store ≡ all.left.store
    done_left = ap (λ (r : Replay). r.left.store) done

-- ── A whole section ──────────────────────────────────────────────────────────────────────────────────────────────
-- a replay but for its number
abbrev pub unnumbered : Replay → Replay
unnumbered r = telling 0 r.told.count r.told.answer r.left

-- the section's records make the replay but for its number: a section that is refused has none
pub same : (file bytes : List ℕ) (l : Controller) (n x : ℕ) → x ≡ look_number file 0 → bytes ≡ section file 0 → n ≡ whole_records (length file) bytes → 12 * n ≤ length bytes
    → unnumbered (each_record did wrong n bytes 0 (replay_begun 0 l)) ≡ unnumbered (replay_of file 0 (length file) l)
unfolding each_record
same file bytes l n zero e s w h = ap (λ (m : ℕ). unnumbered (each_record did wrong m bytes 0 (replay_begun 0 l))) w ∙ ap unnumbered (plays file 0 (length file) l bytes s (sym e))
same file bytes l n (suc x) e s w h =
    let wrong-file : suc x ≡ 0 → ⊥ = λ p. omega (arith, p) in
    let none : length bytes ≡ 0 = ap length (s ∙ sym (refused file 0 (suc x) e wrong-file).0) in
    let z : n ≡ 0 = omega (arith, h, none) in
    ap (λ (m : ℕ). unnumbered (each_record did wrong m bytes 0 (replay_begun 0 l))) z ∙ ap unnumbered (refuses file 0 (length file) l (suc x) e wrong-file)
