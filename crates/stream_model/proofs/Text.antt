-- Records and their lines, one after another, and what a piece of them leaves.
use Prim.Native.Nat.{ℕ, ◌+◌, ◌-◌, ◌*◌, ◌<◌}
use native.Mathlib.Omega.{arith}
use mathlib.Core.Path.{◌≡◌, ap, ◌∙◌}
use mathlib.Core.Bool.{Bool, true, false, cond, ◌&&◌}
use mathlib.Core.List.{List, ◌++◌}
use lib.Dec.{eqb, ltb}
use lib.ListN.{length, take}
use Rattle.model.specs.declared.Call.{Call}
use Rattle.model.specs.Engine.{Step, step}
use Rattle.model.specs.Rings.{Controller, rings}
use Rattle.std.specs.Prelude.{Some}
use Rattle.print.specs.Line.{line_of}
use Rattle.record_model.specs.Record.{record_at, each_record, whole_records}
use Rattle.record_model.proofs.Each.{goes}
use Rattle.stream_model.specs.declared.Stage.TheVariants.{Records}
use Rattle.stream_model.specs.Stream.{RecordsPrinted, records_printed, said, met, lines, Stream, stream, over, records_of}

-- one record more, and its line behind those before
pub next : (n i : ℕ) (bytes : List ℕ) (l : Controller) (k : Call) (x : Step Controller) (t text out : List ℕ) → i < n → record_at bytes i ≡ Some k → x ≡ step rings l k
    → text ≡ line_of x.answer.value x.answer.number → take (12 * i + 12) out ≡ t ++ text
    → each_record said met (n - (i + 1)) bytes (i + 1) (records_printed x.next (take (12 * (i + 1)) out) false) ≡ each_record said met (n - i) bytes i (records_printed l t false)
next n i bytes l k x t text out h e f g p =
    let j : 12 * (i + 1) ≡ 12 * i + 12 = omega arith in
    let rest : Controller → List ℕ → RecordsPrinted = λ c u. each_record said met (n - (i + 1)) bytes (i + 1) (records_printed c u false) in
    ap (λ (m : ℕ). rest x.next (take m out)) j ∙ ap (rest x.next) (p ∙ ap (λ (u : List ℕ). t ++ u) g)
    ∙ ap (λ (y : Step Controller). rest y.next (t ++ line_of y.answer.value y.answer.number)) f ∙ goes said met n i bytes (records_printed l t false) k h e

-- ── The records of a piece, by what its lines tell ────────────────────────────────────────────────────────────
module _ (l : Controller) (m : ℕ) (bytes : List ℕ) (n : ℕ) (p : RecordsPrinted) (is : n ≡ whole_records m bytes) (are : p ≡ lines n bytes l) where
  abbrev past : Bool
  past = eqb n m && ltb (12 * n) (length bytes)

  abbrev choice : ℕ → RecordsPrinted → Stream
  choice k q = cond q.wrong (over q.left bytes q.text 27) (cond (eqb k m && ltb (12 * k) (length bytes)) (over q.left bytes q.text 25) (stream q.left (Records (m - k)) (12 * k) q.text))

  chosen : choice n p ≡ records_of l m bytes
  chosen = ap (choice n) are ∙ ap (λ (k : ℕ). choice k (lines k bytes l)) is

  pub wrong_met : p.wrong ≡ true → over p.left bytes p.text 27 ≡ records_of l m bytes
  wrong_met h = let y : over p.left bytes p.text 27 ≡ choice n p = rw h in y ∙ chosen

  pub too_long : p.wrong ≡ false → past ≡ true → over p.left bytes p.text 25 ≡ records_of l m bytes
  too_long h k = let y : over p.left bytes p.text 25 ≡ choice n p = rw (h, k) in y ∙ chosen

  pub goes_on : p.wrong ≡ false → past ≡ false → stream p.left (Records (m - n)) (12 * n) p.text ≡ records_of l m bytes
  goes_on h k = let y : stream p.left (Records (m - n)) (12 * n) p.text ≡ choice n p = rw (h, k) in y ∙ chosen
