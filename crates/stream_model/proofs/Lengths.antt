-- A file with a right mark and a fault: 25 at once, or after the records that are there.
use Prim.Native.Nat.{ℕ, ◌+◌, ◌-◌, ◌*◌}
use native.Mathlib.Omega.{arith}
use mathlib.Core.Path.{◌≡◌, refl, sym, ap, ◌∙◌}
use mathlib.Core.Bool.{Bool, true, false, cond, ◌&&◌}
use mathlib.Core.List.{List, [], ◌++◌, append-nil}
use lib.Dec.{eqb, ltb}
use lib.ListN.{length, drop, length-drop}
use borrow.Author.Tests.{le-ltb, ltb-false, eqb-false, eq-eqb, ne_eqb}
use Rattle.model.specs.Rings.{Controller}
use Rattle.print.specs.Line.{line_of}
use Rattle.trace_model.specs.declared.Head.{Head}
use Rattle.trace_model.specs.Format.{mark, begins_with, sections, records, section_place, table_right, fault}
use Rattle.trace_model.specs.Head.{head_length}
use Rattle.record_model.specs.Record.{whole_records}
use Rattle.stream_model.specs.declared.Stage.TheVariants.{Records}
use Rattle.stream_model.specs.Stream.{lines, Stream, opened_by, stream_fed, end_number, end_text}
use Rattle.stream_model.specs.Laws.{TableIsTold, LengthIsTold}
use Rattle.stream_model.proofs.Counts.{within_most, within_long}
use Rattle.stream_model.proofs.Cutting.{past, picked}
use Rattle.stream_model.proofs.Tables.{marked, sound_of, right_by_length, sound_head, not_sound, unsound_head}
use Rattle.stream_model.proofs.Inputs.{ended}

-- ── At once ───────────────────────────────────────────────────────────────────────────────────────────────────
faulty : (m t : Bool) → ◌≡◌ {A = ℕ} (cond m (cond t 0 25) 24) 25 → (m ≡ true) × (t ≡ false)
faulty true true e = absurd (omega arith)
faulty true false e = (refl, refl)
faulty false t e = absurd (omega arith)

pub table_is_told : TableIsTold
unfolding TableIsTold fault stream_fed end_number
table_is_told l file e u =
    let f = faulty (begins_with mark file) (table_right file) e in
    let h = marked file (sym f.0) in
    let k : ltb (length file - 0) 4 ≡ false = le-ltb (length file - 0) 4 (omega (arith, h)) in
    unsound_head file (sym f.0) (not_sound file u) (λ h. ended file (opened_by l file h) ≡ line_of 0 25)
    (ap (λ (b : Bool). cond (eqb (cond b 24 25) 0) [] (line_of 0 (cond b 24 25))) k)
    (append-nil (line_of 0 25))

-- ── After the records ─────────────────────────────────────────────────────────────────────────────────────────
missing : (k n : ℕ) → (k ≡ 0 → ⊥) → end_text (Records k) n ≡ line_of 0 25
unfolding end_number
missing k n h = rw (ne_eqb k 0 h)

-- records are missing where no byte is past them, since the length is another
short : (r k : ℕ) (bytes : List ℕ) → k ≡ whole_records r bytes → (length bytes ≡ 12 * r → ⊥) → past r k bytes ≡ false → r - k ≡ 0 → ⊥
short r k bytes is other q z =
    let few = within_most r bytes in
    let long = within_long r bytes in
    let e : k ≡ r = omega (arith, is, few, z) in
    let t : ltb (12 * k) (length bytes) ≡ false = ap (λ (b : Bool). b && ltb (12 * k) (length bytes)) (sym (eq-eqb k r e)) ∙ q in
    other (omega (arith, is, e, long, ltb-false (12 * k) (length bytes) t))

closed : (l : Controller) (bytes : List ℕ) (k n : ℕ) (text : List ℕ) (w q : Bool) (rest : Stream → ℕ) → (q ≡ false → k ≡ 0 → ⊥)
    → (let s = picked l bytes k n text w q in s.text ++ end_text s.stage (rest s)) ≡ text ++ line_of 0 (cond w 27 25)
unfolding end_number
closed l bytes k n text true q rest h = append-nil (text ++ line_of 0 27)
closed l bytes k n text false true rest h = append-nil (text ++ line_of 0 25)
closed l bytes k n text false false rest h = ap (λ (x : List ℕ). text ++ x) (missing k (rest (picked l bytes k n text false false)) (h refl))

pub length_is_told : LengthIsTold
unfolding LengthIsTold fault stream_fed
length_is_told l file e u =
    let f = faulty (begins_with mark file) (table_right file) e in
    let t = sound_of file u in
    let n = head_length file in
    let r = records file (sections file) in
    let bytes = drop n file in
    let k = whole_records r bytes in
    let p = lines k bytes l in
    let other = eqb-false (section_place file (sections file)) (length file) (sym (right_by_length file t) ∙ f.1) in
    let size : length bytes ≡ 12 * r → ⊥ = λ z. other (omega (arith, z, length-drop n file, t.whole)) in
    let rest : Stream → ℕ = λ s. length file - (n + s.used) in (
      other,
      ap (λ (h : Head). ended file (opened_by l file h)) (sound_head file f.0 t)
          ∙ closed p.left bytes (r - k) k p.text p.wrong (past r k bytes) rest (short r k bytes refl size),
    )
