-- Whole inputs: in pieces of any cutting, without a fault, and without a right mark.
use Prim.Native.Nat.{ℕ, ◌+◌, ◌-◌, ◌*◌, ◌≤◌}
use native.Mathlib.Omega.{arith}
use native.Mathlib.Decide.{dec_lt}
use mathlib.Core.Path.{◌≡◌, refl, sym, ap, ap₂, ◌∙◌}
use mathlib.Core.Bool.{Bool, true, false, cond, ◌&&◌}
use mathlib.Core.List.{List, [], ◌∷◌, ◌++◌, flatten, append-nil, append_assoc}
use lib.Dec.{eqb, ltb}
use lib.ListN.{length, drop, length-append, length-drop}
use borrow.Author.Tests.{lt-ltb, le-ltb, eq-eqb}
use Rattle.model.specs.Rings.{Controller}
use Rattle.print.specs.Line.{line_of}
use Rattle.trace_model.specs.declared.Head.{Head}
use Rattle.trace_model.specs.declared.Head.TheVariants.{More, Wrong, Right}
use Rattle.trace_model.specs.Format.{mark, begins_with, sections, records, table_right, fault}
use Rattle.trace_model.specs.Head.{head_length, head_of}
use Rattle.trace_model.proofs.Table.{sound}
use Rattle.trace_model.proofs.Heads.{mark_cut, mark_wrong, right_within}
use Rattle.record_model.specs.Record.{whole_records}
use Rattle.stream_model.specs.declared.Stage.{Stage}
use Rattle.stream_model.specs.declared.Stage.TheVariants.{Opening, Records, Over}
use Rattle.stream_model.specs.Stream.{RecordsPrinted, lines, Stream, stream, records_of, opened_by, stream_fed, end_number, end_text, transcript}
use Rattle.stream_model.specs.Laws.{after_piece, CutAnywhere, fed_pieces, AnyPieces, SoundIsPrinted, MarkIsTold}
use Rattle.stream_model.proofs.Counts.{within_is, within_long}
use Rattle.stream_model.proofs.Cutting.{past, picked, as_told, cut_anywhere}
use Rattle.stream_model.proofs.Tables.{right_sound, sound_head}

-- what a piece printed, and the end behind it
abbrev pub ended : List ℕ → Stream → List ℕ
ended bytes y = y.text ++ end_text y.stage (length bytes - y.used)

-- ── Pieces ────────────────────────────────────────────────────────────────────────────────────────────────────
-- no more bytes are used than there are
picked_used : (l : Controller) (bytes : List ℕ) (k n : ℕ) (text : List ℕ) (w q : Bool) → 12 * n ≤ length bytes → (picked l bytes k n text w q).used ≤ length bytes
picked_used l bytes k n text true q h = omega arith
picked_used l bytes k n text false true h = omega arith
picked_used l bytes k n text false false h = h

records_used : (l : Controller) (t : ℕ) (bytes : List ℕ) → (records_of l t bytes).used ≤ length bytes
records_used l t bytes =
    let n = whole_records t bytes in
    let p = lines n bytes l in
    picked_used p.left bytes (t - n) n p.text p.wrong (past t n bytes) (within_long t bytes)

opened_used : (l : Controller) (bytes : List ℕ) (h : Head) → head_of bytes ≡ h → (opened_by l bytes h).used ≤ length bytes
opened_used l bytes More e = omega arith
opened_used l bytes (Wrong number) e = omega arith
opened_used l bytes (Right n r) e = omega (arith, right_within bytes n r e, records_used l r (drop n bytes), length-drop n bytes)

fed_used : (l : Controller) (s : Stage) (bytes : List ℕ) → (stream_fed l s bytes).used ≤ length bytes
unfolding stream_fed
fed_used l Opening bytes = opened_used l bytes (head_of bytes) refl
fed_used l (Records t) bytes = records_used l t bytes
fed_used l Over bytes = omega arith

-- what a piece leaves does nothing until more comes
abbrev Settled : Controller → Stage → List ℕ → Type 0
Settled l s held = stream_fed l s held ≡ stream l s 0 []

none_more : (a b : List ℕ) → a ++ b ≡ a → b ≡ []
none_more a [] e = refl
none_more a (x ∷ b) e = let n : length (a ++ (x ∷ b)) ≡ length a = ap length e in absurd (omega (arith, n, length-append a (x ∷ b)))

left_settled : (l : Controller) (s : Stage) (a : List ℕ) → let y = stream_fed l s a in Settled y.left y.stage (drop y.used a)
unfolding CutAnywhere
left_settled l s a =
    let y = stream_fed l s a in
    let z = stream_fed y.left y.stage (drop y.used a) in
    let e : after_piece y z ≡ y = ap (λ (x : List ℕ). after_piece y (stream_fed y.left y.stage x)) (sym (append-nil (drop y.used a))) ∙ cut_anywhere l s a [] ∙ ap (stream_fed l s) (append-nil a) in
    let n : y.used + z.used ≡ y.used = ap (λ (x : Stream). x.used) e in
    let used : z.used ≡ 0 = omega (arith, n) in
    let text : z.text ≡ [] = none_more y.text z.text (ap (λ (x : Stream). x.text) e) in
    λ j. stream (e j).left (e j).stage (used j) (text j)

pieces_as_one : (l : Controller) (s : Stage) (held : List ℕ) (ps : List (List ℕ)) → Settled l s held
    → fed_pieces l s held ps ≡ ended (held ++ flatten ps) (stream_fed l s (held ++ flatten ps))
unfolding fed_pieces flatten CutAnywhere
pieces_as_one l s held [] e =
    let n : length held ≡ length held - 0 = omega arith in
    ap (end_text s) n ∙ ap (ended held) (sym e) ∙ ap (λ (x : List ℕ). ended x (stream_fed l s x)) (sym (append-nil held))
pieces_as_one l s held (p ∷ ps) e =
    let a = held ++ p in
    let b = flatten ps in
    let y = stream_fed l s a in
    let rest = drop y.used a ++ b in
    let z = stream_fed y.left y.stage rest in
    let n : length rest - z.used ≡ length (a ++ b) - (y.used + z.used) = omega (arith, fed_used l s a, length-append a b, length-append (drop y.used a) b, length-drop y.used a) in
    ap (λ (t : List ℕ). y.text ++ t) (pieces_as_one y.left y.stage (drop y.used a) ps (left_settled l s a))
    ∙ sym (append_assoc y.text z.text (end_text z.stage (length rest - z.used)))
    ∙ ap (λ (k : ℕ). (y.text ++ z.text) ++ end_text z.stage k) n
    ∙ ap (ended (a ++ b)) (cut_anywhere l s a b)
    ∙ ap (λ (x : List ℕ). ended x (stream_fed l s x)) (append_assoc held p b)

pub any_pieces : AnyPieces
unfolding AnyPieces stream_fed
any_pieces l ps = pieces_as_one l Opening [] ps refl

-- ── A right file ──────────────────────────────────────────────────────────────────────────────────────────────
-- the records of a table, all there and no byte more
all_told : (l : Controller) (bytes : List ℕ) (n : ℕ) → length bytes ≡ 12 * n → (let p = lines n bytes l in records_of l n bytes ≡ picked p.left bytes (n - n) n p.text p.wrong false)
all_told l bytes n long =
    let p = lines n bytes l in
    let is : whole_records n bytes ≡ n = omega (arith, within_is n bytes) in
    let none : past n n bytes ≡ false = ap₂ ◌&&◌ (eq-eqb n n refl) (le-ltb (12 * n) (length bytes) (omega arith)) in
    as_told l n bytes n p is refl ∙ ap (picked p.left bytes (n - n) n p.text p.wrong) none

-- the end adds nothing to them, whatever was used
closed : (l : Controller) (bytes : List ℕ) (k n : ℕ) (text : List ℕ) (w : Bool) (rest : Stream → ℕ) → k ≡ 0
    → (let s = picked l bytes k n text w false in s.text ++ end_text s.stage (rest s)) ≡ text ++ cond w (line_of 0 27) []
unfolding end_number
closed l bytes k n text true rest e = append-nil (text ++ line_of 0 27)
closed l bytes k n text false rest e = ap (λ (k : ℕ). text ++ end_text (Records k) 0) e

-- lines, and at a wrong record 27
abbrev pub reported : RecordsPrinted → List ℕ
reported p = p.text ++ cond p.wrong (line_of 0 27) []

-- a right head, and behind it its records
pub head_and_records : (l : Controller) (file : List ℕ) (n r : ℕ) → head_of file ≡ Right n r → length (drop n file) ≡ 12 * r → transcript l file ≡ reported (lines r (drop n file) l)
unfolding stream_fed
head_and_records l file n r e long =
    let bytes = drop n file in
    let p = lines r bytes l in
    let rest : Stream → ℕ = λ s. length file - (n + s.used) in
    ap (λ (h : Head). ended file (opened_by l file h)) e
    ∙ ap (λ (s : Stream). s.text ++ end_text s.stage (rest s)) (all_told l bytes r long)
    ∙ closed p.left bytes (r - r) r p.text p.wrong rest (omega arith)

-- the mark by the number
right_mark : (m t : Bool) → ◌≡◌ {A = ℕ} (cond m (cond t 0 25) 24) 0 → m ≡ true
right_mark true t e = refl
right_mark false t e = absurd (omega arith)

unmarked : (m t : Bool) → ◌≡◌ {A = ℕ} (cond m (cond t 0 25) 24) 24 → m ≡ false
unmarked true true e = absurd (omega arith)
unmarked true false e = absurd (omega arith)
unmarked false t e = refl

right_head : (file : List ℕ) → fault file ≡ 0 → head_of file ≡ Right (head_length file) (records file (sections file))
unfolding fault
right_head file e = sound_head file (right_mark (begins_with mark file) (table_right file) e) (right_sound file (sound file e))

pub sound_is_printed : SoundIsPrinted
unfolding SoundIsPrinted
sound_is_printed l file e =
    let n = head_length file in
    head_and_records l file n (records file (sections file)) (right_head file e) (omega (arith, (sound file e).ends, length-drop n file))

-- ── No right mark ─────────────────────────────────────────────────────────────────────────────────────────────
pub mark_is_told : MarkIsTold
unfolding MarkIsTold fault stream_fed end_number
mark_is_told l file e =
    let m : begins_with mark file ≡ false = unmarked (begins_with mark file) (table_right file) e in
    let by : Head → List ℕ = λ h. ended file (opened_by l file h) in
    elim (dec_lt (length file) 4) [
      | yes h ↦ (let k : ltb (length file - 0) 4 ≡ true = lt-ltb (length file - 0) 4 (omega arith) in ap by (sym (mark_cut file h)) ∙ ap (λ (b : Bool). cond (eqb (cond b 24 25) 0) [] (line_of 0 (cond b 24 25))) k)
      | no h ↦ ap by (sym (mark_wrong file false (omega (arith, h)) (sym m) refl)) ∙ append-nil (line_of 0 24)
    ]
