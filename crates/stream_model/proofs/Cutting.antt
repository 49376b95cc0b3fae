-- `replay.pieces`: an input may be cut in two anywhere.
use Prim.Native.Nat.{ℕ, ◌+◌, ◌-◌, ◌*◌, ◌≤◌}
use native.Mathlib.Omega.{arith}
use native.Mathlib.Nat.{zero-add, add_assoc}
use mathlib.Core.Path.{◌≡◌, refl, sym, ap, ap₂, ◌∙◌}
use mathlib.Core.Bool.{Bool, true, false, cond, ◌&&◌}
use mathlib.Core.List.{List, [], ◌++◌, append-nil, append_assoc}
use lib.Dec.{eqb, ltb}
use lib.ListN.{length, drop, length-append, length-drop}
use lib.Seq.{drop-length, drop-drop, drop-append-le}
use borrow.Author.Tests.{lt-ltb, ltb-true, eqb-true, eq-eqb}
use Rattle.number.specs.Refusals.{number_of}
use Rattle.model.specs.Rings.{Controller}
use Rattle.print.specs.Line.{line_of}
use Rattle.lines.proofs.Choices.{chosen, passed}
use Rattle.trace_model.specs.declared.Head.{Head}
use Rattle.trace_model.specs.declared.Head.TheVariants.{More, Wrong, Right}
use Rattle.trace_model.specs.Head.{head_of}
use Rattle.trace_model.proofs.Table.{and-true}
use Rattle.record_model.specs.Record.{whole_records}
use Rattle.stream_model.specs.declared.Stage.TheVariants.{Opening, Records, Over}
use Rattle.stream_model.specs.Stream.{RecordsPrinted, lines, Stream, stream, over, records_of, opened_by, stream_fed}
use Rattle.stream_model.specs.Laws.{after_piece, CutAnywhere}
use Rattle.stream_model.proofs.Counts.{within_is, within_most, within_long}
use Rattle.stream_model.proofs.Prefix.{Kept, head_kept}
use Rattle.stream_model.proofs.Runs.{behind, same_lines, stopped, followed}

-- ── How many records, cut in two ──────────────────────────────────────────────────────────────────────────────
-- what n records of the first piece leave, with the second behind it
abbrev rest : ℕ → List ℕ → List ℕ → List ℕ
rest n a b = drop (12 * n) a ++ b

rest_length : (n : ℕ) (a b : List ℕ) → 12 * n ≤ length a → 12 * n + length (rest n a b) ≡ length (a ++ b)
rest_length n a b h = omega (arith, length-append a b, length-append (drop (12 * n) a) b, length-drop (12 * n) a)

-- bytes past the last record
abbrev pub past : ℕ → ℕ → List ℕ → Bool
past t n bytes = eqb n t && ltb (12 * n) (length bytes)

module _ (t : ℕ) (a b : List ℕ) where
  within_cut : let n = whole_records t a in whole_records t (a ++ b) ≡ n + whole_records (t - n) (rest n a b)
  within_cut =
      let n = whole_records t a in
      omega (arith, within_is t a, within_is t (a ++ b), within_is (t - n) (rest n a b), length-append a b, rest_length n a b (within_long t a))

  past_stays : let n = whole_records t a in past t n a ≡ true → (whole_records t (a ++ b) ≡ n) × (past t n (a ++ b) ≡ true)
  past_stays f =
      let n = whole_records t a in
      let z = and-true (eqb n t) (ltb (12 * n) (length a)) f in
      let e = eqb-true n t z.0 in
      let h = ltb-true (12 * n) (length a) z.1 in
      (omega (arith, within_is t a, within_is t (a ++ b), length-append a b), ap₂ ◌&&◌ z.0 (lt-ltb (12 * n) (length (a ++ b)) (omega (arith, length-append a b))))

alike : (s r : Bool) → (s ≡ true → r ≡ true) → (r ≡ true → s ≡ true) → s ≡ r
alike true r f g = sym (f refl)
alike false true f g = g refl
alike false false f g = refl

past_cut : (t n m : ℕ) (a b : List ℕ) → n ≤ t → 12 * n ≤ length a → past (t - n) m (rest n a b) ≡ past t (n + m) (a ++ b)
past_cut t n m a b few long =
    let k = length (rest n a b) in
    let z : 12 * n + k ≡ length (a ++ b) = rest_length n a b long in
    ap₂ ◌&&◌ (alike (eqb m (t - n)) (eqb (n + m) t) (λ e. eq-eqb (n + m) t (omega (arith, eqb-true m (t - n) e))) (λ e. eq-eqb m (t - n) (omega (arith, eqb-true (n + m) t e))))
    (alike (ltb (12 * m) k) (ltb (12 * (n + m)) (length (a ++ b))) (λ e. lt-ltb (12 * (n + m)) (length (a ++ b)) (omega (arith, ltb-true (12 * m) k e))) (λ e. lt-ltb (12 * m) k (omega (arith, ltb-true (12 * (n + m)) (length (a ++ b)) e))))

-- ── The pieces ────────────────────────────────────────────────────────────────────────────────────────────────
-- one of three
three : (f : Stream → Stream) (w q : Bool) (r : Bool → Bool → Stream) {x y z : Stream} → (w ≡ true → f x ≡ r true q) → (w ≡ false → q ≡ true → f y ≡ r false true)
    → (w ≡ false → q ≡ false → f z ≡ r false false) → f (cond w x (cond q y z)) ≡ r w q
three f true q r e g h = e refl
three f false true r e g h = g refl refl
three f false false r e g h = h refl refl

-- the first piece, and then the second
abbrev pieces : List ℕ → List ℕ → Stream → Stream
pieces a b y = after_piece y (stream_fed y.left y.stage (drop y.used a ++ b))

all_used : (a b : List ℕ) → length a + length (drop (length a) a ++ b) ≡ length (a ++ b)
all_used a b = rw (drop-length a) (sym (length-append a b))

over_cut : (l : Controller) (a b t : List ℕ) (number : ℕ) → pieces a b (over l a t number) ≡ over l (a ++ b) t number
unfolding stream_fed
over_cut l a b t number = λ j. stream l Over (all_used a b j) (append-nil (t ++ line_of 0 number) j)

-- n records by what was printed for them; by the tests of a wrong one and of bytes past the last
abbrev pub picked : Controller → List ℕ → ℕ → ℕ → List ℕ → Bool → Bool → Stream
picked l bytes to-come n text w q = cond w (over l bytes text 27) (cond q (over l bytes text 25) (stream l (Records to-come) (12 * n) text))

abbrev pub told : ℕ → List ℕ → ℕ → RecordsPrinted → Stream
told t bytes n p = picked p.left bytes (t - n) n p.text p.wrong (past t n bytes)

pub as_told : (l : Controller) (t : ℕ) (bytes : List ℕ) (n : ℕ) (p : RecordsPrinted) → whole_records t bytes ≡ n → lines n bytes l ≡ p → records_of l t bytes ≡ told t bytes n p
as_told l t bytes n p e f = ap (λ (k : ℕ). told t bytes k (lines k bytes l)) e ∙ ap (told t bytes n) f

-- m records behind n
told_cut : (l : Controller) (t n m : ℕ) (a b text : List ℕ) (p : RecordsPrinted) → n ≤ t → 12 * n ≤ length a
    → after_piece (stream l (Records (t - n)) (12 * n) text) (told (t - n) (rest n a b) m p) ≡ told t (a ++ b) (n + m) (behind text p)
told_cut l t n m a b text p few long =
    let first = stream l (Records (t - n)) (12 * n) text in
    let stage : t - n - m ≡ t - (n + m) = omega arith in
    let used : 12 * n + 12 * m ≡ 12 * (n + m) = omega arith in
    let ends : (number : ℕ) → after_piece first (over p.left (rest n a b) p.text number) ≡ over p.left (a ++ b) (text ++ p.text) number = λ number j. stream p.left Over (rest_length n a b long j) (sym (append_assoc text p.text (line_of 0 number)) j) in
    rw (past_cut t n m a b few long) (three (after_piece first) p.wrong (past t (n + m) (a ++ b)) (picked p.left (a ++ b) (t - (n + m)) (n + m) (text ++ p.text)) (λ _. ends 27) (λ _ _. ends 25) (λ _ _ j. stream p.left (Records (stage j)) (used j) (text ++ p.text)))

records_cut : (l : Controller) (t : ℕ) (a b : List ℕ) → pieces a b (records_of l t a) ≡ records_of l t (a ++ b)
unfolding stream_fed
records_cut l t a b =
    let n = whole_records t a in
    let m = whole_records (t - n) (rest n a b) in
    let p = lines n a l in
    let long = within_long t a in
    let whole = as_told l t (a ++ b) in
    three (pieces a b) p.wrong (past t n a) (λ _ _. records_of l t (a ++ b))
    (λ e. over_cut p.left a b p.text 27 ∙ sym (whole (n + m) p (within_cut t a b) (stopped n m a b l long e) ∙ chosen p.wrong _ _ e))
    (λ e f. over_cut p.left a b p.text 25 ∙ sym (whole n p (past_stays t a b f).0 (same_lines n a b l long) ∙ passed p.wrong _ _ e ∙ chosen (past t n (a ++ b)) _ _ (past_stays t a b f).1))
    (λ e f. told_cut p.left t n m a b p.text (lines m (rest n a b) p.left) (within_most t a) long ∙ sym (whole (n + m) _ (within_cut t a b) (followed n m a b l long e)))

-- behind a head of n bytes
abbrev later : ℕ → Stream → Stream
later n s = stream s.left s.stage (n + s.used) s.text

later_cut : (n : ℕ) (a b : List ℕ) (s : Stream) → pieces a b (later n s) ≡ later n (pieces (drop n a) b s)
later_cut n a b s =
    let z = stream_fed s.left s.stage (drop s.used (drop n a) ++ b) in
    ap (λ (x : List ℕ). after_piece (later n s) (stream_fed s.left s.stage (x ++ b))) (sym (drop-drop s.used n a))
    ∙ ap (λ (u : ℕ). stream z.left z.stage u (s.text ++ z.text)) (add_assoc n s.used z.used)

opening_cut : (l : Controller) (a b : List ℕ) (h : Head) → Kept (length a) h (head_of (a ++ b)) → pieces a b (opened_by l a h) ≡ opened_by l (a ++ b) (head_of (a ++ b))
unfolding stream_fed
opening_cut l a b More k = let s = opened_by l (a ++ b) (head_of (a ++ b)) in ap (λ (u : ℕ). stream s.left s.stage u s.text) (zero-add s.used)
opening_cut l a b (Wrong why) k = over_cut l a b [] (number_of why) ∙ ap (opened_by l (a ++ b)) (sym k)
opening_cut l a b (Right n r) k =
    later_cut n a b (records_of l r (drop n a))
    ∙ ap (later n) (records_cut l r (drop n a) b ∙ ap (records_of l r) (sym (drop-append-le n a b k.0)))
    ∙ ap (opened_by l (a ++ b)) (sym k.1)

pub cut_anywhere : CutAnywhere
unfolding CutAnywhere stream_fed
cut_anywhere l Opening a b = opening_cut l a b (head_of a) (head_kept a b)
cut_anywhere l (Records t) a b = records_cut l t a b
cut_anywhere l Over a b = ap (λ (u : ℕ). stream l Over u []) (all_used a b)
