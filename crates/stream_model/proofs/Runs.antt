-- Records one after another, cut in two runs: the first among the first bytes, the second from its own bytes' start.
use Prim.Native.Nat.{ℕ, zero, suc, ◌+◌, ◌*◌, ◌≤◌}
use native.Mathlib.Omega.{arith}
use mathlib.Core.Path.{◌≡◌, refl, sym, ap, ap₂, ◌∙◌}
use mathlib.Core.Bool.{true, false, cond}
use mathlib.Core.List.{List, [], ◌++◌, append-nil, append_assoc}
use lib.ListN.{length, get_or, drop, get_or-append}
use lib.Seq.{drop-append-le, get_or-drop}
use Rattle.model.specs.declared.Call.{Call}
use Rattle.model.specs.Engine.{step}
use Rattle.model.specs.Rings.{Controller, rings}
use Rattle.print.specs.Line.{line_of}
use Rattle.letters.specs.Named.{Parsed}
use Rattle.std.specs.Prelude.{Some, None}
use Rattle.letters.specs.Forms.{form_of}
use Rattle.lines.proofs.Choices.{chosen, passed}
use Rattle.little_endian.specs.Numbers.{two_at, four_at}
use Rattle.record_model.specs.Record.{Record, rec, named_in, record_at, onward, each_record}
use Rattle.stream_model.specs.Stream.{RecordsPrinted, records_printed, said, met, lines}
use Rattle.stream_model.proofs.Prefix.{two_more, four_more}

-- ── A record ──────────────────────────────────────────────────────────────────────────────────────────────────
abbrev named : Record → Parsed
named r = named_in (form_of r.letter) r

-- of more bytes
record_more : (a b : List ℕ) (i : ℕ) → 12 * i + 12 ≤ length a → record_at (a ++ b) i ≡ record_at a i
record_more a b i h =
    let p = 12 * i in
    λ j. named (rec (get_or-append a b 0 p (omega arith) j) (get_or-append a b 0 (p + 1) (omega arith) j) (two_more a b (p + 2) (omega arith) j) (four_more a b (p + 4) (omega arith) j) (four_more a b (p + 8) (omega arith) j))

-- of the bytes behind the first d
module _ (d : ℕ) (bytes : List ℕ) where
  byte_behind : (p q : ℕ) → d + p ≡ q → get_or (drop d bytes) p 0 ≡ get_or bytes q 0
  byte_behind p q e = get_or-drop d bytes p 0 ∙ ap (λ (j : ℕ). get_or bytes j 0) e

  two_behind : (p q : ℕ) → d + p ≡ q → two_at (drop d bytes) p ≡ two_at bytes q
  two_behind p q e = ap₂ (λ (x y : ℕ). x + 256 * y) (byte_behind p q e) (byte_behind (p + 1) (q + 1) (omega arith))

  four_behind : (p q : ℕ) → d + p ≡ q → four_at (drop d bytes) p ≡ four_at bytes q
  four_behind p q e = ap₂ (λ (x y : ℕ). x + 65536 * y) (two_behind p q e) (two_behind (p + 2) (q + 2) (omega arith))

record_behind : (n i : ℕ) (bytes : List ℕ) → record_at (drop (12 * n) bytes) i ≡ record_at bytes (n + i)
record_behind n i bytes =
    let d = 12 * n in
    let p = 12 * i in
    let q = 12 * (n + i) in
    λ j. named (rec (byte_behind d bytes p q (omega arith) j) (byte_behind d bytes (p + 1) (q + 1) (omega arith) j) (two_behind d bytes (p + 2) (q + 2) (omega arith) j) (four_behind d bytes (p + 4) (q + 4) (omega arith) j) (four_behind d bytes (p + 8) (q + 8) (omega arith) j))

-- ── Records ───────────────────────────────────────────────────────────────────────────────────────────────────
module _ {A : Type 0} (make : Call → A → A) (stop : A → A) where
  each_more : (n i : ℕ) (a b : List ℕ) → 12 * (i + n) ≤ length a → each_record make stop n (a ++ b) i ≡ each_record make stop n a i
  unfolding each_record
  each_more zero i a b h = refl
  each_more (suc n) i a b h = λ j s. onward make stop (record_more a b i (omega arith) j) s (each_more n (suc i) a b (omega arith) j)

  each_behind : (k n i : ℕ) (bytes : List ℕ) → each_record make stop k (drop (12 * n) bytes) i ≡ each_record make stop k bytes (n + i)
  unfolding each_record
  each_behind zero n i bytes = refl
  each_behind (suc k) n i bytes =
      let e : n + suc i ≡ suc (n + i) = omega arith in
      λ j s. onward make stop (record_behind n i bytes j) s ((each_behind k n (suc i) bytes ∙ ap (each_record make stop k bytes) e) j)

  -- a change f that the steps for a call and for a wrong record respect
  module _ (f : A → A) (makes : (k : Call) (x : A) → f (make k x) ≡ make k (f x)) (stops : (x : A) → f (stop x) ≡ stop (f x)) where
    onward_carried : (p : Parsed) (x : A) (rest : A → A) → ((y : A) → f (rest y) ≡ rest (f y)) → f (onward make stop p x rest) ≡ onward make stop p (f x) rest
    onward_carried (Some k) x rest h = h (make k x) ∙ ap rest (makes k x)
    onward_carried None x rest h = stops x

    each_carried : (n i : ℕ) (bytes : List ℕ) (x : A) → f (each_record make stop n bytes i x) ≡ each_record make stop n bytes i (f x)
    unfolding each_record
    each_carried zero i bytes x = refl
    each_carried (suc n) i bytes x = onward_carried (record_at bytes i) x (each_record make stop n bytes (suc i)) (each_carried n (suc i) bytes)

-- ── Records printed ───────────────────────────────────────────────────────────────────────────────────────────
-- what goes on behind some records, unless one was wrong
abbrev onto : RecordsPrinted → (RecordsPrinted → RecordsPrinted) → RecordsPrinted
onto p go = cond p.wrong p (go p)

onward_onto : (x : Parsed) (p : RecordsPrinted) (whole first go : RecordsPrinted → RecordsPrinted) → ((q : RecordsPrinted) → q.wrong ≡ false → whole q ≡ onto (first q) go)
    → onward said met x p whole ≡ onto (onward said met x p first) go
onward_onto (Some k) p whole first go h = h (said k p) refl
onward_onto None p whole first go h = refl

two_runs : (n k i : ℕ) (bytes : List ℕ) (p : RecordsPrinted) → p.wrong ≡ false → each_record said met (n + k) bytes i p ≡ onto (each_record said met n bytes i p) (each_record said met k bytes (n + i))
unfolding each_record
two_runs zero k i bytes p e =
    let m : 0 + k ≡ k = omega arith in
    let j : i ≡ 0 + i = omega arith in
    ap₂ (λ (m j : ℕ). each_record said met m bytes j p) m j ∙ sym (passed p.wrong p (each_record said met k bytes (0 + i) p) e)
two_runs (suc n) k i bytes p e =
    let m : suc n + k ≡ suc (n + k) = omega arith in
    let j : n + suc i ≡ suc n + i = omega arith in
    ap (λ (m : ℕ). each_record said met m bytes i p) m
    ∙ onward_onto (record_at bytes i) p (each_record said met (n + k) bytes (suc i)) (each_record said met n bytes (suc i)) (each_record said met k bytes (suc n + i))
    (λ q z. two_runs n k (suc i) bytes q z ∙ ap (λ (j : ℕ). onto (each_record said met n bytes (suc i) q) (each_record said met k bytes j)) j)

-- text that was printed before stands before, and changes nothing else
abbrev pub behind : List ℕ → RecordsPrinted → RecordsPrinted
behind t p = records_printed p.left (t ++ p.text) p.wrong

text_behind : (n : ℕ) (bytes : List ℕ) (p : RecordsPrinted) → p.wrong ≡ false → each_record said met n bytes 0 p ≡ behind p.text (lines n bytes p.left)
text_behind n bytes p e =
    ap (each_record said met n bytes 0) (λ j. records_printed p.left (sym (append-nil p.text) j) (e j))
    ∙ sym (each_carried said met (behind p.text) makes (λ x. refl) n 0 bytes (records_printed p.left [] false))
  where
    makes : (k : Call) (x : RecordsPrinted) → behind p.text (said k x) ≡ said k (behind p.text x)
    makes k x = let s = step rings x.left k in ap (λ (t : List ℕ). records_printed s.next t false) (sym (append_assoc p.text x.text (line_of s.answer.value s.answer.number)))

-- n records of the first piece, and m behind them
pub same_lines : (n : ℕ) (a b : List ℕ) (l : Controller) → 12 * n ≤ length a → lines n (a ++ b) l ≡ lines n a l
same_lines n a b l h = λ j. each_more said met n 0 a b (omega arith) j (records_printed l [] false)

module _ (n m : ℕ) (a b : List ℕ) (l : Controller) (h : 12 * n ≤ length a) where
  cut_lines : lines (n + m) (a ++ b) l ≡ onto (lines n a l) (each_record said met m (drop (12 * n) a ++ b) 0)
  cut_lines =
      two_runs n m 0 (a ++ b) (records_printed l [] false) refl
      ∙ ap₂ onto (same_lines n a b l h) (sym (each_behind said met m n 0 (a ++ b)) ∙ ap (λ (x : List ℕ). each_record said met m x 0) (drop-append-le (12 * n) a b h))

  -- past a wrong record nothing changes, and else the second run follows
  pub stopped : (lines n a l).wrong ≡ true → lines (n + m) (a ++ b) l ≡ lines n a l
  stopped e = let p = lines n a l in cut_lines ∙ chosen p.wrong p (each_record said met m (drop (12 * n) a ++ b) 0 p) e

  pub followed : (lines n a l).wrong ≡ false → lines (n + m) (a ++ b) l ≡ behind (lines n a l).text (lines m (drop (12 * n) a ++ b) (lines n a l).left)
  followed e = let p = lines n a l in cut_lines ∙ passed p.wrong p (each_record said met m (drop (12 * n) a ++ b) 0 p) e ∙ text_behind m (drop (12 * n) a ++ b) p e
