-- A trace as it is written: its table is right, and its sections are those that were written.
use Prim.Native.Nat.{ℕ, zero, suc, ◌+◌, ◌*◌, ◌/◌, ◌<◌, ◌≤◌}
use native.Mathlib.Omega.{arith}
use mathlib.Core.Path.{◌≡◌, refl, sym, ap, ◌∙◌}
use mathlib.Core.Bool.{true, ◌&&◌}
use mathlib.Core.List.{List, [], ◌∷◌, ◌++◌, map}
use lib.Dec.{eqb, leb}
use lib.ListN.{length, take, drop, length-append}
use lib.Seq.{take_at, drop_at, take-length, drop-append-add, drop-drop}
use borrow.Author.Tests.{lt-ltb, le-leb, eq-eqb}
use Rattle.model.specs.declared.Call.{Call}
use Rattle.std.specs.Prelude.{Some}
use Rattle.little_endian.specs.Numbers.{four_at}
use Rattle.trace_model.specs.Format.{mark, begins_with, sections, start_at, count_at, records, section_place, starts_right, table_right, fault, look_number, section}
use Rattle.trace_model.proofs.Table.{and-true, measured}
use Rattle.trace_model.proofs.Sections.{handed}
use Rattle.record_model.specs.Writer.{bytes_of, all_writable, section_bytes, all_bytes, table_bytes, trace_of, named_from, section_of, every_writable, WrittenIsRead}
use Rattle.record_model.proofs.Writing.{two_read, four_read, four_past, section_read, section_length}

-- ── Sections one after another ────────────────────────────────────────────────────────────────────────────────
-- one section more
all_next : (ss : List (List Call)) (i : ℕ) → length (all_bytes (take (suc i) ss)) ≡ length (all_bytes (take i ss)) + 12 * length (section_of ss i)
unfolding all_bytes section_of
all_next [] zero = refl
all_next [] (suc i) = refl
all_next (ks ∷ ss) zero = omega (arith, length-append (section_bytes ks) [], section_length ks)
all_next (ks ∷ ss) (suc i) =
    omega (arith, all_next ss i, length-append (section_bytes ks) (all_bytes (take (suc i) ss)), length-append (section_bytes ks) (all_bytes (take i ss)))

-- a section among them
section_there : (ss : List (List Call)) (i : ℕ) → i < length ss → drop (length (all_bytes (take i ss))) (all_bytes ss) ≡ section_bytes (section_of ss i) ++ all_bytes (drop (suc i) ss)
unfolding all_bytes section_of
section_there [] i h = absurd (omega arith)
section_there (ks ∷ ss) zero h = refl
section_there (ks ∷ ss) (suc i) h =
    let b = all_bytes (take i ss) in
    ap (λ (k : ℕ). drop k (section_bytes ks ++ all_bytes ss)) (length-append (section_bytes ks) b) ∙ drop-append-add (section_bytes ks) (all_bytes ss) (length b) ∙ section_there ss i (omega arith)

section_writable : (ss : List (List Call)) (i : ℕ) → every_writable ss ≡ true → all_writable (section_of ss i) ≡ true
unfolding every_writable section_of all_writable
section_writable [] i e = refl
section_writable (ks ∷ ss) zero e = (and-true (all_writable ks) (every_writable ss) e).0
section_writable (ks ∷ ss) (suc i) e = section_writable ss i (and-true (all_writable ks) (every_writable ss) e).1

-- ── The table ─────────────────────────────────────────────────────────────────────────────────────────────────
table_length : (at : ℕ) (ss : List (List Call)) → length (table_bytes at ss) ≡ 8 * length ss
unfolding table_bytes
table_length at [] = refl
table_length at (ks ∷ ss) = let h = table_length (at + 12 * length ks) ss in omega arith

-- the entry of a section: where it begins, and its records
entry : (ss : List (List Call)) (at i : ℕ) (rest : List ℕ) → at + length (all_bytes ss) < 0x100000000 → i < length ss
    → (four_at (table_bytes at ss ++ rest) (8 * i) ≡ at + length (all_bytes (take i ss))) × (four_at (table_bytes at ss ++ rest) (8 * i + 4) ≡ length (section_of ss i))
unfolding table_bytes all_bytes section_of
entry [] at i rest b h = absurd (omega arith)
entry (ks ∷ ss) at zero rest b h =
    let l = length-append (section_bytes ks) (all_bytes ss) in
    let s = section_length ks in
    (omega (arith, four_read at rest (omega arith)), four_read (length ks) rest (omega arith))
entry (ks ∷ ss) at (suc i) rest b h =
    let at' = at + 12 * length ks in
    let s = section_length ks in
    let l = length-append (section_bytes ks) (all_bytes ss) in
    let m = length-append (section_bytes ks) (all_bytes (take i ss)) in
    let e = entry ss at' i rest (omega arith) (omega arith) in
    let past = four_past (bytes_of 4 at ++ bytes_of 4 (length ks)) (table_bytes at' ss ++ rest) in
    (past (8 * suc i) (8 * i) (omega arith) ∙ e.0 ∙ omega arith, past (8 * suc i + 4) (8 * i + 4) (omega arith) ∙ e.1)

-- ── A file ────────────────────────────────────────────────────────────────────────────────────────────────────
-- what the file of some sections is: its mark, its count, its entries, and behind them the sections
pub record Written (ss : List (List Call)) (file : List ℕ) : Type 0 where
  pub marked : begins_with mark file ≡ true
  pub counted : sections file ≡ length ss
  pub entries : (i : ℕ) → i < length ss → (start_at file i ≡ 6 + 8 * length ss + length (all_bytes (take i ss))) × (count_at file i ≡ length (section_of ss i))
  pub behind : drop (6 + 8 * length ss) file ≡ all_bytes ss
  pub long : length file ≡ 6 + 8 * length ss + length (all_bytes ss)

pub written : (ss : List (List Call)) → length ss ≤ 64 → length (trace_of ss) ≤ 0x1000000 → Written ss (trace_of ss)
written ss m z =
    let n = length ss in
    let table = table_bytes (6 + 8 * n) ss in
    let head = mark ++ bytes_of 2 n in
    let t : length (head ++ table) ≡ 6 + 8 * n = omega (arith, table_length (6 + 8 * n) ss) in
    let l : length (trace_of ss) ≡ 6 + 8 * n + length (all_bytes ss) = omega (arith, length-append (head ++ table) (all_bytes ss)) in
    let past = four_past head (table ++ all_bytes ss) in
    record {
      marked = refl;
      counted = two_read n [] (omega arith);
      entries = λ i h.
          let e = entry ss (6 + 8 * n) i (all_bytes ss) (omega arith) h in
          (past (6 + 8 * i) (8 * i) (omega arith) ∙ e.0, past (10 + 8 * i) (8 * i + 4) (omega arith) ∙ e.1);
      behind = drop_at (head ++ table) (all_bytes ss) (6 + 8 * n) t;
      long = l;
    }

module _ (ss : List (List Call)) (file : List ℕ) (w : Written ss file) where
  records_are : (i : ℕ) → i ≤ length ss → 12 * records file i ≡ length (all_bytes (take i ss))
  unfolding records all_bytes
  records_are zero h = refl
  records_are (suc i) h = omega (arith, records_are i (omega arith), (w.entries i (omega arith)).1, all_next ss i)

  place_is : (i : ℕ) → i ≤ length ss → section_place file i ≡ 6 + 8 * length ss + length (all_bytes (take i ss))
  place_is i h = omega (arith, records_are i h, w.counted)

  pub starts_are : (i : ℕ) → i ≤ length ss → starts_right file i ≡ true
  unfolding starts_right
  starts_are zero h = refl
  starts_are (suc i) h = rw (starts_are i (omega arith)) (eq-eqb _ _ ((w.entries i (omega arith)).0 ∙ sym (place_is i (omega arith))))

  pub ends_are : length file ≡ section_place file (length ss)
  ends_are = w.long ∙ ap (λ (x : List (List Call)). 6 + 8 * length ss + length (all_bytes x)) (sym (take-length ss)) ∙ sym (place_is (length ss) (omega arith))

  table_is : 1 ≤ length ss → length ss ≤ 64 → length file ≤ 0x1000000 → true ≡ table_right file
  table_is l m z =
      let n = length ss in
      let is : (eqb (length file) (length file) && leb (length file) 0x1000000) ≡ true = rw (eq-eqb (length file) (length file) refl, le-leb _ _ z) in
      sym is ∙ measured file n true (length file) (sym w.counted) (omega (arith, w.long)) l m (omega (arith, w.long)) (sym (starts_are n (omega arith))) ends_are

  look_is : (i : ℕ) → 1 ≤ length ss → length ss ≤ 64 → length file ≤ 0x1000000 → i < length ss → look_number file i ≡ 0
  unfolding look_number fault
  look_is i l m z h = rw (w.marked, sym (table_is l m z), w.counted, lt-ltb _ _ h)

  section_is : (i : ℕ) → i < length ss → look_number file i ≡ 0 → section file i ≡ section_bytes (section_of ss i)
  section_is i h e =
      let b = length (all_bytes (take i ss)) in
      let s = section_bytes (section_of ss i) in
      let t : drop (start_at file i) file ≡ s ++ all_bytes (drop (suc i) ss) = ap (λ (k : ℕ). drop k file) (w.entries i h).0 ∙ sym (drop-drop b (6 + 8 * length ss) file) ∙ ap (drop b) w.behind ∙ section_there ss i h in
      (handed file i e).0
      ∙ ap (take (12 * count_at file i)) t
      ∙ take_at s (all_bytes (drop (suc i) ss)) (12 * count_at file i) (omega (arith, section_length (section_of ss i), (w.entries i h).1))

-- what a section's bytes name
named_is : (ks : List Call) (bytes : List ℕ) → bytes ≡ section_bytes ks → all_writable ks ≡ true → named_from (length bytes / 12) bytes 0 ≡ map Some ks
named_is ks bytes e a =
    let l : length (section_bytes ks) / 12 ≡ length ks = omega (arith, section_length ks) in
    ap (λ (x : List ℕ). named_from (length x / 12) x 0) e ∙ ap (λ (n : ℕ). named_from n (section_bytes ks) 0) l ∙ section_read ks a

pub written_is_read : WrittenIsRead
unfolding WrittenIsRead
written_is_read ss i l m z a h =
    let w = written ss m z in
    let e = look_is ss (trace_of ss) w i l m z h in
    (e, named_is (section_of ss i) (section (trace_of ss) i) (section_is ss (trace_of ss) w i h e) (section_writable ss i a))
