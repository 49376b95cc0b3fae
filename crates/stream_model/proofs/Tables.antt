-- The table of a trace that has a right mark: what its tests tell, and what the head then is.
use Prim.Native.Nat.{ℕ, ◌+◌, ◌*◌, ◌≤◌}
use native.Mathlib.Omega.{arith}
use native.Mathlib.Decide.{dec_lt}
use mathlib.Core.Path.{◌≡◌, refl, sym, subst, ◌∙◌}
use mathlib.Core.Bool.{Bool, true, false, ◌&&◌, true≢false}
use mathlib.Core.List.{List}
use lib.Dec.{eqb, leb}
use lib.ListN.{length}
use borrow.Author.Tests.{le-leb, leb-true, eqb-true}
use Rattle.trace_model.specs.declared.Head.{Head}
use Rattle.number.specs.declared.Refusal.TheVariants.{WrongTable}
use Rattle.trace_model.specs.declared.Head.TheVariants.{More, Wrong, Right}
use Rattle.trace_model.specs.Format.{mark, begins_with, sections, records, section_place, starts_right, table_right}
use Rattle.trace_model.specs.Head.{head_length, head_of}
use Rattle.trace_model.proofs.Table as table
use Rattle.trace_model.proofs.Table.{and-true, mark_short, measured, wrong}
use Rattle.trace_model.proofs.Heads.{count_cut, count_there, too_few, too_many, table_short, table_whole, starts_wrong, too_large, table_right_lem}
use Rattle.stream_model.specs.Laws.{table_sound}

pub marked : (file : List ℕ) → true ≡ begins_with mark file → 4 ≤ length file
marked file m = elim (dec_lt (length file) 4) [ yes h ↦ absurd (true≢false (m ∙ sym (mark_short file h))) | no h ↦ omega (arith, h) ]

pub record Sound (file : List ℕ) : Type 0 where
  pub head : 6 ≤ length file
  pub least : 1 ≤ sections file
  pub most : sections file ≤ 64
  pub whole : 6 + 8 * sections file ≤ length file
  pub starts : starts_right file (sections file) ≡ true
  pub size : section_place file (sections file) ≤ 0x1000000

pub sound_of : (file : List ℕ) → table_sound file ≡ true → Sound file
unfolding table_sound
sound_of file e =
    let n = sections file in
    let a = leb 6 (length file) in
    let b = leb 1 n in
    let c = leb n 64 in
    let d = leb (6 + 8 * n) (length file) in
    let s = starts_right file n in
    let z5 = and-true (a && b && c && d && s) (leb (section_place file n) 0x1000000) e in
    let z4 = and-true (a && b && c && d) s z5.0 in
    let z3 = and-true (a && b && c) d z4.0 in
    let z2 = and-true (a && b) c z3.0 in
    let z1 = and-true a b z2.0 in
    record { head = leb-true _ _ z1.0; least = leb-true _ _ z1.1; most = leb-true _ _ z2.1; whole = leb-true _ _ z3.1; starts = z4.1; size = leb-true _ _ z5.1 }

sound_is : (file : List ℕ) → Sound file → table_sound file ≡ true
unfolding table_sound
sound_is file h = rw (le-leb _ _ h.head, le-leb _ _ h.least, le-leb _ _ h.most, le-leb _ _ h.whole, h.starts, le-leb _ _ h.size)

pub right_sound : (file : List ℕ) → table.Right file → Sound file
right_sound file t = record { head = t.head; least = t.least; most = t.most; whole = t.whole; starts = t.starts; size = omega (arith, t.ends, t.size) }

pub not_sound : (file : List ℕ) → table_sound file ≡ false → Sound file → ⊥
not_sound file u h = true≢false (sym (sound_is file h) ∙ u)

pub not_right : (file : List ℕ) → table_sound file ≡ false → table_right file ≡ false
not_right file u = sym (wrong file (λ t. not_sound file u (right_sound file t)))

-- then the file is right where it has the length that the table asks for
pub right_by_length : (file : List ℕ) → Sound file → table_right file ≡ eqb (section_place file (sections file)) (length file)
right_by_length file t = sym (measured file n true (section_place file n) refl t.head t.least t.most t.whole (sym t.starts) refl) ∙ go (eqb (section_place file n) (length file)) refl
  where
    n : ℕ
    n = sections file

    go : (b : Bool) → eqb (section_place file n) (length file) ≡ b → (true && b && leb (length file) 0x1000000) ≡ b
    go true e = le-leb (length file) 0x1000000 (omega (arith, eqb-true (section_place file n) (length file) e, t.size))
    go false e = refl

-- ── Its head ──────────────────────────────────────────────────────────────────────────────────────────────────
pub sound_head : (file : List ℕ) → begins_with mark file ≡ true → Sound file → head_of file ≡ Right (head_length file) (records file (sections file))
sound_head file m t =
    let n = sections file in
    sym (table_right_lem file n refl true (section_place file n) (records file n) (sym t.starts) refl refl t.size (omega arith)
    ∙ table_whole file n refl t.least t.most t.whole
    ∙ count_there file true (sym m) refl t.head)

-- a table that is cut, or told to be wrong: what holds of both holds of the head
module _ (file : List ℕ) (m : true ≡ begins_with mark file) (unsound : Sound file → ⊥) (P : Head → Type 0) (cut : P More) (told : P (Wrong WrongTable)) where
  abbrev n : ℕ
  n = sections file

  by_size : 6 ≤ length file → 1 ≤ n → n ≤ 64 → 6 + 8 * n ≤ length file → starts_right file n ≡ true → P (head_of file)
  by_size h a b w s = elim (dec_lt 0x1000000 (section_place file n)) [
    | yes k ↦ subst P (too_large file n refl (section_place file n) refl k ∙ table_whole file n refl a b w ∙ count_there file true m refl h) told
    | no k ↦ absurd (unsound (record { head = h; least = a; most = b; whole = w; starts = s; size = omega (arith, k) }))
  ]

  by_starts : 6 ≤ length file → 1 ≤ n → n ≤ 64 → 6 + 8 * n ≤ length file → (s : Bool) → s ≡ starts_right file n → P (head_of file)
  by_starts h a b w true e = by_size h a b w (sym e)
  by_starts h a b w false e = subst P (starts_wrong file n refl false e refl ∙ table_whole file n refl a b w ∙ count_there file true m refl h) told

  by_count : 6 ≤ length file → P (head_of file)
  by_count h = elim (dec_lt n 1) [
    | yes k ↦ subst P (too_few file n refl k ∙ count_there file true m refl h) told
    | no a ↦ elim (dec_lt 64 n) [
      | yes k ↦ subst P (too_many file n refl k ∙ count_there file true m refl h) told
      | no b ↦ elim (dec_lt (length file) (6 + 8 * n)) [
        | yes k ↦ subst P (table_short file n refl (omega (arith, a)) (omega (arith, b)) k ∙ count_there file true m refl h) cut
        | no k ↦ by_starts h (omega (arith, a)) (omega (arith, b)) (omega (arith, k)) (starts_right file n) refl
      ]
    ]
  ]

  pub unsound_head : P (head_of file)
  unsound_head = elim (dec_lt (length file) 6) [
    | yes k ↦ subst P (count_cut file true (marked file m) m refl k) cut
    | no k ↦ by_count (omega (arith, k))
  ]
