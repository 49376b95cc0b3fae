-- A written trace as a reader meets it from its start: a right head, and behind it the records of all its sections as those of one.
use Prim.Native.Nat.{ℕ, ◌+◌, ◌*◌, ◌≤◌}
use native.Mathlib.Omega.{arith}
use mathlib.Core.Path.{◌≡◌, refl, sym, ap, ap₂, ◌∙◌}
use mathlib.Core.Bool.{true, ◌&&◌}
use mathlib.Core.List.{List, [], ◌∷◌, ◌++◌, flatten, append_assoc}
use lib.ListN.{length, drop}
use Rattle.model.specs.declared.Call.{Call}
use Rattle.trace_model.specs.declared.Head.TheVariants.{Right}
use Rattle.trace_model.specs.Head.{head_of}
use Rattle.trace_model.proofs.Table.{and-true}
use Rattle.trace_model.proofs.Heads.{count_there, table_whole, table_right_lem}
use Rattle.record_model.specs.Writer.{record_of, record_bytes, writable, all_writable, section_bytes, all_bytes, trace_of, every_writable}
use Rattle.record_model.proofs.Writing.{section_length}
use Rattle.record_model.proofs.RoundTrip.{written, starts_are, ends_are}

-- ── Sections as one ───────────────────────────────────────────────────────────────────────────────────────────
bytes_joined : (ks js : List Call) → section_bytes ks ++ section_bytes js ≡ section_bytes (ks ++ js)
unfolding section_bytes
bytes_joined [] js = refl
bytes_joined (k ∷ ks) js = append_assoc (record_bytes (record_of k)) (section_bytes ks) (section_bytes js) ∙ ap (λ (x : List ℕ). record_bytes (record_of k) ++ x) (bytes_joined ks js)

all_joined : (ss : List (List Call)) → all_bytes ss ≡ section_bytes (flatten ss)
unfolding all_bytes section_bytes flatten
all_joined [] = refl
all_joined (ks ∷ ss) = ap (λ (x : List ℕ). section_bytes ks ++ x) (all_joined ss) ∙ bytes_joined ks (flatten ss)

writable_joined : (ks js : List Call) → all_writable ks ≡ true → all_writable js ≡ true → all_writable (ks ++ js) ≡ true
unfolding all_writable
writable_joined [] js e f = f
writable_joined (k ∷ ks) js e f = let h = and-true (writable k) (all_writable ks) e in ap₂ ◌&&◌ h.0 (writable_joined ks js h.1 f)

pub every_joined : (ss : List (List Call)) → every_writable ss ≡ true → all_writable (flatten ss) ≡ true
unfolding every_writable all_writable flatten
every_joined [] e = refl
every_joined (ks ∷ ss) e = let h = and-true (all_writable ks) (every_writable ss) e in writable_joined ks (flatten ss) h.0 (every_joined ss h.1)

-- ── The file ──────────────────────────────────────────────────────────────────────────────────────────────────
module _ (ss : List (List Call)) (m : length ss ≤ 64) (z : length (trace_of ss) ≤ 0x1000000) where
  pub records_behind : drop (6 + 8 * length ss) (trace_of ss) ≡ section_bytes (flatten ss)
  records_behind = (written ss m z).behind ∙ all_joined ss

  pub head_right : 1 ≤ length ss → head_of (trace_of ss) ≡ Right (6 + 8 * length ss) (length (flatten ss))
  head_right l =
      let file = trace_of ss in
      let n = length ss in
      let w = written ss m z in
      let s = sym w.counted in
      let b = ap length (all_joined ss) ∙ section_length (flatten ss) in
      sym (table_right_lem file n s true (length file) (length (flatten ss)) (sym (starts_are ss file w n (omega arith))) refl (ends_are ss file w) z (omega (arith, w.long, b))
      ∙ table_whole file n s l m (omega (arith, w.long))
      ∙ count_there file true (sym w.marked) refl (omega (arith, w.long)))
