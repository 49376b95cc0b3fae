-- Every input: the calls of its records, made one after another, their lines, and what they left.
use Prim.Native.Nat.{ℕ, ◌-◌}
use native.Mathlib.Omega.{arith}
use native.Mathlib.Decide.{dec_lt}
use mathlib.Core.Path.{◌≡◌, refl, sym, ap, subst, ◌∙◌}
use mathlib.Core.Bool.{Bool, true, false, cond, ◌&&◌}
use mathlib.Core.List.{List, [], ◌∷◌, ◌++◌}
use lib.Dec.{eqb}
use lib.ListN.{length, drop, length-drop}
use borrow.Author.Tests.{eqb-true}
use Rattle.model.specs.declared.Call.{Call}
use Rattle.model.specs.Engine.{lending, final}
use Rattle.model.specs.Rings.{Controller, rings}
use Rattle.model.specs.Laws.{fresh_controller}
use Rattle.model.specs.Demand.{Demand}
use Rattle.model.proofs.Demand.{demand}
use Rattle.data_model.specs.Account.{KeepsData, DataKept}
use Rattle.data_model.proofs.Account.{data_kept}
use Rattle.print.specs.Line.{line_of}
use Rattle.letters.specs.Named.{Parsed}
use Rattle.trace_model.specs.declared.Head.{Head}
use Rattle.number.specs.declared.Refusal.TheVariants.{WrongMark}
use Rattle.trace_model.specs.declared.Head.TheVariants.{More, Wrong}
use Rattle.trace_model.specs.Format.{mark, begins_with, sections, records, section_place, fault}
use Rattle.trace_model.specs.Head.{head_length, head_of}
use Rattle.trace_model.proofs.Heads.{mark_cut, mark_wrong}
use Rattle.record_model.specs.Record.{whole_records}
use Rattle.record_model.specs.Writer.{named_from}
use Rattle.record_model.specs.Done.{calls_before, any_wrong, EachIsMade}
use Rattle.record_model.proofs.Made.{each_is_made}
use Rattle.playback_model.specs.Laws.{lent_on, EmptyIsLent}
use Rattle.playback_model.specs.Demand.{KeepsDemand}
use Rattle.playback_model.proofs.Calls.{empty_is_lent}
use Rattle.stream_model.specs.declared.Stage.TheVariants.{Opening}
use Rattle.stream_model.specs.Stream.{RecordsPrinted, records_printed, said, met, lines, opened_by, stream_fed, transcript}
use Rattle.stream_model.specs.Laws.{SoundIsPrinted, MarkIsTold, table_sound, TableIsTold, LengthIsTold, spoken}
use Rattle.stream_model.specs.Done.{read_in, said_in, last_line, EveryInput, ProgramKeepsDemand, ProgramKeepsData}
use Rattle.stream_model.proofs.Counts.{within_is}
use Rattle.stream_model.proofs.Cutting.{past, picked}
use Rattle.stream_model.proofs.Tables.{sound_of, not_right, right_by_length, sound_head, not_sound, unsound_head}
use Rattle.stream_model.proofs.Inputs.{sound_is_printed, mark_is_told}
use Rattle.stream_model.proofs.Whole.{made, none_wrong}
use Rattle.stream_model.proofs.Lengths.{table_is_told, length_is_told}

-- ── Records, by the calls that they name ──────────────────────────────────────────────────────────────────────
left_by : (ks : List Call) (p : RecordsPrinted) → (made ks p).left ≡ final rings p.left (lent_on ks p.left)
unfolding lent_on final
left_by [] p = refl
left_by (k ∷ ks) p = left_by ks (said k p)

met_if : (w : Bool) (p : RecordsPrinted) → p.wrong ≡ false → cond w (met p) p ≡ records_printed p.left p.text w
met_if true p e = refl
met_if false p e = ap (records_printed p.left p.text) e

lines_are : (n : ℕ) (bytes : List ℕ) (l : Controller) → (let ps = named_from n bytes 0 in let ks = calls_before ps in lines n bytes l ≡ records_printed (final rings l (lent_on ks l)) (spoken ks l) (any_wrong ps))
unfolding EachIsMade
lines_are n bytes l =
    let ps = named_from n bytes 0 in
    let ks = calls_before ps in
    let p = records_printed l [] false in
    each_is_made RecordsPrinted said met n bytes 0 p
    ∙ met_if (any_wrong ps) (made ks p) (none_wrong ks p refl)
    ∙ ap (λ (c : Controller). records_printed c (spoken ks l) (any_wrong ps)) (left_by ks p)

-- ── The records that are read ─────────────────────────────────────────────────────────────────────────────────
module _ (file : List ℕ) where
  abbrev bytes : List ℕ
  bytes = drop (head_length file) file

  abbrev total : ℕ
  total = records file (sections file)

  none_read : (begins_with mark file && table_sound file) ≡ false → read_in file ≡ []
  unfolding read_in
  none_read e = rw e

  some_read : begins_with mark file ≡ true → table_sound file ≡ true → read_in file ≡ named_from (whole_records total bytes) bytes 0
  unfolding read_in
  some_read e f = rw (e, f)

  lines_read : (l : Controller) → begins_with mark file ≡ true → table_sound file ≡ true → lines (whole_records total bytes) bytes l ≡ records_printed (final rings l (lent_on (said_in file) l)) (spoken (said_in file) l) (any_wrong (read_in file))
  lines_read l e f = lines_are (whole_records total bytes) bytes l ∙ ap (λ (ps : List Parsed). let ks = calls_before ps in records_printed (final rings l (lent_on ks l)) (spoken ks l) (any_wrong ps)) (sym (some_read e f))

-- ── What is left ──────────────────────────────────────────────────────────────────────────────────────────────
picked_left : (l : Controller) (bytes : List ℕ) (k n : ℕ) (text : List ℕ) (w q : Bool) → (picked l bytes k n text w q).left ≡ l
picked_left l bytes k n text true q = refl
picked_left l bytes k n text false true = refl
picked_left l bytes k n text false false = refl

unmarked_head : (file : List ℕ) → false ≡ begins_with mark file → (P : Head → Type 0) → P More → P (Wrong WrongMark) → P (head_of file)
unmarked_head file m P more wrong = elim (dec_lt (length file) 4) [ yes h ↦ subst P (mark_cut file h) more | no h ↦ subst P (mark_wrong file false (omega (arith, h)) m refl) wrong ]

every_left : (l : Controller) (file : List ℕ) → (stream_fed l Opening file).left ≡ final rings l (lent_on (said_in file) l)
unfolding stream_fed calls_before lent_on final
every_left l file = go (begins_with mark file) refl (table_sound file) refl
  where
    none : (begins_with mark file && table_sound file) ≡ false → l ≡ final rings l (lent_on (said_in file) l)
    none e = ap (λ (ps : List Parsed). final rings l (lent_on (calls_before ps) l)) (sym (none_read file e))

    go : (a : Bool) → begins_with mark file ≡ a → (b : Bool) → table_sound file ≡ b → (stream_fed l Opening file).left ≡ final rings l (lent_on (said_in file) l)
    go false e b f = unmarked_head file (sym e) (λ h. (opened_by l file h).left ≡ l) refl refl ∙ none (rw e)
    go true e false f = unsound_head file (sym e) (not_sound file f) (λ h. (opened_by l file h).left ≡ l) refl refl ∙ none (rw (e, f))
    go true e true f =
        let r = total file in
        let k = whole_records r (bytes file) in
        let p = lines k (bytes file) l in
        ap (λ (h : Head). (opened_by l file h).left) (sound_head file e (sound_of file f))
        ∙ picked_left p.left (bytes file) (r - k) k p.text p.wrong (past r k (bytes file))
        ∙ ap (λ (p : RecordsPrinted). p.left) (lines_read file l e f)

left_said : (l : Controller) (file : List ℕ) → l.output ≡ [] → final rings l (lending [] (said_in file)) ≡ (stream_fed l Opening file).left
unfolding EmptyIsLent
left_said l file e = sym (every_left l file ∙ ap (final rings l) (empty_is_lent (said_in file) l e))

pub program_keeps_demand : ProgramKeepsDemand
unfolding ProgramKeepsDemand Demand
program_keeps_demand file caps marks id store t z e =
    subst (KeepsDemand t) (left_said (fresh_controller caps marks id store) file refl) (demand caps marks id store (lending [] (said_in file)) t z e)

pub program_keeps_data : ProgramKeepsData
unfolding ProgramKeepsData DataKept
program_keeps_data file caps marks id store x z e =
    subst (KeepsData x) (left_said (fresh_controller caps marks id store) file refl) (data_kept caps marks id store (lending [] (said_in file)) x z e)

-- ── What is printed ───────────────────────────────────────────────────────────────────────────────────────────
by_wrong : (w : Bool) → line_of 0 (cond w 27 25) ≡ cond w (line_of 0 27) (line_of 0 25)
by_wrong true = refl
by_wrong false = refl

pub every_input : EveryInput
unfolding EveryInput last_line fault MarkIsTold TableIsTold LengthIsTold SoundIsPrinted calls_before
every_input l file = go (begins_with mark file) refl (table_sound file) refl
  where
    Claim : Type 0
    Claim = transcript l file ≡ spoken (said_in file) l ++ last_line file

    -- no record is read
    alone : (begins_with mark file && table_sound file) ≡ false → (n : ℕ) → transcript l file ≡ line_of 0 n → line_of 0 n ≡ last_line file → Claim
    alone e n f g = f ∙ g ∙ ap (λ (ps : List Parsed). spoken (calls_before ps) l ++ last_line file) (sym (none_read file e))

    -- records, and then a right length or another
    behind : (b : Bool) → eqb (section_place file (sections file)) (length file) ≡ b → begins_with mark file ≡ true → table_sound file ≡ true → Claim
    behind true g e f =
        let t = sound_of file f in
        let size : whole_records (total file) (bytes file) ≡ total file = omega (arith, within_is (total file) (bytes file), eqb-true (section_place file (sections file)) (length file) g, length-drop (head_length file) file) in
        sound_is_printed l file (rw (e, right_by_length file t ∙ g))
        ∙ ap (λ (n : ℕ). let p = lines n (bytes file) l in p.text ++ cond p.wrong (line_of 0 27) []) (sym size)
        ∙ ap (λ (p : RecordsPrinted). p.text ++ cond p.wrong (line_of 0 27) []) (lines_read file l e f)
        ∙ ap (λ (x : List ℕ). spoken (said_in file) l ++ x) (rw (e, f, g))
    behind false g e f =
        let w = any_wrong (read_in file) in
        (length_is_told l file (rw (e, right_by_length file (sound_of file f) ∙ g)) f).1
        ∙ ap (λ (p : RecordsPrinted). p.text ++ line_of 0 (cond p.wrong 27 25)) (lines_read file l e f)
        ∙ ap (λ (x : List ℕ). spoken (said_in file) l ++ x) (rw (e, f, g) (by_wrong w))

    go : (a : Bool) → begins_with mark file ≡ a → (b : Bool) → table_sound file ≡ b → Claim
    go false e b f = alone (rw e) 24 (mark_is_told l file (rw e)) (rw e)
    go true e false f = alone (rw (e, f)) 25 (table_is_told l file (rw (e, not_right file f)) f) (rw (e, f))
    go true e true f = behind (eqb (section_place file (sections file)) (length file)) refl e f
