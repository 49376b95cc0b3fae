-- The laws of a host's calls.
use Prim.Native.Nat.{ℕ, zero, suc, ◌+◌, ◌/◌, ◌%◌, ◌^◌, ◌≤◌}
use native.Mathlib.Omega.{arith}
use native.Mathlib.Nat.{mod-eq_of_lt}
use mathlib.Core.Path.{◌≡◌, refl, ap, sym, ◌∙◌}
use mathlib.Core.Bool.{Bool, true, false, cond}
use mathlib.Core.List.{List, [], ◌∷◌}
use lib.Dec.{eqb, ltb}
use lib.ListN.{length}
use borrow.Author.Tests.{ltb-true, eq-eqb, ne_eqb}
use Rattle.bank.specs.Formed.{queues_ok, well_formed}
use Rattle.model.specs.declared.Call.{Call}
use Rattle.model.specs.declared.Call.TheVariants.{Read, Write, Start, Send, Receive, Finish, Interrupt, Request, Take, Trigger}
use Rattle.model.specs.Engine.{step}
use Rattle.model.specs.Rings.{Controller, rings}
use Rattle.model.specs.Laws.{RefusalChangesNothing, RefusalShowsNothing}
use Rattle.model.proofs.Laws.{refusal_changes_nothing, refusal_shows_nothing}
use Rattle.answer.specs.Given.{controller}
use Rattle.letters.specs.Named.{Parsed}
use Rattle.std.specs.Prelude.{Some, None}
use Rattle.letters.specs.Forms.{form_of}
use Rattle.trace_model.specs.Format.{look_number, section_start, section}
use Rattle.trace_model.proofs.Sections.{refused, found, handed, handed_length, within}
use Rattle.record_model.specs.Record as records
use Rattle.record_model.specs.Record.{rec, named_in, record_at, each_record, onward}
use Rattle.record_model.specs.Writer.{record_of}
use Rattle.record_model.specs.Done.{any_wrong}
use Rattle.record_model.proofs.Writing.{call_named}
use Rattle.playback_model.specs.Replay.{Replay, replay_begun, did, wrong, replay_of}
use Rattle.playback_model.specs.Done.{wanted, EveryReplay, all21, IllFormedReplay}
use Rattle.playback_model.proofs.Laws.{refuses, plays}
use Rattle.playback_model.proofs.Done.{every_replay}
use Rattle.playback_model.proofs.IllFormed.{ill_formed_replay}
use Rattle.image_model.specs.Image.{Kept, kept_of, bank_in, is_kept}
use Rattle.image_model.specs.Laws.{TakenIsKept}
use Rattle.image_model.proofs.Laws.{taken_is_kept}
use Rattle.host_model.specs.Host.{triggers, hosted, step_in, Replayed, bank_for, kept_after, tells, told_in, left_by, replay_in, section_in}
use Rattle.host_model.specs.Laws.{CalledIsNamed, NotKeptIsRefused, RefusedStays, RefusedSilent, RefusedReplayStays, RefusedSectionStays, DoneIsTold, FoundIsPlaced, NothingCut}
use Rattle.host_model.proofs.Calling.{recorded, triggered}
use Rattle.host_model.proofs.Hosting.{no_bank, untold, is_told, is_placed}

-- ── Every call has its numbers ────────────────────────────────────────────────────────────────────────────────
-- no letter is G
not_trigger : (c : Call) → (let r = record_of c in triggers r.letter r.offset r.first r.second ≡ false)
not_trigger (Read o) = refl
not_trigger (Write o v) = refl
not_trigger Start = refl
not_trigger Send = refl
not_trigger (Receive b) = refl
not_trigger (Finish code) = refl
not_trigger (Interrupt a b) = refl
not_trigger (Request v w) = refl
not_trigger Take = refl
not_trigger Trigger = refl

-- the second byte of every record is 0
as_record : (c : Call) → (let r = record_of c in named_in (form_of r.letter) (rec r.letter 0 r.offset r.first r.second) ≡ named_in (form_of r.letter) r)
as_record (Read o) = refl
as_record (Write o v) = refl
as_record Start = refl
as_record Send = refl
as_record (Receive b) = refl
as_record (Finish code) = refl
as_record (Interrupt a b) = refl
as_record (Request v w) = refl
as_record Take = refl
as_record Trigger = refl

pub called_is_named : CalledIsNamed
unfolding CalledIsNamed
called_is_named = (λ c e. let r = record_of c in sym (recorded r.letter r.offset r.first r.second (not_trigger c)) ∙ as_record c ∙ call_named c e, sym (triggered 0x47 0 0 0 refl))

-- ── What is kept of no well-formed bank ───────────────────────────────────────────────────────────────────────
none_formed : (k : Kept) → is_kept k ≡ false → well_formed (bank_for k) ≡ false
unfolding well_formed queues_ok
none_formed k e = rw e

-- what is kept of a well-formed bank is that of the bank that it says, and anything else stays
same_kept : (k : Kept) → kept_after k (bank_for k) ≡ k
unfolding TakenIsKept
same_kept k = go (is_kept k) refl
  where
    go : (b : Bool) → is_kept k ≡ b → kept_after k (bank_for k) ≡ k
    go true e = rw e (taken_is_kept k e).1
    go false e = rw e

pub not_kept_is_refused : NotKeptIsRefused
unfolding NotKeptIsRefused replay_in IllFormedReplay
not_kept_is_refused k e = (
  λ p st o. sym (no_bank k st o p e),
  λ file i limit st ts.
      let l = controller (bank_for k) st [] in
      let t = all21 file i limit in
      ap (left_by k ts) (ill_formed_replay file i limit l (none_formed k e))
      ∙ ap (λ (x : Kept). record { number = t.number; kept = x; store = st; told = told_in t ts }) (same_kept k),
)

-- ── A refusal changes nothing ─────────────────────────────────────────────────────────────────────────────────
stays : (k : Kept) (st o : List ℕ) (c : Call) → kept_of (bank_in k) ≡ k → (let h = hosted (step rings (controller (bank_in k) st o) c) in let n = h.answer.number in (n ≡ 0 → ⊥) → (n ≡ 19 → ⊥) → h ≡ record { answer = h.answer; kept = k; store = st; output = o })
unfolding RefusalChangesNothing
stays k st o c e z t =
    let s = step rings (controller (bank_in k) st o) c in
    ap (λ (l : Controller). hosted (record { answer = s.answer; next = l })) (refusal_changes_nothing (controller (bank_in k) st o) c z t)
    ∙ ap (λ (x : Kept). record { answer = s.answer; kept = x; store = st; output = o }) e

pub refused_stays : RefusedStays
unfolding RefusedStays step_in TakenIsKept
refused_stays p k st o = go (is_kept k) refl p
  where
    go : (b : Bool) → is_kept k ≡ b → (p : Parsed) → (let h = step_in p k st o in let n = h.answer.number in (n ≡ 0 → ⊥) → (n ≡ 19 → ⊥) → h ≡ record { answer = h.answer; kept = k; store = st; output = o })
    go false e p = rw e (λ z t. refl)
    go true e None = rw e (λ z t. refl)
    go true e (Some c) = rw e (stays k st o c (taken_is_kept k e).1)

pub refused_silent : RefusedSilent
unfolding RefusedSilent RefusalShowsNothing step_in
refused_silent p k st o = go (is_kept k) refl p
  where
    go : (b : Bool) → is_kept k ≡ b → (p : Parsed) → (let h = step_in p k st o in let n = h.answer.number in (n ≡ 0 → ⊥) → (n ≡ 3 → ⊥) → (n ≡ 19 → ⊥) → h.answer.value ≡ 0)
    go false e p = rw e (λ z s t. refl)
    go true e None = rw e (λ z s t. refl)
    go true e (Some c) = rw e (refusal_shows_nothing (controller (bank_in k) st o) c)

-- a look-up that is not refused is told by 0 or 27
told_done : (w : Bool) (n m : ℕ) → n ≡ 0 → m ≡ cond (eqb n 0) (cond w 27 0) n → (m ≡ 0 → ⊥) → (m ≡ 27 → ⊥) → ⊥
told_done w n m e f g h = go w (f ∙ ap (λ (b : Bool). cond b (cond w 27 0) n) (eq-eqb n 0 e))
  where
    go : (w : Bool) → m ≡ cond w 27 0 → ⊥
    go true f = h f
    go false f = g f

pub refused_replay_stays : RefusedReplayStays
unfolding RefusedReplayStays replay_in EveryReplay
refused_replay_stays file i limit k st ts z w = go (look_number file i) refl
  where
    l : Controller
    l = controller (bank_for k) st []

    n : ℕ
    n = look_number file i

    r : Replayed
    r = replay_in file i limit k st ts

    go : (x : ℕ) → n ≡ x → r ≡ record { number = r.number; kept = k; store = st; told = ts }
    go zero e = absurd (told_done (any_wrong (wanted file i limit)) n r.number e (ap (λ (x : Replay). x.told.number) (every_replay file i limit l)) z w)
    go (suc x) e =
        let h : n ≡ 0 → ⊥ = λ y. omega (arith, e, y) in
        let b : replay_begun n l ≡ replay_of file i limit l = refuses file i limit l n refl h in
        let m : n ≡ r.number = ap (λ (x : Replay). x.told.number) b in
        let u : tells n ≡ false = rw (ne_eqb n 0 h, ne_eqb n 27 (λ y. w (sym m ∙ y))) in
        ap (left_by k ts) (sym b) ∙ (λ j. record { number = m j; kept = same_kept k j; store = st; told = sym (untold (replay_begun n l).told ts u) j })

pub refused_section_stays : RefusedSectionStays
unfolding RefusedSectionStays section_in
refused_section_stays file i ws h = rw (ne_eqb (look_number file i) 0 h)

-- ── Nothing told is cut ───────────────────────────────────────────────────────────────────────────────────────
short : (file : List ℕ) (i : ℕ) → length (section file i) ≤ 0x1000000
short file i = go (look_number file i) refl
  where
    go : (x : ℕ) → look_number file i ≡ x → length (section file i) ≤ 0x1000000
    go zero e =
        let f = found file i e in
        let w = within file i f.0 f.1 in
        let z = f.0.size in
        omega (arith, w, z, handed_length file i e)
    go (suc n) e =
        let r = ap (λ (l : List ℕ). length l) (refused file i (suc n) (sym e) (λ z. omega (arith, z))).0 in
        omega (arith, r)

-- records done are at most those to do
counted : (n : ℕ) (bytes : List ℕ) (i : ℕ) (a : Replay) → (each_record did wrong n bytes i a).told.count ≤ a.told.count + n
unfolding each_record
counted zero bytes i a = omega arith
counted (suc n) bytes i a = go (record_at bytes i) (λ b. counted n bytes (suc i) b)
  where
    go : (p : Parsed) → ((b : Replay) → (each_record did wrong n bytes (suc i) b).told.count ≤ b.told.count + n) → (onward did wrong p a (each_record did wrong n bytes (suc i))).told.count ≤ a.told.count + suc n
    go (Some k) rest = let h = rest (did k a) in omega (arith, h)
    go None rest = omega arith

few : (limit : ℕ) (bytes : List ℕ) → records.whole_records limit bytes ≤ length bytes
few limit bytes = go (ltb limit (length bytes / 12)) refl
  where
    go : (b : Bool) → ltb limit (length bytes / 12) ≡ b → cond b limit (length bytes / 12) ≤ length bytes
    go true e = let h = ltb-true limit (length bytes / 12) e in omega (arith, h)
    go false e = omega arith

few_done : (file : List ℕ) (i limit : ℕ) (l : Controller) → (replay_of file i limit l).told.count ≤ 0x1000000
few_done file i limit l = go (look_number file i) refl
  where
    go : (x : ℕ) → look_number file i ≡ x → (replay_of file i limit l).told.count ≤ 0x1000000
    go zero e =
        let r = ap (λ (x : Replay). x.told.count) (plays file i limit l (section file i) refl e) in
        let n = counted (records.whole_records limit (section file i)) (section file i) 0 (replay_begun 0 l) in
        let k = few limit (section file i) in
        let s = short file i in
        omega (arith, r, n, k, s)
    go (suc n) e =
        let r = ap (λ (x : Replay). x.told.count) (refuses file i limit l (suc n) (sym e) (λ z. omega (arith, z))) in
        omega (arith, r)

pub nothing_cut : NothingCut
unfolding NothingCut
nothing_cut file i limit l = (let s = short file i in omega (arith, s), let k = few_done file i limit l in omega (arith, k))

-- ── What is done is told ──────────────────────────────────────────────────────────────────────────────────────
tells_done : (w : Bool) (n : ℕ) → n ≡ 0 → tells (cond (eqb n 0) (cond w 27 0) n) ≡ true
tells_done true n e = rw (eq-eqb n 0 e)
tells_done false n e = rw (eq-eqb n 0 e)

pub done_is_told : DoneIsTold
unfolding DoneIsTold replay_in EveryReplay
done_is_told file i limit k st ts a b c e =
    let l = controller (bank_for k) st [] in
    let t = (replay_of file i limit l).told in
    let w : tells t.number ≡ true = ap (λ (r : Replay). tells r.told.number) (every_replay file i limit l) ∙ tells_done (any_wrong (wanted file i limit)) (look_number file i) e in
    let f = few_done file i limit l in
    let n : t.count % 2 ^ 32 ≡ t.count = mod-eq_of_lt (omega (arith, f)) in
    sym (is_told t (a ∷ b ∷ c ∷ ts) w) ∙ ap (λ (n : ℕ). n ∷ t.answer.value ∷ t.answer.number ∷ ts) n

pub found_is_placed : FoundIsPlaced
unfolding FoundIsPlaced section_in
found_is_placed file i ws a b e =
    let s = short file i in
    let n : length (section file i) % 2 ^ 32 ≡ length (section file i) = mod-eq_of_lt (omega (arith, s)) in
    sym (is_placed (look_number file i) (section_start file i) (length (section file i)) (a ∷ b ∷ ws) e)
    ∙ (λ j. sym (handed file i e).1 j ∷ (n ∙ handed_length file i e) j ∷ ws)
