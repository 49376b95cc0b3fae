-- Every replay, of any file, makes the calls of its records one by one.
use Prim.Native.Nat.{ℕ, zero, suc, ◌≤◌}
use native.Mathlib.Omega.{arith}
use mathlib.Core.Path.{◌≡◌, refl, ap, sym, ◌∙◌}
use mathlib.Core.Bool.{Bool, true, false, cond}
use mathlib.Core.List.{List, []}
use lib.Dec.{eqb}
use borrow.Author.Tests.{eq-eqb, ne_eqb, le-ltb}
use Rattle.model.specs.Engine.{answers, final}
use Rattle.model.specs.Rings.{Controller}
use Rattle.letters.specs.Named.{Parsed}
use Rattle.trace_model.specs.Format.{look_number, section}
use Rattle.trace_model.proofs.Sections.{refused}
use Rattle.record_model.specs.Record.{whole_records}
use Rattle.record_model.specs.Writer.{named_from}
use Rattle.record_model.specs.Done.{calls_before, any_wrong, EachIsMade}
use Rattle.record_model.proofs.Made.{each_is_made}
use Rattle.playback_model.specs.Replay.{Replay, replay_begun, did, wrong, played, replay_of}
use Rattle.playback_model.specs.Laws.{lent_on, made}
use Rattle.playback_model.specs.Done.{wanted, done_in, number_in, EveryReplay}
use Rattle.playback_model.proofs.Laws.{refuses, plays}
use Rattle.playback_model.proofs.Calls.{one_after_another}

abbrev made_by : List Parsed → Controller → Replay
made_by ps l = made (cond (any_wrong ps) 27 0) (calls_before ps) l

-- a wrong record changes the number alone
stopped : (w : Bool) (ps : List Parsed) (l : Controller) → cond w (wrong (made 0 (calls_before ps) l)) (made 0 (calls_before ps) l) ≡ made (cond w 27 0) (calls_before ps) l
stopped true ps l = refl
stopped false ps l = refl

every_section : (limit : ℕ) (bytes : List ℕ) (l : Controller) → played limit bytes l ≡ made_by (named_from (whole_records limit bytes) bytes 0) l
unfolding EachIsMade
every_section limit bytes l =
    let ps = named_from (whole_records limit bytes) bytes 0 in
    each_is_made Replay did wrong (whole_records limit bytes) bytes 0 (replay_begun 0 l)
    ∙ ap (λ (r : Replay). cond (any_wrong ps) (wrong r) r) (one_after_another (calls_before ps) l)
    ∙ stopped (any_wrong ps) ps l

-- the number of a look-up comes first
looked_up : (n m : ℕ) → n ≡ 0 → m ≡ cond (eqb n 0) m n
looked_up n m e = rw (eq-eqb n 0 e)

refused_by : (n m : ℕ) → (n ≡ 0 → ⊥) → n ≡ cond (eqb n 0) m n
refused_by n m h = rw (ne_eqb n 0 h)

-- an empty section has no records
none_made : (limit n : ℕ) (l : Controller) → replay_begun n l ≡ made n (calls_before (named_from (whole_records limit []) [] 0)) l
unfolding named_from calls_before lent_on answers final
none_made limit n l = rw (le-ltb limit 0 (let h : 0 ≤ limit = omega arith in h))

pub every_replay : EveryReplay
unfolding EveryReplay wanted
every_replay file i limit l = go (look_number file i) refl
  where
    n : ℕ
    n = look_number file i

    m : ℕ
    m = cond (any_wrong (wanted file i limit)) 27 0

    go : (x : ℕ) → n ≡ x → replay_of file i limit l ≡ made (number_in file i limit) (done_in file i limit) l
    go zero e = sym (plays file i limit l (section file i) refl e) ∙ every_section limit (section file i) l ∙ ap (λ (x : ℕ). made x (done_in file i limit) l) (looked_up n m e)
    go (suc x) e =
        let h : n ≡ 0 → ⊥ = λ z. omega (arith, e, z) in
        sym (refuses file i limit l n refl h)
        ∙ none_made limit n l
        ∙ ap (λ (bytes : List ℕ). made n (calls_before (named_from (whole_records limit bytes) bytes 0)) l) (refused file i n refl h).0
        ∙ ap (λ (x : ℕ). made x (done_in file i limit) l) (refused_by n m h)
