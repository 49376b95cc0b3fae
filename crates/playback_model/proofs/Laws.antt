-- A replay by the number of its look-up.
use Prim.Native.Nat.{ℕ}
use mathlib.Core.Path.{◌≡◌, ap, sym, ◌∙◌}
use mathlib.Core.Bool.{cond}
use mathlib.Core.List.{List}
use lib.Dec.{eqb}
use borrow.Author.Tests.{eq-eqb, ne_eqb}
use Rattle.number.specs.declared.Refusal.{Refusal}
use Rattle.number.specs.Refusals.{number_of}
use Rattle.model.specs.Rings.{Controller}
use Rattle.trace_model.specs.Format.{look_number, section}
use Rattle.trace_model.proofs.Refused.{not_zero}
use Rattle.playback_model.specs.Replay.{replay_begun, played, replay_of}

-- a look-up that is refused, and one that is not
pub refuses : (file : List ℕ) (i limit : ℕ) (l : Controller) (x : ℕ) → x ≡ look_number file i → (x ≡ 0 → ⊥) → replay_begun x l ≡ replay_of file i limit l
refuses file i limit l x e h = rw (sym e, ne_eqb x 0 h)

pub refuses_by : (file : List ℕ) (i limit : ℕ) (l : Controller) (why : Refusal) (x : ℕ) → x ≡ number_of why → number_of why ≡ look_number file i → replay_begun x l ≡ replay_of file i limit l
refuses_by file i limit l why x e f = refuses file i limit l x (e ∙ f) (λ z. not_zero why (sym e ∙ z))

pub plays : (file : List ℕ) (i limit : ℕ) (l : Controller) (bytes : List ℕ) → bytes ≡ section file i → look_number file i ≡ 0 → played limit bytes l ≡ replay_of file i limit l
plays file i limit l bytes e h = ap (λ (x : List ℕ). played limit x l) e ∙ sym (passes (look_number file i) h)
  where
    passes : (n : ℕ) → n ≡ 0 → cond (eqb n 0) (played limit (section file i) l) (replay_begun n l) ≡ played limit (section file i) l
    passes n e = rw (eq-eqb n 0 e)
