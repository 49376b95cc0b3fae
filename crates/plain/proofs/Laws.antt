-- What the two tests refuse, and what a call that passed them gives, as steps of the definition.
use Prim.Native.Nat.{ℕ}
use mathlib.Core.Path.{◌≡◌, refl, ap, sym, ◌∙◌}
use mathlib.Core.Bool.{Bool, true, false}
use mathlib.Core.Option.{Option, none, some}
use lib.Dec.{eqb}
use lib.ListN.{length}
use borrow.Author.Tests.{eqb-false}
use Rattle.bank.specs.SetUp.{total}
use Rattle.model.specs.declared.Call.{Call}
use Rattle.model.specs.View.{View}
use Rattle.model.specs.Decision.{keep_all, Effect, Decision, first, effect}
use Rattle.model.specs.Bursts.{decide}
use Rattle.model.specs.Engine.{outcome, step}
use Rattle.model.proofs.Room.{by_queue}
use Rattle.effect.specs.Effects.{verdict_by, verdict}
use Rattle.faults.specs.Faults.{fault_by, fault_number}
use Rattle.plain_model.specs.Moves.{on_plain_store}
use Rattle.plain_model.specs.FitsArea.{AllFitAreas}
use Rattle.plain_model.specs.Plain.{Plain, view_plain, settle_plain, headed, plain_formed, plain}
use Rattle.plain_model.specs.PlainLaws.{refused_plain, PlainIllFormed, PlainWrongLength}
use Rattle.plain_model.proofs.Beside.{all_fit_areas, plain_step}
use Rattle.plain_model.proofs.PlainLaws.{plain_ill_formed, plain_wrong_length}
use Rattle.plain.specs.Given.{settled_step}

-- ── The two tests ─────────────────────────────────────────────────────────────────────────────────────────────
abbrev sized : Plain → Bool
sized p = eqb (length p.store) (total p.bank.state.caps)

pub refuses : (p : Plain) (c : Call) (n : ℕ) → (n ≡ 0 → ⊥) → n ≡ fault_number (headed p.bank) (length p.store) → refused_plain p n ≡ step plain p c
unfolding PlainIllFormed PlainWrongLength
refuses p c n z e = go (plain_formed p.bank) (sized p) refl refl e
  where
    go : (a b : Bool) → plain_formed p.bank ≡ a → sized p ≡ b → n ≡ fault_by a b → refused_plain p n ≡ step plain p c
    go true true f g h = absurd (z h)
    go true false f g h = ap (refused_plain p) h ∙ sym (plain_wrong_length p c f (eqb-false (length p.store) (total p.bank.state.caps) g))
    go false b f g h = ap (refused_plain p) h ∙ sym (plain_ill_formed p c f)

-- ── A call that passed them ───────────────────────────────────────────────────────────────────────────────────
pub all_inside : (p : Plain) → plain_formed p.bank ≡ true → length p.store ≡ total p.bank.state.caps → AllFitAreas keep_all p.bank.state.caps p.bank.state.levels p.store
all_inside p f z = all_fit_areas p keep_all f z (by_queue _ tt tt tt tt tt)

-- a refusal settles to what was before
verdict_is : (p : Plain) (d : View → Decision) → settled_step p (verdict d (view_plain p)) ≡ (let x = d (view_plain p) in outcome (first x) (effect x) p (settle_plain p (effect x)))
unfolding verdict on_plain_store
verdict_is p d = go (first (d (view_plain p)))
  where
    e : Effect
    e = effect (d (view_plain p))

    go : (n : Option ℕ) → settled_step p (verdict_by n (view_plain p) e) ≡ outcome n e p (settle_plain p e)
    go none = refl
    go (some n) = refl

pub served : (p : Plain) (c : Call) (e : Effect) → plain_formed p.bank ≡ true → length p.store ≡ total p.bank.state.caps → e ≡ verdict (λ (v : View). decide v c) (view_plain p) → settled_step p e ≡ step plain p c
served p c e f z h = ap (settled_step p) h ∙ verdict_is p (λ (v : View). decide v c) ∙ sym (plain_step p c f z)
