-- Demand 3 of the ring engine, from demand 3 of the list engine.
use Prim.Native.Nat.{ℕ}
use mathlib.Core.Path.{◌≡◌, refl, ap, sym, ◌∙◌, subst}
use mathlib.Core.Bool.{Bool, true, false, cond, not, false≢true}
use mathlib.Core.List.{List, [], ◌∷◌}
use mathlib.Core.Option.{Option, none, some, none-ne-some}
use lib.Dec.{eqb}
use lib.ListN.{length}
use borrow.Author.Tests.{eqb-true, eqb-false}
use Rattle.bank.specs.declared.Bank.{Bank}
use Rattle.bank.specs.declared.Answer.{Answer}
use Rattle.bank.specs.Fives.{Sizes}
use Rattle.bank.specs.Phases.{idle}
use Rattle.bank.specs.SetUp.{set_up, total}
use Rattle.bank.specs.Formed.{well_formed}
use Rattle.bank.proofs.Laws.{bank_is}
use Rattle.model.specs.declared.Call.{Call}
use Rattle.model.specs.declared.Call.TheVariants.{Read, Write, Start, Send, Receive, Finish, Interrupt, Request, Take, Trigger}
use Rattle.model.specs.Engine.{Step, Lent, step_lent, final}
use Rattle.model.specs.Rings.{Controller, rings}
use Rattle.model.specs.Lists.{Lists, lists}
use Rattle.model.specs.Laws.{fresh_controller, fresh_lists, WrongLength, SetUpWellFormed}
use Rattle.model.specs.Demand.{Tally, event, follow, tally, direct_phase, Demand3, Demand, other, word, wrote}
use Rattle.model.proofs.Rings.{listed}
use Rattle.model.proofs.Events.{HeldIn}
use Rattle.model.proofs.Strays.{Steady}
use Rattle.model.proofs.ListDemand.{Kept, whole}
use Rattle.model.proofs.Simulation.{Sound, lent_same, lent_stays, same_final, wrong_length, set_up_well_formed}
use Rattle.model.proofs.Laws.{fresh_sound}

-- ── A store of the right length ───────────────────────────────────────────────────────────────────────────────
same_tally : (cs : List Lent) (o : Option Tally) (l : Controller) (m : Lists) → Sound l m → tally rings o l cs ≡ tally lists o m cs
unfolding tally
same_tally [] o l m h = refl
same_tally (c ∷ cs) o l m h =
    ap (λ (a : Answer). tally rings (follow o (event c.call a)) (step_lent rings l c).next cs) (lent_same l m c h)
    ∙ same_tally cs (follow o (event c.call (step_lent lists m c).answer)) (step_lent rings l c).next (step_lent lists m c).next (lent_stays l m c h)

abbrev Claim : Tally → Lists → Type 0
Claim t m = Demand3 t (not (idle (direct_phase m.control m.phase))) m.queues.cmd.words m.queues.cmdr.words

from_lists : (l : Controller) (m : Lists) → Sound l m → Kept none m → (cs : List Lent) (t : Tally) → tally rings none l cs ≡ some t → Claim t (listed (final rings l cs))
from_lists l m h k cs t e = subst (Claim t) (sym (same_final cs l m h).is) (whole m k cs t (sym (same_tally cs none l m h) ∙ e))

-- ── A store of another length: every call is answered 22, and nothing is counted ──────────────────────────────
nothing_read : (a b : Bool) → follow none (cond a other (cond b other other)) ≡ none
nothing_read true b = refl
nothing_read false true = refl
nothing_read false false = refl

nothing_written : (a b : Bool) (v : ℕ) → follow none (cond a other (cond b (word (wrote false v)) other)) ≡ none
nothing_written true b v = refl
nothing_written false true v = refl
nothing_written false false v = refl

nothing_counted : (c : Call) → follow none (event c (record { value = 0; number = 22 })) ≡ none
nothing_counted (Read o) = nothing_read (eqb o 0x0c0) (eqb o 0x0d8)
nothing_counted (Write o v) = nothing_written (eqb o 0x040) (eqb o 0x0d4) v
nothing_counted Start = refl
nothing_counted Send = refl
nothing_counted (Receive b) = refl
nothing_counted (Finish code) = refl
nothing_counted (Interrupt a b) = refl
nothing_counted (Request v w) = refl
nothing_counted Take = refl
nothing_counted Trigger = refl

never_released : (cs : List Lent) (l : Controller) → well_formed l.bank ≡ true → (length l.store ≡ total l.bank.state.caps → ⊥) → tally rings none l cs ≡ none
unfolding tally WrongLength
never_released [] l h z = refl
never_released (c ∷ cs) l h z =
    let m = rings.lend c.output l in
    ap (λ (x : Step Controller). tally rings (follow none (event c.call x.answer)) x.next cs) (wrong_length m c.call h z)
    ∙ ap (λ (o : Option Tally). tally rings o m cs) (nothing_counted c.call)
    ∙ never_released cs m h z

-- ── Any store ─────────────────────────────────────────────────────────────────────────────────────────────────
pub fresh_kept : (caps marks : Sizes) (id : ℕ) → (set_up caps marks id).answer.number ≡ 0 → Kept none (fresh_lists caps marks id)
fresh_kept caps marks id n =
    record {
      good =
          subst
          (λ (b : Bank). HeldIn (record { held = b.state.control.held; cap = caps.cmd; phase = direct_phase b.state.control b.state.phase; cmd = []; cmdr = []; sync = b.state.control.sync }))
          (sym (bank_is caps marks id n))
          (record { is_held = refl; is_idle = refl; no_commands = refl; no_receipts = refl; no_sync = refl });
      steady = subst (λ (b : Bank). Steady b.state.control b.state.phase) (sym (bank_is caps marks id n)) (λ e. absurd (false≢true e));
    }

pub demand : Demand
unfolding Demand SetUpWellFormed
demand caps marks id store cs t n e = go (eqb (length store) (total l.bank.state.caps)) refl
  where
    l : Controller
    l = fresh_controller caps marks id store

    go : (b : Bool) → eqb (length store) (total l.bank.state.caps) ≡ b → Claim t (listed (final rings l cs))
    go true z = from_lists l (fresh_lists caps marks id) (fresh_sound caps marks id store n (eqb-true (length store) (total l.bank.state.caps) z)) (fresh_kept caps marks id n) cs t e
    go false z = absurd (none-ne-some t (sym (never_released cs l (set_up_well_formed caps marks id n) (eqb-false (length store) (total l.bank.state.caps) z)) ∙ e))
