-- The ring engine follows the list engine, call by call, and every call keeps a bank well formed (`formed.kept`).
use Prim.Native.Nat.{ℕ}
use mathlib.Core.Path.{◌≡◌, refl, ap, sym, ◌∙◌, subst}
use mathlib.Core.Bool.{Bool, true, false}
use mathlib.Core.List.{List, [], ◌∷◌}
use mathlib.Core.Option.{Option, none, some}
use lib.Dec.{eqb}
use lib.ListN.{length}
use borrow.Author.Tests.{eq-eqb, eqb-true, eqb-false}
use Rattle.bank.specs.declared.Bank.{Bank}
use Rattle.bank.specs.Queues.{queues_in}
use Rattle.bank.specs.SetUp.{bank_of, total}
use Rattle.bank.specs.Formed.{well_formed}
use Rattle.bank.proofs.Laws.{Formed, formed_is, formed_of, ready, bank_is, fresh_formed}
use Rattle.model.specs.declared.Call.{Call}
use Rattle.model.specs.View.{View}
use Rattle.queues.specs.declared.Queue.TheVariants.{Cmd, Cmdr, Sdo, Sdi, Ibi}
use Rattle.model.specs.Decision.{first, Effect, effect}
use Rattle.model.specs.Bursts.{decide}
use Rattle.model.specs.Engine.{Step, outcome, step, Lent, step_lent, final}
use Rattle.model.specs.Rings.{Controller, view_rings, settle_rings, guard_rings, rings}
use Rattle.model.specs.Lists.{Lists, settle_lists, lists}
use Rattle.model.specs.Laws.{IllFormed, WrongLength, SetUpWellFormed, StaysWellFormed}
use Rattle.model.proofs.Tests.{Passed, passed}
use Rattle.model.proofs.Room.{fits}
use Rattle.model.proofs.Rings.{listed, view_same, ready_after, settled_same, caps_same}
use Rattle.model.proofs.Formed.{Capped, queues_kept, regs_flags_kept, reset_kept}
use Rattle.model.proofs.Open.{open_kept}

abbrev RightLength : Controller → Type 0
RightLength l = length l.store ≡ total l.bank.state.caps

-- the bank is well formed, the store has its length, and the rings hold these lists
pub record Sound (l : Controller) (m : Lists) : Type 0 where
  pub is : listed l ≡ m
  pub formed : Formed l.bank
  pub size : RightLength l

abbrev decision : Controller → Call → Effect
decision l c = effect (decide (view_rings l) c)

pub capped : (l : Controller) → Capped l.bank.state.caps (view_rings l)
capped l Cmd = refl
capped l Cmdr = refl
capped l Sdo = refl
capped l Sdi = refl
capped l Ibi = refl

-- one call that no test refuses
served_sound : (l : Controller) (c : Call) → Passed (decide (view_rings l) c) → Formed l.bank → RightLength l → Sound (settle_rings l (decision l c)) (settle_lists (listed l) (decision l c))
served_sound l c f h z =
    let s = view_rings l in
    let e = decision l c in
    let q = queues_in l.bank in
    let k = fits s c f in
    let r = ready q l.store h.queues z in
    let g = regs_flags_kept l.bank.state.caps s c (capped l) (h.regs, h.marks, h.flags) f in
    record {
      is = settled_same l e r k;
      formed = record { queues = queues_kept q l.store e.ops k h.queues; regs = g.0; marks = rw (caps_same q l.store e.ops r) g.1; phase = open_kept s c h.phase f; reset = reset_kept l c h.reset f; flags = g.2 };
      size = (ready_after q l.store e.ops r k).size;
    }

-- ── One call on both engines ──────────────────────────────────────────────────────────────────────────────────
abbrev rings_by : Controller → Option ℕ → Effect → Step Controller
rings_by l n e = outcome n e l (settle_rings l e)

abbrev lists_by : Lists → Option ℕ → Effect → Step Lists
lists_by m n e = outcome n e m (settle_lists m e)

-- 21 and 22 do not arise
pub rings_step : (l : Controller) (c : Call) → Formed l.bank → RightLength l → step rings l c ≡ rings_by l (first (decide (view_rings l) c)) (decision l c)
unfolding step guard_rings
rings_step l c h z = rw (formed_is l.bank h, eq-eqb (length l.store) (total l.bank.state.caps) z)

lists_step : (l : Controller) (c : Call) → step lists (listed l) c ≡ lists_by (listed l) (first (decide (view_rings l) c)) (decision l c)
unfolding step
lists_step l c = ap (λ (s : View). lists_by (listed l) (first (decide s c)) (effect (decide s c))) (sym (view_same l))

answer_same : (l : Controller) (n : Option ℕ) (e : Effect) → (rings_by l n e).answer ≡ (lists_by (listed l) n e).answer
answer_same l none e = refl
answer_same l (some n) e = refl

next_sound : (l : Controller) (c : Call) (n : Option ℕ) → first (decide (view_rings l) c) ≡ n → Formed l.bank → RightLength l → Sound (rings_by l n (decision l c)).next (lists_by (listed l) n (decision l c)).next
next_sound l c none e h z = served_sound l c (passed (decide (view_rings l) c) e) h z
next_sound l c (some n) e h z = record { is = refl; formed = h; size = z }

pub same_answer : (l : Controller) (m : Lists) (c : Call) → Sound l m → (step rings l c).answer ≡ (step lists m c).answer
same_answer l m c h =
    ap (λ (x : Step Controller). x.answer) (rings_step l c h.formed h.size)
    ∙ answer_same l (first (decide (view_rings l) c)) (decision l c)
    ∙ ap (λ (x : Step Lists). x.answer) (sym (lists_step l c))
    ∙ ap (λ (x : Lists). (step lists x c).answer) h.is

pub stays_sound : (l : Controller) (m : Lists) (c : Call) → Sound l m → Sound (step rings l c).next (step lists m c).next
stays_sound l m c h =
    subst (λ (x : Lists). Sound (step rings l c).next (step lists x c).next) h.is
    (subst (λ (x : Step Controller). Sound x.next (step lists (listed l) c).next) (sym (rings_step l c h.formed h.size))
    (subst (λ (x : Step Lists). Sound (rings_by l (first (decide (view_rings l) c)) (decision l c)).next x.next) (sym (lists_step l c))
    (next_sound l c (first (decide (view_rings l) c)) refl h.formed h.size)))

-- with another output lent
pub lent_sound : (o : List ℕ) (l : Controller) (m : Lists) → Sound l m → Sound (rings.lend o l) (lists.lend o m)
lent_sound o l m h = record { is = ap (lists.lend o) h.is; formed = h.formed; size = h.size }

pub lent_same : (l : Controller) (m : Lists) (c : Lent) → Sound l m → (step_lent rings l c).answer ≡ (step_lent lists m c).answer
lent_same l m c h = same_answer (rings.lend c.output l) (lists.lend c.output m) c.call (lent_sound c.output l m h)

pub lent_stays : (l : Controller) (m : Lists) (c : Lent) → Sound l m → Sound (step_lent rings l c).next (step_lent lists m c).next
lent_stays l m c h = stays_sound (rings.lend c.output l) (lists.lend c.output m) c.call (lent_sound c.output l m h)

pub same_final : (cs : List Lent) (l : Controller) (m : Lists) → Sound l m → Sound (final rings l cs) (final lists m cs)
unfolding final
same_final [] l m h = h
same_final (c ∷ cs) l m h = same_final cs (step_lent rings l c).next (step_lent lists m c).next (lent_stays l m c h)

-- ── Well formed, whatever the store ───────────────────────────────────────────────────────────────────────────
not_equal : (m n : ℕ) → (m ≡ n → ⊥) → eqb m n ≡ false
not_equal m n h = go (eqb m n) refl
  where
    go : (b : Bool) → eqb m n ≡ b → b ≡ false
    go true e = absurd (h (eqb-true m n e))
    go false e = refl

pub ill_formed : IllFormed
unfolding IllFormed step guard_rings
ill_formed l c h = rw h

pub wrong_length : WrongLength
unfolding WrongLength step guard_rings
wrong_length l c h z = rw (h, not_equal (length l.store) (total l.bank.state.caps) z)

pub set_up_well_formed : SetUpWellFormed
unfolding SetUpWellFormed
set_up_well_formed caps marks id h = subst (λ (b : Bank). well_formed b ≡ true) (sym (bank_is caps marks id h)) (formed_is (bank_of caps marks true id) (fresh_formed caps marks id h))

pub stays_well_formed : StaysWellFormed
unfolding StaysWellFormed WrongLength
stays_well_formed l c h = go (eqb (length l.store) (total l.bank.state.caps)) refl
  where
    go : (b : Bool) → eqb (length l.store) (total l.bank.state.caps) ≡ b → well_formed (step rings l c).next.bank ≡ true
    go true z = formed_is (step rings l c).next.bank (stays_sound l (listed l) c (record { is = refl; formed = formed_of l.bank h; size = eqb-true (length l.store) (total l.bank.state.caps) z })).formed
    go false z = subst (λ (x : Step Controller). well_formed x.next.bank ≡ true) (sym (wrong_length l c h (eqb-false (length l.store) (total l.bank.state.caps) z))) h
