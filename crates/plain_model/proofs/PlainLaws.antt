-- The laws of the plain engine: it agrees with the ring engine, refuses with 21 and 22, and keeps a bank well formed.
use Prim.Native.Nat.{ℕ}
use mathlib.Core.Path.{◌≡◌, refl, ap, ap₂, sym, ◌∙◌, subst}
use mathlib.Core.Bool.{Bool, true, false}
use mathlib.Core.List.{List, [], ◌∷◌}
use mathlib.Core.Option.{Option, none, some}
use lib.Dec.{eqb}
use lib.ListN.{length}
use borrow.Author.Tests.{ne_eqb, eqb-true, eqb-false}
use Rattle.ring.specs.Ring.{entries}
use Rattle.bank.specs.declared.Answer.{Answer}
use Rattle.bank.specs.declared.Bank.{Bank}
use Rattle.bank.specs.Fives.{Sizes}
use Rattle.bank.specs.Queues.{queues_in}
use Rattle.bank.specs.SetUp.{set_up, total}
use Rattle.bank.proofs.Laws.{formed_of, ready, bank_is, fresh_formed}
use Rattle.queues.specs.Each.{of}
use Rattle.model.specs.Decision.{first, Effect, effect}
use Rattle.model.specs.Bursts.{decide}
use Rattle.model.specs.Engine.{Step, outcome, step, Lent, step_lent, final, answers}
use Rattle.model.specs.Rings.{Controller, areas, words_in, guard_rings, rings}
use Rattle.model.specs.Laws.{fresh_controller, OutputKeepsLength}
use Rattle.model.proofs.Laws.{output_keeps_length}
use Rattle.model.proofs.Room.{by_queue}
use Rattle.plain_model.specs.Areas.{plain_areas, plain_words}
use Rattle.plain_model.specs.Plain.{Plain, view_plain, settle_plain, headed, headed_plain, plain_formed, plain}
use Rattle.plain_model.specs.PlainLaws.{headless, fresh_plain, plain_words_of, refused_plain, PlainAgrees, PlainIllFormed, PlainWrongLength, PlainStaysFormed, PlainStoreKeepsLength, PlainOutputKeepsLength}
use Rattle.plain_model.proofs.OneQueue.{words_at_0}
use Rattle.plain_model.proofs.FiveQueues.{length_all}
use Rattle.plain_model.proofs.Beside.{Beside, beside_formed, stays_beside, lent_same, lent_stays}

-- ── From one set-up ───────────────────────────────────────────────────────────────────────────────────────────
-- the same set-up, before any call: all queues are empty
fresh_beside : (caps marks : Sizes) (id : ℕ) (store store' : List ℕ) → (set_up caps marks id).answer.number ≡ 0
    → length store ≡ total (set_up caps marks id).bank.state.caps → length store' ≡ total (set_up caps marks id).bank.state.caps
    → Beside (fresh_controller caps marks id store) (fresh_plain caps marks id store')
unfolding entries plain_words
fresh_beside caps marks id store store' n =
    subst (λ (b : Bank). length store ≡ total b.state.caps → length store' ≡ total b.state.caps → Beside (record { bank = b; store = store; output = [] }) (record { bank = headless b; store = store'; output = [] }))
    (sym (bank_is caps marks id n))
    (λ z y. record { bank = refl; words = by_queue _ refl refl refl refl refl; output = refl; formed = fresh_formed caps marks id n; size = z; plain_size = y })

same_answers_lem : (cs : List Lent) (l : Controller) (p : Plain) → Beside l p → answers rings l cs ≡ answers plain p cs
unfolding answers
same_answers_lem [] l p h = refl
same_answers_lem (c ∷ cs) l p h = ap₂ (λ (a : Answer) (r : List Answer). a ∷ r) (lent_same l p c h) (same_answers_lem cs (step_lent rings l c).next (step_lent plain p c).next (lent_stays l p c h))

same_final : (cs : List Lent) (l : Controller) (p : Plain) → Beside l p → Beside (final rings l cs) (final plain p cs)
unfolding final
same_final [] l p h = h
same_final (c ∷ cs) l p h = same_final cs (step_lent rings l c).next (step_lent plain p c).next (lent_stays l p c h)

pub plain_agrees : PlainAgrees
unfolding PlainAgrees
plain_agrees caps marks id store store' cs n z y =
    let l = fresh_controller caps marks id store in
    let p = fresh_plain caps marks id store' in
    let h = fresh_beside caps marks id store store' n z y in
    let f = same_final cs l p h in
    record { same_answers = same_answers_lem cs l p h; same_bank = f.bank; same_words = f.words; same_output = f.output }

-- ── 21, 22, and what stays well formed ────────────────────────────────────────────────────────────────────────
pub plain_ill_formed : PlainIllFormed
unfolding PlainIllFormed step guard_rings
plain_ill_formed p c h = rw h

pub plain_wrong_length : PlainWrongLength
unfolding PlainWrongLength step guard_rings
plain_wrong_length p c h z = rw (h, ne_eqb (length p.store) (total p.bank.state.caps) z)

-- a plain bank stands beside the rings whose first places are all 0
headed_beside : (p : Plain) → plain_formed p.bank ≡ true → length p.store ≡ total p.bank.state.caps → Beside (headed_plain p) p
headed_beside p h z =
    let f = formed_of (headed p.bank) h in
    let r = ready (queues_in (headed p.bank)) p.store f.queues z in
    let a = plain_areas p.bank.state.caps p.bank.state.levels in
    let l = headed_plain p in
    record {
      bank = refl;
      words =
          by_queue (λ k. words_in (of k (areas (queues_in l.bank))) l.store ≡ plain_words_of k p)
          (words_at_0 a.cmd p.store r.cmd.level_most)
          (words_at_0 a.cmdr p.store r.cmdr.level_most)
          (words_at_0 a.sdo p.store r.sdo.level_most)
          (words_at_0 a.sdi p.store r.sdi.level_most)
          (words_at_0 a.ibi p.store r.ibi.level_most);
      output = refl;
      formed = f;
      size = z;
      plain_size = z;
    }

pub plain_stays_formed : PlainStaysFormed
unfolding PlainStaysFormed PlainWrongLength
plain_stays_formed p c h = go (eqb (length p.store) (total p.bank.state.caps)) refl
  where
    go : (b : Bool) → eqb (length p.store) (total p.bank.state.caps) ≡ b → plain_formed (step plain p c).next.bank ≡ true
    go true e =
        let z = eqb-true (length p.store) (total p.bank.state.caps) e in
        beside_formed (step rings (headed_plain p) c).next (step plain p c).next (stays_beside (headed_plain p) p c (headed_beside p h z))
    go false e = subst (λ (x : Step Plain). plain_formed x.next.bank ≡ true) (sym (plain_wrong_length p c h (eqb-false (length p.store) (total p.bank.state.caps) e))) h

pub plain_store_keeps_length : PlainStoreKeepsLength
unfolding PlainStoreKeepsLength step guard_rings
plain_store_keeps_length p c = go (first (plain.guard p (decide (view_plain p) c)))
  where
    e : Effect
    e = effect (decide (view_plain p) c)

    go : (n : Option ℕ) → length (outcome n e p (settle_plain p e)).next.store ≡ length p.store
    go none = length_all e.ops (plain_areas p.bank.state.caps p.bank.state.levels) p.store
    go (some n) = refl

pub plain_output_keeps_length : PlainOutputKeepsLength
unfolding PlainOutputKeepsLength OutputKeepsLength PlainIllFormed PlainWrongLength
plain_output_keeps_length p c = go (plain_formed p.bank) (eqb (length p.store) (total p.bank.state.caps)) refl refl
  where
    refused : (x : Step Plain) (n : ℕ) → x ≡ refused_plain p n → length x.next.output ≡ length p.output
    refused x n e = ap (λ (y : Step Plain). length y.next.output) e

    go : (a b : Bool) → plain_formed p.bank ≡ a → eqb (length p.store) (total p.bank.state.caps) ≡ b → length (step plain p c).next.output ≡ length p.output
    go false b f e = refused (step plain p c) 21 (plain_ill_formed p c f)
    go true false f e = refused (step plain p c) 22 (plain_wrong_length p c f (eqb-false (length p.store) (total p.bank.state.caps) e))
    go true true f e =
        let z = eqb-true (length p.store) (total p.bank.state.caps) e in
        ap length (sym (stays_beside (headed_plain p) p c (headed_beside p f z)).output) ∙ output_keeps_length (headed_plain p) c
