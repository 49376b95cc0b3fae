-- The laws of `finish.removal`.
use Prim.Native.Nat.{ℕ, zero, suc, ◌+◌, ◌/◌, ◌≤◌, min}
use native.Mathlib.Omega.{arith}
use native.Mathlib.Nat.{zero-min, suc-min-suc}
use mathlib.Core.Path.{◌≡◌, refl, ap, ap₂, sym, ◌∙◌, subst}
use mathlib.Core.Bool.{Bool, true, false, cond, not, ◌&&◌, ◌||◌, true≢false, false≢true}
use mathlib.Core.List.{List, [], ◌∷◌, ◌++◌}
use lib.ListN.{length, drop, set}
use lib.Seq.{drop_at, drop-nil}
use Rattle.ring.proofs.Laws.{entries_length}
use Rattle.bank.specs.declared.Transfer.{Transfer}
use Rattle.bank.specs.declared.Phase.{Phase}
use Rattle.bank.specs.declared.Phase.TheVariants.{Idle, Writing, Reading, Unrequested, Requested, Answered}
use Rattle.bank.specs.Phases.{transfer}
use Rattle.bank.specs.Bursts.{bursting}
use Rattle.bank.specs.Queues.{queues_in}
use Rattle.bank.specs.Ready.{Ready}
use Rattle.bank.proofs.Laws.{formed_of, ready}
use Rattle.model.specs.declared.Call.TheVariants.{Finish}
use Rattle.model.specs.View.{View}
use Rattle.queues.specs.declared.Queue.{Queue}
use Rattle.queues.specs.declared.Queue.TheVariants.{Cmd, Cmdr, Sdo, Sdi, Ibi}
use Rattle.queues.specs.declared.Five.{Five}
use Rattle.queues.specs.Each.{each, of}
use Rattle.model.specs.Fits.{AllFit}
use Rattle.model.specs.Decision.{QueueOp, keep, take, push, Effect, Decision, effect, unchanged, ◌with_value◌, ◌with_control◌, ◌with_phase◌, ◌with_queues◌}
use Rattle.model.specs.Commands.{receipt_word}
use Rattle.model.specs.Calls.{padded, receipted, removes, removed, finish}
use Rattle.model.specs.Bursts.{burst_finish, decide}
use Rattle.model.specs.Engine.{step}
use Rattle.model.specs.Rings.{Controller, Area, areas, words_in, view_rings, on_ring, on_store, on_rings, settle_rings, rings}
use Rattle.model.specs.Lists.{on_words}
use Rattle.model.specs.Laws.{same_queue}
use Rattle.model.specs.Driver.{held_words}
use Rattle.model.specs.Removal.{unsent, payload_words, most_removed, SdoAfterFinish, NextPayloadFirst, OnlyReceipt, RemovalAlone}
use Rattle.model.proofs.Tests.{Passed, of_two}
use Rattle.model.proofs.Room.{fits}
use Rattle.model.proofs.Rings.{on_area, base_same, settled_words}
use Rattle.model.proofs.Laws.{by_outcome}
use Rattle.model.proofs.Driver.{not_zero}

-- ── The words that leave SDO ──────────────────────────────────────────────────────────────────────────────────
-- as many as are there at most
drop_min : (k : ℕ) (ws : List ℕ) → drop (min k (length ws)) ws ≡ drop k ws
drop_min k [] = drop-nil (min k (length {A = ℕ} [])) ∙ sym (drop-nil k)
drop_min zero (w ∷ ws) = rw zero-min
drop_min (suc k) (w ∷ ws) = rw suc-min-suc (drop_min k ws)

-- by phase: the operation of the finish is the removal of the law
by_phase : (p : Phase) (code : ℕ) (b : Bool) (ws : List ℕ) → unsent code ≡ b → on_words (cond (removes p code) (take (removed (transfer p) (length ws))) keep) ws ≡ drop (cond (b && true) (payload_words p) 0) ws
by_phase (Writing t) code true ws e = rw e (drop_min _ ws)
by_phase (Writing t) code false ws e = rw e
by_phase Idle code true ws e = refl
by_phase Idle code false ws e = refl
by_phase (Reading t) code true ws e = refl
by_phase (Reading t) code false ws e = refl
by_phase (Unrequested t) code true ws e = refl
by_phase (Unrequested t) code false ws e = refl
by_phase (Requested t) code true ws e = refl
by_phase (Requested t) code false ws e = refl
by_phase (Answered t) code true ws e = refl
by_phase (Answered t) code false ws e = refl

sdo_after : (s : View) (code : ℕ) (ws : List ℕ) → s.queues.sdo.level ≡ length ws → (d : Decision) → d ≡ cond (bursting s.control) (burst_finish s code) (finish s code) → on_words (effect d).ops.sdo ws ≡ drop (cond (unsent code && not (bursting s.control)) (payload_words s.phase) 0) ws
unfolding finish burst_finish
sdo_after s code ws n d e = rw e (go (bursting s.control) (unsent code) refl)
  where
    go : (b u : Bool) → unsent code ≡ u → on_words (effect (cond b (burst_finish s code) (finish s code))).ops.sdo ws ≡ drop (cond (u && not b) (payload_words s.phase) 0) ws
    go true true h = refl
    go true false h = refl
    go false u h = rw n (by_phase s.phase code u ws h)

pub sdo_after_finish : SdoAfterFinish
unfolding SdoAfterFinish
sdo_after_finish l code =
    by_outcome (λ r. r.answer.number ≡ 0 → held_words Sdo r.next ≡ drop (most_removed l code) (held_words Sdo l)) l (Finish code) (λ n k z. absurd (not_zero n k z))
    (λ f z p _.
    let q = queues_in l.bank in
    let a = (areas q).sdo in
    let o = (effect (decide (view_rings l) (Finish code))).ops in
    settled_words q l.store o (ready q l.store (formed_of l.bank f).queues z) (fits (view_rings l) (Finish code) p) Sdo
    ∙ sdo_after (view_rings l) code (held_words Sdo l) (sym (entries_length a.ring a.base l.store)) _ refl)

most_removed_is : (l : Controller) (code n : ℕ) → bursting l.bank.state.control ≡ false → unsent code ≡ true → payload_words l.bank.state.phase ≡ n → most_removed l code ≡ n
most_removed_is l code n b u e = go (bursting l.bank.state.control) (unsent code) b u
  where
    go : (b u : Bool) → b ≡ false → u ≡ true → cond (u && not b) (payload_words l.bank.state.phase) 0 ≡ n
    go true u b h = absurd (true≢false b)
    go false true b h = e
    go false false b h = absurd (false≢true h)

pub next_payload_first : NextPayloadFirst
unfolding NextPayloadFirst SdoAfterFinish
next_payload_first l t code payload next p b u n w z =
    sdo_after_finish l code z
    ∙ ap (λ (k : ℕ). drop k (held_words Sdo l)) (most_removed_is l code ((t.length.0 + 3) / 4) b u (ap payload_words p))
    ∙ ap (drop ((t.length.0 + 3) / 4)) w
    ∙ drop_at payload next ((t.length.0 + 3) / 4) n

-- ── What else it changes ──────────────────────────────────────────────────────────────────────────────────────
-- the effect of a finish that removes
abbrev finished : View → ℕ → Effect
finished s code =
    let t = transfer s.phase in
    let r = receipt_word code t.moved.0 s.control.sync in
    unchanged s with_value r with_control receipted s.control with_phase Idle with_queues each keep (push r) (take (removed t s.queues.sdo.level)) keep keep

decided : (s : View) (t : Transfer) (code : ℕ) → s.phase ≡ Writing t → bursting s.control ≡ false → unsent code ≡ true → effect (decide s (Finish code)) ≡ finished s code
unfolding finish burst_finish padded
decided s t code p b u =
    let x = transfer s.phase in
    let r = receipt_word code x.moved.0 s.control.sync in
    ap (λ (y : Bool). effect (cond y (burst_finish s code) (finish s code))) b
    ∙ ap₂ (λ (y z : Bool). unchanged s with_value r with_control receipted s.control with_phase Idle with_queues each keep (push r) (cond y (take (removed x s.queues.sdo.level)) keep) (cond z (push x.part) keep) keep) (ap (λ (y : Phase). removes y code) p ∙ u) (ap padded p)

module _ (l : Controller) (code : ℕ) (f : Ready (queues_in l.bank) l.store) (h : AllFit (finished (view_rings l) code).ops (view_rings l).queues) where
  other_queues : (k : Queue) → same_queue Cmdr k ≡ false → same_queue Sdo k ≡ false → (let m = settle_rings l (finished (view_rings l) code) in (of k (areas (queues_in m.bank)) ≡ of k (areas (queues_in l.bank))) × (held_words k m ≡ held_words k l))
  unfolding on_ring
  other_queues k a b =
      let q = queues_in l.bank in
      let ops = (finished (view_rings l) code).ops in
      (base_same q l.store ops f k ∙ ap (λ (o : QueueOp). on_area o (of k (areas q))) (kept k a b), settled_words q l.store ops f h k ∙ ap (λ (o : QueueOp). on_words o (held_words k l)) (kept k a b))
    where
      kept : (k : Queue) → same_queue Cmdr k ≡ false → same_queue Sdo k ≡ false → of k (finished (view_rings l) code).ops ≡ keep
      kept Cmd a b = refl
      kept Cmdr a b = absurd (true≢false a)
      kept Sdo a b = absurd (true≢false b)
      kept Sdi a b = refl
      kept Ibi a b = refl

  only_receipt : (let e = finished (view_rings l) code in OnlyReceipt l (settle_rings l e) e.value)
  unfolding on_store
  only_receipt =
      record {
        receipts = settled_words (queues_in l.bank) l.store (finished (view_rings l) code).ops f h Cmdr;
        queues = other_queues;
        store = refl;
        control = record { held = refl; sync = refl; ibisync = refl; cmdrpending = refl; ibipending = refl; daapending = refl; burst = refl; latest = refl };
        phase = refl;
        regs = refl;
        flags = refl;
        commands = refl;
        payloads = refl;
        output = refl;
      }

pub removal_alone : RemovalAlone
unfolding RemovalAlone
removal_alone l t code p b u =
    let e = decided (view_rings l) t code p b u in
    by_outcome (λ r. r.answer.number ≡ 0 → OnlyReceipt l r.next r.answer.value) l (Finish code) (λ n k z. absurd (not_zero n k z))
    (λ f z g _.
    subst (λ (x : Effect). OnlyReceipt l (settle_rings l x) x.value) (sym e)
    (only_receipt l code (ready (queues_in l.bank) l.store (formed_of l.bank f).queues z) (subst (λ (x : Effect). AllFit x.ops (view_rings l).queues) e (fits (view_rings l) (Finish code) g))))
