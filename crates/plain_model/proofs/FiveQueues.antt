-- The operations of one call on the five queues: each does to its queue what it does to a list, and leaves the words of the others.
use Prim.Native.Nat.{ℕ, ◌+◌, ◌≤◌}
use native.Mathlib.Omega.{arith}
use mathlib.Core.Path.{◌≡◌, refl, ap, ◌∙◌}
use mathlib.Core.List.{List, [], ◌∷◌}
use mathlib.Core.Logic.{◌⊎◌, inl, inr, ⊎_elim}
use lib.ListN.{length}
use Rattle.ring.proofs.Laws.{read_agree}
use Rattle.bank.specs.Fives.{Counts}
use Rattle.queues.specs.declared.Queue.{Queue}
use Rattle.queues.specs.declared.Queue.TheVariants.{Cmd, Cmdr, Sdo, Sdi, Ibi}
use Rattle.queues.specs.declared.Five.{Five}
use Rattle.queues.specs.Each.{of}
use Rattle.model.specs.Decision.{QueueOp}
use Rattle.model.specs.Lists.{on_words}
use Rattle.model.proofs.Room.{by_queue}
use Rattle.plain_model.specs.declared.PlainArea.{PlainArea}
use Rattle.plain_model.specs.Areas.{plain_areas, plain_words}
use Rattle.plain_model.specs.Moves.{on_plain_store, on_levels, on_plain_stores}
use Rattle.plain_model.specs.FitsArea.{FitsArea, AllFitAreas}
use Rattle.plain_model.proofs.OneQueue.{length_plain, level_kept, plain_outside, on_plain_area, own}

-- ── Operations one after another ──────────────────────────────────────────────────────────────────────────────
record Move : Type 0 where
  pub op : QueueOp
  pub on : PlainArea

abbrev move : QueueOp → PlainArea → Move
move o a = record { op = o; on = a }

abbrev stores : List Move → List ℕ → List ℕ
stores [] st = st
stores (m ∷ ms) st = stores ms (on_plain_store m.op m.on st)

-- two areas have no word in common
abbrev Apart : PlainArea → PlainArea → Type 0
Apart a b = (b.base + b.cap ≤ a.base) ⊎ (a.base + a.cap ≤ b.base)

abbrev AllApart : PlainArea → List Move → Type 0
AllApart a [] = Unit {0}
AllApart a (m ∷ ms) = (FitsArea m.op m.on × Apart a m.on) × AllApart a ms

length_stores : (ms : List Move) (st : List ℕ) → length (stores ms st) ≡ length st
length_stores [] st = refl
length_stores (m ∷ ms) st = length_stores ms (on_plain_store m.op m.on st) ∙ length_plain m.op m.on st

-- the words of a queue elsewhere
elsewhere : (m : Move) (st : List ℕ) (a : PlainArea) → a.level ≤ a.cap → FitsArea m.op m.on → Apart a m.on → plain_words a (on_plain_store m.op m.on st) ≡ plain_words a st
unfolding plain_words
elsewhere m st a l w d =
    read_agree (on_plain_store m.op m.on st) st (λ i. a.base + i) (λ i. a.base + i) a.level
    (λ i p. plain_outside m.op m.on st (a.base + i) w (⊎_elim (λ e. inr (omega arith)) (λ e. inl (omega arith)) d))

all_elsewhere : (ms : List Move) (st : List ℕ) (a : PlainArea) → a.level ≤ a.cap → AllApart a ms → plain_words a (stores ms st) ≡ plain_words a st
all_elsewhere [] st a l d = refl
all_elsewhere (m ∷ ms) st a l d = all_elsewhere ms (on_plain_store m.op m.on st) a l d.1 ∙ elsewhere m st a l d.0.0 d.0.1

-- an operation leaves the queue's area where it was
apart_kept : (o : QueueOp) (a : PlainArea) (ms : List Move) → AllApart a ms → AllApart (on_plain_area o a) ms
apart_kept o a [] d = tt
apart_kept o a (m ∷ ms) d = (d.0, apart_kept o a ms d.1)

-- a queue's words after operations on queues elsewhere, its own, and more elsewhere
one_queue : (before : List Move) (o : QueueOp) (a : PlainArea) (after : List Move) (st : List ℕ) → FitsArea o a → a.base + a.cap ≤ length st → AllApart a before → AllApart a after
    → plain_words (on_plain_area o a) (stores after (on_plain_store o a (stores before st))) ≡ on_words o (plain_words a st)
one_queue before o a after st w l d e =
    let z = length_stores before st in
    all_elsewhere after (on_plain_store o a (stores before st)) (on_plain_area o a) (level_kept o a w) (apart_kept o a after e)
    ∙ own o a (stores before st) w (omega arith)
    ∙ ap (on_words o) (all_elsewhere before st a w.most d)

-- ── The five queues of a call ─────────────────────────────────────────────────────────────────────────────────
pub length_all : (o : Five QueueOp) (a : Five PlainArea) (st : List ℕ) → length (on_plain_stores o a st) ≡ length st
length_all o a st = length_stores (move o.cmd a.cmd ∷ move o.cmdr a.cmdr ∷ move o.sdo a.sdo ∷ move o.sdi a.sdi ∷ move o.ibi a.ibi ∷ []) st

module _ (o : Five QueueOp) (k l : Counts) (st : List ℕ) where
  abbrev Settled : Queue → Type 0
  Settled q = plain_words (of q (plain_areas k (on_levels o l))) (on_plain_stores o (plain_areas k l) st) ≡ on_words (of q o) (plain_words (of q (plain_areas k l)) st)

  pub settled_words : AllFitAreas o k l st → (q : Queue) → Settled q
  settled_words w =
      let z = w.size in
      let s = plain_areas k l in
      let cmd = move o.cmd s.cmd in
      let cmdr = move o.cmdr s.cmdr in
      let sdo = move o.sdo s.sdo in
      let sdi = move o.sdi s.sdi in
      let ibi = move o.ibi s.ibi in
      let a = w.each Cmd in
      let b = w.each Cmdr in
      let c = w.each Sdo in
      let d = w.each Sdi in
      let e = w.each Ibi in
      by_queue Settled
      (one_queue [] o.cmd s.cmd (cmdr ∷ sdo ∷ sdi ∷ ibi ∷ []) st a (omega arith) tt ((b, inr (omega arith)), ((c, inr (omega arith)), ((d, inr (omega arith)), ((e, inr (omega arith)), tt)))))
      (one_queue (cmd ∷ []) o.cmdr s.cmdr (sdo ∷ sdi ∷ ibi ∷ []) st b (omega arith) ((a, inl (omega arith)), tt) ((c, inr (omega arith)), ((d, inr (omega arith)), ((e, inr (omega arith)), tt))))
      (one_queue (cmd ∷ cmdr ∷ []) o.sdo s.sdo (sdi ∷ ibi ∷ []) st c (omega arith) ((a, inl (omega arith)), ((b, inl (omega arith)), tt)) ((d, inr (omega arith)), ((e, inr (omega arith)), tt)))
      (one_queue (cmd ∷ cmdr ∷ sdo ∷ []) o.sdi s.sdi (ibi ∷ []) st d (omega arith) ((a, inl (omega arith)), ((b, inl (omega arith)), ((c, inl (omega arith)), tt))) ((e, inr (omega arith)), tt))
      (one_queue (cmd ∷ cmdr ∷ sdo ∷ sdi ∷ []) o.ibi s.ibi [] st e (omega arith) ((a, inl (omega arith)), ((b, inl (omega arith)), ((c, inl (omega arith)), ((d, inl (omega arith)), tt)))) tt)
