-- `queue.order`, of one settled call: the rings do what the lists do.
use Prim.Native.Nat.{ℕ, ◌+◌, ◌≤◌, ◌<◌}
use native.Mathlib.Omega.{arith}
use mathlib.Core.Path.{◌≡◌, refl, ap, sym, ◌∙◌, subst}
use mathlib.Core.List.{List, [], ◌∷◌, ◌++◌, append_assoc}
use mathlib.Core.Logic.{◌⊎◌, inl, inr, ⊎_elim}
use lib.ListN.{length, get_or, set, length-set}
use Rattle.ring.specs.declared.Ring.{Ring}
use Rattle.ring.specs.declared.Words.{Words}
use Rattle.ring.specs.Ring.{Valid, place_of, pushed_of, entries}
use Rattle.ring.proofs.Laws.{place_below, entries_length, entries_push, entries_take, entries_clear, entries_other, valid_push, valid_take, valid_clear}
use Rattle.bank.specs.Queues.{Queues, queues_in, caps_of}
use Rattle.bank.specs.SetUp.{total}
use Rattle.bank.specs.Ready.{Ready}
use Rattle.queues.specs.declared.Queue.{Queue}
use Rattle.queues.specs.declared.Queue.TheVariants.{Cmd, Cmdr, Sdo, Sdi, Ibi}
use Rattle.queues.specs.declared.Five.{Five}
use Rattle.queues.specs.Each.{each, of}
use Rattle.model.specs.Decision.{QueueOp, keep, clear, take, push, push2, Effect}
use Rattle.model.specs.Rings.{Controller, Area, area, areas, words_in, view_area, view_queues, view_rings, on_ring, on_store, on_rings, on_stores, settle_rings}
use Rattle.model.specs.Lists.{ListQueue, Lists, view_list, view_lists, on_words, on_list, settle_lists}
use Rattle.model.specs.Fits.{Fits, AllFit}
use Rattle.model.proofs.Room.{by_queue}

-- ── The lists that the rings hold ─────────────────────────────────────────────────────────────────────────────
abbrev pub list_queue : Area → List ℕ → ListQueue
list_queue a st = record { cap = a.ring.cap.0; words = words_in a st }

abbrev pub listed : Controller → Lists
listed l =
    let v = view_rings l in
    let a = areas (queues_in l.bank) in
    let st = l.store in
    record { regs = v.regs; control = v.control; phase = v.phase; tables = v.tables; queues = each (list_queue a.cmd st) (list_queue a.cmdr st) (list_queue a.sdo st) (list_queue a.sdi st) (list_queue a.ibi st) }

area_same : (a : Area) (st : List ℕ) → view_area a st ≡ view_list (list_queue a st)
area_same a st = λ i. record { cap = a.ring.cap.0; level = sym (entries_length a.ring a.base st) i; first = get_or (words_in a st) 0 0; second = get_or (words_in a st) 1 0 }

-- both engines show the same
pub view_same : (l : Controller) → view_rings l ≡ view_lists (listed l)
view_same l =
    let v = view_rings l in
    let a = areas (queues_in l.bank) in
    let st = l.store in
    λ i. record { regs = v.regs; control = v.control; phase = v.phase; tables = v.tables; queues = each (area_same a.cmd st i) (area_same a.cmdr st i) (area_same a.sdo st i) (area_same a.sdi st i) (area_same a.ibi st i) }

-- ── One operation ─────────────────────────────────────────────────────────────────────────────────────────────
pub cap_same : (o : QueueOp) (r : Ring) → (on_ring o r).cap ≡ r.cap
unfolding on_ring
cap_same keep r = refl
cap_same clear r = refl
cap_same (take k) r = refl
cap_same (push w) r = refl
cap_same (push2 v w) r = refl

pub valid_op : (o : QueueOp) (r : Ring) → Valid r → Fits o r.cap.0 r.level.0 → Valid (on_ring o r)
unfolding on_ring
valid_op keep r f h = f
valid_op clear r f h = valid_clear r f
valid_op (take k) r f h = valid_take r k f
valid_op (push w) r f h = valid_push r f (omega arith)
valid_op (push2 v w) r f h = valid_push (pushed_of r) (valid_push r f (omega arith)) (omega arith)

pub length_store : (o : QueueOp) (a : Area) (st : List ℕ) → length (on_store o a st) ≡ length st
unfolding on_store
length_store keep a st = refl
length_store clear a st = refl
length_store (take k) a st = refl
length_store (push w) a st = length-set st _ w
length_store (push2 v w) a st = length-set (set st _ v) _ w ∙ length-set st _ v

abbrev pub on_area : QueueOp → Area → Area
on_area o a = area (on_ring o a.ring) a.base

-- on the queue's own words
own : (o : QueueOp) (a : Area) (st : List ℕ) → Valid a.ring → Fits o a.ring.cap.0 a.ring.level.0 → a.base + a.ring.cap.0 ≤ length st → words_in (on_area o a) (on_store o a st) ≡ on_words o (words_in a st)
unfolding on_ring on_store
own keep a st f h l = refl
own clear a st f h l = entries_clear a.ring a.base st
own (take k) a st f h l = entries_take a.ring a.base st k h
own (push w) a st f h l = entries_push a.ring a.base st w f (omega arith) l
own (push2 v w) a st f h l =
    let r = a.ring in
    let at = a.base + place_of r r.level.0 in
    let z = length-set st at v in
    entries_push (pushed_of r) a.base (set st at v) w (valid_push r f (omega arith)) (omega arith) (omega arith)
    ∙ ap (λ (x : List ℕ). x ++ (w ∷ [])) (entries_push r a.base st v f (omega arith) l)
    ∙ append_assoc (words_in a st) (v ∷ []) (w ∷ [])

-- two stretches of the store have no word in common
abbrev Apart : ℕ → ℕ → Area → Type 0
Apart base cap b = (b.base + b.ring.cap.0 ≤ base) ⊎ (base + cap ≤ b.base)

away : (base cap base' cap' x : ℕ) → x < cap' → (base' + cap' ≤ base) ⊎ (base + cap ≤ base') → (base' + x < base) ⊎ (base + cap ≤ base' + x)
away base cap base' cap' x h d = ⊎_elim (λ a. inl (omega arith)) (λ a. inr (omega arith)) d

-- on the words of a queue elsewhere
elsewhere : (o : QueueOp) (b : Area) (st : List ℕ) (r : Ring) (base : ℕ) → Valid b.ring → Valid r → Apart base r.cap.0 b → entries r base (on_store o b st) ≡ entries r base st
unfolding on_store
elsewhere keep b st r base g f d = refl
elsewhere clear b st r base g f d = refl
elsewhere (take k) b st r base g f d = refl
elsewhere (push w) b st r base g f d = entries_other r base st _ w f (away base r.cap.0 b.base b.ring.cap.0 _ (place_below b.ring g b.ring.level.0) d)
elsewhere (push2 v w) b st r base g f d =
    entries_other r base (set st (b.base + place_of b.ring b.ring.level.0) v) _ w f (away base r.cap.0 b.base b.ring.cap.0 _ (place_below b.ring g (b.ring.level.0 + 1)) d)
    ∙ entries_other r base st _ v f (away base r.cap.0 b.base b.ring.cap.0 _ (place_below b.ring g b.ring.level.0) d)

-- ── Operations one after another ──────────────────────────────────────────────────────────────────────────────
record Move : Type 0 where
  pub op : QueueOp
  pub on : Area

abbrev move : QueueOp → Area → Move
move o a = record { op = o; on = a }

abbrev stores : List Move → List ℕ → List ℕ
stores [] st = st
stores (m ∷ ms) st = stores ms (on_store m.op m.on st)

abbrev AllApart : ℕ → ℕ → List Move → Type 0
AllApart base cap [] = Unit {0}
AllApart base cap (m ∷ ms) = (Valid m.on.ring × Apart base cap m.on) × AllApart base cap ms

length_stores : (ms : List Move) (st : List ℕ) → length (stores ms st) ≡ length st
length_stores [] st = refl
length_stores (m ∷ ms) st = length_stores ms (on_store m.op m.on st) ∙ length_store m.op m.on st

all_elsewhere : (ms : List Move) (st : List ℕ) (r : Ring) (base : ℕ) → Valid r → AllApart base r.cap.0 ms → entries r base (stores ms st) ≡ entries r base st
all_elsewhere [] st r base f d = refl
all_elsewhere (m ∷ ms) st r base f d = all_elsewhere ms (on_store m.op m.on st) r base f d.1 ∙ elsewhere m.op m.on st r base d.0.0 f d.0.1

-- a queue's words after operations on queues elsewhere, its own, and more elsewhere
one_queue : (before : List Move) (o : QueueOp) (a : Area) (after : List Move) (st : List ℕ) → Valid a.ring → Fits o a.ring.cap.0 a.ring.level.0 → a.base + a.ring.cap.0 ≤ length st
    → AllApart a.base a.ring.cap.0 before → AllApart a.base a.ring.cap.0 after → words_in (on_area o a) (stores after (on_store o a (stores before st))) ≡ on_words o (words_in a st)
one_queue before o a after st f h l d e =
    let z = length_stores before st in
    all_elsewhere after (on_store o a (stores before st)) (on_ring o a.ring) a.base (valid_op o a.ring f h) (subst (λ (c : Words). AllApart a.base c.0 after) (sym (cap_same o a.ring)) e)
    ∙ own o a (stores before st) f h (omega arith)
    ∙ ap (on_words o) (all_elsewhere before st a.ring a.base f d)

list_op : (o : QueueOp) (a : Area) (st st' : List ℕ) → words_in (on_area o a) st' ≡ on_words o (words_in a st) → list_queue (on_area o a) st' ≡ on_list o (list_queue a st)
list_op o a st st' e = λ i. record { cap = (cap_same o a.ring i).0; words = e i }

-- ── The five queues of a call ─────────────────────────────────────────────────────────────────────────────────
pub length_all : (o : Five QueueOp) (a : Five Area) (st : List ℕ) → length (on_stores o a st) ≡ length st
length_all o a st = length_stores (move o.cmd a.cmd ∷ move o.cmdr a.cmdr ∷ move o.sdo a.sdo ∷ move o.sdi a.sdi ∷ move o.ibi a.ibi ∷ []) st

module _ (q : Queues) (st : List ℕ) (o : Five QueueOp) (f : Ready q st) where
  pub base_same : (k : Queue) → of k (areas (on_rings o q)) ≡ on_area (of k o) (of k (areas q))
  base_same =
      let a = cap_same o.cmd q.cmd in
      let b = cap_same o.cmdr q.cmdr in
      let c = cap_same o.sdo q.sdo in
      let d = cap_same o.sdi q.sdi in
      by_queue (λ k. of k (areas (on_rings o q)) ≡ on_area (of k o) (of k (areas q)))
      refl
      (λ i. area (on_ring o.cmdr q.cmdr) (a i).0)
      (λ i. area (on_ring o.sdo q.sdo) ((a i).0 + (b i).0))
      (λ i. area (on_ring o.sdi q.sdi) ((a i).0 + (b i).0 + (c i).0))
      (λ i. area (on_ring o.ibi q.ibi) ((a i).0 + (b i).0 + (c i).0 + (d i).0))

  pub caps_same : caps_of (on_rings o q) ≡ caps_of q
  caps_same = λ i. record { cmd = cap_same o.cmd q.cmd i; cmdr = cap_same o.cmdr q.cmdr i; sdo = cap_same o.sdo q.sdo i; sdi = cap_same o.sdi q.sdi i; ibi = cap_same o.ibi q.ibi i }

  pub total_same : total (caps_of (on_rings o q)) ≡ total (caps_of q)
  total_same = ap total caps_same

  module _ (h : AllFit o (view_queues q st)) where
    words_same : (k : Queue) → words_in (on_area (of k o) (of k (areas q))) (on_stores o (areas q) st) ≡ on_words (of k o) (words_in (of k (areas q)) st)
    words_same =
        let a = areas q in
        let z = f.size in
        let cmd = move o.cmd a.cmd in
        let cmdr = move o.cmdr a.cmdr in
        let sdo = move o.sdo a.sdo in
        let sdi = move o.sdi a.sdi in
        let ibi = move o.ibi a.ibi in
        by_queue (λ k. words_in (on_area (of k o) (of k (areas q))) (on_stores o (areas q) st) ≡ on_words (of k o) (words_in (of k (areas q)) st))
        (one_queue [] o.cmd a.cmd (cmdr ∷ sdo ∷ sdi ∷ ibi ∷ []) st f.cmd (h Cmd) (omega arith) tt ((f.cmdr, inr (omega arith)), ((f.sdo, inr (omega arith)), ((f.sdi, inr (omega arith)), ((f.ibi, inr (omega arith)), tt)))))
        (one_queue (cmd ∷ []) o.cmdr a.cmdr (sdo ∷ sdi ∷ ibi ∷ []) st f.cmdr (h Cmdr) (omega arith) ((f.cmd, inl (omega arith)), tt) ((f.sdo, inr (omega arith)), ((f.sdi, inr (omega arith)), ((f.ibi, inr (omega arith)), tt))))
        (one_queue (cmd ∷ cmdr ∷ []) o.sdo a.sdo (sdi ∷ ibi ∷ []) st f.sdo (h Sdo) (omega arith) ((f.cmd, inl (omega arith)), ((f.cmdr, inl (omega arith)), tt)) ((f.sdi, inr (omega arith)), ((f.ibi, inr (omega arith)), tt)))
        (one_queue (cmd ∷ cmdr ∷ sdo ∷ []) o.sdi a.sdi (ibi ∷ []) st f.sdi (h Sdi) (omega arith) ((f.cmd, inl (omega arith)), ((f.cmdr, inl (omega arith)), ((f.sdo, inl (omega arith)), tt))) ((f.ibi, inr (omega arith)), tt))
        (one_queue (cmd ∷ cmdr ∷ sdo ∷ sdi ∷ []) o.ibi a.ibi [] st f.ibi (h Ibi) (omega arith) ((f.cmd, inl (omega arith)), ((f.cmdr, inl (omega arith)), ((f.sdo, inl (omega arith)), ((f.sdi, inl (omega arith)), tt)))) tt)

    -- words and place of each queue after a call
    pub settled_words : (k : Queue) → words_in (of k (areas (on_rings o q))) (on_stores o (areas q) st) ≡ on_words (of k o) (words_in (of k (areas q)) st)
    settled_words k = ap (λ (a : Area). words_in a (on_stores o (areas q) st)) (base_same k) ∙ words_same k

    pub ready_after : Ready (on_rings o q) (on_stores o (areas q) st)
    ready_after =
        record {
          cmd = valid_op o.cmd q.cmd f.cmd (h Cmd);
          cmdr = valid_op o.cmdr q.cmdr f.cmdr (h Cmdr);
          sdo = valid_op o.sdo q.sdo f.sdo (h Sdo);
          sdi = valid_op o.sdi q.sdi f.sdi (h Sdi);
          ibi = valid_op o.ibi q.ibi f.ibi (h Ibi);
          size = length_all o (areas q) st ∙ f.size ∙ sym total_same;
        }

    queue_same : (k : Queue) → list_queue (of k (areas (on_rings o q))) (on_stores o (areas q) st) ≡ on_list (of k o) (list_queue (of k (areas q)) st)
    queue_same k = ap (λ (a : Area). list_queue a (on_stores o (areas q) st)) (base_same k) ∙ list_op (of k o) (of k (areas q)) st (on_stores o (areas q) st) (words_same k)

-- one settled call: what the rings then hold is what the lists then are
pub settled_same : (l : Controller) (e : Effect) → Ready (queues_in l.bank) l.store → AllFit e.ops (view_rings l).queues → listed (settle_rings l e) ≡ settle_lists (listed l) e
settled_same l e f h =
    let p = queue_same (queues_in l.bank) l.store e.ops f h in
    λ i. record { regs = e.regs; control = e.control; phase = e.phase; tables = e.tables; queues = each (p Cmd i) (p Cmdr i) (p Sdo i) (p Sdi i) (p Ibi i) }
