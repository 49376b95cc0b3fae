-- Five operations one after another are those of the definition.
use Prim.Native.Nat.{ℕ, ◌+◌, ◌≤◌}
use mathlib.Core.Path.{◌≡◌, ap, ◌∙◌}
use mathlib.Core.List.{List}
use lib.ListN.{length}
use Rattle.ring.specs.declared.Ring.{Ring}
use Rattle.ring.specs.Ring.{Valid}
use Rattle.bank.specs.Queues.{Queues}
use Rattle.bank.specs.Ready.{Ready}
use Rattle.queues.specs.declared.Queue.{Queue}
use Rattle.queues.specs.declared.Queue.TheVariants.{Cmd, Cmdr, Sdo, Sdi, Ibi}
use Rattle.queues.specs.declared.Five.{Five}
use Rattle.queues.specs.Each.{of}
use Rattle.model.specs.Decision.{QueueOp}
use Rattle.model.specs.Rings.{Area, area, areas, view_queues, on_ring, on_store, on_rings, on_stores}
use Rattle.model.specs.Fits.{Fits, AllFit}
use Rattle.model.proofs.Room.{by_queue}
use Rattle.rings.proofs.Laws.{standing}
use Rattle.ring_moves.specs.declared.Moved.{Moved}
use Rattle.ring_moves.specs.Moved.{moved_to}

-- ── One queue after another ───────────────────────────────────────────────────────────────────────────────────
-- what an operation asks of a ring, its base and the length of the store
abbrev Asked : QueueOp → Ring → ℕ → ℕ → Type 0
Asked o r base n = Valid r × Fits o r.cap.0 r.level.0 × (base + r.cap.0 ≤ n)

module _ (o : Five QueueOp) (q : Queues) (s : List ℕ) (f : Ready q s) (h : AllFit o (view_queues q s)) where
  each_asked : (k : Queue) → Asked (of k o) (of k (areas q)).ring (of k (areas q)).base (length s)
  each_asked =
      let z = standing q s f in
      by_queue (λ k. Asked (of k o) (of k (areas q)).ring (of k (areas q)).base (length s)) ((z Cmd).0, h Cmd, (z Cmd).1) ((z Cmdr).0, h Cmdr, (z Cmdr).1) ((z Sdo).0, h Sdo, (z Sdo).1) ((z Sdi).0, h Sdi, (z Sdi).1) ((z Ibi).0, h Ibi, (z Ibi).1)

  -- ring, base and length as code has them
  pub asked : (k : Queue) (r : Ring) (base n : ℕ) → r ≡ (of k (areas q)).ring → base ≡ (of k (areas q)).base → n ≡ length s → Asked (of k o) r base n
  asked k r base n e b z = rw (e, b, z) (each_asked k)

-- an operation on an area: the ring after it, and the store from s to s'
pub record Moves (o : QueueOp) (a : Area) (p : Ring) (s s' : List ℕ) : Type 0 where
  pub ring : p ≡ on_ring o a.ring
  pub store : s' ≡ on_store o a s

pub moves : (o : QueueOp) (a : Area) (r p : Ring) (base : ℕ) (s s' : List ℕ) → r ≡ a.ring → base ≡ a.base → (p ≡ on_ring o r) × (s' ≡ on_store o (area r base) s) × (length s' ≡ length s) → Moves o a p s s'
moves o a r p base s s' e b h = record { ring = h.0 ∙ ap (on_ring o) e; store = h.1 ∙ λ i. on_store o (area (e i) (b i)) s }

pub all_moved : (o : Five QueueOp) (q g : Queues) (s s1 s2 s3 s4 s5 : List ℕ) (m : Moved) → m ≡ moved_to g
    → Moves o.cmd (areas q).cmd g.cmd s s1 → Moves o.cmdr (areas q).cmdr g.cmdr s1 s2 → Moves o.sdo (areas q).sdo g.sdo s2 s3 → Moves o.sdi (areas q).sdi g.sdi s3 s4 → Moves o.ibi (areas q).ibi g.ibi s4 s5
    → (m ≡ moved_to (on_rings o q)) × (s5 ≡ on_stores o (areas q) s)
all_moved o q g s s1 s2 s3 s4 s5 m e cmd cmdr sdo sdi ibi =
    (e ∙ (λ i. moved_to (record { cmd = cmd.ring i; cmdr = cmdr.ring i; sdo = sdo.ring i; sdi = sdi.ring i; ibi = ibi.ring i })), rw (ibi.store, sdi.store, sdo.store, cmdr.store, cmd.store))
