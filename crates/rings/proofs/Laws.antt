-- Each ring stands in its area of the store.
use Prim.Native.Nat.{ℕ, ◌+◌, ◌≤◌}
use native.Mathlib.Omega.{arith}
use mathlib.Core.Path.{◌≡◌, refl}
use mathlib.Core.List.{List}
use lib.ListN.{length}
use Rattle.ring.specs.declared.Ring.{Ring}
use Rattle.ring.specs.Ring.{Valid, entries}
use Rattle.bank.specs.Fives.{Counts, Heads}
use Rattle.bank.specs.Queues.{Queues, ring, queues_of}
use Rattle.bank.specs.Ready.{Ready}
use Rattle.queues.specs.declared.Queue.{Queue}
use Rattle.queues.specs.declared.Queue.TheVariants.{Cmd, Cmdr, Sdo, Sdi, Ibi}
use Rattle.queues.specs.Each.{of}
use Rattle.model.specs.Rings.{areas, words_in}
use Rattle.rings.specs.Fronts.{base_of}
use Rattle.model.proofs.Room.{by_queue}

-- ── A ring in its area ────────────────────────────────────────────────────────────────────────────────────────
-- a valid ring whose area lies within the store
abbrev pub Stands : Ring → ℕ → List ℕ → Type 0
Stands r base s = Valid r × (base + r.cap.0 ≤ length s)

module _ (q : Queues) (s : List ℕ) (f : Ready q s) where
  pub standing : (k : Queue) → Stands (of k (areas q)).ring (of k (areas q)).base s
  standing =
      let n = f.size in
      by_queue (λ k. Stands (of k (areas q)).ring (of k (areas q)).base s) (f.cmd, omega arith) (f.cmdr, omega arith) (f.sdo, omega arith) (f.sdi, omega arith) (f.ibi, omega arith)

-- ── By the queue's name ───────────────────────────────────────────────────────────────────────────────────────
module _ (k l : Counts) (h : Heads) where
  pub ring_named : (q : Queue) → ring (of q k) (of q h) (of q l) ≡ of q (queues_of k l h)
  ring_named Cmd = refl
  ring_named Cmdr = refl
  ring_named Sdo = refl
  ring_named Sdi = refl
  ring_named Ibi = refl

  pub words_named : (q : Queue) (s : List ℕ) → entries (of q (queues_of k l h)) (base_of q k) s ≡ words_in (of q (areas (queues_of k l h))) s
  words_named Cmd s = refl
  words_named Cmdr s = refl
  words_named Sdo s = refl
  words_named Sdi s = refl
  words_named Ibi s = refl

  pub stands_named : (s : List ℕ) → Ready (queues_of k l h) s → (q : Queue) → Stands (of q (queues_of k l h)) (base_of q k) s
  stands_named s f =
      let z = standing (queues_of k l h) s f in
      by_queue (λ q. Stands (of q (queues_of k l h)) (base_of q k) s) (z Cmd) (z Cmdr) (z Sdo) (z Sdi) (z Ibi)
