-- Five operations one after another are those of the definition.
use Prim.Native.Nat.{ℕ, ◌+◌, ◌≤◌}
use mathlib.Core.Path.{◌≡◌, ap, ◌∙◌}
use mathlib.Core.List.{List}
use lib.ListN.{length}
use Rattle.ring.specs.Units.{words}
use Rattle.bank.specs.Fives.{Counts}
use Rattle.queues.specs.declared.Queue.{Queue}
use Rattle.queues.specs.declared.Five.{Five}
use Rattle.queues.specs.Each.{of}
use Rattle.model.specs.Decision.{QueueOp}
use Rattle.plain_model.specs.declared.PlainArea.{PlainArea}
use Rattle.plain_model.specs.Areas.{plain_areas}
use Rattle.plain_model.specs.Moves.{on_level, on_plain_store, on_levels, on_plain_stores}
use Rattle.plain_model.specs.FitsArea.{FitsArea, AllFitAreas}
use Rattle.plain_words.proofs.Laws.{inside}

-- what an operation asks of an area and the length of the store, as code has them
pub asked : (o : Five QueueOp) (k l : Counts) (s : List ℕ) → AllFitAreas o k l s → (q : Queue) (a : PlainArea) (n : ℕ) → a ≡ of q (plain_areas k l) → n ≡ length s → FitsArea (of q o) a × (a.base + a.cap ≤ n)
asked o k l s w q a n e z = rw (e, z) (w.each q, inside o k l s w q)

-- one operation as code makes it: the level after it, and the store from s to s'
abbrev Moved : QueueOp → PlainArea → ℕ → List ℕ → List ℕ → Type 0
Moved o a n s s' = (n ≡ on_level o a.level) × (s' ≡ on_plain_store o a s) × (length s' ≡ length s)

abbrev levels_at : Five QueueOp → Five PlainArea → Counts
levels_at o a =
    record {
      cmd = words (on_level o.cmd a.cmd.level);
      cmdr = words (on_level o.cmdr a.cmdr.level);
      sdo = words (on_level o.sdo a.sdo.level);
      sdi = words (on_level o.sdi a.sdi.level);
      ibi = words (on_level o.ibi a.ibi.level);
    }

pub all_moved : (o : Five QueueOp) (k l : Counts) (a : Five PlainArea) (n : Counts) (s s1 s2 s3 s4 s5 : List ℕ) → a ≡ plain_areas k l
    → Moved o.cmd a.cmd n.cmd.0 s s1 → Moved o.cmdr a.cmdr n.cmdr.0 s1 s2 → Moved o.sdo a.sdo n.sdo.0 s2 s3 → Moved o.sdi a.sdi n.sdi.0 s3 s4 → Moved o.ibi a.ibi n.ibi.0 s4 s5
    → (n ≡ on_levels o l) × (s5 ≡ on_plain_stores o (plain_areas k l) s)
all_moved o k l a n s s1 s2 s3 s4 s5 e cmd cmdr sdo sdi ibi = (
  (λ i. record { cmd = words (cmd.0 i); cmdr = words (cmdr.0 i); sdo = words (sdo.0 i); sdi = words (sdi.0 i); ibi = words (ibi.0 i) }) ∙ ap (levels_at o) e,
  rw (ibi.1, sdi.1, sdo.1, cmdr.1, cmd.1) (ap (λ (x : Five PlainArea). on_plain_stores o x s) e),
)
