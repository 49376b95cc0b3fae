-- The words of a plain queue by their places, and that every area lies inside the store.
use Prim.Native.Nat.{ℕ, ◌+◌, ◌<◌, ◌≤◌}
use native.Mathlib.Omega.{arith}
use mathlib.Core.Path.{◌≡◌}
use mathlib.Core.List.{List}
use lib.ListN.{length, get_or, get_or-eq_default}
use Rattle.ring.proofs.Laws.{read_length, read_at}
use Rattle.bank.specs.Fives.{Counts}
use Rattle.queues.specs.declared.Queue.{Queue}
use Rattle.queues.specs.declared.Five.{Five}
use Rattle.queues.specs.Each.{of}
use Rattle.model.specs.Decision.{QueueOp, keep_all}
use Rattle.model.proofs.Room.{by_queue}
use Rattle.plain_model.specs.declared.PlainArea.{PlainArea}
use Rattle.plain_model.specs.Areas.{plain_areas, plain_words}
use Rattle.plain_model.specs.FitsArea.{AllFitAreas}

pub word_there : (a : PlainArea) (st : List ℕ) (i : ℕ) → i < a.level → get_or (plain_words a st) i 0 ≡ get_or st (a.base + i) 0
unfolding plain_words
word_there a st i h = read_at st (λ k. a.base + k) a.level i h

pub no_word_there : (a : PlainArea) (st : List ℕ) (i : ℕ) → a.level ≤ i → get_or (plain_words a st) i 0 ≡ 0
unfolding plain_words
no_word_there a st i h = get_or-eq_default (plain_words a st) 0 (let n = read_length st (λ k. a.base + k) a.level in omega (arith, n))

-- the area of every queue lies inside a store of the right length
pub inside : (o : Five QueueOp) (k l : Counts) (s : List ℕ) → AllFitAreas o k l s → (q : Queue) → (let a = of q (plain_areas k l) in a.base + a.cap ≤ length s)
inside o k l s w =
    let z = w.size in
    by_queue (λ q. let a = of q (plain_areas k l) in a.base + a.cap ≤ length s) (omega arith) (omega arith) (omega arith) (omega arith) (omega arith)

-- and so do its words, in the area as code has put it together
pub reach : (k l : Counts) (s : List ℕ) → AllFitAreas keep_all k l s → (q : Queue) (a : PlainArea) → a ≡ of q (plain_areas k l) → a.base + a.level ≤ length s
reach k l s w q a e = let h = inside keep_all k l s w q in let m = (w.each q).most in rw e (omega arith)
