-- The first two words of each queue of the ring engine, as decisions ask for them.
use Rattle.std.specs.Prelude.{ℕ, List, get_or}
use Rattle.bank.specs.Fives.{Counts}
use Rattle.bank.specs.Queues.{Queues}
use Rattle.queues.specs.declared.Queue.{Queue}
use Rattle.queues.specs.Each.{each, of}
use Rattle.model.specs.Rings.{Area, areas, words_in, cmdr_at, sdo_at, sdi_at, ibi_at}
use Rattle.effect.specs.Seen.{Front, Fronts}

abbrev pub front : Area → List ℕ → Front
front a s = record { first = get_or (words_in a s) 0 0; second = get_or (words_in a s) 1 0 }

abbrev pub fronts : Queues → List ℕ → Fronts
fronts q s = let a = areas q in each (front a.cmd s) (front a.cmdr s) (front a.sdo s) (front a.sdi s) (front a.ibi s)

-- where the area of a queue begins, by the capacities
abbrev pub base_of : Queue → Counts → ℕ
base_of q k = of q (each 0 (cmdr_at k) (sdo_at k) (sdi_at k) (ibi_at k))
