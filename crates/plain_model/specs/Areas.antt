-- Where words lie (`plain.areas`): the areas of the five queues, one behind another, and in each area the words of its queue from the first
-- place on.
use Rattle.std.specs.Prelude.{ℕ, ◌+◌, List}
use Rattle.ring.specs.declared.Words.{Words}
use Rattle.ring.specs.Ring.{read_all}
use Rattle.bank.specs.Fives.{Counts}
use Rattle.queues.specs.declared.Five.{Five}
use Rattle.queues.specs.Each.{each}
use Rattle.model.specs.Rings.{cmdr_at, sdo_at, sdi_at, ibi_at}
use Rattle.plain_model.specs.declared.PlainArea.{PlainArea}

-- a queue in its area
abbrev pub plain_area : ℕ → Words → Words → PlainArea
plain_area base cap level = record { base = base; cap = cap.0; level = level.0 }

-- by capacities and levels (`store.order`)
abbrev pub plain_areas : Counts → Counts → Five PlainArea
plain_areas k l =
    each (plain_area 0 k.cmd l.cmd)
    (plain_area (cmdr_at k) k.cmdr l.cmdr)
    (plain_area (sdo_at k) k.sdo l.sdo)
    (plain_area (sdi_at k) k.sdi l.sdi)
    (plain_area (ibi_at k) k.ibi l.ibi)

-- the words of a queue: those at base, base + 1, .., as many as its level tells
unfoldable pub plain_words : PlainArea → List ℕ → List ℕ
plain_words a st = read_all st (λ i. a.base + i) a.level
