-- First words of the plain engine, as code and decisions have them.
use Rattle.std.specs.Prelude.{ℕ, List, get_or}
use Rattle.bank.specs.Fives.{Counts}
use Rattle.queues.specs.Each.{each}
use Rattle.effect.specs.Seen.{Front, Fronts}
use Rattle.plain_model.specs.declared.PlainArea.{PlainArea}
use Rattle.plain_model.specs.Areas.{plain_areas, plain_words}
use Rattle.plain_words.specs.declared.FirstWords.{FirstWords}

abbrev pub plain_front : PlainArea → List ℕ → Front
plain_front a st = record { first = get_or (plain_words a st) 0 0; second = get_or (plain_words a st) 1 0 }

abbrev pub plain_fronts : Counts → Counts → List ℕ → Fronts
plain_fronts k l st =
    let a = plain_areas k l in
    each (plain_front a.cmd st) (plain_front a.cmdr st) (plain_front a.sdo st) (plain_front a.sdi st) (plain_front a.ibi st)

-- of these, the words that calls look at
abbrev pub firsts_of : Fronts → FirstWords
firsts_of f = record { cmd = f.cmd.first; second = f.cmd.second; cmdr = f.cmdr.first; sdo = f.sdo.first; sdi = f.sdi.first; ibi = f.ibi.first }
