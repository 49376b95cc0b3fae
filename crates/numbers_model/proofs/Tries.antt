-- Each number of the table is given: by computation.
use mathlib.Core.Path.{refl}
use Rattle.model.specs.declared.Call.{Call}
use Rattle.model.specs.declared.Call.TheVariants.{Read, Write, Start, Send, Receive, Finish, Interrupt, Request, Take, Trigger}
use Rattle.model.proofs.Steps.{steps}
use Rattle.numbers_model.specs.Tries.{Reached}

pub reached : (c : Call) → Reached c
unfolding steps
reached (Read o) = record { given = refl; own = refl }
reached (Write o v) = record { given = refl; own = refl }
reached Start = record { given = refl; own = refl }
reached Send = record { given = refl; own = refl }
reached (Receive b) = record { given = refl; own = refl }
reached (Finish code) = record { given = refl; own = refl }
reached (Interrupt a b) = record { given = refl; own = refl }
reached (Request v w) = record { given = refl; own = refl }
reached Take = record { given = refl; own = refl }
reached Trigger = record { given = refl; own = refl }
