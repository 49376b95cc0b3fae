-- From a test of the phase to the phase.
use mathlib.Core.Path.{◌≡◌, refl}
use mathlib.Core.Bool.{true, false, false≢true}
use Rattle.bank.specs.declared.Phase.{Phase}
use Rattle.bank.specs.declared.Phase.TheVariants.{Idle, Writing, Reading, Unrequested, Requested, Answered}
use Rattle.bank.specs.Phases.{writing, reading, assigning, requested, transfer}

pub writing_is : (p : Phase) → writing p ≡ true → p ≡ Writing (transfer p)
writing_is Idle e = absurd (false≢true e)
writing_is (Writing t) e = refl
writing_is (Reading t) e = absurd (false≢true e)
writing_is (Unrequested t) e = absurd (false≢true e)
writing_is (Requested t) e = absurd (false≢true e)
writing_is (Answered t) e = absurd (false≢true e)

pub reading_is : (p : Phase) → reading p ≡ true → p ≡ Reading (transfer p)
reading_is Idle e = absurd (false≢true e)
reading_is (Writing t) e = absurd (false≢true e)
reading_is (Reading t) e = refl
reading_is (Unrequested t) e = absurd (false≢true e)
reading_is (Requested t) e = absurd (false≢true e)
reading_is (Answered t) e = absurd (false≢true e)

pub requested_assigns : (p : Phase) → requested p ≡ true → assigning p ≡ true
requested_assigns Idle e = absurd (false≢true e)
requested_assigns (Writing t) e = absurd (false≢true e)
requested_assigns (Reading t) e = absurd (false≢true e)
requested_assigns (Unrequested t) e = refl
requested_assigns (Requested t) e = refl
requested_assigns (Answered t) e = refl

-- an assignment is neither a write nor a read
pub neither : (p : Phase) → assigning p ≡ true → (writing p ≡ false) × (reading p ≡ false)
neither Idle e = absurd (false≢true e)
neither (Writing t) e = absurd (false≢true e)
neither (Reading t) e = absurd (false≢true e)
neither (Unrequested t) e = (refl, refl)
neither (Requested t) e = (refl, refl)
neither (Answered t) e = (refl, refl)
