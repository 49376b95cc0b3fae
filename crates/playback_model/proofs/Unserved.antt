-- `burst.replay`: an empty output is too short for an open burst that has reads.
use Prim.Native.Nat.{ℕ, ◌<◌}
use mathlib.Core.Path.{◌≡◌}
use mathlib.Core.Bool.{true, false≢true}
use mathlib.Core.List.{List, []}
use mathlib.Core.Option.{some}
use borrow.Author.Tests.{lt-ltb, le-ltb, leb-true, eq-eqb}
use Rattle.bank.specs.declared.Bank.{Bank}
use Rattle.bank.specs.Bursts.{bursting, reads_in, span}
use Rattle.model.specs.declared.Call.{Call}
use Rattle.model.specs.declared.Call.TheVariants.{Read, Write, Start, Send, Receive, Finish, Interrupt, Request, Take, Trigger}
use Rattle.model.specs.View.{View}
use Rattle.model.specs.Decision.{first}
use Rattle.model.specs.Bursts.{short_in_burst, decide}
use Rattle.model.specs.Engine.{step}
use Rattle.model.specs.Rings.{guard_rings, view_rings}
use Rattle.answer.specs.Given.{controller}
use Rattle.playback_model.specs.Laws.{in_range, BurstUnserved}

-- 13 is the first test of each event, or comes after 18
first_13 : (s : View) (k : Call) → short_in_burst s ≡ true → in_range k ≡ true → first (decide s k) ≡ some 13
first_13 s (Read o) e h = absurd (false≢true h)
first_13 s (Write o v) e h = absurd (false≢true h)
first_13 s Start e h = rw e
first_13 s Send e h = rw e
first_13 s (Receive b) e h = rw e
first_13 s (Finish code) e h = rw (le-ltb 15 code (leb-true code 15 h), e)
first_13 s (Interrupt a b) e h = rw (le-ltb 127 a (leb-true a 127 h), e)
first_13 s (Request v w) e h = rw e
first_13 s Take e h = rw e
first_13 s Trigger e h = rw e

is_short : (b : Bank) (store : List ℕ) → bursting b.state.control ≡ true → 0 < reads_in (span b.state.regs) b.commands → short_in_burst (view_rings (controller b store [])) ≡ true
unfolding short_in_burst
is_short b store e h = rw (e, lt-ltb 0 (reads_in (span b.state.regs) b.commands) h)

pub burst_unserved : BurstUnserved
unfolding BurstUnserved step guard_rings
burst_unserved b store k f z e h r = rw (f, eq-eqb _ _ z, first_13 (view_rings (controller b store [])) k (is_short b store e h) r)
