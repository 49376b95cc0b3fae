-- A read of an empty queue, which shows its last word again.
use mathlib.Core.Path.{◌≡◌}
use borrow.Author.Tests.{eq-eqb}
use Rattle.model.specs.View.{View}
use Rattle.queues.specs.declared.Queue.{Queue}
use Rattle.queues.specs.Each.{of}
use Rattle.model.specs.Registers.{takes, shown_again, read}
use Rattle.effect.specs.Effects.{verdict}

module _ (q : Queue) (s : View) where
  -- a queue with no word
  pub empty_row : (of q s.queues).level ≡ 0 → shown_again q s ≡ verdict (read (takes q)) s
  unfolding verdict
  empty_row e = rw (eq-eqb _ _ e)
