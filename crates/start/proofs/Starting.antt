-- What a start does where its tests pass, with the word that it saw in place of its command's first.
use Prim.Native.Nat.{ℕ}
use mathlib.Core.Path.{◌≡◌, refl, ap, sym, ◌∙◌}
use mathlib.Core.Bool.{cond, ◌||◌}
use lib.ListN.{get_or}
use Rattle.bank.specs.Phases.{broadcast}
use Rattle.bank.specs.Bits.{bit, bits}
use Rattle.model.specs.View.{View}
use Rattle.queues.specs.Each.{each}
use Rattle.model.specs.Decision.{keep, take, Effect, unchanged, ◌with_value◌, ◌with_phase◌, ◌with_queues◌}
use Rattle.model.specs.Commands.{two_words, kind_of, begun}
use Rattle.model.specs.Calls.{start}
use Rattle.effect.specs.Effects.{number, verdict}
use Rattle.effect.proofs.Laws.{served_as}
use Rattle.start.specs.Word.{command_of}
use Rattle.start.proofs.Words.{first_word_lem}

module _ (v : View) where
  -- what a start of the first command does, its first word told by y
  abbrev by : ℕ → Effect
  by y =
      let w = v.queues.cmd.first in
      let c = command_of (two_words w) w v.queues.cmd.second in
      unchanged v with_value y with_phase begun c (broadcast (kind_of c) || bit 0 (get_or v.tables.flags (bits 7 1 y) 0)) with_queues each (take (cond (two_words w) 2 1)) keep keep keep keep

  pub started : number (start v) ≡ 0 → by v.queues.cmd.first ≡ verdict start v
  unfolding start
  started e = let w = v.queues.cmd.first in ap by (sym (first_word_lem (two_words w) w v.queues.cmd.second)) ∙ served_as start v refl e
