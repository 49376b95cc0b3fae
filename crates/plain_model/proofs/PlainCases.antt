-- The worked cases of the plain engine hold, by computation.
use mathlib.Core.Path.{refl}
use Rattle.model.specs.Engine.{step, lending, final}
use Rattle.model.specs.Rings.{guard_rings}
use Rattle.model.proofs.Steps.{banks, words, calls}
use Rattle.plain_model.specs.Areas.{plain_words}
use Rattle.plain_model.specs.Moves.{shift, on_plain_store}
use Rattle.plain_model.specs.PlainCases.{MovesWork, store_after, ccc_and_more, eight_bytes, eight_removed, read_between, reset_between, PlainWorks}

pub moves_work : MovesWork
unfolding shift on_plain_store
moves_work = record { two = refl; one = refl; all = refl; cleared = refl; pushed = refl; both = refl }

pub plain_works : PlainWorks
unfolding banks words calls step lending final guard_rings plain_words shift on_plain_store store_after ccc_and_more eight_bytes eight_removed read_between reset_between
plain_works = record { started = refl; sent = refl; removed = refl; received = refl; again = refl }
