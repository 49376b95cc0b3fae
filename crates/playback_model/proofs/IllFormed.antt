-- A replay on a bank that is not well formed: each record is answered 21, and nothing changes.
use Prim.Native.Nat.{suc}
use native.Mathlib.Omega.{arith}
use mathlib.Core.Path.{◌≡◌, refl, ap, ap₂, sym, ◌∙◌}
use mathlib.Core.Bool.{Bool, false, cond}
use mathlib.Core.List.{List, [], ◌∷◌, foldl}
use lib.Dec.{eqb}
use lib.ListN.{length}
use borrow.Author.Tests.{ne_eqb}
use Rattle.bank.specs.declared.Answer.{Answer}
use Rattle.bank.specs.Formed.{well_formed}
use Rattle.model.specs.declared.Call.{Call}
use Rattle.model.specs.Engine.{Step, step, answers, final}
use Rattle.model.specs.Rings.{Controller, rings}
use Rattle.model.specs.Laws.{IllFormed}
use Rattle.model.proofs.Simulation.{ill_formed}
use Rattle.playback_model.specs.Replay.{telling}
use Rattle.playback_model.specs.Laws.{lent_on, made}
use Rattle.playback_model.specs.Done.{done_in, number_in, EveryReplay, IllFormedReplay}
use Rattle.playback_model.proofs.Done.{every_replay}

abbrev is_21 : Answer
is_21 = record { value = 0; number = 21 }

module _ (l : Controller) (h : well_formed l.bank ≡ false) where
  -- one call, and those behind it
  always : (k : Call) → step rings l k ≡ record { answer = is_21; next = l }
  unfolding IllFormed
  always k = ill_formed l k h

  abbrev last : List Call → Step Controller → Answer
  last ks s = foldl (λ _ a. a) s.answer (answers rings s.next (lent_on ks s.next))

  last_21 : (ks : List Call) → last ks (record { answer = is_21; next = l }) ≡ is_21
  unfolding lent_on answers
  last_21 [] = refl
  last_21 (k ∷ ks) = ap (last ks) (always k) ∙ last_21 ks

  stays : (ks : List Call) → final rings l (lent_on ks l) ≡ l
  unfolding lent_on final
  stays [] = refl
  stays (k ∷ ks) = ap (λ (s : Step Controller). final rings s.next (lent_on ks s.next)) (always k) ∙ stays ks

  told_21 : (ks : List Call) → (made 0 ks l).told.answer ≡ record { value = 0; number = cond (eqb (length ks) 0) 0 21 }
  unfolding lent_on answers
  told_21 [] = refl
  told_21 (k ∷ ks) =
      ap (last ks) (always k)
      ∙ last_21 ks
      ∙ ap (λ (b : Bool). record { value = 0; number = cond b 0 21 }) (sym (ne_eqb (suc (length ks)) 0 (λ z. omega (arith, z))))

pub ill_formed_replay : IllFormedReplay
unfolding IllFormedReplay EveryReplay
ill_formed_replay file i limit l h =
    let ks = done_in file i limit in
    every_replay file i limit l ∙ ap₂ (telling (number_in file i limit) (length ks)) (told_21 l h ks) (stays l h ks)
