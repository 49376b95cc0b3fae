-- A write to a watermark that is refused: its number is above the capacity.
use Prim.Native.Nat.{ℕ, ◌%◌, ◌^◌, ◌<◌}
use native.Mathlib.Omega.{arith}
use mathlib.Core.Path.{◌≡◌, refl, sym, ◌∙◌, ap}
use mathlib.Core.Bool.{cond}
use lib.Dec.{ltb}
use borrow.Author.Tests.{lt-ltb}
use Rattle.bank.specs.declared.State.{State}
use Rattle.model.specs.View.{Tables, View}
use Rattle.queues.specs.declared.Queue.{Queue}
use Rattle.queues.specs.declared.Queue.TheVariants.{Cmd, Cmdr, Sdo, Sdi, Ibi}
use Rattle.queues.specs.Each.{of}
use Rattle.model.specs.Decision.{Decision, unchanged, ◌with_number◌}
use Rattle.model.specs.Registers.{holds, watermark, count_of, write}
use Rattle.effect.specs.Effects.{number, verdict}
use Rattle.effect.specs.Seen.{Fronts, seen}
use Rattle.effect.proofs.Laws.{refused_as, cap_seen}

module _ (q : Queue) (x : ℕ) (st : State) (t : Tables) (f : Fronts) where
  abbrev low : ℕ
  low = x % 2 ^ 16

  abbrev view : View
  view = seen st t f

  abbrev decides : View → Decision
  decides v = write (holds (watermark q)) v x

  numbered : number (decides view) ≡ cond (ltb (count_of q st.caps) low) 30 0
  numbered = ap (λ (n : ℕ). cond (ltb n low) 30 0) (cap_seen st t f q)

  pub above : count_of q st.caps < low → (unchanged view with_number 30) ≡ verdict decides view
  above h = refused_as decides view 30 (λ z. omega (arith, z)) (sym (numbered ∙ ap (λ b. cond b 30 0) (lt-ltb _ low h)))
