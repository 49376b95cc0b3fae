-- What a call gives, by what its code left: the image was written, the tables lie where they lay.
use Prim.Native.Nat.{ℕ}
use mathlib.Core.Path.{◌≡◌, ap, ◌∙◌}
use mathlib.Core.List.{List}
use Rattle.model.specs.Engine.{Step}
use Rattle.model.specs.Rings.{Controller}
use Rattle.image_model.specs.Image.{image_of, kept}
use Rattle.host_model.specs.Host.{hosted, packed_of}
use Rattle.host_parts.specs.Lent.{loan, gave, packed_step}
use Rattle.host_parts.proofs.Kept.{kept_bank}

module _ (r : ℕ) (ws : List ℕ) (s t : Step Controller) where
  pub made : r ≡ packed_of s.answer → ws ≡ image_of s.next.bank.state s.next.bank.heads → s ≡ t
      → gave r (loan (kept ws s.next.bank.flags s.next.bank.commands s.next.bank.payloads) s.next.store s.next.output) ≡ packed_step (hosted t)
  made e f g = (λ i. gave (e i) (loan (kept_bank ws s.next.bank f i) s.next.store s.next.output)) ∙ ap (λ (x : Step Controller). packed_step (hosted x)) g
