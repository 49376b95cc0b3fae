-- What the first commands of a table say, by recursion from the end, is what the list of them says.
use Rattle.std.proofs.Common.{◌≡◌, ◌∙◌, sym, refl, ap, ℕ, zero, suc, ◌≤◌, ◌<◌, List, length, get_or, take, add-one, arith}
use Rattle.std.specs.List.{list_all}
use Rattle.std.proofs.lemmas.List.Folds.{list_all_more}
use Rattle.std.proofs.lemmas.List.Recursion.{and_is}
use mathlib.Core.Bool.{Bool, true, false, ◌&&◌}
use Rattle.bank.specs.Bursts.{carried, all_carried}

pub carried_first : (n : ℕ) (ws : List ℕ) → n ≤ length ws → all_carried n ws ≡ list_all carried (take n ws)
unfolding all_carried
carried_first zero ws h = refl
carried_first (suc n) ws h =
    ap (λ (b : Bool). b && carried (get_or ws n 0)) (carried_first n ws (omega (arith, h)))
    ∙ sym (list_all_more carried ws n 0 (omega (arith, h)))
    ∙ ap (λ (k : ℕ). list_all carried (take k ws)) (add-one n)

-- r is what `all` answers of them
pub all_first : (n : ℕ) (ws : List ℕ) (r : Bool) → n ≤ length ws → (r ≡ true → (i : ℕ) → i < length (take n ws) → carried (get_or (take n ws) i 0) ≡ true) → (r ≡ false → (i : ℕ) × (i < length (take n ws)) × (carried (get_or (take n ws) i 0) ≡ false)) → r ≡ all_carried n ws
all_first n ws r h t f = and_is (list_all carried) carried refl (λ _ _. refl) (take n ws) 0 r t f ∙ sym (carried_first n ws h)
