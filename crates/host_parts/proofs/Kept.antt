-- What is kept, by its parts: what is kept of a bank, the bank that is said, and what a refusal gives.
use Prim.Native.Nat.{ℕ}
use mathlib.Core.Path.{◌≡◌, ap, ◌∙◌}
use mathlib.Core.List.{List}
use Rattle.bank.specs.declared.Bank.{Bank}
use Rattle.bank.specs.declared.State.{State}
use Rattle.bank.specs.Fives.{Heads}
use Rattle.image_model.specs.Image.{image_of, state_in, heads_in, Kept, kept, kept_of, bank_in}
use Rattle.host_model.specs.Host.{Hosted, packed_of, refusal}
use Rattle.host_parts.specs.Lent.{loan, gave, packed_step}

pub kept_bank : (ws : List ℕ) (b : Bank) → ws ≡ image_of b.state b.heads → kept ws b.flags b.commands b.payloads ≡ kept_of b
unfolding kept_of
kept_bank ws b e = ap (λ (x : List ℕ). kept x b.flags b.commands b.payloads) e

pub said_by_parts : (k : Kept) (s : State) (h : Heads) → s ≡ state_in k.image → h ≡ heads_in k.image → record { state = s; heads = h; flags = k.flags; commands = k.commands; payloads = k.payloads } ≡ bank_in k
unfolding bank_in
said_by_parts k s h e f = λ i. record { state = e i; heads = f i; flags = k.flags; commands = k.commands; payloads = k.payloads }

pub refuses : (r n m : ℕ) (k : Kept) (st o : List ℕ) (h : Hosted) → r ≡ packed_of (record { value = 0; number = n }) → n ≡ m → refusal m k st o ≡ h → gave r (loan k st o) ≡ packed_step h
refuses r n m k st o h e g f = ap (λ (x : ℕ). gave x (loan k st o)) e ∙ ap packed_step (ap (λ (x : ℕ). refusal x k st o) g ∙ f)
