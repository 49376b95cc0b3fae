-- The bank that zeros say is not well formed: a queue has room for one word at least.
use Prim.Native.Nat.{ℕ}
use mathlib.Core.Path.{◌≡◌, ap}
use mathlib.Core.Bool.{false}
use mathlib.Core.List.{List}
use lib.ListN.{replicate}
use Rattle.bank.specs.Fives.{Heads}
use Rattle.bank.specs.declared.State.{State}
use Rattle.bank.specs.Formed.{queues_ok, well_formed}
use Rattle.image_model.specs.Image.{state_in, heads_in}

abbrev pub zeros : List ℕ
zeros = replicate 43 0

pub unformed_zeros : (s : State) (h : Heads) (fs cs ps : List ℕ) → s ≡ state_in zeros → h ≡ heads_in zeros → well_formed (record { state = s; heads = h; flags = fs; commands = cs; payloads = ps }) ≡ false
unfolding well_formed queues_ok
unformed_zeros s h fs cs ps e f = ap (λ (x : State). well_formed (record { state = x; heads = h; flags = fs; commands = cs; payloads = ps })) e
