-- An event where a burst is open, and where none is.
use Prim.Native.Nat.{ℕ}
use mathlib.Core.Path.{◌≡◌, ap, sym, ◌∙◌}
use mathlib.Core.Bool.{Bool, true, false, cond}
use mathlib.Core.List.{List, []}
use lib.Dec.{ltb}
use lib.ListN.{length, replicate}
use Rattle.bank.specs.declared.State.{State}
use Rattle.bank.specs.Bursts.{span, reads_in, bursting}
use Rattle.model.specs.View.{Tables, tables, View}
use Rattle.model.specs.Decision.{Effect, Decision, ◌⇒◌∣◌, first, effect}
use Rattle.model.specs.Bursts.{short_in_burst, burst_or}
use Rattle.effect.specs.Effects.{verdict_by, verdict}
use Rattle.effect.specs.Seen.{Fronts, seen}
use Rattle.effect.proofs.Laws.{past}

-- outside a burst no output is too short
pub never_short : (s : View) → bursting s.control ≡ false → short_in_burst s ≡ false
unfolding short_in_burst
never_short s e = rw e

pub short_is : (st : State) (a ws p o : List ℕ) (f : Fronts) (len : ℕ) → bursting st.control ≡ true → length o ≡ len → ltb len (reads_in (span st.regs) ws) ≡ short_in_burst (seen st (tables a ws p o) f)
unfolding short_in_burst
short_is st a ws p o f len e h = rw (e, h)

-- tables with the offload commands, and an output of so many words
abbrev pub lent : List ℕ → ℕ → Tables
lent ws len = tables [] ws [] (replicate len 0)

module _ (s : View) (i o : View → Decision) (y : Effect) where
  -- by whether a burst is open
  abbrev chosen : Bool → Effect
  chosen b = let d = cond b (i s) (o s) in verdict_by (first d) s (effect d)

  pub inside : bursting s.control ≡ true → y ≡ verdict (λ v. short_in_burst v ⇒ 13 ∣ i v) s → y ≡ verdict (λ v. burst_or v (i v) (o v)) s
  unfolding verdict
  inside e h = h ∙ sym (ap (λ (b : Bool). let d = short_in_burst s ⇒ 13 ∣ cond b (i s) (o s) in verdict_by (first d) s (effect d)) e)

  pub outside : bursting s.control ≡ false → y ≡ verdict o s → y ≡ verdict (λ v. burst_or v (i v) (o v)) s
  unfolding verdict
  outside e h = past s short_in_burst 13 (λ v. cond (bursting v.control) (i v) (o v)) y (never_short s e) (h ∙ sym (ap chosen e))
