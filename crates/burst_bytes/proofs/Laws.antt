-- What the tests of a burst's events tell, and what each event does where they pass.
use Prim.Native.Nat.{ℕ, ◌+◌, ◌-◌, ◌*◌, ◌/◌, ◌%◌, ◌^◌, ◌<◌}
use native.Mathlib.Nat.{mod-eq_of_lt}
use native.Mathlib.Omega.{arith}
use mathlib.Core.Path.{◌≡◌, refl, ap, ◌∙◌}
use mathlib.Core.Bool.{true, false}
use mathlib.Core.List.{List}
use lib.Dec.{eqb, leb, ltb}
use borrow.Author.Tests.{leb-false, eqb-true, not-false}
use Rattle.bank.specs.declared.State.{State}
use Rattle.bank.specs.declared.Phase.TheVariants.{Writing, Reading}
use Rattle.bank.specs.Phases.{reading, transfer, limit}
use Rattle.bank.specs.Bursts.{bursting, gathered_bytes}
use Rattle.bank.specs.Formed.{open_ok}
use Rattle.bank.proofs.Bools.{three}
use Rattle.model.specs.View.{View}
use Rattle.model.specs.Decision.{Effect, unchanged, ◌with_value◌, ◌with_phase◌}
use Rattle.model.specs.Calls.{advanced}
use Rattle.model.specs.Bursts.{output_first, data_word, burst_send, burst_receive}
use Rattle.model.proofs.Open.{BurstOk, burst_of, burst_parts, at_most_four}
use Rattle.effect.specs.Effects.{number, verdict}
use Rattle.effect.proofs.Laws.{cleared, served_as}

-- ── Bytes of a burst ─────────────────────────────────────────────────────────────────────────────────────────
module _ (st : State) (ws : List ℕ) (e : bursting st.control ≡ true) (h : open_ok st.control st.regs st.phase ws ≡ true) where
  parts : BurstOk st.control st.regs st.phase ws
  parts = burst_parts st.control st.regs st.phase ws (burst_of st.control st.regs st.phase ws e h)

  module _ (l : leb (transfer st.phase).length.0 (transfer st.phase).moved.0 ≡ false) where
    pub below_four : (transfer st.phase).moved.0 < 4
    below_four =
        let t = transfer st.phase in
        let f = at_most_four st.control st.regs st.phase ws e parts in
        let d = leb-false t.length.0 t.moved.0 l in
        omega arith

    -- the bytes gathered stand at the top of the part word
    pub gathered_part : reading st.phase ≡ true → (transfer st.phase).part % 2 ^ (32 - 8 * ((transfer st.phase).moved.0 % 4)) ≡ 0
    gathered_part r =
        let t = transfer st.phase in
        let z = three (ltb t.length.0 4096) (leb t.moved.0 (limit st.phase)) (eqb (t.part % 2 ^ (32 - 8 * gathered_bytes st.phase)) 0) parts.counts in
        rw (mod-eq_of_lt below_four) (eqb-true (t.part % 2 ^ (32 - 8 * t.moved.0)) 0 (rw r at z).2)

-- ── Tests ─────────────────────────────────────────────────────────────────────────────────────────────────────
pub sends : (s : View) → number (output_first s (burst_send s)) ≡ 0 → leb (transfer s.phase).length.0 (transfer s.phase).moved.0 ≡ false
unfolding burst_send
sends s e = (cleared (output_first s (burst_send s)) refl e).1.1.1.1.1.0

pub receives : (s : View) (byte : ℕ) → number (output_first s (burst_receive s byte)) ≡ 0 → (reading s.phase ≡ true) × (leb (transfer s.phase).length.0 (transfer s.phase).moved.0 ≡ false)
unfolding burst_receive
receives s byte e =
    let p = cleared (output_first s (burst_receive s byte)) refl e in
    (not-false (reading s.phase) p.1.1.1.1.0, p.1.1.1.1.1.0)

-- ── What the events do: fewer than four bytes have moved ──────────────────────────────────────────────────────
module _ (s : View) where
  -- by the place of the byte in its word
  abbrev sending : ℕ → Effect
  sending m = unchanged s with_value data_word s / 2 ^ (24 - 8 * m) % 256 with_phase Writing (advanced (transfer s.phase) 0)

  pub sent : (transfer s.phase).moved.0 < 4 → number (output_first s (burst_send s)) ≡ 0 → sending ((transfer s.phase).moved.0 % 4) ≡ verdict (λ v. output_first v (burst_send v)) s
  unfolding burst_send
  sent l e = ap sending (mod-eq_of_lt l) ∙ served_as (λ v. output_first v (burst_send v)) s refl e

  abbrev receiving : ℕ → ℕ → Effect
  receiving byte m = let t = transfer s.phase in unchanged s with_phase Reading (advanced t (t.part + byte * 2 ^ (24 - 8 * m)))

  pub received : (byte : ℕ) → (transfer s.phase).moved.0 < 4 → number (output_first s (burst_receive s byte)) ≡ 0 → receiving byte ((transfer s.phase).moved.0 % 4) ≡ verdict (λ v. output_first v (burst_receive v byte)) s
  unfolding burst_receive
  received byte l e = ap (receiving byte) (mod-eq_of_lt l) ∙ served_as (λ v. output_first v (burst_receive v byte)) s refl e
