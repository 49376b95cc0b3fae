-- Demand 1 of paper 00 (`answer.every`): each call's numbers, in the order in which they are tested, and what is proved of them.
-- docs/ANSWERS.md has the same table, and a test holds it to this one.
use Rattle.std.specs.Prelude.{ℕ, ◌≡◌, Bool, true, false, cond, ◌||◌, List, [], ◌∷◌, ◌++◌, eqb}
use Rattle.number.specs.Names as number
use Rattle.bank.specs.Fives.{Sizes}
use Rattle.bank.specs.SetUp.{set_up}
use Rattle.model.specs.declared.Call.{Call}
use Rattle.model.specs.declared.Call.TheVariants.{Read, Write, Start, Send, Receive, Finish, Interrupt, Request, Take, Trigger}
use Rattle.model.specs.Decision.{Decision, does, ◌⇒◌∣◌}
use Rattle.model.specs.Bursts.{decide}
use Rattle.model.specs.Engine.{step}
use Rattle.model.specs.Rings.{Controller, view_rings, guard_rings, rings}

-- ── The table ─────────────────────────────────────────────────────────────────────────────────────────────────
-- refusals: `answer.bank` first; for accesses `access.order`; for events `answer.range`, then 13 by `burst.output`, then the event's own
-- tests
abbrev pub numbers : Call → List ℕ
numbers (Read o) = number.not_well_formed ∷ number.store_length ∷ number.no_register ∷ number.empty ∷ []
numbers (Write o v) = number.not_well_formed ∷ number.store_length ∷ number.no_register ∷ number.transfer_open ∷ number.watermark_above_capacity ∷ number.dropped_read_only ∷ number.held_in_reset ∷ number.dropped_full ∷ []
numbers Start = number.not_well_formed ∷ number.store_length ∷ number.no_room ∷ number.held_in_reset ∷ number.transfer_open ∷ number.not_in_this_mode ∷ number.no_command ∷ number.sdo_not_empty ∷ []
numbers Send = number.not_well_formed ∷ number.store_length ∷ number.no_room ∷ number.held_in_reset ∷ number.no_transfer ∷ number.not_attached ∷ number.not_this_kind ∷ number.length_reached ∷ number.sdo_empty ∷ []
numbers (Receive byte) = number.not_well_formed ∷ number.store_length ∷ number.no_room ∷ number.held_in_reset ∷ number.no_transfer ∷ number.not_attached ∷ number.not_this_kind ∷ number.length_reached ∷ number.no_room ∷ []
numbers (Finish code) = number.not_well_formed ∷ number.store_length ∷ number.out_of_range ∷ number.no_room ∷ number.held_in_reset ∷ number.no_transfer ∷ number.ending_not_allowed ∷ number.no_room ∷ []
numbers (Interrupt a byte) = number.not_well_formed ∷ number.store_length ∷ number.out_of_range ∷ number.no_room ∷ number.held_in_reset ∷ number.transfer_open ∷ number.not_heard ∷ number.not_acknowledged ∷ number.no_room ∷ []
numbers (Request v w) = number.not_well_formed ∷ number.store_length ∷ number.no_room ∷ number.held_in_reset ∷ number.no_transfer ∷ number.not_this_kind ∷ number.no_room ∷ []
numbers Take = number.not_well_formed ∷ number.store_length ∷ number.no_room ∷ number.held_in_reset ∷ number.no_transfer ∷ number.not_this_kind ∷ number.sdo_empty ∷ []
numbers Trigger = number.not_well_formed ∷ number.store_length ∷ number.no_room ∷ number.held_in_reset ∷ number.transfer_open ∷ number.not_in_this_mode ∷ number.burst_has_no_commands ∷ number.not_carried ∷ number.no_room ∷ []

-- what a call that is not refused ends with
abbrev pub ends : Call → List ℕ
ends (Read o) = 0 ∷ []
ends (Write o v) = 0 ∷ []
ends Start = 0 ∷ []
ends Send = 0 ∷ []
ends (Receive byte) = 0 ∷ []
ends (Finish code) = 0 ∷ []
ends (Interrupt a byte) = 0 ∷ []
ends (Request v w) = 0 ∷ []
ends Take = 0 ∷ number.wrong_parity ∷ []
ends Trigger = 0 ∷ []

-- `take.empty`: what else has a value, besides these
abbrev pub valued : Call → List ℕ
valued (Read o) = number.empty ∷ []
valued (Write o v) = []
valued Start = []
valued Send = []
valued (Receive byte) = []
valued (Finish code) = []
valued (Interrupt a byte) = []
valued (Request v w) = []
valued Take = []
valued Trigger = []

abbrev pub among : ℕ → List ℕ → Bool
among n [] = false
among n (m ∷ ms) = eqb n m || among n ms

-- the first list lies within the second, in its order
abbrev pub in_order : List ℕ → List ℕ → Bool
in_order [] ms = true
in_order (n ∷ ns) [] = false
in_order (n ∷ ns) (m ∷ ms) = cond (eqb n m) (in_order ns ms) (in_order (n ∷ ns) ms)

-- the numbers of a decision's tests
abbrev pub tested : Decision → List ℕ
tested (does e) = []
tested (b ⇒ n ∣ d) = n ∷ tested d

-- ── The demand ────────────────────────────────────────────────────────────────────────────────────────────────
pub record Answered (l : Controller) (c : Call) : Type 0 where
  -- `answer.order`: the tests are made in the table's order, and the first that holds gives its number (`first`). 3 is no test's: it stands
  -- behind them, as the number of an effect
  pub ordered : in_order (tested (guard_rings l (decide (view_rings l) c))) (numbers c) ≡ true
  -- the call ends with a number of the table
  pub numbered : among (step rings l c).answer.number (ends c ++ numbers c) ≡ true
  -- `answer.refusal`: a refusal changes nothing, and its value is 0 but for an empty read's
  pub unchanged : among (step rings l c).answer.number (ends c) ≡ false → (step rings l c).next ≡ l
  pub silent : among (step rings l c).answer.number (ends c ++ valued c) ≡ false → (step rings l c).answer.value ≡ 0

-- of every call, and of set-up (`set-up.fresh`, `set-up.refused`)
pub record Demand1 : Type 0 where
  pub calls : (l : Controller) (c : Call) → Answered l c
  pub set_ups : (caps marks : Sizes) (id : ℕ) → let a = (set_up caps marks id).answer in (among a.number (0 ∷ number.set_up_out_of_range ∷ []) ≡ true) × (a.value ≡ 0)
