-- Demand 1: each call ends with a number of its own, and its tests stand in the order of the table.
use Prim.Native.Nat.{ℕ, ◌/◌, ◌%◌, ◌^◌}
use mathlib.Core.Path.{◌≡◌, refl, sym, ap, ◌∙◌, subst}
use mathlib.Core.Bool.{Bool, true, false, cond, ◌&&◌, ◌||◌, false≢true}
use mathlib.Core.List.{List, [], ◌∷◌, ◌++◌}
use mathlib.Core.Option.{Option, none, some, none-ne-some, some-injective}
use lib.Dec.{eqb, leb}
use lib.Count.{ones}
use borrow.Author.Tests.{eqb-true, eqb-false}
use Rattle.bank.specs.Fives.{Sizes}
use Rattle.bank.specs.SetUp.{sizes_ok, bank_of, refused_set_up, set_up}
use Rattle.bank.specs.Bursts.{bursting}
use Rattle.registers.specs.Map.{register_at}
use Rattle.model.specs.declared.Call.{Call}
use Rattle.model.specs.declared.Call.TheVariants.{Read, Write, Start, Send, Receive, Finish, Interrupt, Request, Take, Trigger}
use Rattle.model.specs.View.{View}
use Rattle.model.specs.Decision.{Decision, does, ◌⇒◌∣◌, first, effect}
use Rattle.model.specs.Registers.{Row, absent, shows, holds, pushes, takes, enables, acknowledges, row, read, write}
use Rattle.model.specs.Calls.{start, send, receive, finish, interrupt, request, take_address}
use Rattle.model.specs.Bursts.{trigger, burst_send, burst_receive, burst_finish, decide}
use Rattle.model.specs.Engine.{outcome, step}
use Rattle.model.specs.Rings.{Controller, view_rings, settle_rings, guard_rings, rings}
use Rattle.model.proofs.Tests.{of_two, of_take}
use Rattle.model.proofs.Numbers.{emptied, read_number, write_number}
use Rattle.model.proofs.Laws.{stays_at_3}
use Rattle.numbers_model.specs.Numbers.{numbers, ends, valued, among, in_order, tested, Demand1}

-- ── The order ─────────────────────────────────────────────────────────────────────────────────────────────────
-- behind the two tests of bank and store
abbrev Within : List ℕ → Decision → Type 0
Within ns d = in_order (tested d) ns ≡ true

read_within : (s : View) (x : Row) → Within (4 ∷ 3 ∷ []) (read x s)
read_within s absent = refl
read_within s (shows f) = refl
read_within s (holds c) = refl
read_within s (pushes q) = refl
read_within s (takes q) = of_take (Within (4 ∷ 3 ∷ [])) q s (λ e. refl) (λ e. refl)
read_within s enables = refl
read_within s acknowledges = refl

write_within : (s : View) (x : Row) (v : ℕ) → Within (4 ∷ 6 ∷ 30 ∷ 2 ∷ 5 ∷ 1 ∷ []) (write x s v)
write_within s absent v = refl
write_within s (shows f) v = refl
write_within s (holds c) v = refl
write_within s (pushes q) v = refl
write_within s (takes q) v = refl
write_within s enables v = refl
write_within s acknowledges v = refl

ordered : (l : Controller) (c : Call) → Within (numbers c) (guard_rings l (decide (view_rings l) c))
unfolding guard_rings start send receive finish interrupt request take_address trigger burst_send burst_receive burst_finish
ordered l (Read o) = read_within (view_rings l) (row (register_at o))
ordered l (Write o v) = write_within (view_rings l) (row (register_at o)) v
ordered l Start = refl
ordered l Send = let s = view_rings l in of_two (Within (5 ∷ 7 ∷ 20 ∷ 10 ∷ 11 ∷ 12 ∷ [])) (bursting s.control) (burst_send s) (send s) (λ e. refl) (λ e. refl)
ordered l (Receive b) = let s = view_rings l in of_two (Within (5 ∷ 7 ∷ 20 ∷ 10 ∷ 11 ∷ 13 ∷ [])) (bursting s.control) (burst_receive s b) (receive s b) (λ e. refl) (λ e. refl)
ordered l (Finish code) = let s = view_rings l in of_two (Within (5 ∷ 7 ∷ 14 ∷ 13 ∷ [])) (bursting s.control) (burst_finish s code) (finish s code) (λ e. refl) (λ e. refl)
ordered l (Interrupt a b) = refl
ordered l (Request v w) = refl
ordered l Take = refl
ordered l Trigger = refl

-- ── The number ────────────────────────────────────────────────────────────────────────────────────────────────
or_right : (a b : Bool) → b ≡ true → (a || b) ≡ true
or_right true b e = refl
or_right false b e = e

among_right : (n : ℕ) (ks ms : List ℕ) → among n ms ≡ true → among n (ks ++ ms) ≡ true
among_right n [] ms e = e
among_right n (k ∷ ks) ms e = or_right (eqb n k) (among n (ks ++ ms)) (among_right n ks ms e)

or_left : (a b c : Bool) → (b ≡ true → c ≡ true) → (a || b) ≡ true → (a || c) ≡ true
or_left true b c f e = refl
or_left false b c f e = f e

-- by whether the first of the list is the first of the other
met : (n k m : ℕ) (in_rest rest : Bool) (b : Bool) → eqb k m ≡ b → (b ≡ true → in_rest ≡ true → rest ≡ true) → (b ≡ false → rest ≡ true) → (eqb n k || in_rest) ≡ true → (eqb n m || rest) ≡ true
met n k m in_rest rest true e f g h = let z = eqb-true k m e in or_left (eqb n m) in_rest rest (f refl) (subst (λ (x : ℕ). (eqb n x || in_rest) ≡ true) z h)
met n k m in_rest rest false e f g h = or_right (eqb n m) rest (g refl)

chosen : (b : Bool) (x y : Bool) → cond b x y ≡ true → (b ≡ true → x ≡ true) × (b ≡ false → y ≡ true)
chosen true x y e = (λ h. e, λ h. absurd (false≢true (sym h)))
chosen false x y e = (λ h. absurd (false≢true h), λ h. e)

-- what is among a list is among one that it lies within
within_among : (n : ℕ) (ns ms : List ℕ) → in_order ns ms ≡ true → among n ns ≡ true → among n ms ≡ true
within_among n [] ms o e = absurd (false≢true e)
within_among n (k ∷ ks) [] o e = absurd (false≢true o)
within_among n (k ∷ ks) (m ∷ ms) o e =
    let z = chosen (eqb k m) (in_order ks ms) (in_order (k ∷ ks) ms) o in
    met n k m (among n ks) (among n ms) (eqb k m) refl (λ h. within_among n ks ms (z.0 h)) (λ h. within_among n (k ∷ ks) ms (z.1 h) e) e

-- the first test that holds is one of the tests
eqb_same : (n : ℕ) (b : Bool) → eqb n n ≡ b → b ≡ true
eqb_same n true e = refl
eqb_same n false e = absurd (eqb-false n n e refl)

first_tested : (d : Decision) (n : ℕ) → first d ≡ some n → among n (tested d) ≡ true
first_tested (does e) n h = absurd (none-ne-some n h)
first_tested (true ⇒ m ∣ d) n h = ap (λ (b : Bool). b || among n (tested d)) (let z = some-injective m n h in eqb_same n (eqb n m) (ap (λ (x : ℕ). eqb n x) (sym z)))
first_tested (false ⇒ m ∣ d) n h = or_right (eqb n m) (among n (tested d)) (first_tested d n h)

one_of : (b : Bool) (m n : ℕ) (ns : List ℕ) → among m ns ≡ true → among n ns ≡ true → among (cond b m n) ns ≡ true
one_of true m n ns h k = h
one_of false m n ns h k = k

abbrev Ends : List ℕ → Decision → Type 0
Ends ns d = among (effect d).number ns ≡ true

ended : (s : View) (c : Call) → Ends (ends c ++ valued c) (decide s c)
unfolding start send receive finish interrupt request take_address trigger burst_send burst_receive burst_finish
ended s (Read o) = rw (read_number s (row (register_at o))) (one_of (emptied (row (register_at o)) s) 3 0 (0 ∷ 3 ∷ []) refl refl)
ended s (Write o v) = rw (write_number s (row (register_at o)) v)
ended s Start = refl
ended s Send = of_two (Ends (0 ∷ [])) (bursting s.control) (burst_send s) (send s) (λ e. refl) (λ e. refl)
ended s (Receive b) = of_two (Ends (0 ∷ [])) (bursting s.control) (burst_receive s b) (receive s b) (λ e. refl) (λ e. refl)
ended s (Finish code) = of_two (Ends (0 ∷ [])) (bursting s.control) (burst_finish s code) (finish s code) (λ e. refl) (λ e. refl)
ended s (Interrupt a b) = refl
ended s (Request v w) = refl
ended s Take = one_of (eqb (ones (s.queues.sdo.first / 2 ^ 24) % 2) 1) 0 19 (0 ∷ 19 ∷ []) refl refl
ended s Trigger = refl

-- the numbers of effects are in the table
in_table : (c : Call) → in_order (ends c ++ valued c) (ends c ++ numbers c) ≡ true
in_table (Read o) = refl
in_table (Write o v) = refl
in_table Start = refl
in_table Send = refl
in_table (Receive b) = refl
in_table (Finish code) = refl
in_table (Interrupt a b) = refl
in_table (Request v w) = refl
in_table Take = refl
in_table Trigger = refl

-- an effect that has no number of `ends` has 3
three_of : (c : Call) (n : ℕ) → among n (ends c ++ valued c) ≡ true → among n (ends c) ≡ false → n ≡ 3
three_of (Read o) n h f = eqb-true n 3 (last_of (eqb n 0) (eqb n 3) h f)
  where
    last_of : (a b : Bool) → (a || (b || false)) ≡ true → (a || false) ≡ false → b ≡ true
    last_of true b h f = absurd (false≢true (sym f))
    last_of false true h f = refl
    last_of false false h f = absurd (false≢true h)
three_of (Write o v) n h f = absurd (false≢true (sym f ∙ h))
three_of Start n h f = absurd (false≢true (sym f ∙ h))
three_of Send n h f = absurd (false≢true (sym f ∙ h))
three_of (Receive b) n h f = absurd (false≢true (sym f ∙ h))
three_of (Finish code) n h f = absurd (false≢true (sym f ∙ h))
three_of (Interrupt a b) n h f = absurd (false≢true (sym f ∙ h))
three_of (Request v w) n h f = absurd (false≢true (sym f ∙ h))
three_of Take n h f = absurd (false≢true (sym f ∙ h))
three_of Trigger n h f = absurd (false≢true (sym f ∙ h))

-- of a step: the number of the first test, or of the effect
module _ (l : Controller) (c : Call) where
  abbrev decision : Decision
  decision = guard_rings l (decide (view_rings l) c)

  numbered : among (step rings l c).answer.number (ends c ++ numbers c) ≡ true
  unfolding step guard_rings
  numbered = go (first decision) refl
    where
      go : (k : Option ℕ) → first decision ≡ k → among (outcome k (effect decision) l (settle_rings l (effect decision))).answer.number (ends c ++ numbers c) ≡ true
      go none e = within_among (effect decision).number (ends c ++ valued c) (ends c ++ numbers c) (in_table c) (ended (view_rings l) c)
      go (some n) e = among_right n (ends c) (numbers c) (within_among n (tested decision) (numbers c) (ordered l c) (first_tested decision n e))

  unchanged : among (step rings l c).answer.number (ends c) ≡ false → (step rings l c).next ≡ l
  unfolding step guard_rings
  unchanged = go (first decision) refl
    where
      go : (k : Option ℕ) → first decision ≡ k → let r = outcome k (effect decision) l (settle_rings l (effect decision)) in among r.answer.number (ends c) ≡ false → r.next ≡ l
      go none e f = stays_at_3 l c (three_of c (effect decision).number (ended (view_rings l) c) f)
      go (some n) e f = refl

  silent : among (step rings l c).answer.number (ends c ++ valued c) ≡ false → (step rings l c).answer.value ≡ 0
  unfolding step guard_rings
  silent = go (first decision) refl
    where
      go : (k : Option ℕ) → first decision ≡ k → let r = outcome k (effect decision) l (settle_rings l (effect decision)) in among r.answer.number (ends c ++ valued c) ≡ false → r.answer.value ≡ 0
      go none e f = absurd (false≢true (sym f ∙ ended (view_rings l) c))
      go (some n) e f = refl

-- ── Set-up ────────────────────────────────────────────────────────────────────────────────────────────────────
set_up_lem : (c m : Sizes) (id : ℕ) → (among (set_up c m id).answer.number (0 ∷ 23 ∷ []) ≡ true) × ((set_up c m id).answer.value ≡ 0)
unfolding set_up
set_up_lem c m id = go (leb id 255 && sizes_ok c m)
  where
    go : (b : Bool) → let a = (cond b (record { bank = bank_of c m true id; answer = record { value = 0; number = 0 } }) refused_set_up).answer in (among a.number (0 ∷ 23 ∷ []) ≡ true) × (a.value ≡ 0)
    go true = (refl, refl)
    go false = (refl, refl)

pub demand_1 : Demand1
demand_1 = record { calls = λ l c. record { ordered = ordered l c; numbered = numbered l c; unchanged = unchanged l c; silent = silent l c }; set_ups = set_up_lem }
