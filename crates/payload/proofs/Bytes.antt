-- What the passed tests of a send and a receive tell, and the part word of a read.
use Prim.Native.Nat.{ℕ, ◌-◌, ◌*◌, ◌%◌, ◌^◌, ◌<◌}
use mathlib.Core.Path.{◌≡◌, refl, sym, ◌∙◌}
use mathlib.Core.Bool.{Bool, true, false, cond, false≢true}
use lib.Dec.{eqb, leb, ltb}
use borrow.Author.Tests.{leb-false, eqb-true, not-false}
use Rattle.bank.specs.declared.Phase.{Phase}
use Rattle.bank.specs.declared.State.{State}
use Rattle.bank.specs.declared.Transfer.{Transfer}
use Rattle.bank.specs.Phases.{transfer, reading, limit, part_bytes}
use Rattle.bank.specs.Formed.{phase_ok}
use Rattle.bank.proofs.Bools.{three}
use Rattle.model.specs.View.{Tables, View}
use Rattle.model.specs.Calls.{send, receive}
use Rattle.effect.specs.Effects.{number}
use Rattle.effect.specs.Seen.{Fronts, seen}
use Rattle.effect.proofs.Laws.{cleared, no_tables, no_fronts}

-- ── Send ──────────────────────────────────────────────────────────────────────────────────────────────────────
pub record Sends (s : View) : Type 0 where
  pub below : (transfer s.phase).moved.0 < (transfer s.phase).length.0

pub sends : (s : View) → number (send s) ≡ 0 → Sends s
unfolding send
sends s e =
    let t = transfer s.phase in
    let p = cleared (send s) refl e in
    record { below = leb-false t.length.0 t.moved.0 p.1.1.1.1.0 }

-- ── Receive ───────────────────────────────────────────────────────────────────────────────────────────────────
pub record Receives (s : View) : Type 0 where
  pub reads : reading s.phase ≡ true
  pub below : (transfer s.phase).moved.0 < (transfer s.phase).length.0

pub receives : (s : View) (byte : ℕ) → number (receive s byte) ≡ 0 → Receives s
unfolding receive
receives s byte e =
    let t = transfer s.phase in
    let p = cleared (receive s byte) refl e in
    record { reads = not-false (reading s.phase) p.1.1.1.0; below = leb-false t.length.0 t.moved.0 p.1.1.1.1.0 }

-- ── The part word of a read ───────────────────────────────────────────────────────────────────────────────────
part_of : (r : Bool) (x a b : ℕ) → r ≡ true → eqb (x % 2 ^ (32 - 8 * cond r a b)) 0 ≡ true → x % 2 ^ (32 - 8 * a) ≡ 0
part_of true x a b h e = eqb-true (x % 2 ^ (32 - 8 * a)) 0 e
part_of false x a b h e = absurd (false≢true h)

-- it has room for a byte more
pub reading_part : (p : Phase) → phase_ok p ≡ true → reading p ≡ true → (transfer p).part % 2 ^ (32 - 8 * ((transfer p).moved.0 % 4)) ≡ 0
unfolding phase_ok
reading_part p h r =
    let t = transfer p in
    let z = three (ltb t.length.0 4096) (leb t.moved.0 (limit p)) (eqb (t.part % 2 ^ (32 - 8 * part_bytes p)) 0) h in
    part_of (reading p) t.part (t.moved.0 % 4) ((4 - t.moved.0 % 4) % 4) r z.2

-- ── As the code asks it ────────────────────────────────────────────────────────────────────────────────────────
-- a byte that passed its tests, whatever the tables and the fronts
module _ (st : State) (n : ℕ) (t : Transfer) (is : (x : Tables) (f : Fronts) (b : ℕ) → n ≡ number (receive (seen st x f) b)) (z : n ≡ 0) (e : t ≡ transfer st.phase) where
  received : Receives (seen st no_tables no_fronts)
  received = receives (seen st no_tables no_fronts) 0 (sym (is no_tables no_fronts 0) ∙ z)

  pub read_below : t.moved.0 < t.length.0
  read_below = rw e received.below

  pub read_room : phase_ok st.phase ≡ true → t.part % 2 ^ (32 - 8 * (t.moved.0 % 4)) ≡ 0
  read_room h = rw e (reading_part st.phase h received.reads)

pub sent_below : (st : State) (n : ℕ) (t : Transfer) → ((x : Tables) (f : Fronts) → n ≡ number (send (seen st x f))) → n ≡ 0 → t ≡ transfer st.phase → t.moved.0 < t.length.0
sent_below st n t is z e = rw e (sends (seen st no_tables no_fronts) (sym (is no_tables no_fronts) ∙ z)).below
