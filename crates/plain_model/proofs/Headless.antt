-- A well-formed bank of rings is well formed without its heads (`plain.tests`).
use Prim.Native.Nat.{ℕ}
use native.Mathlib.Omega.{arith}
use mathlib.Core.Path.{◌≡◌, refl}
use mathlib.Core.Bool.{Bool, true, false, not, ◌&&◌, ◌||◌}
use lib.Dec.{leb, ltb, eqb}
use borrow.Author.Tests.{ltb-true, lt-ltb}
use Rattle.ring.specs.declared.Ring.{Ring}
use Rattle.bank.specs.declared.Bank.{Bank}
use Rattle.bank.specs.declared.Control.{Control}
use Rattle.bank.specs.declared.Phase.{Phase}
use Rattle.bank.specs.Phases.{idle}
use Rattle.bank.specs.Queues.{Queues, ring, queues_of, caps_of, levels_of}
use Rattle.bank.specs.SetUp.{size_ok, no_heads}
use Rattle.bank.specs.Formed.{ring_ok, queues_ok, ring_clear, queues_clear, control_clear, reset_ok}
use Rattle.bank.proofs.Bools.{and-true, three, five, all_three, all_five}
use Rattle.bank.proofs.Laws.{Formed, formed_is, formed_of, rings_of, rings_are}
use Rattle.plain_model.specs.Plain.{headed}
use Rattle.plain_model.specs.PlainLaws.{headless, HeadsNotAsked}

abbrev ring_at0 : Ring → Ring
ring_at0 r = ring r.cap 0 r.level

abbrev rings_at0 : Queues → Queues
rings_at0 q = queues_of (caps_of q) (levels_of q) no_heads

ring_ok_lem : (least : ℕ) (r : Ring) → ring_ok least r ≡ true → ring_ok least (ring_at0 r) ≡ true
ring_ok_lem least r h =
    let cap = r.cap.0 in
    let z = three (size_ok least cap) (ltb r.head cap) (leb r.level.0 cap) h in
    let y = ltb-true r.head cap z.1 in
    all_three (size_ok least cap) (ltb 0 cap) (leb r.level.0 cap) z.0 (lt-ltb 0 cap (omega arith)) z.2

queues_ok_lem : (q : Queues) → queues_ok q ≡ true → queues_ok (rings_at0 q) ≡ true
queues_ok_lem q h =
    let z = rings_of q h in
    rings_are (rings_at0 q)
    (record {
      cmd = ring_ok_lem 2 q.cmd z.cmd;
      cmdr = ring_ok_lem 1 q.cmdr z.cmdr;
      sdo = ring_ok_lem 1 q.sdo z.sdo;
      sdi = ring_ok_lem 2 q.sdi z.sdi;
      ibi = ring_ok_lem 1 q.ibi z.ibi;
    })

ring_clear_lem : (r : Ring) → ring_clear r ≡ true → ring_clear (ring_at0 r) ≡ true
ring_clear_lem r h = (and-true (eqb r.head 0) (eqb r.level.0 0) h).1

queues_clear_lem : (q : Queues) → queues_clear q ≡ true → queues_clear (rings_at0 q) ≡ true
unfolding queues_clear
queues_clear_lem q h =
    let z = five (ring_clear q.cmd) (ring_clear q.cmdr) (ring_clear q.sdo) (ring_clear q.sdi) (ring_clear q.ibi) h in
    let p = rings_at0 q in
    all_five (ring_clear p.cmd) (ring_clear p.cmdr) (ring_clear p.sdo) (ring_clear p.sdi) (ring_clear p.ibi)
    (ring_clear_lem q.cmd z.0)
    (ring_clear_lem q.cmdr z.1)
    (ring_clear_lem q.sdo z.2)
    (ring_clear_lem q.sdi z.3)
    (ring_clear_lem q.ibi z.4)

if_held : (held x x' y z : Bool) → (x ≡ true → x' ≡ true) → (not held || (x && y && z)) ≡ true → (not held || (x' && y && z)) ≡ true
if_held false x x' y z g h = refl
if_held true x x' y z g h = let w = three x y z h in all_three x' y z (g w.0) w.1 w.2

reset_ok_lem : (c : Control) (p : Phase) (q : Queues) → reset_ok c p q ≡ true → reset_ok c p (rings_at0 q) ≡ true
unfolding reset_ok
reset_ok_lem c p q h = if_held c.held (queues_clear q) (queues_clear (rings_at0 q)) (control_clear c) (idle p) (queues_clear_lem q) h

pub formed_headless : (b : Bank) → Formed b → Formed (headed (headless b))
formed_headless b h =
    let q = queues_of b.state.caps b.state.levels b.heads in
    record { queues = queues_ok_lem q h.queues; regs = h.regs; marks = h.marks; phase = h.phase; reset = reset_ok_lem b.state.control b.state.phase q h.reset; flags = h.flags }

pub heads_not_asked : HeadsNotAsked
unfolding HeadsNotAsked
heads_not_asked b h = formed_is (headed (headless b)) (formed_headless b (formed_of b h))
