-- A well-formed bank by its parts; its rings are valid; set-up answered 0 gives one (`formed.kept`).
use Prim.Native.Nat.{ℕ, ◌≤◌}
use native.Mathlib.Omega.{arith}
use mathlib.Core.Path.{◌≡◌, refl}
use mathlib.Core.Bool.{Bool, true, false, cond, ◌&&◌}
use mathlib.Core.List.{List}
use lib.Dec.{leb, ltb}
use lib.ListN.{length}
use borrow.Author.Tests.{leb-true, ltb-true, lt-ltb, le-leb}
use Rattle.ring.specs.declared.Ring.{Ring}
use Rattle.ring.specs.Ring.{Valid}
use Rattle.ring.specs.Units.{words}
use Rattle.bank.specs.declared.Bank.{Bank}
use Rattle.bank.specs.Fives.{Sizes}
use Rattle.bank.specs.declared.SetUp.{SetUp}
use Rattle.bank.specs.Queues.{Queues, ring, queues_in, caps_of}
use Rattle.bank.specs.SetUp.{size_ok, caps_ok, marks_ok, counts_of, sizes_ok, bank_of, refused_set_up, set_up, total}
use Rattle.bank.specs.Ready.{Ready}
use Rattle.bank.specs.Formed.{ring_ok, queues_ok, regs_ok, flags_ok, phase_ok, open_ok, queues_clear, control_clear, reset_ok, well_formed}
use Rattle.bank.proofs.Bools.{and-true, true_and, three, five, all_three, all_five}

pub record Formed (b : Bank) : Type 0 where
  pub queues : queues_ok (queues_in b) ≡ true
  pub regs : regs_ok b.state.regs ≡ true
  pub marks : marks_ok b.state.regs.marks b.state.caps ≡ true
  pub phase : open_ok b.state.control b.state.regs b.state.phase b.commands ≡ true
  pub reset : reset_ok b.state.control b.state.phase (queues_in b) ≡ true
  pub flags : flags_ok b.flags ≡ true

pub formed_is : (b : Bank) → Formed b → well_formed b ≡ true
unfolding well_formed
formed_is b h =
    let s = b.state in
    let g = regs_ok s.regs in
    let m = marks_ok s.regs.marks s.caps in
    all_five (queues_ok (queues_in b)) (g && m) (open_ok s.control s.regs s.phase b.commands) (reset_ok s.control s.phase (queues_in b)) (flags_ok b.flags) h.queues (true_and g m h.regs h.marks) h.phase h.reset h.flags

pub formed_of : (b : Bank) → well_formed b ≡ true → Formed b
unfolding well_formed
formed_of b h =
    let s = b.state in
    let g = regs_ok s.regs in
    let m = marks_ok s.regs.marks s.caps in
    let z = five (queues_ok (queues_in b)) (g && m) (open_ok s.control s.regs s.phase b.commands) (reset_ok s.control s.phase (queues_in b)) (flags_ok b.flags) h in
    let y = and-true g m z.1 in
    record { queues = z.0; regs = y.0; marks = y.1; phase = z.2; reset = z.3; flags = z.4 }

-- ── Rings ─────────────────────────────────────────────────────────────────────────────────────────────────────
pub ring_valid : (least : ℕ) (r : Ring) → 1 ≤ least → ring_ok least r ≡ true → Valid r
ring_valid least r n h =
    let z = three (size_ok least r.cap.0) (ltb r.head r.cap.0) (leb r.level.0 r.cap.0) h in
    let y = and-true (leb least r.cap.0) (leb r.cap.0 1024) z.0 in
    let a = leb-true least r.cap.0 y.0 in
    record { cap_least = omega arith; head_below = ltb-true r.head r.cap.0 z.1; level_most = leb-true r.level.0 r.cap.0 z.2 }

pub record RingsOk (q : Queues) : Type 0 where
  pub cmd : ring_ok 2 q.cmd ≡ true
  pub cmdr : ring_ok 1 q.cmdr ≡ true
  pub sdo : ring_ok 1 q.sdo ≡ true
  pub sdi : ring_ok 2 q.sdi ≡ true
  pub ibi : ring_ok 1 q.ibi ≡ true

pub rings_of : (q : Queues) → queues_ok q ≡ true → RingsOk q
unfolding queues_ok
rings_of q h =
    let z = five (ring_ok 2 q.cmd) (ring_ok 1 q.cmdr) (ring_ok 1 q.sdo) (ring_ok 2 q.sdi) (ring_ok 1 q.ibi) h in
    record { cmd = z.0; cmdr = z.1; sdo = z.2; sdi = z.3; ibi = z.4 }

pub rings_are : (q : Queues) → RingsOk q → queues_ok q ≡ true
unfolding queues_ok
rings_are q h = all_five (ring_ok 2 q.cmd) (ring_ok 1 q.cmdr) (ring_ok 1 q.sdo) (ring_ok 2 q.sdi) (ring_ok 1 q.ibi) h.cmd h.cmdr h.sdo h.sdi h.ibi

pub ready : (q : Queues) (s : List ℕ) → queues_ok q ≡ true → length s ≡ total (caps_of q) → Ready q s
ready q s h n =
    let z = rings_of q h in
    record {
      cmd = ring_valid 2 q.cmd (omega arith) z.cmd;
      cmdr = ring_valid 1 q.cmdr (omega arith) z.cmdr;
      sdo = ring_valid 1 q.sdo (omega arith) z.sdo;
      sdi = ring_valid 2 q.sdi (omega arith) z.sdi;
      ibi = ring_valid 1 q.ibi (omega arith) z.ibi;
      size = n;
    }

-- ── Set-up ────────────────────────────────────────────────────────────────────────────────────────────────────
answered_0 : (b : Bool) (x y : SetUp) → y.answer.number ≡ 23 → (cond b x y).answer.number ≡ 0 → b ≡ true
answered_0 true x y e h = refl
answered_0 false x y e h = absurd (omega arith)

-- a set-up answered 0 has its numbers in range
pub in_range : (c m : Sizes) (id : ℕ) → (set_up c m id).answer.number ≡ 0 → (leb id 255 && sizes_ok c m) ≡ true
unfolding set_up
in_range c m id h = answered_0 (leb id 255 && sizes_ok c m) (record { bank = bank_of c m true id; answer = record { value = 0; number = 0 } }) refused_set_up refl h

pub bank_is : (c m : Sizes) (id : ℕ) → (set_up c m id).answer.number ≡ 0 → (set_up c m id).bank ≡ bank_of c m true id
unfolding set_up
bank_is c m id h = rw (in_range c m id h)

ring_fresh : (least cap : ℕ) → 1 ≤ least → size_ok least cap ≡ true → ring_ok least (ring (words cap) 0 (words 0)) ≡ true
ring_fresh least cap n h =
    let y = leb-true least cap (and-true (leb least cap) (leb cap 1024) h).0 in
    all_three (size_ok least cap) (ltb 0 cap) (leb 0 cap) h (lt-ltb 0 cap (omega arith)) (le-leb 0 cap (omega arith))

queues_fresh : (c m : Sizes) (id : ℕ) → caps_ok (counts_of c) ≡ true → queues_ok (queues_in (bank_of c m true id)) ≡ true
unfolding caps_ok
queues_fresh c m id h =
    let z = five (size_ok 2 c.cmd) (size_ok 1 c.cmdr) (size_ok 1 c.sdo) (size_ok 2 c.sdi) (size_ok 1 c.ibi) h in
    rings_are (queues_in (bank_of c m true id))
    (record {
      cmd = ring_fresh 2 c.cmd (omega arith) z.0;
      cmdr = ring_fresh 1 c.cmdr (omega arith) z.1;
      sdo = ring_fresh 1 c.sdo (omega arith) z.2;
      sdi = ring_fresh 2 c.sdi (omega arith) z.3;
      ibi = ring_fresh 1 c.ibi (omega arith) z.4;
    })

sizes_of : (c m : Sizes) → sizes_ok c m ≡ true → (caps_ok (counts_of c) ≡ true) × (marks_ok (counts_of m) (counts_of c) ≡ true)
unfolding sizes_ok
sizes_of c m h = and-true (caps_ok (counts_of c)) (marks_ok (counts_of m) (counts_of c)) h

pub fresh_formed : (c m : Sizes) (id : ℕ) → (set_up c m id).answer.number ≡ 0 → Formed (bank_of c m true id)
unfolding regs_ok phase_ok open_ok reset_ok queues_clear control_clear flags_ok
fresh_formed c m id h =
    let z = sizes_of c m (and-true (leb id 255) (sizes_ok c m) (in_range c m id h)).1 in
    record { queues = queues_fresh c m id z.0; regs = refl; marks = z.1; phase = refl; reset = refl; flags = refl }
