-- A bank out of what is kept of it: the state out of its own words; the tables are as they lie.
use Prim.Native.Nat.{ℕ, ◌%◌, ◌≤◌}
use native.Mathlib.Omega.{arith}
use native.Mathlib.Nat.{mod-eq_of_lt}
use mathlib.Core.Path.{◌≡◌, refl, ap}
use mathlib.Core.Bool.{Bool, true, false}
use lib.Dec.{eqb}
use Rattle.bank.specs.declared.Kind.{Kind}
use Rattle.bank.specs.declared.Kind.TheVariants.{Private, Direct, Broadcast}
use Rattle.bank.specs.declared.Transfer.{Transfer}
use Rattle.bank.specs.declared.Phase.{Phase}
use Rattle.bank.specs.declared.Phase.TheVariants.{Idle, Writing, Reading, Unrequested, Requested, Answered}
use Rattle.bank.specs.declared.State.{State}
use Rattle.bank.specs.Fives.{Heads}
use Rattle.bank.specs.declared.Bank.{Bank}
use Rattle.bank.specs.Bits.{word_if}
use Rattle.bank.specs.Phases.{stage, transfer}
use Rattle.image_model.specs.Image.{kind_number, image_of, kind_in, phase_in, state_in, kept_of, bank_in}

-- ── Fields ────────────────────────────────────────────────────────────────────────────────────────────────────
bit_back : (b : Bool) → eqb (word_if b 1) 1 ≡ b
bit_back true = refl
bit_back false = refl

byte_back : (n : ℕ) → n ≤ 255 → n % 256 ≡ n
byte_back n h = mod-eq_of_lt (omega arith)

kind_back : (k : Kind) → kind_in (kind_number k) ≡ k
kind_back Private = refl
kind_back Direct = refl
kind_back Broadcast = refl

-- a transfer by its own numbers
abbrev again : Transfer → Transfer
again t = record { kind = kind_in (kind_number t.kind); header = eqb (word_if t.header 1) 1; length = t.length; moved = t.moved; attached = eqb (word_if t.attached 1) 1; part = t.part }

again_is : (t : Transfer) → again t ≡ t
again_is t = λ i. record { kind = kind_back t.kind i; header = bit_back t.header i; length = t.length; moved = t.moved; attached = bit_back t.attached i; part = t.part }

phase_back : (p : Phase) → phase_in (stage p) (again (transfer p)) ≡ p
phase_back Idle = refl
phase_back (Writing t) = ap Writing (again_is t)
phase_back (Reading t) = ap Reading (again_is t)
phase_back (Unrequested t) = ap Unrequested (again_is t)
phase_back (Requested t) = ap Requested (again_is t)
phase_back (Answered t) = ap Answered (again_is t)

-- ── The state ─────────────────────────────────────────────────────────────────────────────────────────────────
-- fields of a byte
pub record Bytes (s : State) : Type 0 where
  pub id : s.regs.id ≤ 255
  pub mask : s.regs.mask ≤ 255
  pub ops : s.regs.ops ≤ 255
  pub config : s.regs.config ≤ 255
  pub selected : s.regs.selected ≤ 255
  pub sync : s.control.sync ≤ 255
  pub ibisync : s.control.ibisync ≤ 255
  pub burst : s.control.burst ≤ 255

pub state_back : (s : State) (k : Heads) → Bytes s → state_in (image_of s k) ≡ s
state_back s k h =
    let g = s.regs in
    let c = s.control in
    λ i. record {
      caps = s.caps;
      levels = s.levels;
      regs =
          record {
            id = byte_back g.id h.id i;
            scratch = g.scratch;
            mask = byte_back g.mask h.mask i;
            ops = byte_back g.ops h.ops i;
            config = byte_back g.config h.config i;
            selected = byte_back g.selected h.selected i;
            marks = g.marks;
          };
      control =
          record {
            held = bit_back c.held i;
            sync = byte_back c.sync h.sync i;
            ibisync = byte_back c.ibisync h.ibisync i;
            cmdrpending = bit_back c.cmdrpending i;
            ibipending = bit_back c.ibipending i;
            daapending = bit_back c.daapending i;
            burst = byte_back c.burst h.burst i;
            latest = c.latest;
          };
      phase = phase_back s.phase i;
    }

pub bank_back : (b : Bank) → Bytes b.state → bank_in (kept_of b) ≡ b
unfolding bank_in kept_of
bank_back b h =
    let s = state_back b.state b.heads h in
    λ i. record { state = s i; heads = b.heads; flags = b.flags; commands = b.commands; payloads = b.payloads }
