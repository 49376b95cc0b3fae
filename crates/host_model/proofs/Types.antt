-- A call keeps a bank in its types: of each call's effect, that fields of a byte stay below 256 and tables keep their lengths.
use Prim.Native.Nat.{ℕ, ◌+◌, ◌/◌, ◌%◌}
use native.Mathlib.Omega.{arith}
use mathlib.Core.Path.{◌≡◌, refl, ap, ◌∙◌}
use mathlib.Core.Bool.{Bool, true, false, cond}
use mathlib.Core.List.{List}
use lib.Dec.{leb, eqb}
use lib.ListN.{length, set, length-set}
use borrow.Author.Tests.{leb-false, le-leb}
use Rattle.bank.specs.declared.Regs.{Regs}
use Rattle.bank.specs.declared.Control.{Control}
use Rattle.bank.specs.Bits.{bit, bits}
use Rattle.bank.specs.Bursts.{span, bursting}
use Rattle.registers.specs.Map.{register_at}
use Rattle.model.specs.declared.Call.{Call}
use Rattle.model.specs.declared.Call.TheVariants.{Read, Write, Start, Send, Receive, Finish, Interrupt, Request, Take, Trigger}
use Rattle.model.specs.View.{Tables, View}
use Rattle.queues.specs.declared.Queue.{Queue}
use Rattle.queues.specs.declared.Queue.TheVariants.{Cmd, Cmdr, Sdo, Sdi, Ibi}
use Rattle.model.specs.Decision.{Effect, Decision, effect}
use Rattle.model.specs.Registers.{Cell, scratch, mask, ops, ibi_config, dev_char, watermark, offload_cmd, offload_sdo, Row, absent, shows, holds, pushes, takes, enables, acknowledges, row, stored_regs, stored_tables, clears, enable, read, write}
use Rattle.model.specs.Calls.{start, send, receive, finish, interrupt, request, take_address}
use Rattle.model.specs.Bursts.{trigger, burst_send, burst_receive, burst_finish, decide}
use Rattle.model.specs.Engine.{step}
use Rattle.model.specs.Rings.{Controller, view_rings, settle_rings, rings}
use Rattle.model.proofs.Tests.{of_take, of_two}
use Rattle.model.proofs.Laws.{by_outcome}
use Rattle.answer.specs.Given.{controller}
use Rattle.image_model.proofs.Laws.{Typed, typed_of, typed_is}
use Rattle.host_model.specs.Types.{KeepsTypes}

-- ── The three parts that an effect may change ─────────────────────────────────────────────────────────────────
record RegsIn (g : Regs) : Type 0 where
  pub id : leb g.id 255 ≡ true
  pub mask : leb g.mask 255 ≡ true

record ControlIn (c : Control) : Type 0 where
  pub sync : leb c.sync 255 ≡ true
  pub ibisync : leb c.ibisync 255 ≡ true
  pub burst : leb c.burst 255 ≡ true

record TablesIn (t : Tables) : Type 0 where
  pub flags : eqb (length t.flags) 128 ≡ true
  pub commands : eqb (length t.commands) 16 ≡ true
  pub payloads : eqb (length t.payloads) 16 ≡ true

record TypesIn (g : Regs) (c : Control) (t : Tables) : Type 0 where
  pub regs : RegsIn g
  pub control : ControlIn c
  pub tables : TablesIn t

abbrev Before : View → Type 0
Before s = TypesIn s.regs s.control s.tables

abbrev After : Effect → Type 0
After e = TypesIn e.regs e.control e.tables

abbrev Keeps : Decision → Type 0
Keeps d = After (effect d)

-- ── Registers ─────────────────────────────────────────────────────────────────────────────────────────────────
stored_regs_lem : (c : Cell) (v : ℕ) (g : Regs) → RegsIn g → RegsIn (stored_regs c v g)
stored_regs_lem scratch v g h = record { id = h.id; mask = h.mask }
stored_regs_lem mask v g h = record { id = h.id; mask = le-leb (v % 256) 255 (omega arith) }
stored_regs_lem ops v g h = record { id = h.id; mask = h.mask }
stored_regs_lem ibi_config v g h = record { id = h.id; mask = h.mask }
stored_regs_lem dev_char v g h = record { id = h.id; mask = h.mask }
stored_regs_lem (watermark q) v g h = record { id = h.id; mask = h.mask }
stored_regs_lem (offload_cmd i) v g h = h
stored_regs_lem (offload_sdo i) v g h = h

set_size : (l : List ℕ) (i v n : ℕ) → eqb (length l) n ≡ true → eqb (length (set l i v)) n ≡ true
set_size l i v n h = ap (λ (k : ℕ). eqb k n) (length-set l i v) ∙ h

set_if : (b : Bool) (l : List ℕ) (i v n : ℕ) → eqb (length l) n ≡ true → eqb (length (cond b (set l i v) l)) n ≡ true
set_if true l i v n h = set_size l i v n h
set_if false l i v n h = h

stored_tables_lem : (c : Cell) (v : ℕ) (t : Tables) → TablesIn t → TablesIn (stored_tables c v t)
stored_tables_lem scratch v t h = h
stored_tables_lem mask v t h = h
stored_tables_lem ops v t h = h
stored_tables_lem ibi_config v t h = h
stored_tables_lem dev_char v t h = record { flags = set_if (bit 8 v) t.flags (bits 15 9 v) (bits 3 1 v) 128 h.flags; commands = h.commands; payloads = h.payloads }
stored_tables_lem (watermark q) v t h = h
stored_tables_lem (offload_cmd i) v t h = record { flags = h.flags; commands = set_size t.commands i v 16 h.commands; payloads = h.payloads }
stored_tables_lem (offload_sdo i) v t h = record { flags = h.flags; commands = h.commands; payloads = set_size t.payloads i v 16 h.payloads }

clears_in : (q : Queue) (b : Bool) (c : Control) → ControlIn c → ControlIn (clears q b c)
clears_in Cmd b c h = h
clears_in Cmdr b c h = record { sync = h.sync; ibisync = h.ibisync; burst = h.burst }
clears_in Sdo b c h = record { sync = h.sync; ibisync = h.ibisync; burst = h.burst }
clears_in Sdi b c h = h
clears_in Ibi b c h = record { sync = h.sync; ibisync = h.ibisync; burst = h.burst }

enable_in : (s : View) (b : Bool) → Before s → After (enable s b)
unfolding enable
enable_in s true h = record { regs = h.regs; control = record { sync = refl; ibisync = refl; burst = refl }; tables = h.tables }
enable_in s false h = record { regs = h.regs; control = record { sync = h.control.sync; ibisync = h.control.ibisync; burst = h.control.burst }; tables = h.tables }

read_in : (s : View) (x : Row) → Before s → Keeps (read x s)
read_in s absent h = h
read_in s (shows f) h = h
read_in s (holds c) h = h
read_in s (pushes q) h = h
read_in s (takes q) h = of_take Keeps q s (λ e. h) (λ e. let c = clears_in q _ s.control h.control in record { regs = h.regs; control = record { sync = c.sync; ibisync = c.ibisync; burst = c.burst }; tables = h.tables })
read_in s enables h = h
read_in s acknowledges h = h

write_in : (s : View) (x : Row) (v : ℕ) → Before s → Keeps (write x s v)
write_in s absent v h = h
write_in s (shows f) v h = h
write_in s (holds c) v h = record { regs = stored_regs_lem c v s.regs h.regs; control = h.control; tables = stored_tables_lem c v s.tables h.tables }
write_in s (pushes q) v h = record { regs = h.regs; control = clears_in q true s.control h.control; tables = h.tables }
write_in s (takes q) v h = h
write_in s enables v h = enable_in s (bit 0 v) h
write_in s acknowledges v h = record { regs = h.regs; control = record { sync = h.control.sync; ibisync = h.control.ibisync; burst = h.control.burst }; tables = h.tables }

-- ── Every call ────────────────────────────────────────────────────────────────────────────────────────────────
next_in : (n : ℕ) → leb ((n + 1) % 256) 255 ≡ true
next_in n = le-leb ((n + 1) % 256) 255 (omega arith)

-- a burst that goes on stands below its length, which has four bits
stands_in : (s : View) → leb (cond (leb (span s.regs) s.control.burst) 0 (s.control.burst + 1)) 255 ≡ true
stands_in s = go (leb (span s.regs) s.control.burst) refl
  where
    go : (b : Bool) → leb (span s.regs) s.control.burst ≡ b → leb (cond b 0 (s.control.burst + 1)) 255 ≡ true
    go true e = refl
    go false e =
        let k = leb-false (s.regs.ops / 2 % 16) s.control.burst e in
        le-leb (s.control.burst + 1) 255 (omega arith)

types_kept : (s : View) (c : Call) → Before s → Keeps (decide s c)
unfolding start send receive finish interrupt request take_address trigger burst_send burst_receive burst_finish
types_kept s (Read o) h = read_in s (row (register_at o)) h
types_kept s (Write o v) h = write_in s (row (register_at o)) v h
types_kept s Start h = h
types_kept s Send h = of_two Keeps (bursting s.control) (burst_send s) (send s) (λ e. h) (λ e. h)
types_kept s (Receive b) h = of_two Keeps (bursting s.control) (burst_receive s b) (receive s b) (λ e. h) (λ e. h)
types_kept s (Finish code) h =
    let c = h.control in
    of_two Keeps (bursting s.control) (burst_finish s code) (finish s code)
    (λ e. record {
      regs = h.regs;
      control = record { sync = c.sync; ibisync = c.ibisync; burst = stands_in s };
      tables = record { flags = h.tables.flags; commands = h.tables.commands; payloads = h.tables.payloads };
    })
    (λ e. record { regs = h.regs; control = record { sync = next_in s.control.sync; ibisync = c.ibisync; burst = c.burst }; tables = h.tables })
types_kept s (Interrupt a b) h =
    let c = h.control in
    record { regs = h.regs; control = record { sync = c.sync; ibisync = next_in s.control.ibisync; burst = c.burst }; tables = h.tables }
types_kept s (Request v w) h =
    let c = h.control in
    record { regs = h.regs; control = record { sync = c.sync; ibisync = c.ibisync; burst = c.burst }; tables = h.tables }
types_kept s Take h =
    let c = h.control in
    record { regs = h.regs; control = record { sync = c.sync; ibisync = c.ibisync; burst = c.burst }; tables = h.tables }
types_kept s Trigger h =
    let c = h.control in
    record { regs = h.regs; control = record { sync = c.sync; ibisync = c.ibisync; burst = refl }; tables = h.tables }

-- ── A step ────────────────────────────────────────────────────────────────────────────────────────────────────
before : (l : Controller) → Typed l.bank → Before (view_rings l)
before l t =
    record {
      regs = record { id = t.id; mask = t.mask };
      control = record { sync = t.sync; ibisync = t.ibisync; burst = t.burst };
      tables = record { flags = t.flags; commands = t.commands; payloads = t.payloads };
    }

after : (l : Controller) (e : Effect) → After e → Typed (settle_rings l e).bank
after l e h =
    record {
      id = h.regs.id;
      mask = h.regs.mask;
      sync = h.control.sync;
      ibisync = h.control.ibisync;
      burst = h.control.burst;
      flags = h.tables.flags;
      commands = h.tables.commands;
      payloads = h.tables.payloads;
    }

pub step_typed : (l : Controller) (c : Call) → Typed l.bank → Typed (step rings l c).next.bank
step_typed l c t = by_outcome (λ r. Typed r.next.bank) l c (λ n k. t) (λ f z p. after l (effect (decide (view_rings l) c)) (types_kept (view_rings l) c (before l t)))

pub keeps_types : KeepsTypes
unfolding KeepsTypes
keeps_types b st o c h = typed_is _ (step_typed (controller b st o) c (typed_of b h))
