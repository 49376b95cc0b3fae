-- The plain engine: a bank without heads, the store with its queues, and the output. It decides as the ring engine does; where a
-- word lies is its own.
use Rattle.std.specs.Prelude.{ℕ, Bool, List, get_or}
use Rattle.bank.specs.declared.State.{State}
use Rattle.bank.specs.declared.Bank.{Bank}
use Rattle.bank.specs.SetUp.{no_heads}
use Rattle.bank.specs.Formed.{well_formed}
use Rattle.model.specs.View.{QueueView, View}
use Rattle.queues.specs.Each.{each}
use Rattle.model.specs.Decision.{Effect, Decision}
use Rattle.model.specs.Engine.{Engine}
use Rattle.model.specs.Rings.{Controller, guard_rings}
use Rattle.plain_model.specs.declared.PlainBank.{PlainBank}
use Rattle.plain_model.specs.declared.PlainArea.{PlainArea}
use Rattle.plain_model.specs.Areas.{plain_areas, plain_words}
use Rattle.plain_model.specs.Moves.{on_levels, on_plain_stores}

pub record Plain : Type 0 where
  pub bank : PlainBank
  pub store : List ℕ
  pub output : List ℕ

-- ── What it shows ─────────────────────────────────────────────────────────────────────────────────────────────
abbrev pub view_plain_area : PlainArea → List ℕ → QueueView
view_plain_area a st = record { cap = a.cap; level = a.level; first = get_or (plain_words a st) 0 0; second = get_or (plain_words a st) 1 0 }

abbrev pub view_plain : Plain → View
view_plain p =
    let b = p.bank in
    let st = p.store in
    let a = plain_areas b.state.caps b.state.levels in
    record {
      regs = b.state.regs;
      control = b.state.control;
      phase = b.state.phase;
      tables = record { flags = b.flags; commands = b.commands; payloads = b.payloads; output = p.output };
      queues = each (view_plain_area a.cmd st) (view_plain_area a.cmdr st) (view_plain_area a.sdo st) (view_plain_area a.sdi st) (view_plain_area a.ibi st);
    }

-- ── What an effect does ───────────────────────────────────────────────────────────────────────────────────────
abbrev pub state_after : State → Effect → State
state_after s e = record { caps = s.caps; levels = on_levels e.ops s.levels; regs = e.regs; control = e.control; phase = e.phase }

abbrev pub settle_plain : Plain → Effect → Plain
settle_plain p e =
    let s = p.bank.state in
    record {
      bank = record { state = state_after s e; flags = e.tables.flags; commands = e.tables.commands; payloads = e.tables.payloads };
      store = on_plain_stores e.ops (plain_areas s.caps s.levels) p.store;
      output = e.tables.output;
    }

-- ── 21 and 22: `plain.tests` ──────────────────────────────────────────────────────────────────────────────────
-- a plain bank, and all that the engine has, with heads that are all 0: what the tests of rings ask of a bank is asked of it
abbrev pub headed : PlainBank → Bank
headed b = record { state = b.state; heads = no_heads; flags = b.flags; commands = b.commands; payloads = b.payloads }

abbrev pub headed_plain : Plain → Controller
headed_plain p = record { bank = headed p.bank; store = p.store; output = p.output }

abbrev pub plain_formed : PlainBank → Bool
plain_formed b = well_formed (headed b)

abbrev pub guard_plain : Plain → Decision → Decision
guard_plain p d = guard_rings (headed_plain p) d

abbrev pub plain : Engine Plain
plain = record { view = view_plain; guard = guard_plain; settle = settle_plain; lend = λ o p. record { bank = p.bank; store = p.store; output = o } }
