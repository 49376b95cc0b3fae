-- Contracts of decisions: what code gives, as an effect of the model, and what a definition decides, as one effect.
use Rattle.std.specs.Prelude.{ℕ, cond, set}
use Rattle.std.proofs.Math.Option.{Option, none, some}
use Rattle.model.specs.View.{Tables, tables, View}
use Rattle.queues.specs.declared.Five.{Five}
use Rattle.queues.specs.Each.{each}
use Rattle.model.specs.Decision.{QueueOp, keep, clear, take, push, push2, keep_all, Effect, Decision, does, ◌⇒◌∣◌, first, effect, unchanged, ◌with_number◌}
use Rattle.effect.specs.declared.Table.{Table}
use Rattle.effect.specs.declared.Table.TheVariants.{Same, Flags, Command, Payload, Output}
use Rattle.effect.specs.declared.Effect as code
use Rattle.effect.specs.Ops.{ops_of}

-- ── What code gives ───────────────────────────────────────────────────────────────────────────────────────────
unfoldable pub tables_by : Table → Tables → Tables
tables_by Same t = t
tables_by (Flags i v) t = tables (set t.flags i v) t.commands t.payloads t.output
tables_by (Command i v) t = tables t.flags (set t.commands i v) t.payloads t.output
tables_by (Payload i v) t = tables t.flags t.commands (set t.payloads i v) t.output
tables_by (Output i v) t = tables t.flags t.commands t.payloads (set t.output i v)

abbrev pub effect_of : code.Effect → Tables → Effect
effect_of e t = record { value = e.answer.value; number = e.answer.number; regs = e.state.regs; control = e.state.control; phase = e.state.phase; tables = tables_by e.table t; ops = ops_of e.ops }

-- ── What a definition decides ─────────────────────────────────────────────────────────────────────────────────
abbrev pub verdict_by : Option ℕ → View → Effect → Effect
verdict_by (some n) s e = unchanged s with_number n
verdict_by none s e = e

-- a decision as one effect: a refusal changes nothing (`answer.refusal`)
unfoldable pub verdict : (View → Decision) → View → Effect
verdict d s = verdict_by (first (d s)) s (effect (d s))

-- `answer.order`: the number of the first test that holds, 0 where none does
abbrev pub number : Decision → ℕ
number (does e) = 0
number (b ⇒ n ∣ d) = cond b n (number d)
