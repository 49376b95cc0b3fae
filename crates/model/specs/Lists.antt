-- The list engine: a queue is the list of its words, first word first. It decides as the ring engine does, but has
-- no 21 and 22. Proofs use it, and no promise rests on it.
use Rattle.std.specs.Prelude.{ℕ, List, [], ◌∷◌, ◌++◌, length, get_or, drop}
use Rattle.bank.specs.declared.Regs.{Regs}
use Rattle.bank.specs.declared.Control.{Control}
use Rattle.bank.specs.declared.Phase.{Phase}
use Rattle.model.specs.View.{QueueView, Tables, View}
use Rattle.queues.specs.declared.Five.{Five}
use Rattle.queues.specs.Each.{each}
use Rattle.model.specs.Decision.{QueueOp, keep, clear, take, push, push2, Effect}
use Rattle.model.specs.Engine.{Engine}

pub record ListQueue : Type 0 where
  pub cap : ℕ
  pub words : List ℕ

pub record Lists : Type 0 where
  pub regs : Regs
  pub control : Control
  pub phase : Phase
  pub tables : Tables
  pub queues : Five ListQueue

abbrev pub view_list : ListQueue → QueueView
view_list q = record { cap = q.cap; level = length q.words; first = get_or q.words 0 0; second = get_or q.words 1 0 }

abbrev pub view_lists : Lists → View
view_lists l =
    let q = l.queues in
    record { regs = l.regs; control = l.control; phase = l.phase; tables = l.tables; queues = each (view_list q.cmd) (view_list q.cmdr) (view_list q.sdo) (view_list q.sdi) (view_list q.ibi) }

abbrev pub on_words : QueueOp → List ℕ → List ℕ
on_words keep ws = ws
on_words clear ws = []
on_words (take k) ws = drop k ws
on_words (push w) ws = ws ++ (w ∷ [])
on_words (push2 v w) ws = ws ++ (v ∷ w ∷ [])

abbrev pub on_list : QueueOp → ListQueue → ListQueue
on_list o q = record { cap = q.cap; words = on_words o q.words }

abbrev pub settle_lists : Lists → Effect → Lists
settle_lists l e =
    let o = e.ops in
    let q = l.queues in
    record { regs = e.regs; control = e.control; phase = e.phase; tables = e.tables; queues = each (on_list o.cmd q.cmd) (on_list o.cmdr q.cmdr) (on_list o.sdo q.sdo) (on_list o.sdi q.sdi) (on_list o.ibi q.ibi) }

abbrev pub lent_tables : List ℕ → Tables → Tables
lent_tables o t = record { flags = t.flags; commands = t.commands; payloads = t.payloads; output = o }

abbrev pub lists : Engine Lists
lists = record { view = view_lists; guard = λ l d. d; settle = settle_lists; lend = λ o l. record { regs = l.regs; control = l.control; phase = l.phase; tables = lent_tables o l.tables; queues = l.queues } }
