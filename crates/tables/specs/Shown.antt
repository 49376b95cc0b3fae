-- Contracts of decisions: what the tables of a bank show, with any output lent beside them.
use Rattle.std.specs.Prelude.{List, ℕ}
use Rattle.model.specs.View as view
use Rattle.model.specs.View.{tables}
use Rattle.tables.specs.declared.Tables.{Tables}

abbrev pub tables_seen : Tables → List ℕ → view.Tables
tables_seen t o = tables t.flags.now t.commands.now t.payloads.now o
