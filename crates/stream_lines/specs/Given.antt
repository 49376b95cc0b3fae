-- Contracts of records with their lines: what code gives, as the definitions have it.
use Rattle.std.specs.Prelude.{ℕ, List, [], take}
use Rattle.model.specs.View.{Tables}
use Rattle.answer.specs.Given.{bank_with, controller}
use Rattle.answer.specs.Memory.{Memory}
use Rattle.stream_model.specs.Stream.{RecordsPrinted, records_printed}
use Rattle.stream_lines.specs.declared.Lines.{Lines}
use Rattle.stream_lines.specs.declared.Shown.{Shown}

-- a result, with the tables, the store, the output and the text that the code left
abbrev pub shown_parts : Lines → Tables → List ℕ → List ℕ → RecordsPrinted
shown_parts r t s text = records_printed (controller (bank_with r.state r.heads t) s t.output) (take r.count text) r.wrong

abbrev pub shown_with : Lines → Memory → List ℕ → RecordsPrinted
shown_with r m text = shown_parts r m.tables m.store text

-- the same with an empty output, which stays empty
abbrev pub shown_bank : Shown → List ℕ → List ℕ → RecordsPrinted
shown_bank r s text = records_printed (controller r.bank s []) (take r.count text) r.wrong
