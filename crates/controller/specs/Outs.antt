-- What the interface gives: the bank that is put together from a state, its heads and its tables, and the answer.
use Rattle.model.specs.View.{Tables}
use Rattle.answer.specs.declared.Next.{Next}
use Rattle.answer.specs.declared.Out.{Out}
use Rattle.answer.specs.Given.{bank_with}

abbrev pub next_out : Next → Tables → Out
next_out y t = record { bank = bank_with y.state y.heads t; answer = y.answer }
