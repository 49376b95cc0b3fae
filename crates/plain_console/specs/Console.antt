-- A console before its first byte.
use Rattle.model.specs.Cases.{worked_session}
use Rattle.plain_model.specs.PlainLaws.{headless}
use Rattle.trial_lines.specs.TestLines.{console_of}
use Rattle.trial_lines.specs.declared.Console.{Console}
use Rattle.plain_console.specs.declared.Plain.{Plain}

-- the session's bank without its heads, an output of ones of which no word is lent, and no line
abbrev pub fresh_console : Console Plain
fresh_console = console_of (record { bank = headless worked_session.bank })
