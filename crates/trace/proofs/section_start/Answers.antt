-- A refusal has a number, and by the definition the start is 0 then.
use Rattle.trace.proofs.Found.{none_starts}
use Rattle.trace.proofs.section_start.Goals as goal

pub returns-in-Err : goal.returns-in-Err
returns-in-Err c = none_starts c.args.file.now c.args.i c.in-Err.field-0 c.in-Err.ensures.number
