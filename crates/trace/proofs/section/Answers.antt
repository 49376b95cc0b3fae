-- A refusal has a number, and by the definition there are no records then.
use Rattle.std.proofs.Common.{refl, arith}
use Rattle.trace.proofs.Found.{none_handed, none_starts}
use Rattle.trace.proofs.section.Goals as goal

pub returns-in-Err-clause-result_value : goal.returns-in-Err-clause-result_value
returns-in-Err-clause-result_value c = none_handed c.args.file.now c.args.i c.in-Err.field-0 c.in-Err.ensures.number

pub returns-in-Err-clause-uncopied : goal.returns-in-Err-clause-uncopied
returns-in-Err-clause-uncopied c =
    let none = none_starts c.args.file.now c.args.i c.in-Err.field-0 c.in-Err.ensures.number in
    (refl, omega (arith, none))
