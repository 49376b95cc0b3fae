-- A number of 32 bits has ten digits at most.
use Rattle.std.proofs.Common.{arith}
use Rattle.sampling.proofs.Digits.{ten_digits}
use Rattle.sampling.proofs.decimal.Goals as goal

pub returns : goal.returns
returns c = ten_digits _ _ (omega arith) c.decimal.ensures.len
