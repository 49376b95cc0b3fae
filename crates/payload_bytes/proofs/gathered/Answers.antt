-- The part word with one byte more fits a word.
use Rattle.std.proofs.Common.{◌%◌, arith}
use Rattle.payload_bytes.proofs.Weights.{word_fits}
use Rattle.payload_bytes.proofs.gathered.Goals as goal

pub overflow_add-result : goal.overflow_add-result
overflow_add-result c =
    let a = c.args in
    rw c.weight.ensures.0 (record { fits = word_fits (a.moved % 4) a.part a.byte (omega arith) c.requires c.ranges.part.fits c.ranges.byte.fits })
