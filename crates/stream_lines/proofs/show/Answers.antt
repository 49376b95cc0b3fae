-- The output that is lent is empty, and stays so.
use Rattle.std.proofs.Common.{arith}
use Rattle.stream_lines.proofs.Turns.{no_output}
use Rattle.stream_lines.proofs.show.Goals as goal

pub returns : goal.returns
returns c =
    let y = c.show_parts-y in
    (no_output _ y.result _ _ _ _ _ _ (omega arith) y.ensures.0, y.ensures.1)
