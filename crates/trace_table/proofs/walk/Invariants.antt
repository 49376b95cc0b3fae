-- Both results say what they should of the sections so far.
use Rattle.std.proofs.Common.{◌≡◌, ◌+◌, ◌*◌, ◌≤◌}
use Rattle.trace_model.specs.Format.{section_place, starts_right}
use Rattle.trace_table.proofs.walk.Given as goal

abbrev pub invariant-loop-i : goal.invariant-loop-i
invariant-loop-i l = record {
  right : l.right ≡ starts_right l.file l.i;
  place : l.end ≡ section_place l.file l.i;
  bound : l.end ≤ 518 + 51539607552 * l.i;
}
