-- The fold of the flags is their largest.
use Rattle.std.proofs.Common.{rules, ◌≡◌, ◌∙◌, ap, ℕ, max, fold}
use Rattle.std.proofs.iter.runs.Made.{chains}
use Rattle.std.proofs.Math.Dec.{ltb}
use Rattle.formed_ranges.proofs.Largest.{flags_from}
use Rattle.formed_ranges.proofs.flags_ok.Goals as goal

pub returns : goal.returns
returns c =
    let largest : c.fold.result ≡ fold max 0 c.args.flags.now = search (rules, chains) in
    ap (λ (n : ℕ). ltb n 8) largest ∙ flags_from 0 c.args.flags.now
