-- Each text is written behind those before it.
use Rattle.std.proofs.Common.{[]}
use Rattle.std.proofs.KnownBytes.{Appends-nil, Appends-trans}
use Rattle.trial_lines.proofs.Console.feed_all.Goals as goal

pub loop-init : goal.loop-init
loop-init g c = ([], Appends-nil _)

pub returns-then-n-eq0 : goal.returns-then-n-eq0
returns-then-n-eq0 g c = c.loop.invariant

pub loop-preserved : goal.loop-preserved
loop-preserved g c = (_, Appends-trans _ _ _ _ _ c.loop.invariant.1 c.in_ok-write_all.ensures.bytes)

pub returns : goal.returns
returns g c = c.loop.invariant
