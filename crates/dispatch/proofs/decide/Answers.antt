-- `dispatch::decide`: refused with 18, or the event of an open burst.
use Rattle.std.proofs.Common.{rules, ◌∙◌}
use Rattle.bank.specs.Bursts.{bursting}
use Rattle.tables.specs.Shown.{tables_seen}
use Rattle.effect.specs.Seen.{seen}
use Rattle.calls.proofs.Tests.{misfits, in_burst}
use Rattle.dispatch.proofs.decide.Goals as goal

pub returns-then-is_misfit : goal.returns-then-is_misfit
returns-then-is_misfit g c =
    let a = c.args in
    λ o f w n.
    let t = tables_seen a.t o in
    c.refused.ensures t f ∙ misfits (seen a.st t f) a.call (search rules)

pub returns-then-is_bursting-is_event : goal.returns-then-is_bursting-is_event
returns-then-is_bursting-is_event g c =
    let a = c.args in
    λ o f w n. c.event.ensures o f n (in_burst (bursting a.st.control) a.call (search rules)).1 (search rules)
