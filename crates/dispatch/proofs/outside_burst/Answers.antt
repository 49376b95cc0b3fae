-- `dispatch::outside_burst`: each call by its own decision.
use Rattle.std.proofs.Common.{ap, refl, sym, ◌∙◌}
use borrow.Author.Tests.{ltb-false}
use Rattle.registers.specs.declared.Register.{Register}
use Rattle.model.specs.View.{View}
use Rattle.model.specs.Registers.{row, write}
use Rattle.model.specs.Bursts.{misfit}
use Rattle.model.proofs.Open.{direct_of}
use Rattle.effect.specs.Effects.{verdict}
use Rattle.tables.specs.Shown.{tables_seen}
use Rattle.effect.specs.Seen.{seen}
use Rattle.calls.proofs.Tests.{no_burst}
use Rattle.dispatch.proofs.Laws.{decided_by}
use Rattle.dispatch.proofs.outside_burst.Goals as goal

pub receive-requires : goal.receive-requires
receive-requires g c =
    let a = c.args in
    direct_of a.st.control a.st.regs a.st.phase a.t.commands.now (no_burst _ _ _ c.in-Receive.is refl c.requires.2) c.requires.0

pub finish-requires : goal.finish-requires
finish-requires g c =
    let a = c.args in (
      direct_of a.st.control a.st.regs a.st.phase a.t.commands.now (no_burst _ _ _ c.in-Finish.is refl c.requires.2) c.requires.0,
      ltb-false 15 _ (sym (ap misfit c.in-Finish.is) ∙ c.requires.1),
    )

pub returns-in-Read : goal.returns-in-Read
returns-in-Read g c =
    let a = c.args in
    λ o f w n.
    let t = tables_seen a.t o in
    decided_by (seen a.st t f) _ _ _ c.in-Read.is c.requires.1 c.requires.2 (c.read_at.ensures o f w)

pub returns-in-Write : goal.returns-in-Write
returns-in-Write g c =
    let a = c.args in
    λ o f w n.
    let t = tables_seen a.t o in
    decided_by (seen a.st t f) _ _ _ c.in-Write.is c.requires.1 c.requires.2 (c.write.ensures t f ∙ ap (λ (r : Register). verdict (λ (x : View). write (row r) x c.in-Write.v) (seen a.st t f)) c.register_at.ensures)

pub returns-in-Start : goal.returns-in-Start
returns-in-Start g c =
    let a = c.args in
    λ o f w n.
    let t = tables_seen a.t o in
    decided_by (seen a.st t f) _ _ _ c.in-Start.is c.requires.1 c.requires.2 (c.start.ensures a.t.commands.now a.t.payloads.now o f (c.first.ensures f w) (c.second.ensures f w))

pub returns-in-Send : goal.returns-in-Send
returns-in-Send g c =
    let a = c.args in
    λ o f w n.
    let t = tables_seen a.t o in
    decided_by (seen a.st t f) _ _ _ c.in-Send.is c.requires.1 c.requires.2 (c.send.ensures t f (c.first-in-Send.ensures f w))

pub returns-in-Receive : goal.returns-in-Receive
returns-in-Receive g c =
    let a = c.args in
    λ o f w n.
    let t = tables_seen a.t o in
    decided_by (seen a.st t f) _ _ _ c.in-Receive.is c.requires.1 c.requires.2 (c.receive.ensures t f)

pub returns-in-Finish : goal.returns-in-Finish
returns-in-Finish g c =
    let a = c.args in
    λ o f w n.
    let t = tables_seen a.t o in
    decided_by (seen a.st t f) _ _ _ c.in-Finish.is c.requires.1 c.requires.2 (c.finish.ensures t f)

pub returns-in-Interrupt : goal.returns-in-Interrupt
returns-in-Interrupt g c =
    let a = c.args in
    λ o f w n.
    let t = tables_seen a.t o in
    decided_by (seen a.st t f) _ _ _ c.in-Interrupt.is c.requires.1 c.requires.2 (c.interrupt.ensures a.t.commands.now a.t.payloads.now o f)

pub returns-in-Request : goal.returns-in-Request
returns-in-Request g c =
    let a = c.args in
    λ o f w n.
    let t = tables_seen a.t o in
    decided_by (seen a.st t f) _ _ _ c.in-Request.is c.requires.1 c.requires.2 (c.request.ensures t f)

pub returns-in-Take : goal.returns-in-Take
returns-in-Take g c =
    let a = c.args in
    λ o f w n.
    let t = tables_seen a.t o in
    decided_by (seen a.st t f) _ _ _ c.in-Take.is c.requires.1 c.requires.2 (c.take_address.ensures t f (c.first-in-Take.ensures f w))

pub returns-in-Trigger : goal.returns-in-Trigger
returns-in-Trigger g c =
    let a = c.args in
    λ o f w n.
    let t = tables_seen a.t o in
    decided_by (seen a.st t f) _ _ _ c.in-Trigger.is c.requires.1 c.requires.2 (c.trigger.ensures a.t.payloads.now o f n)
