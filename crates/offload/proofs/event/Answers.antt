-- Events that an open burst refuses, and those that run it.
use Rattle.std.proofs.Common.{◌∙◌, sym, ap, Bool, cond}
use Rattle.model.specs.declared.Call.TheVariants.{Finish, Interrupt}
use Rattle.model.specs.Decision.{unchanged, ◌with_number◌, ◌⇒◌∣◌}
use Rattle.model.specs.Calls.{send, receive, finish, interrupt}
use Rattle.model.specs.Bursts.{misfit, short_in_burst, burst_or, burst_send, burst_receive, burst_finish}
use Rattle.model.proofs.Open.{in_burst}
use Rattle.tables.specs.Shown.{tables_seen}
use Rattle.effect.specs.Seen.{seen}
use Rattle.effect.proofs.Laws.{past, called}
use Rattle.trigger.proofs.Within.{inside, short_is}
use Rattle.offload.proofs.Barred.{bars_start, bars_interrupt, bars_request, bars_take, bars_trigger}
use Rattle.offload.proofs.event.Goals as goal

pub returns-in-Start : goal.returns-in-Start
returns-in-Start c = λ o f n i m.
    let a = c.args in
    let st = a.st in
    let ws = a.t.commands.now in
    let t = tables_seen a.t o in
    let s = seen st t f in
    let z = in_burst st.control st.regs st.phase ws c.requires.0 c.requires.1 in
    let lacks = short_is st a.t.flags.now ws a.t.payloads.now o f a.len c.requires.0 n in
    called s _ _ _ c.in-Start.is (c.bar_event.ensures t f ∙ ap (λ (b : Bool). unchanged s with_number cond b 13 (cond st.control.held 5 6)) lacks ∙ bars_start s z.0)

pub returns-in-Send : goal.returns-in-Send
returns-in-Send c = λ o f n i m.
    let a = c.args in
    let st = a.st in
    let ws = a.t.commands.now in
    let t = tables_seen a.t o in
    let s = seen st t f in
    called s _ _ _ c.in-Send.is (inside s burst_send send _ c.requires.0 (c.send.ensures a.t.flags.now o f n))

pub returns-in-Receive : goal.returns-in-Receive
returns-in-Receive c = λ o f n i m.
    let a = c.args in
    let st = a.st in
    let ws = a.t.commands.now in
    let t = tables_seen a.t o in
    let s = seen st t f in
    called s _ _ _ c.in-Receive.is (inside s (λ v. burst_receive v _) (λ v. receive v _) _ c.requires.0 (c.receive.ensures a.t.flags.now a.t.payloads.now o f n))

pub returns-in-Finish : goal.returns-in-Finish
returns-in-Finish c = λ o f n i m.
    let a = c.args in
    let st = a.st in
    let ws = a.t.commands.now in
    let t = tables_seen a.t o in
    let s = seen st t f in
    let k = c.in-Finish.code in
    let e = inside s (λ v. burst_finish v k) (λ v. finish v k) _ c.requires.0 (c.finish.ensures a.t.payloads.now o f n) in
    called s _ _ _ c.in-Finish.is (past s (λ v. misfit (Finish k)) 18 (λ v. burst_or v (burst_finish v k) (finish v k)) _ (sym (ap misfit c.in-Finish.is) ∙ m) e)

pub returns-in-Interrupt : goal.returns-in-Interrupt
returns-in-Interrupt c = λ o f n i m.
    let a = c.args in
    let st = a.st in
    let ws = a.t.commands.now in
    let t = tables_seen a.t o in
    let s = seen st t f in
    let z = in_burst st.control st.regs st.phase ws c.requires.0 c.requires.1 in
    let lacks = short_is st a.t.flags.now ws a.t.payloads.now o f a.len c.requires.0 n in
    let d = c.in-Interrupt.field-0 in
    let k = c.in-Interrupt.field-1 in
    let e = c.bar_event-in-Interrupt.ensures t f ∙ ap (λ (b : Bool). unchanged s with_number cond b 13 (cond st.control.held 5 6)) lacks ∙ bars_interrupt s z.0 d k in
    called s _ _ _ c.in-Interrupt.is (past s (λ v. misfit (Interrupt d k)) 18 (λ v. short_in_burst v ⇒ 13 ∣ interrupt v d k) _ (sym (ap misfit c.in-Interrupt.is) ∙ m) e)

pub returns-in-Request : goal.returns-in-Request
returns-in-Request c = λ o f n i m.
    let a = c.args in
    let st = a.st in
    let ws = a.t.commands.now in
    let t = tables_seen a.t o in
    let s = seen st t f in
    let z = in_burst st.control st.regs st.phase ws c.requires.0 c.requires.1 in
    let lacks = short_is st a.t.flags.now ws a.t.payloads.now o f a.len c.requires.0 n in
    called s _ _ _ c.in-Request.is (c.bar_event-in-Request.ensures t f ∙ ap (λ (b : Bool). unchanged s with_number cond b 13 (cond st.control.held 5 10)) lacks ∙ bars_request s z.0 z.1 _ _)

pub returns-in-Take : goal.returns-in-Take
returns-in-Take c = λ o f n i m.
    let a = c.args in
    let st = a.st in
    let ws = a.t.commands.now in
    let t = tables_seen a.t o in
    let s = seen st t f in
    let z = in_burst st.control st.regs st.phase ws c.requires.0 c.requires.1 in
    let lacks = short_is st a.t.flags.now ws a.t.payloads.now o f a.len c.requires.0 n in
    called s _ _ _ c.in-Take.is (c.bar_event-in-Take.ensures t f ∙ ap (λ (b : Bool). unchanged s with_number cond b 13 (cond st.control.held 5 10)) lacks ∙ bars_take s z.0 z.1)

pub returns-in-Trigger : goal.returns-in-Trigger
returns-in-Trigger c = λ o f n i m.
    let a = c.args in
    let st = a.st in
    let ws = a.t.commands.now in
    let t = tables_seen a.t o in
    let s = seen st t f in
    let z = in_burst st.control st.regs st.phase ws c.requires.0 c.requires.1 in
    let lacks = short_is st a.t.flags.now ws a.t.payloads.now o f a.len c.requires.0 n in
    called s _ _ _ c.in-Trigger.is (c.bar_event-in-Trigger.ensures t f ∙ ap (λ (b : Bool). unchanged s with_number cond b 13 (cond st.control.held 5 6)) lacks ∙ bars_trigger s z.0)
