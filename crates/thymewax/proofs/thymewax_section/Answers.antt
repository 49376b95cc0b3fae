-- A place is told of the section that is found.
use Rattle.std.proofs.Common.{ap, ◌∙◌}
use Rattle.host_model.specs.Host.{Placed}
use Rattle.host_model.proofs.Hosting.{one_section, no_section}
use Rattle.thymewax.proofs.thymewax_section.Goals as goal

pub returns-in-Err : goal.returns-in-Err
returns-in-Err c = let a = c.args in no_section a.file.now a.i a.place.now _ _ c.from.ensures c.in-Err.ensures.number

pub returns : goal.returns
returns c =
    let a = c.args in
    let u = c.tell_place.ensures in
    let p = c.in-Ok.ensures.place in
    let e = one_section a.file.now a.i a.place.now _ _ _ c.in-Ok.ensures.number p.0 p.4 in
    (u.0 ∙ ap (λ (h : Placed). h.number) e, u.1 ∙ ap (λ (h : Placed). h.place) e)
