-- Along a list of calls a host has what the model has: a bank that a call left stays in its types and well formed, so it comes back out of what is kept.
use Prim.Native.Nat.{ℕ}
use mathlib.Core.Path.{◌≡◌, refl, ap, sym, subst, ◌∙◌}
use mathlib.Core.Bool.{true}
use mathlib.Core.List.{List, [], ◌∷◌}
use lib.Dec.{leb}
use Rattle.bank.specs.declared.Bank.{Bank}
use Rattle.bank.specs.Fives.{Sizes}
use Rattle.bank.specs.SetUp.{sizes_ok, bank_of, set_up}
use Rattle.bank.specs.Formed.{well_formed}
use Rattle.bank.proofs.Bools.{and-true}
use Rattle.bank.proofs.Laws.{in_range, bank_is}
use Rattle.model.specs.declared.Call.{Call}
use Rattle.model.specs.Engine.{Lent, step, step_lent, final, answers}
use Rattle.model.specs.Rings.{Controller, rings}
use Rattle.model.specs.Laws.{StaysWellFormed, SetUpWellFormed, fresh_controller}
use Rattle.model.proofs.Simulation.{stays_well_formed, set_up_well_formed}
use Rattle.answer.specs.Given.{controller}
use Rattle.std.specs.Prelude.{Some}
use Rattle.image_model.specs.Image.{kept_of}
use Rattle.image_model.specs.Laws.{KeptIsRead}
use Rattle.image_model.proofs.Laws.{Typed, typed_of, typed_is, kept_is_read}
use Rattle.host_model.specs.Host.{Fresh, Hosted, hosted, step_in}
use Rattle.host_model.specs.Along.{Ran, ran, host_ran, model_ran, HostedAlong, HostedFromSetUp}
use Rattle.host_model.proofs.Hosting.{set_up_done}
use Rattle.host_model.proofs.Types.{step_typed}

-- one call on what is kept of a bank
pub on_kept : (b : Bank) (st o : List ℕ) (c : Call) → Typed b → well_formed b ≡ true → step_in (Some c) (kept_of b) st o ≡ hosted (step rings (controller b st o) c)
unfolding step_in KeptIsRead
on_kept b st o c t w =
    let k = kept_is_read b (typed_is b t) w in
    rw k.0 (ap (λ (x : Bank). hosted (step rings (controller x st o) c)) k.1)

along : (cs : List Lent) (l : Controller) → Typed l.bank → well_formed l.bank ≡ true → host_ran (kept_of l.bank) l.store cs ≡ model_ran l cs
unfolding host_ran final answers StaysWellFormed
along [] l t w = refl
along (c ∷ cs) l t w =
    let m = rings.lend c.output l in
    let s = step_lent rings l c in
    ap (λ (h : Hosted). let r = host_ran h.kept h.store cs in ran (h.answer ∷ r.answers) r.kept r.store) (on_kept l.bank l.store c.output c.call t w)
    ∙ ap (λ (r : Ran). ran (s.answer ∷ r.answers) r.kept r.store) (along cs s.next (step_typed m c.call t) (stays_well_formed m c.call w))

pub hosted_along : HostedAlong
unfolding HostedAlong
hosted_along l cs t w = along cs l (typed_of l.bank t) w

-- the bank of a set-up answered 0
pub fresh_typed : (caps marks : Sizes) (id : ℕ) → (set_up caps marks id).answer.number ≡ 0 → Typed (set_up caps marks id).bank
fresh_typed caps marks id z =
    let i = (and-true (leb id 255) (sizes_ok caps marks) (in_range caps marks id z)).0 in
    let t : Typed (bank_of caps marks true id) = record { id = i; mask = refl; sync = refl; ibisync = refl; burst = refl; flags = refl; commands = refl; payloads = refl } in
    subst Typed (sym (bank_is caps marks id z)) t

pub hosted_from_set_up : HostedFromSetUp
unfolding HostedFromSetUp SetUpWellFormed
hosted_from_set_up k caps marks id store cs n z =
    ap (λ (f : Fresh). host_ran f.kept store cs) (sym (set_up_done k caps marks id n z))
    ∙ along cs (fresh_controller caps marks id store) (fresh_typed caps marks id z) (set_up_well_formed caps marks id z)
