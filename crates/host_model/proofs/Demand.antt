-- Demand 3 along any list of a host's calls: those that its numbers name are the model's, the others change nothing and count for nothing.
use Prim.Native.Nat.{ℕ}
use native.Mathlib.Omega.{arith}
use mathlib.Core.Path.{◌≡◌, refl, ap, sym, subst, ◌∙◌}
use mathlib.Core.Bool.{Bool, true, false, cond}
use mathlib.Core.List.{List, [], ◌∷◌}
use mathlib.Core.Option.{Option, none, some}
use lib.Dec.{eqb}
use Rattle.bank.specs.declared.Bank.{Bank}
use Rattle.bank.specs.Fives.{Sizes}
use Rattle.bank.specs.SetUp.{set_up}
use Rattle.bank.specs.Formed.{well_formed}
use Rattle.model.specs.Engine.{Lent, step_lent, final}
use Rattle.model.specs.Rings.{Controller, rings}
use Rattle.model.specs.Laws.{StaysWellFormed, SetUpWellFormed, fresh_controller}
use Rattle.model.specs.Demand.{other, event, Tally, follow, tally, Demand}
use Rattle.model.proofs.Simulation.{stays_well_formed, set_up_well_formed}
use Rattle.model.proofs.Demand.{demand}
use Rattle.answer.specs.Given.{controller}
use Rattle.letters.specs.Named.{Parsed}
use Rattle.std.specs.Prelude.{Some, None}
use Rattle.playback_model.specs.Demand.{KeepsDemand}
use Rattle.image_model.specs.Image.{Kept, kept_of, bank_in, sized}
use Rattle.image_model.specs.Laws.{KeptIsRead}
use Rattle.image_model.proofs.Laws.{Typed, typed_is, kept_is_read}
use Rattle.host_model.specs.Host.{Fresh, set_up_in, call_of, Hosted, refusal, step_in}
use Rattle.host_model.specs.Demand.{Asked, event_of, Counted, counted, HostKeepsDemand}
use Rattle.host_model.proofs.Hosting.{set_up_done}
use Rattle.host_model.proofs.Types.{step_typed}
use Rattle.host_model.proofs.Along.{on_kept, fresh_typed}

-- ── The calls that are named ──────────────────────────────────────────────────────────────────────────────────
abbrev pub call_in : Asked → Parsed
call_in q = call_of q.letter q.offset q.first q.second

abbrev pub with_call : Parsed → List ℕ → List Lent → List Lent
with_call (Some c) o cs = record { output = o; call = c } ∷ cs
with_call None o cs = cs

abbrev pub named : List Asked → List Lent
named [] = []
named (q ∷ qs) = with_call (call_in q) q.output (named qs)

-- the model's tally of them, and what they left
abbrev by_model : Option Tally → Controller → List Lent → Counted
by_model o l cs = let f = final rings l cs in record { tally = tally rings o l cs; kept = kept_of f.bank; store = f.store }

nothing_counted : (o : Option Tally) → follow o other ≡ o
nothing_counted none = refl
nothing_counted (some t) = refl

-- numbers that name no call, on what is kept of a bank
pub unnamed : (b : Bank) (st o : List ℕ) → Typed b → well_formed b ≡ true → step_in None (kept_of b) st o ≡ refusal 27 (kept_of b) st o
unfolding step_in KeptIsRead
unnamed b st o t w = rw (kept_is_read b (typed_is b t) w).0

counts : (qs : List Asked) (o : Option Tally) (l : Controller) → Typed l.bank → well_formed l.bank ≡ true → counted o (kept_of l.bank) l.store qs ≡ by_model o l (named qs)
unfolding counted tally final StaysWellFormed
counts [] o l t w = refl
counts (q ∷ qs) o l t w = go (call_in q) (counts qs)
  where
    after : Parsed → Hosted → Counted
    after p h = counted (follow o (event_of p h.answer)) h.kept h.store qs

    go : (p : Parsed) → ((o : Option Tally) (l : Controller) → Typed l.bank → well_formed l.bank ≡ true → counted o (kept_of l.bank) l.store qs ≡ by_model o l (named qs))
        → after p (step_in p (kept_of l.bank) l.store q.output) ≡ by_model o l (with_call p q.output (named qs))
    go (Some c) rest =
        let m = rings.lend q.output l in
        let s = step_lent rings l (record { output = q.output; call = c }) in
        ap (after (Some c)) (on_kept l.bank l.store q.output c t w)
        ∙ rest (follow o (event c s.answer)) s.next (step_typed m c t) (stays_well_formed m c w)
    go None rest =
        ap (after None) (unnamed l.bank l.store q.output t w)
        ∙ ap (λ (x : Option Tally). counted x (kept_of l.bank) l.store qs) (nothing_counted o)
        ∙ rest o l t w

-- ── The last bank comes back out of what is kept ──────────────────────────────────────────────────────────────
pub stays : (cs : List Lent) (l : Controller) → Typed l.bank → well_formed l.bank ≡ true → (let b = (final rings l cs).bank in bank_in (kept_of b) ≡ b)
unfolding final StaysWellFormed KeptIsRead
stays [] l t w = (kept_is_read l.bank (typed_is l.bank t) w).1
stays (c ∷ cs) l t w = let m = rings.lend c.output l in stays cs (step_lent rings l c).next (step_typed m c.call t) (stays_well_formed m c.call w)

-- ── From a set-up ─────────────────────────────────────────────────────────────────────────────────────────────
pub answered_0 : (k : Kept) (caps marks : Sizes) (id : ℕ) → (set_up_in k caps marks id).number ≡ 0 → (sized k ≡ true) × ((set_up caps marks id).answer.number ≡ 0)
unfolding set_up_in
answered_0 k caps marks id z = go (sized k) refl z
  where
    done : Fresh
    done = let r = set_up caps marks id in let n = r.answer.number in record { number = n; kept = cond (eqb n 0) (kept_of r.bank) k }

    go : (b : Bool) → sized k ≡ b → (cond b done (record { number = 21; kept = k })).number ≡ 0 → (sized k ≡ true) × ((set_up caps marks id).answer.number ≡ 0)
    go true e z = (e, z)
    go false e z = absurd (omega (arith, z))

pub host_keeps_demand : HostKeepsDemand
unfolding HostKeepsDemand Demand SetUpWellFormed
host_keeps_demand k caps marks id store qs t z e =
    let n = answered_0 k caps marks id z in
    let l = fresh_controller caps marks id store in
    let cs = named qs in
    let f = final rings l cs in
    let typed = fresh_typed caps marks id n.1 in
    let formed = set_up_well_formed caps marks id n.1 in
    let r : counted none (set_up_in k caps marks id).kept store qs ≡ by_model none l cs =
    ap (λ (x : Fresh). counted none x.kept store qs) (sym (set_up_done k caps marks id n.0 n.1)) ∙ counts qs none l typed formed in
    subst (λ (x : Counted). KeepsDemand t (controller (bank_in x.kept) x.store [])) (sym r)
    (subst (λ (b : Bank). KeepsDemand t (controller b f.store [])) (sym (stays cs l typed formed))
    (demand caps marks id store cs t n.1 (sym (ap (λ (x : Counted). x.tally) r) ∙ e)))
