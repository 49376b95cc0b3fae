-- The bus events, outside a burst and inside, keep tally and ledger tied to the lists.
use Prim.Native.Nat.{ℕ, ◌+◌, ◌-◌, ◌*◌, ◌/◌, ◌%◌, ◌^◌, min}
use native.Mathlib.Omega.{arith}
use mathlib.Core.Path.{◌≡◌, refl, ap, sym, ◌∙◌, subst}
use mathlib.Core.Bool.{Bool, true, false, cond, ◌&&◌, ◌||◌, true≢false}
use mathlib.Core.List.{List, [], ◌∷◌, ◌++◌, append-nil}
use mathlib.Core.Option.{Option, none, some}
use lib.Dec.{eqb}
use lib.ListN.{length, drop, get_or}
use borrow.Author.Tests.{eqb-true, eqb-false}
use Rattle.ring.specs.Units.{bytes, words_for}
use Rattle.bank.specs.declared.Transfer.{Transfer}
use Rattle.bank.specs.declared.Phase.{Phase}
use Rattle.bank.specs.declared.Phase.TheVariants.{Idle, Writing, Reading}
use Rattle.bank.specs.Phases.{idle, writing, transfer}
use Rattle.model.specs.Decision.{keep, take, push}
use Rattle.model.specs.Commands.{Command, length_of, begun}
use Rattle.model.specs.Calls.{advanced, first_of_word, last_of_word, padded, removes}
use Rattle.model.specs.Lists.{on_words}
use Rattle.model.specs.Demand.{Run, Tally, opt, cut, taken_words, change, new_run}
use Rattle.data_model.specs.Ledger.{DataRun, Ledger, sending, receiving, finishing, grow, if_open, new_data_run, outside_run}
use Rattle.model.proofs.Invariant.{OpenIn, OrderOk}
use Rattle.model.proofs.ListDemand.{all_commands}
use Rattle.data_model.proofs.Flow.{Flow, removing, flow_start, flow_first, flow_next, flow_gather, flow_fill, flow_finish}
use Rattle.data_model.proofs.Books.{AlikeRun, Alike, AlikeNow, alike_new, alike_length, alike_append, alike_opt, FlowIn, Both, dropped, pushed, tail_packed}

-- ── A byte, as the model decides ──────────────────────────────────────────────────────────────────────────────
module _ (past : List DataRun) (cs : List Command) (took gave : List ℕ) (d : DataRun) (n : ℕ) (t : Transfer) where
  pub send_flow : (sdo sdi : List ℕ) → (first_of_word t && eqb (length sdo) 0) ≡ false → Flow past (some d) cs (Writing t) took sdo gave sdi
      → (let w = cond (first_of_word t) (get_or sdo 0 0) t.part in Flow past (some (grow n (sending (w / 2 ^ 24 % 256)) d)) cs (Writing (advanced t (w % 2 ^ 24 * 2 ^ 8))) took (on_words (cond (first_of_word t) (take 1) keep) sdo) gave sdi)
  send_flow sdo sdi e f = go (first_of_word t) refl sdo e f
    where
      go : (b : Bool) → eqb (t.moved.0 % 4) 0 ≡ b → (sdo : List ℕ) → (b && eqb (length sdo) 0) ≡ false → Flow past (some d) cs (Writing t) took sdo gave sdi
          → (let w = cond b (get_or sdo 0 0) t.part in Flow past (some (grow n (sending (w / 2 ^ 24 % 256)) d)) cs (Writing (advanced t (w % 2 ^ 24 * 2 ^ 8))) took (on_words (cond b (take 1) keep) sdo) gave sdi)
      go true z [] e f = absurd (true≢false e)
      go true z (w ∷ sdo) e f = flow_first past cs took gave d n t w sdo sdi (eqb-true (t.moved.0 % 4) 0 z) f
      go false z sdo e f = flow_next past cs took gave d n t sdo sdi (eqb-false (t.moved.0 % 4) 0 z) f

  pub receive_flow : (b : ℕ) (sdo sdi : List ℕ) → Flow past (some d) cs (Reading t) took sdo gave sdi
      → (let w = t.part + b * 2 ^ (24 - 8 * (t.moved.0 % 4)) in Flow past (some (grow n (receiving b) d)) cs (Reading (advanced t (cond (last_of_word t) 0 w))) took sdo gave (on_words (cond (last_of_word t) (push w) keep) sdi))
  receive_flow b sdo sdi f = go (last_of_word t) refl
    where
      w : ℕ
      w = t.part + b * 2 ^ (24 - 8 * (t.moved.0 % 4))

      go : (z : Bool) → eqb (t.moved.0 % 4) 3 ≡ z → Flow past (some (grow n (receiving b) d)) cs (Reading (advanced t (cond z 0 w))) took sdo gave (on_words (cond z (push w) keep) sdi)
      go true e = flow_fill past cs took gave d n t b sdo sdi (eqb-true (t.moved.0 % 4) 3 e) f
      go false e = flow_gather past cs took gave d n t b sdo sdi (eqb-false (t.moved.0 % 4) 3 e) f

-- ── The open run in both books ────────────────────────────────────────────────────────────────────────────────
abbrev pub with_now : Tally → Option Run → Tally
with_now t n = record { words = t.words; past = t.past; now = n; receipts = t.receipts }

abbrev pub with_run : Ledger → Option DataRun → Ledger
with_run x n = record { cmd = x.cmd; sdo = x.sdo; sdi = x.sdi; past = x.past; now = n; astray = x.astray }

-- a byte or an address moves the open run in both
pub move_both :
    (t : Tally) (x : Ledger) (p p' : Phase) (sdo sdo' sdi sdi' : List ℕ) (here : List Command) (f : Run → Run) (g : DataRun → DataRun)
    → ((r : Run) (d : DataRun) → AlikeRun r d → AlikeRun (f r) (g d)) → idle p ≡ false → OpenIn t.now p here
    → ((d : DataRun) → FlowIn x (some d) p sdo sdi → FlowIn x (some (g d)) p' sdo' sdi') → Both t x p sdo sdi
    → Both (with_now t (change f t.now)) (with_run x (if_open g x.now)) p' sdo' sdi'
move_both t x p p' sdo sdo' sdi sdi' here f g fg i o s h = let z = go t.now x.now h.nows o h.flow in record { cmds = h.cmds; pasts = h.pasts; nows = z.0; strays = h.strays; flow = z.1 }
  where
    go : (a : Option Run) (b : Option DataRun) → AlikeNow a b → OpenIn a p here → FlowIn x b p sdo sdi → AlikeNow (change f a) (if_open g b) × FlowIn x (if_open g b) p' sdo' sdi'
    go none b n o k = absurd (true≢false (sym o.0 ∙ i))
    go (some r) none n o k = absurd n
    go (some r) (some d) n o k = (fg r d n, s d k)

-- a request or a take does not stray: a run is open
pub in_run : (t : Tally) (x : Ledger) (p : Phase) (sdo sdi : List ℕ) (here : List Command) → idle p ≡ false → OpenIn t.now p here → Both t x p sdo sdi → x.astray ≡ x.astray + outside_run x.now
in_run t x p sdo sdi here i o h = go t.now x.now o h.nows
  where
    go : (a : Option Run) (b : Option DataRun) → OpenIn a p here → AlikeNow a b → x.astray ≡ x.astray + outside_run b
    go none b o n = absurd (true≢false (sym o.0 ∙ i))
    go (some r) none o n = absurd n
    go (some r) (some d) o n = omega arith

pub astray_both : (t : Tally) (x : Ledger) (k : ℕ) (p : Phase) (sdo sdi : List ℕ) → x.astray ≡ k → Both t x p sdo sdi → Both t (record { cmd = x.cmd; sdo = x.sdo; sdi = x.sdi; past = x.past; now = x.now; astray = k }) p sdo sdi
astray_both t x k p sdo sdi e h = record { cmds = h.cmds; pasts = h.pasts; nows = h.nows; strays = sym e ∙ h.strays; flow = h.flow }

-- where no transfer is open, no run is
pub no_runs : (a : Option Run) (b : Option DataRun) (p : Phase) (here : List Command) → idle p ≡ true → OpenIn a p here → AlikeNow a b → (a ≡ none) × (b ≡ none)
no_runs none none p here i o n = (refl, refl)
no_runs none (some d) p here i o n = absurd n
no_runs (some r) b p here i o n = absurd (true≢false (sym i ∙ o.state.is_open))

-- and then the phase does not matter
pub flow_phase : (past : List DataRun) (cs : List Command) (p p' : Phase) (took sdo gave sdi : List ℕ) → Flow past none cs p took sdo gave sdi → Flow past none cs p' took sdo gave sdi
flow_phase past cs p p' took sdo gave sdi f = record { before = f.before; here = f.here; all = f.all; gone = f.gone; came = f.came; is_open = f.is_open }

idle_flow : (x : Ledger) (p p' : Phase) (sdo sdi : List ℕ) → x.now ≡ none → FlowIn x x.now p sdo sdi → FlowIn x none p' sdo sdi
idle_flow x p p' sdo sdi e f = flow_phase x.past (cut x.cmd) p p' x.sdo sdo x.sdi sdi (subst (λ (m : Option DataRun). FlowIn x m p sdo sdi) e f)

-- a byte of a burst
pub stray_both :
    (t : Tally) (x : Ledger) (p p' : Phase) (sdo sdi : List ℕ) (here : List Command) (f : Run → Run) (g : DataRun → DataRun) → idle p ≡ true → OpenIn t.now p here → Both t x p sdo sdi
    → Both (with_now t (change f t.now)) (with_run x (if_open g x.now)) p' sdo sdi
stray_both t x p p' sdo sdi here f g i o h =
    let n = no_runs t.now x.now p here i o h.nows in
    record {
      cmds = h.cmds;
      pasts = h.pasts;
      nows = subst (λ (m : Option Run). AlikeNow (change f m) (if_open g x.now)) (sym n.0) (subst (λ (m : Option DataRun). AlikeNow none (if_open g m)) (sym n.1) tt);
      strays = h.strays;
      flow = subst (λ (m : Option DataRun). FlowIn x (if_open g m) p' sdo sdi) (sym n.1) (idle_flow x p p' sdo sdi n.1 h.flow);
    }

-- any call that counts for neither, while no transfer is open
pub quiet_both : (t : Tally) (x : Ledger) (p p' : Phase) (sdo sdi : List ℕ) (here : List Command) → idle p ≡ true → OpenIn t.now p here → Both t x p sdo sdi → Both t x p' sdo sdi
quiet_both t x p p' sdo sdi here i o h =
    let n = no_runs t.now x.now p here i o h.nows in
    record { cmds = h.cmds; pasts = h.pasts; nows = h.nows; strays = h.strays; flow = subst (λ (m : Option DataRun). FlowIn x m p' sdo sdi) (sym n.1) (idle_flow x p p' sdo sdi n.1 h.flow) }

-- ── Start and finish ──────────────────────────────────────────────────────────────────────────────────────────
abbrev pub start_tally : Tally → ℕ → Tally
start_tally t v = record { words = t.words; past = t.past ++ opt t.now; now = some (new_run v); receipts = t.receipts }

abbrev pub start_ledger : Ledger → ℕ → Ledger
start_ledger x v = record { cmd = x.cmd; sdo = x.sdo; sdi = x.sdi; past = x.past ++ opt x.now; now = some (new_data_run v); astray = x.astray }

pub start_both : (t : Tally) (x : Ledger) (p : Phase) (sdo sdi : List ℕ) (here : List Command) (c : Command) (a : Bool) (v : ℕ) → idle p ≡ true → OpenIn t.now p here → Both t x p sdo sdi → Both (start_tally t v) (start_ledger x v) (begun c a) sdo sdi
start_both t x p sdo sdi here c a v i o h =
    let n = no_runs t.now x.now p here i o h.nows in
    let past : x.past ++ opt x.now ≡ x.past = ap (λ (m : Option DataRun). x.past ++ opt m) n.1 ∙ append-nil x.past in
    record {
      cmds = h.cmds;
      pasts = alike_append t.past (opt t.now) x.past (opt x.now) h.pasts (alike_opt t.now x.now h.nows);
      nows = alike_new v;
      strays = h.strays;
      flow =
          subst (λ (l : List DataRun). Flow l (some (new_data_run v)) (cut x.cmd) (begun c a) x.sdo sdo x.sdi sdi) (sym past)
          (flow_start x.past (cut x.cmd) p x.sdo sdo x.sdi sdi v c a (subst (λ (m : Option DataRun). FlowIn x m p sdo sdi) n.1 h.flow));
    }

abbrev pub end_tally : Tally → (Run → Run) → Tally
end_tally t f = record { words = t.words; past = t.past ++ opt (change f t.now); now = none; receipts = t.receipts }

abbrev pub end_ledger : Ledger → ℕ → Ledger
end_ledger x k = record { cmd = x.cmd; sdo = x.sdo; sdi = x.sdi; past = x.past ++ opt (if_open (grow (length x.sdo) (finishing k)) x.now); now = none; astray = x.astray }

-- a burst's finish
pub stray_finish : (t : Tally) (x : Ledger) (p p' : Phase) (sdo sdi : List ℕ) (here : List Command) (f : Run → Run) (k : ℕ) → idle p ≡ true → OpenIn t.now p here → Both t x p sdo sdi → Both (end_tally t f) (end_ledger x k) p' sdo sdi
stray_finish t x p p' sdo sdi here f k i o h =
    let n = no_runs t.now x.now p here i o h.nows in
    let g = grow (length x.sdo) (finishing k) in
    let a : t.past ++ opt (change f t.now) ≡ t.past = ap (λ (m : Option Run). t.past ++ opt (change f m)) n.0 ∙ append-nil t.past in
    let b : x.past ++ opt (if_open g x.now) ≡ x.past = ap (λ (m : Option DataRun). x.past ++ opt (if_open g m)) n.1 ∙ append-nil x.past in
    record {
      cmds = h.cmds;
      pasts = subst (λ (l : List Run). Alike l (x.past ++ opt (if_open g x.now))) (sym a) (subst (Alike t.past) (sym b) h.pasts);
      nows = tt;
      strays = h.strays;
      flow =
          subst (λ (l : List DataRun). Flow l none (cut x.cmd) p' x.sdo sdo x.sdi sdi) (sym b)
          (idle_flow x p p' sdo sdi n.1 h.flow);
    }

-- what a finish with this code leaves in SDO and SDI
abbrev pub sdo_left : Phase → ℕ → List ℕ → List ℕ
sdo_left p k sdo = on_words (cond (removes p k) (take (min (words_for (transfer p).length).0 (length sdo))) keep) sdo

abbrev pub sdi_left : Phase → List ℕ → List ℕ
sdi_left p sdi = on_words (cond (padded p) (push (transfer p).part) keep) sdi

pub finish_both :
    (t : Tally) (x : Ledger) (p : Phase) (cmd sdo sdi : List ℕ) (f : Run → Run) (k : ℕ) → ((r : Run) (d : DataRun) → AlikeRun r d → AlikeRun (f r) (grow (length x.sdo) (finishing k) d)) → idle p ≡ false → OrderOk (taken_words t.words.written) t.past t.now p cmd → Both t x p sdo sdi
    → Both (end_tally t f) (end_ledger x k) Idle (sdo_left p k sdo) (sdi_left p sdi)
finish_both t x p cmd sdo sdi f k fk i q h = go t.now x.now h.nows q.is_open h.flow
  where
    same_cut : cut x.cmd ≡ q.done ++ (q.here ++ cut cmd)
    same_cut = ap cut (sym h.cmds) ∙ all_commands (taken_words t.words.written) t.past t.now p cmd q

    go : (a : Option Run) (b : Option DataRun) → AlikeNow a b → OpenIn a p q.here → FlowIn x b p sdo sdi
        → Both (end_tally (with_now t a) f) (end_ledger (with_run x b) k) Idle (sdo_left p k sdo) (sdi_left p sdi)
    go none b n o w = absurd (true≢false (sym o.0 ∙ i))
    go (some r) none n o w = absurd n
    go (some r) (some d) n o w =
        let c = o.command in
        let s = o.state in
        let e : cut x.cmd ≡ q.done ++ (c ∷ cut cmd) = same_cut ∙ ap (λ (l : List Command). q.done ++ (l ++ cut cmd)) o.here in
        let tail = cond (padded p) ((transfer p).part ∷ []) [] in
        let codes = eqb k 4 || eqb k 6 || eqb k 8 in
        let out : drop (removing c k sdo) sdo ≡ sdo_left p k sdo =
        ap (λ (z : Bool). drop (cond (z && codes) (min ((length_of c + 3) / 4) (length sdo)) 0) sdo) (sym s.writes)
        ∙ ap (λ (m : ℕ). drop (cond (writing p && codes) (min (words_for (bytes m)).0 (length sdo)) 0) sdo) (sym s.length)
        ∙ dropped (removes p k) (min (words_for (transfer p).length).0 (length sdo)) sdo in
        record {
          cmds = h.cmds;
          pasts = alike_append t.past (f r ∷ []) x.past (grow (length x.sdo) (finishing k) d ∷ []) h.pasts (fk r d n, tt);
          nows = tt;
          strays = h.strays;
          flow =
              subst (λ (l : List ℕ). Flow (x.past ++ (grow (length x.sdo) (finishing k) d ∷ [])) none (cut x.cmd) Idle x.sdo l x.sdi (sdi_left p sdi)) out
              (subst (Flow (x.past ++ (grow (length x.sdo) (finishing k) d ∷ [])) none (cut x.cmd) Idle x.sdo (drop (removing c k sdo) sdo) x.sdi) (pushed (padded p) (transfer p).part sdi)
              (flow_finish x.past d (cut x.cmd) q.done (cut cmd) c p x.sdo sdo x.sdi sdi tail k e (q.count ∙ alike_length t.past x.past h.pasts) (tail_packed (length x.past) d p w.here w.is_open.0) w));
        }
