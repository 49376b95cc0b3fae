-- Tally and ledger side by side: the same runs, the same commands, and what a finish takes out of SDO and brings to SDI.
use Prim.Native.Nat.{ℕ, suc, ◌+◌, ◌/◌, ◌≤◌}
use native.Mathlib.Omega.{arith}
use mathlib.Core.Path.{◌≡◌, refl, ap, sym, ◌∙◌}
use mathlib.Core.Bool.{Bool, true, false, cond}
use mathlib.Core.List.{List, [], ◌∷◌, ◌++◌, append-nil}
use mathlib.Core.Option.{Option, none, some}
use lib.Dec.{ltb}
use lib.ListN.{length, drop, length-append}
use borrow.Author.Tests.{ltb-true, ltb-false}
use Rattle.bank.specs.declared.Phase.{Phase}
use Rattle.bank.specs.declared.Phase.TheVariants.{Idle, Writing, Reading, Unrequested, Requested, Answered}
use Rattle.bank.specs.Phases.{transfer}
use Rattle.model.specs.Decision.{keep, take, push}
use Rattle.model.specs.Commands.{Command, Single, Ccc, two_words}
use Rattle.model.specs.Calls.{padded}
use Rattle.model.specs.Lists.{on_words}
use Rattle.model.specs.Demand.{Run, Tally, sent, received, addressed, finished, snoc, opt, cut, taken_words, count_run, new_run, has_ended, AllEnded}
use Rattle.data_model.specs.Ledger.{Address, sending, receiving, asking, taking, finishing, DataRun, Ledger, new_data_run, grow}
use Rattle.data_model.specs.Account.{packed_words, full_words, is_closed, AllClosed}
use Rattle.model.proofs.Invariant.{OrderOk}
use Rattle.model.proofs.ListDemand.{all_commands}
use Rattle.data_model.proofs.Bytes.{finish_packed}
use Rattle.data_model.proofs.Flow.{OpenOf, Flow}

length_snoc : (xs : List ℕ) (x : ℕ) → length (snoc xs x) ≡ suc (length xs)
length_snoc xs x = simp length-append (omega arith)

-- ── Tally and ledger ──────────────────────────────────────────────────────────────────────────────────────────
-- one run in both: the same value, as many bytes, addresses in neither or not, and ended in both or in neither
pub record AlikeRun (r : Run) (d : DataRun) : Type 0 where
  pub value : r.value ≡ d.value
  pub sends : r.sends ≡ length d.sent
  pub receives : r.receives ≡ length d.received
  pub addresses : r.addresses ≡ 0 → (d.asked ≡ []) × (d.addresses ≡ [])
  pub ended : has_ended r.ending ≡ is_closed d.closed

abbrev pub Alike : List Run → List DataRun → Type 0
Alike [] [] = Unit {0}
Alike [] (d ∷ ds) = ⊥
Alike (r ∷ rs) [] = ⊥
Alike (r ∷ rs) (d ∷ ds) = AlikeRun r d × Alike rs ds

abbrev pub AlikeNow : Option Run → Option DataRun → Type 0
AlikeNow none none = Unit {0}
AlikeNow none (some d) = ⊥
AlikeNow (some r) none = ⊥
AlikeNow (some r) (some d) = AlikeRun r d

pub alike_new : (v : ℕ) → AlikeRun (new_run v) (new_data_run v)
alike_new v = record { value = refl; sends = refl; receives = refl; addresses = λ z. (refl, refl); ended = refl }

module _ (n : ℕ) (r : Run) (d : DataRun) (a : AlikeRun r d) where
  pub alike_sent : (b : ℕ) → AlikeRun (count_run sent r) (grow n (sending b) d)
  alike_sent b = record { value = a.value; sends = ap suc a.sends ∙ sym (length_snoc d.sent b); receives = a.receives; addresses = a.addresses; ended = a.ended }

  pub alike_received : (b : ℕ) → AlikeRun (count_run received r) (grow n (receiving b) d)
  alike_received b = record { value = a.value; sends = a.sends; receives = ap suc a.receives ∙ sym (length_snoc d.received b); addresses = a.addresses; ended = a.ended }

  pub alike_asked : (v w : ℕ) → AlikeRun (count_run addressed r) (grow n (asking v w) d)
  alike_asked v w = record { value = a.value; sends = a.sends; receives = a.receives; addresses = λ z. absurd (omega (arith, z)); ended = a.ended }

  pub alike_taken : (x : Address) → AlikeRun (count_run addressed r) (grow n (taking x) d)
  alike_taken x = record { value = a.value; sends = a.sends; receives = a.receives; addresses = λ z. absurd (omega (arith, z)); ended = a.ended }

  pub alike_finished : (code v : ℕ) → AlikeRun (count_run (finished code v) r) (grow n (finishing code) d)
  alike_finished code v = record { value = a.value; sends = a.sends; receives = a.receives; addresses = a.addresses; ended = refl }

pub alike_length : (rs : List Run) (ds : List DataRun) → Alike rs ds → length rs ≡ length ds
alike_length [] [] h = refl
alike_length [] (d ∷ ds) h = absurd h
alike_length (r ∷ rs) [] h = absurd h
alike_length (r ∷ rs) (d ∷ ds) h = ap suc (alike_length rs ds h.1)

pub alike_append : (rs qs : List Run) (ds es : List DataRun) → Alike rs ds → Alike qs es → Alike (rs ++ qs) (ds ++ es)
alike_append [] qs [] es h k = k
alike_append [] qs (d ∷ ds) es h k = absurd h
alike_append (r ∷ rs) qs [] es h k = absurd h
alike_append (r ∷ rs) qs (d ∷ ds) es h k = (h.0, alike_append rs qs ds es h.1 k)

pub alike_opt : (n : Option Run) (m : Option DataRun) → AlikeNow n m → Alike (opt n) (opt m)
alike_opt none none h = tt
alike_opt none (some d) h = absurd h
alike_opt (some r) none h = absurd h
alike_opt (some r) (some d) h = (h, tt)

pub alike_closed : (rs : List Run) (ds : List DataRun) → Alike rs ds → AllEnded rs → AllClosed ds
alike_closed [] [] a h = tt
alike_closed [] (d ∷ ds) a h = absurd a
alike_closed (r ∷ rs) [] a h = absurd a
alike_closed (r ∷ rs) (d ∷ ds) a h = (sym a.0.ended ∙ h.0, alike_closed rs ds a.1 h.1)

-- of a ledger, with the open run now
abbrev pub FlowIn : Ledger → Option DataRun → Phase → List ℕ → List ℕ → Type 0
FlowIn x now p sdo sdi = Flow x.past now (cut x.cmd) p x.sdo sdo x.sdi sdi

pub record Both (t : Tally) (x : Ledger) (p : Phase) (sdo sdi : List ℕ) : Type 0 where
  pub cmds : taken_words t.words.written ≡ x.cmd
  pub pasts : Alike t.past x.past
  pub nows : AlikeNow t.now x.now
  pub strays : x.astray ≡ 0
  pub flow : FlowIn x x.now p sdo sdi

-- in reset neither counts, and both queues are empty
abbrev pub Books : Option Tally → Option Ledger → Phase → List ℕ → List ℕ → Type 0
Books none none p sdo sdi = (sdo ≡ []) × (sdi ≡ [])
Books none (some x) p sdo sdi = ⊥
Books (some t) none p sdo sdi = ⊥
Books (some t) (some x) p sdo sdi = Both t x p sdo sdi

-- ── Commands ──────────────────────────────────────────────────────────────────────────────────────────────────
-- a word more at the end changes no command that is cut already
pub record More (ws : List ℕ) (w : ℕ) : Type 0 where
  pub more : List Command
  pub same : cut (snoc ws w) ≡ cut ws ++ more

pub cut_more : (ws : List ℕ) (w : ℕ) → More ws w
unfolding cut
cut_more [] w = record { more = cut (w ∷ []); same = refl }
cut_more (a ∷ []) w = go (two_words a) refl
  where
    go : (b : Bool) → two_words a ≡ b → More (a ∷ []) w
    go true e = record { more = Ccc a w ∷ []; same = rw e }
    go false e = record { more = cut (w ∷ []); same = rw e }
cut_more (a ∷ b ∷ ws) w = go (two_words a) refl (cut_more ws w) (cut_more (b ∷ ws) w)
  where
    go : (z : Bool) → two_words a ≡ z → More ws w → More (b ∷ ws) w → More (a ∷ b ∷ ws) w
    go true e h k = record { more = h.more; same = rw e (ap (λ (l : List Command). Ccc a b ∷ l) h.same) }
    go false e h k = record { more = k.more; same = rw e (ap (λ (l : List Command). Single a ∷ l) k.same) }

-- a command for each run that is past
pub enough : (taken : List ℕ) (past : List Run) (now : Option Run) (p : Phase) (q : List ℕ) → OrderOk taken past now p q → length past ≤ length (cut taken)
enough taken past now p q h =
    let n = ap length (all_commands taken past now p q h) ∙ length-append h.done (h.here ++ cut q) in
    let k = h.count in
    omega arith

-- ── What a finish does ────────────────────────────────────────────────────────────────────────────────────────
pub dropped : (b : Bool) (m : ℕ) (ws : List ℕ) → drop (cond b m 0) ws ≡ on_words (cond b (take m) keep) ws
dropped true m ws = refl
dropped false m ws = refl

pub pushed : (b : Bool) (w : ℕ) (ws : List ℕ) → ws ++ cond b (w ∷ []) [] ≡ on_words (cond b (push w) keep) ws
pushed true w ws = refl
pushed false w ws = append-nil ws

-- the part word of a read completes its payload; nothing else received bytes
pub tail_packed : (i : ℕ) (d : DataRun) (p : Phase) (here : List ℕ) → OpenOf i d p here → packed_words d.received ≡ full_words d.received ++ cond (padded p) ((transfer p).part ∷ []) []
unfolding packed_words padded
tail_packed i d Idle here o = absurd o
tail_packed i d (Writing t) here o = rw o.3
tail_packed i d (Reading t) here o = go (ltb (t.moved.0 / 4) ((t.moved.0 + 3) / 4)) refl
  where
    go : (b : Bool) → ltb (t.moved.0 / 4) ((t.moved.0 + 3) / 4) ≡ b → packed_words d.received ≡ full_words d.received ++ cond b (t.part ∷ []) []
    go true e = let k = ltb-true (t.moved.0 / 4) ((t.moved.0 + 3) / 4) e in let n : length d.received ≡ t.moved.0 = o.1 in (finish_packed d.received t.part o.0).1 (λ z. omega arith)
    go false e = let k = ltb-false (t.moved.0 / 4) ((t.moved.0 + 3) / 4) e in let n : length d.received ≡ t.moved.0 = o.1 in (finish_packed d.received t.part o.0).0 (omega arith) ∙ sym (append-nil (full_words d.received))
tail_packed i d (Unrequested t) here o = rw o.2
tail_packed i d (Requested t) here o = rw o.2
tail_packed i d (Answered t) here o = rw o.2
