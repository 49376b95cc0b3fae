-- What ties a ledger to the words in SDO and SDI, and how each event keeps it.
use Prim.Native.Nat.{ℕ, zero, suc, ◌+◌, ◌-◌, ◌*◌, ◌/◌, ◌%◌, ◌^◌, ◌≤◌, min}
use native.Mathlib.Omega.{arith}
use mathlib.Core.Path.{◌≡◌, refl, ap, sym, ◌∙◌, subst}
use mathlib.Core.Bool.{Bool, true, false, cond, false≢true}
use mathlib.Core.List.{List, [], ◌∷◌, ◌++◌, map, append_assoc, append-nil}
use mathlib.Core.Option.{Option, none, some}
use lib.ListN.{length, take, drop, replicate, length-append, take-append-drop}
use lib.Seq.{append_snoc}
use Rattle.bank.specs.declared.Transfer.{Transfer}
use Rattle.bank.specs.declared.Phase.{Phase}
use Rattle.bank.specs.declared.Phase.TheVariants.{Idle, Writing, Reading, Unrequested, Requested, Answered}
use Rattle.bank.specs.Phases.{assigning}
use Rattle.model.specs.Commands.{Command, is_entdaa, is_read, length_of, opened, begun}
use Rattle.model.specs.Calls.{advanced}
use Rattle.model.specs.Demand.{snoc}
use Rattle.data_model.specs.Ledger.{Address, sending, receiving, asking, taking, finishing, DataRun, new_data_run, grow}
use Rattle.data_model.specs.Account.{fours, packed_words, full_words, Departure, sent_for, removed_for, address_for, failed_write, used_by, leaving, departures, LeftAs, came_of, arrivals}
use Rattle.data_model.proofs.Bytes.{AllLeft, left_append, Sending, Receiving, sending_none, receiving_none, sending_left, send_first, send_next, receive_part, receive_fourth}

-- ── The invariant ─────────────────────────────────────────────────────────────────────────────────────────────
-- of the open run, number i, in this phase: these words have left for it
abbrev pub Assigns : ℕ → DataRun → List ℕ → Type 0
Assigns i d here = AllLeft (map (address_for i) d.addresses) here × (d.sent ≡ []) × (d.received ≡ [])

abbrev pub OpenOf : ℕ → DataRun → Phase → List ℕ → Type 0
OpenOf i d Idle here = ⊥
OpenOf i d (Writing t) here = Sending i d.sent here t.part × (length d.sent ≡ t.moved.0) × (d.addresses ≡ []) × (d.received ≡ []) × (d.asked ≡ [])
OpenOf i d (Reading t) here = Receiving d.received t.part × (length d.received ≡ t.moved.0) × (d.sent ≡ []) × (d.addresses ≡ []) × (d.asked ≡ []) × (here ≡ [])
OpenOf i d (Unrequested t) here = Assigns i d here
OpenOf i d (Requested t) here = Assigns i d here
OpenOf i d (Answered t) here = Assigns i d here

abbrev pub OpenFlow : ℕ → Option DataRun → Phase → List ℕ → Type 0
OpenFlow i none p here = here ≡ []
OpenFlow i (some d) p here = OpenOf i d p here × (d.closed ≡ none)

abbrev pub brought_by : Option DataRun → List ℕ
brought_by none = []
brought_by (some d) = d.asked ++ full_words d.received

-- runs, the commands, the phase; what SDO took and holds, what SDI gave and holds
pub record Flow (past : List DataRun) (now : Option DataRun) (cs : List Command) (p : Phase) (took sdo gave sdi : List ℕ) : Type 0 where
  pub before : List ℕ  -- the words that left for runs now past
  pub here : List ℕ  -- for the open one
  pub all : took ≡ before ++ (here ++ sdo)
  pub gone : AllLeft (departures 0 0 past cs) before
  pub came : gave ++ sdi ≡ arrivals past ++ brought_by now
  pub is_open : OpenFlow (length past) now p here

-- ── Departures, with a run or a command more ──────────────────────────────────────────────────────────────────
pub left_length : (ds : List Departure) (ws : List ℕ) → AllLeft ds ws → length ds ≡ length ws
unfolding AllLeft
left_length [] [] h = refl
left_length [] (w ∷ ws) h = absurd h
left_length (d ∷ ds) [] h = absurd h
left_length (d ∷ ds) (w ∷ ws) h = ap suc (left_length ds ws h.1)

-- later commands do not matter
pub departures_more : (i n : ℕ) (rs : List DataRun) (cs ds : List Command) → length rs ≤ length cs → departures i n rs (cs ++ ds) ≡ departures i n rs cs
unfolding departures
departures_more i n [] cs ds h = refl
departures_more i n (r ∷ rs) [] ds h = absurd (omega arith)
departures_more i n (r ∷ rs) (c ∷ cs) ds h = ap (λ (l : List Departure). leaving i n r c ++ l) (departures_more (suc i) (n + length (leaving i n r c)) rs cs ds (omega arith))

-- one run more, of the command next in order
pub departures_snoc : (i n : ℕ) (rs : List DataRun) (r : DataRun) (cs : List Command) (c : Command) (ds : List Command) → length cs ≡ length rs
    → departures i n (rs ++ (r ∷ [])) (cs ++ (c ∷ ds)) ≡ departures i n rs (cs ++ (c ∷ ds)) ++ leaving (i + length rs) (n + length (departures i n rs (cs ++ (c ∷ ds)))) r c
unfolding departures
departures_snoc i n [] r [] c ds e =
    let a : i ≡ i + 0 = omega arith in
    let b : n ≡ n + 0 = omega arith in
    append-nil (leaving i n r c) ∙ ap (λ (k : ℕ). leaving k n r c) a ∙ ap (λ (k : ℕ). leaving (i + 0) k r c) b
departures_snoc i n [] r (x ∷ cs) c ds e = absurd (omega arith)
departures_snoc i n (x ∷ rs) r [] c ds e = absurd (omega arith)
departures_snoc i n (x ∷ rs) r (y ∷ cs) c ds e =
    let l = leaving i n x y in
    let t = departures (suc i) (n + length l) rs (cs ++ (c ∷ ds)) in
    let a : suc i + length rs ≡ i + suc (length rs) = omega arith in
    let b : n + length l + length t ≡ n + length (l ++ t) = simp length-append (omega arith) in
    ap (λ (z : List Departure). l ++ z) (departures_snoc (suc i) (n + length l) rs r cs c ds (omega arith))
    ∙ sym (append_assoc l t (leaving (suc i + length rs) (n + length l + length t) r c))
    ∙ ap (λ (k : ℕ). l ++ t ++ leaving k (n + length l + length t) r c) a
    ∙ ap (λ (k : ℕ). l ++ t ++ leaving (i + suc (length rs)) k r c) b

pub arrivals_snoc : (rs : List DataRun) (r : DataRun) → arrivals (rs ++ (r ∷ [])) ≡ arrivals rs ++ (r.asked ++ came_of r.closed r.received)
unfolding arrivals
arrivals_snoc [] r = append-nil (r.asked ++ came_of r.closed r.received)
arrivals_snoc (x ∷ rs) r = ap (λ (l : List ℕ). x.asked ++ came_of x.closed x.received ++ l) (arrivals_snoc rs r) ∙ sym (append_assoc (x.asked ++ came_of x.closed x.received) (arrivals rs) (r.asked ++ came_of r.closed r.received))

-- words that are there can be removed
removed_left : (i k : ℕ) (ws : List ℕ) → k ≤ length ws → AllLeft (replicate k (removed_for i)) (take k ws)
unfolding AllLeft
removed_left i zero ws h = tt
removed_left i (suc k) [] h = absurd (omega arith)
removed_left i (suc k) (w ∷ ws) h = (tt, removed_left i k ws (omega arith))

-- ── Registers ─────────────────────────────────────────────────────────────────────────────────────────────────
module _ (past : List DataRun) (now : Option DataRun) (cs : List Command) (p : Phase) (took sdo gave sdi : List ℕ) where
  pub flow_took : (w : ℕ) → Flow past now cs p took sdo gave sdi → Flow past now cs p (snoc took w) (snoc sdo w) gave sdi
  flow_took w f =
      record {
        before = f.before;
        here = f.here;
        all = ap (λ (l : List ℕ). snoc l w) f.all ∙ append_assoc f.before (f.here ++ sdo) (w ∷ []) ∙ ap (λ (l : List ℕ). f.before ++ l) (append_assoc f.here sdo (w ∷ []));
        gone = f.gone;
        came = f.came;
        is_open = f.is_open;
      }

  pub flow_gave : (v : ℕ) → Flow past now cs p took sdo gave (v ∷ sdi) → Flow past now cs p took sdo (snoc gave v) sdi
  flow_gave v f = record { before = f.before; here = f.here; all = f.all; gone = f.gone; came = append_snoc gave v sdi ∙ f.came; is_open = f.is_open }

  pub flow_command : (ds : List Command) → length past ≤ length cs → Flow past now cs p took sdo gave sdi → Flow past now (cs ++ ds) p took sdo gave sdi
  flow_command ds h f = record { before = f.before; here = f.here; all = f.all; gone = subst (λ (l : List Departure). AllLeft l f.before) (sym (departures_more 0 0 past cs ds h)) f.gone; came = f.came; is_open = f.is_open }

-- ── A start ───────────────────────────────────────────────────────────────────────────────────────────────────
begun_flow : (i v : ℕ) (c : Command) (a : Bool) → OpenOf i (new_data_run v) (begun c a) []
unfolding begun AllLeft
begun_flow i v c a = go (is_entdaa c) (is_read c)
  where
    go : (e b : Bool) → OpenOf i (new_data_run v) (cond e (Unrequested (opened c a)) (cond b (Reading (opened c a)) (Writing (opened c a)))) []
    go true b = (tt, refl, refl)
    go false true = (receiving_none, refl, refl, refl, refl, refl)
    go false false = (sending_none i 0, refl, refl, refl, refl)

pub flow_start : (past : List DataRun) (cs : List Command) (p : Phase) (took sdo gave sdi : List ℕ) (v : ℕ) (c : Command) (a : Bool) → Flow past none cs p took sdo gave sdi → Flow past (some (new_data_run v)) cs (begun c a) took sdo gave sdi
unfolding packed_words
flow_start past cs p took sdo gave sdi v c a f = record { before = f.before; here = []; all = f.all ∙ ap (λ (l : List ℕ). f.before ++ (l ++ sdo)) f.is_open; gone = f.gone; came = f.came; is_open = (begun_flow (length past) v c a, refl) }

-- ── Bytes and addresses ───────────────────────────────────────────────────────────────────────────────────────
module _ (past : List DataRun) (cs : List Command) (took gave : List ℕ) (d : DataRun) (n : ℕ) where
  moved_on : (before here sdo : List ℕ) (w : ℕ) → took ≡ before ++ (here ++ (w ∷ sdo)) → took ≡ before ++ (here ++ (w ∷ []) ++ sdo)
  moved_on before here sdo w h = h ∙ ap (λ (l : List ℕ). before ++ l) (sym (append_snoc here w sdo))

  pub flow_first : (t : Transfer) (w : ℕ) (sdo sdi : List ℕ) → t.moved.0 % 4 ≡ 0 → Flow past (some d) cs (Writing t) took (w ∷ sdo) gave sdi → Flow past (some (grow n (sending (w / 2 ^ 24 % 256)) d)) cs (Writing (advanced t (w % 2 ^ 24 * 2 ^ 8))) took sdo gave sdi
  flow_first t w sdo sdi e f =
      let o = f.is_open.0 in
      let k : length d.sent ≡ t.moved.0 = o.1 in
      record {
        before = f.before;
        here = snoc f.here w;
        all = moved_on f.before f.here sdo w f.all;
        gone = f.gone;
        came = f.came;
        is_open = ((send_first (length past) d.sent f.here t.part w (omega arith) o.0, (simp length-append (omega arith)), o.2, o.3, o.4), f.is_open.1);
      }

  pub flow_next : (t : Transfer) (sdo sdi : List ℕ) → (t.moved.0 % 4 ≡ 0 → ⊥) → Flow past (some d) cs (Writing t) took sdo gave sdi → Flow past (some (grow n (sending (t.part / 2 ^ 24 % 256)) d)) cs (Writing (advanced t (t.part % 2 ^ 24 * 2 ^ 8))) took sdo gave sdi
  flow_next t sdo sdi e f =
      let o = f.is_open.0 in
      let k : length d.sent ≡ t.moved.0 = o.1 in
      record {
        before = f.before;
        here = f.here;
        all = f.all;
        gone = f.gone;
        came = f.came;
        is_open = ((send_next (length past) d.sent f.here t.part (λ z. e (omega arith)) o.0, (simp length-append (omega arith)), o.2, o.3, o.4), f.is_open.1);
      }

  -- a byte received: gathered, or with its word
  pub flow_gather : (t : Transfer) (b : ℕ) (sdo sdi : List ℕ) → (t.moved.0 % 4 ≡ 3 → ⊥) → Flow past (some d) cs (Reading t) took sdo gave sdi → Flow past (some (grow n (receiving b) d)) cs (Reading (advanced t (t.part + b * 2 ^ (24 - 8 * (t.moved.0 % 4))))) took sdo gave sdi
  flow_gather t b sdo sdi e f =
      let o = f.is_open.0 in
      let k : length d.received ≡ t.moved.0 = o.1 in
      let r = receive_part d.received t.part b (λ z. e (omega arith)) o.0 in
      record {
        before = f.before;
        here = f.here;
        all = f.all;
        gone = f.gone;
        came = f.came ∙ ap (λ (l : List ℕ). arrivals past ++ (d.asked ++ l)) (sym r.1);
        is_open = ((subst (λ (m : ℕ). Receiving (snoc d.received b) (t.part + b * 2 ^ (24 - 8 * (m % 4)))) k r.0, (simp length-append (omega arith)), o.2, o.3, o.4, o.5), f.is_open.1);
      }

  pub flow_fill : (t : Transfer) (b : ℕ) (sdo sdi : List ℕ) → t.moved.0 % 4 ≡ 3 → Flow past (some d) cs (Reading t) took sdo gave sdi
      → Flow past (some (grow n (receiving b) d)) cs (Reading (advanced t 0)) took sdo gave (snoc sdi (t.part + b * 2 ^ (24 - 8 * (t.moved.0 % 4))))
  flow_fill t b sdo sdi e f =
      let o = f.is_open.0 in
      let k : length d.received ≡ t.moved.0 = o.1 in
      let r = receive_fourth d.received t.part b (omega arith) o.0 in
      let w = t.part + b * 2 ^ (24 - 8 * (t.moved.0 % 4)) in
      let z : full_words (snoc d.received b) ≡ full_words d.received ++ (w ∷ []) = r.1 ∙ ap (λ (m : ℕ). full_words d.received ++ ((t.part + b * 2 ^ (24 - 8 * (m % 4))) ∷ [])) k in
      record {
        before = f.before;
        here = f.here;
        all = f.all;
        gone = f.gone;
        came =
            sym (append_assoc gave sdi (w ∷ []))
            ∙ ap (λ (l : List ℕ). snoc l w) f.came
            ∙ append_assoc (arrivals past) (d.asked ++ full_words d.received) (w ∷ [])
            ∙ ap (λ (l : List ℕ). arrivals past ++ l) (append_assoc d.asked (full_words d.received) (w ∷ []) ∙ ap (λ (l : List ℕ). d.asked ++ l) (sym z));
        is_open = ((r.0, (simp length-append (omega arith)), o.2, o.3, o.4, o.5), f.is_open.1);
      }

  assigns : (i : ℕ) (p : Phase) (here : List ℕ) → assigning p ≡ true → OpenOf i d p here → Assigns i d here
  assigns i Idle here a o = absurd o
  assigns i (Writing t) here a o = absurd (false≢true a)
  assigns i (Reading t) here a o = absurd (false≢true a)
  assigns i (Unrequested t) here a o = o
  assigns i (Requested t) here a o = o
  assigns i (Answered t) here a o = o

  -- no byte was received, so no word but those of requests came
  none_full : (bs : List ℕ) → bs ≡ [] → full_words bs ≡ []
  unfolding packed_words
  none_full bs e = ap full_words e

  pub flow_request : (p : Phase) (t : Transfer) (v w : ℕ) (sdo sdi : List ℕ) → assigning p ≡ true → Flow past (some d) cs p took sdo gave sdi → Flow past (some (grow n (asking v w) d)) cs (Requested t) took sdo gave (sdi ++ (v ∷ w ∷ []))
  flow_request p t v w sdo sdi a f =
      let o = assigns (length past) p f.here a f.is_open.0 in
      let z = none_full d.received o.2 in
      let two = v ∷ w ∷ [] in
      record {
        before = f.before;
        here = f.here;
        all = f.all;
        gone = f.gone;
        came =
            sym (append_assoc gave sdi two)
            ∙ ap (λ (l : List ℕ). l ++ two) (f.came ∙ ap (λ (l : List ℕ). arrivals past ++ (d.asked ++ l)) z ∙ ap (λ (l : List ℕ). arrivals past ++ l) (append-nil d.asked))
            ∙ append_assoc (arrivals past) d.asked two
            ∙ ap (λ (l : List ℕ). arrivals past ++ l) (sym (append-nil (d.asked ++ two)) ∙ ap (λ (l : List ℕ). d.asked ++ two ++ l) (sym z));
        is_open = ((o.0, o.1, o.2), f.is_open.1);
      }

  map_snoc : (i : ℕ) (xs : List Address) (x : Address) → map (address_for i) (snoc xs x) ≡ map (address_for i) xs ++ (address_for i x ∷ [])
  map_snoc i [] x = refl
  map_snoc i (y ∷ xs) x = ap (λ (l : List Departure). address_for i y ∷ l) (map_snoc i xs x)

  one_left : (i w : ℕ) (x : Address) → LeftAs (address_for i x) w → AllLeft (address_for i x ∷ []) (w ∷ [])
  unfolding AllLeft
  one_left i w x h = (h, tt)

  took_one : (i w : ℕ) (x : Address) (here : List ℕ) → LeftAs (address_for i x) w → Assigns i d here → Assigns i (grow n (taking x) d) (snoc here w)
  took_one i w x here h o = (subst (λ (l : List Departure). AllLeft l (snoc here w)) (sym (map_snoc i d.addresses x)) (left_append (map (address_for i) d.addresses) (address_for i x ∷ []) here (w ∷ []) o.0 (one_left i w x h)), o.1, o.2)

  after : (i : ℕ) (e : DataRun) (here : List ℕ) (b : Bool) (t : Transfer) → Assigns i e here → OpenOf i e (cond b (Answered t) (Requested t)) here
  after i e here true t o = o
  after i e here false t o = o

  pub flow_address : (p : Phase) (t : Transfer) (x : Address) (b : Bool) (w : ℕ) (sdo sdi : List ℕ) → assigning p ≡ true → LeftAs (address_for (length past) x) w → Flow past (some d) cs p took (w ∷ sdo) gave sdi
      → Flow past (some (grow n (taking x) d)) cs (cond b (Answered t) (Requested t)) took sdo gave sdi
  flow_address p t x b w sdo sdi a h f =
      let o = assigns (length past) p f.here a f.is_open.0 in
      record {
        before = f.before;
        here = snoc f.here w;
        all = moved_on f.before f.here sdo w f.all;
        gone = f.gone;
        came = f.came;
        is_open = (after (length past) (grow n (taking x) d) (snoc f.here w) b t (took_one (length past) w x f.here h o), f.is_open.1);
      }

-- ── A finish ──────────────────────────────────────────────────────────────────────────────────────────────────
-- what left for a run, by the invariant
pub used_left : (i : ℕ) (d : DataRun) (p : Phase) (here : List ℕ) → OpenOf i d p here → AllLeft (used_by i d) here
unfolding fours AllLeft
used_left i d Idle here o = absurd o
used_left i d (Writing t) here o =
    subst (λ (l : List Address). AllLeft (map (sent_for i) (fours d.sent) ++ map (address_for i) l) here) (sym o.2)
    (subst (λ (l : List Departure). AllLeft l here) (sym (append-nil (map (sent_for i) (fours d.sent)))) (sending_left i d.sent here t.part o.0))
used_left i d (Reading t) here o =
    subst (λ (l : List ℕ). AllLeft (map (sent_for i) (fours l) ++ map (address_for i) d.addresses) here) (sym o.2)
    (subst (λ (l : List Address). AllLeft (map (address_for i) l) here) (sym o.3) (subst (AllLeft []) (sym o.5) tt))
used_left i d (Unrequested t) here o = subst (λ (l : List ℕ). AllLeft (map (sent_for i) (fours l) ++ map (address_for i) d.addresses) here) (sym o.1) o.0
used_left i d (Requested t) here o = subst (λ (l : List ℕ). AllLeft (map (sent_for i) (fours l) ++ map (address_for i) d.addresses) here) (sym o.1) o.0
used_left i d (Answered t) here o = subst (λ (l : List ℕ). AllLeft (map (sent_for i) (fours l) ++ map (address_for i) d.addresses) here) (sym o.1) o.0

-- how many words a finish removes, of those that SDO holds
abbrev pub removing : Command → ℕ → List ℕ → ℕ
removing c code sdo = cond (failed_write c code) (min ((length_of c + 3) / 4) (length sdo)) 0

removing_fits : (b : Bool) (m : ℕ) (sdo : List ℕ) → cond b (min m (length sdo)) 0 ≤ length sdo
removing_fits true m sdo = omega arith
removing_fits false m sdo = omega arith

-- of all runs from the first on
pub all_snoc : (past : List DataRun) (r : DataRun) (done rest : List Command) (c : Command) → length done ≡ length past → (let cs = done ++ (c ∷ rest) in departures 0 0 (past ++ (r ∷ [])) cs ≡ departures 0 0 past cs ++ leaving (length past) (length (departures 0 0 past cs)) r c)
all_snoc past r done rest c l =
    let ds = departures 0 0 past (done ++ (c ∷ rest)) in
    let a : 0 + length past ≡ length past = omega arith in
    let b : 0 + length ds ≡ length ds = omega arith in
    departures_snoc 0 0 past r done c rest l ∙ ap (λ (m : ℕ). ds ++ leaving m (0 + length ds) r c) a ∙ ap (λ (m : ℕ). ds ++ leaving (length past) m r c) b

pub flow_finish :
    (past : List DataRun) (d : DataRun) (cs done rest : List Command) (c : Command) (p : Phase) (took sdo gave sdi tail : List ℕ) (code : ℕ) → cs ≡ done ++ (c ∷ rest) → length done ≡ length past → packed_words d.received ≡ full_words d.received ++ tail
    → Flow past (some d) cs p took sdo gave sdi → Flow (past ++ (grow (length took) (finishing code) d ∷ [])) none cs Idle took (drop (removing c code sdo) sdo) gave (sdi ++ tail)
flow_finish past d cs done rest c p took sdo gave sdi tail code e l z f =
    let i = length past in
    let d' = grow (length took) (finishing code) d in
    let k = removing c code sdo in
    let us = used_left i d (p) f.here f.is_open.0 in
    let ds = departures 0 0 past cs in
    let fits : k ≤ length sdo = removing_fits (failed_write c code) ((length_of c + 3) / 4) sdo in
    let n1 : length ds ≡ length f.before = left_length ds f.before f.gone in
    let n2 : length (used_by i d) ≡ length f.here = left_length (used_by i d) f.here us in
    let n3 : length took ≡ length f.before + (length f.here + length sdo) = ap length f.all ∙ length-append f.before (f.here ++ sdo) ∙ ap (λ (m : ℕ). length f.before + m) (length-append f.here sdo) in
    let level : length took - (length ds + length (used_by i d)) ≡ length sdo = omega arith in
    let out : AllLeft (leaving i (length ds) d' c) (f.here ++ take k sdo) =
    subst (λ (m : ℕ). AllLeft (used_by i d ++ replicate (cond (failed_write c code) (min ((length_of c + 3) / 4) m) 0) (removed_for i)) (f.here ++ take k sdo)) (sym level)
    (left_append (used_by i d) (replicate k (removed_for i)) f.here (take k sdo) us (removed_left i k sdo fits)) in
    let snocs : departures 0 0 (past ++ (d' ∷ [])) cs ≡ ds ++ leaving i (length ds) d' c =
    subst (λ (x : List Command). departures 0 0 (past ++ (d' ∷ [])) x ≡ departures 0 0 past x ++ leaving i (length (departures 0 0 past x)) d' c) (sym e)
    (all_snoc past d' done rest c l) in
    record {
      before = f.before ++ (f.here ++ take k sdo);
      here = [];
      all =
          f.all
          ∙ ap (λ (x : List ℕ). f.before ++ (f.here ++ x)) (sym (take-append-drop k sdo))
          ∙ ap (λ (x : List ℕ). f.before ++ x) (sym (append_assoc f.here (take k sdo) (drop k sdo)))
          ∙ sym (append_assoc f.before (f.here ++ take k sdo) (drop k sdo));
      gone = subst (λ (x : List Departure). AllLeft x (f.before ++ (f.here ++ take k sdo))) (sym snocs) (left_append ds (leaving i (length ds) d' c) f.before (f.here ++ take k sdo) f.gone out);
      came =
          sym (append_assoc gave sdi tail)
          ∙ ap (λ (x : List ℕ). x ++ tail) f.came
          ∙ append_assoc (arrivals past) (d.asked ++ full_words d.received) tail
          ∙ ap (λ (x : List ℕ). arrivals past ++ x) (append_assoc d.asked (full_words d.received) tail ∙ ap (λ (x : List ℕ). d.asked ++ x) (sym z))
          ∙ sym (arrivals_snoc past d')
          ∙ sym (append-nil (arrivals (past ++ (d' ∷ []))));
      is_open = refl;
    }
