-- The invariant of demand 3 between a tally and a bank that is released, and how each event keeps it.
use Prim.Native.Nat.{ℕ, suc, ◌+◌, ◌-◌, ◌%◌, ◌≤◌, ◌<◌, zero-le}
use native.Mathlib.Omega.{arith}
use mathlib.Core.Path.{◌≡◌, refl, ap, sym, ◌∙◌, subst}
use mathlib.Core.Bool.{Bool, true, false, cond, not, ◌&&◌, ◌||◌, true≢false, false≢true}
use mathlib.Core.List.{List, [], ◌∷◌, ◌++◌, append_assoc, append-nil}
use mathlib.Core.Option.{Option, none, some}
use lib.Dec.{ltb}
use lib.ListN.{length, length-append, drop}
use lib.Seq.{append_snoc}
use borrow.Author.Tests.{ltb-true, not-true}
use Rattle.bank.specs.declared.Phase.{Phase}
use Rattle.bank.specs.declared.Phase.TheVariants.{Idle, Writing, Reading, Unrequested}
use Rattle.bank.specs.Phases.{idle, writing, reading, assigning, transfer}
use Rattle.bank.specs.Bits.{bit}
use Rattle.model.specs.View.{QueueView}
use Rattle.model.specs.Commands.{Command, two_words, first_word, is_entdaa, is_read, is_write, length_of, opened, begun, receipt_word}
use Rattle.model.specs.Calls.{whole, command, word_count}
use Rattle.model.specs.Lists.{view_list}
use Rattle.model.specs.Demand.{Written, wrote, saw_room, finished, CmdLog, Run, snoc, opt, count_word, count_run, change, new_run, taken_words, Every, joined, Each, moved, Fitting, ReceiptOf, has_ended, receipts_of, receipt_in}
use Rattle.model.proofs.Cut.{CutAs, WellCut, well_snoc, joined_append}

-- ── The invariant ─────────────────────────────────────────────────────────────────────────────────────────────
-- the open run is of this command, and the phase is the command's
pub record OpenAs (r : Run) (c : Command) (p : Phase) : Type 0 where
  pub cut_as : CutAs c
  pub is_open : idle p ≡ false
  pub value : r.value ≡ first_word c
  pub ending : r.ending ≡ none
  pub length : (transfer p).length.0 ≡ length_of c
  pub counted : (transfer p).moved.0 ≡ moved r
  pub most : moved r ≤ length_of c
  pub writes : writing p ≡ is_write c
  pub reads : reading p ≡ is_read c
  pub assigns : assigning p ≡ is_entdaa c
  pub fitting : Fitting r c

pub record Open (r : Run) (p : Phase) (cs : List Command) : Type 0 where
  pub command : Command
  pub here : cs ≡ command ∷ []
  pub state : OpenAs r command p

abbrev pub OpenIn : Option Run → Phase → List Command → Type 0
OpenIn none p here = (idle p ≡ true) × (here ≡ [])
OpenIn (some r) p here = Open r p here

-- run number i has ended, and was of this command
pub record Done (i : ℕ) (r : Run) (c : Command) : Type 0 where
  pub value : r.value ≡ first_word c
  pub most : moved r ≤ length_of c
  pub fitting : Fitting r c
  pub ended : has_ended r.ending ≡ true
  pub receipt : ReceiptOf i (moved r) r.ending

pub record WordsOk (w : CmdLog) (cap : ℕ) (q : List ℕ) : Type 0 where
  pub seen : Every (λ x. x.room_seen ≡ true → x.taken ≡ true) w.written
  pub promised : Every (λ x. x.promised ≡ true → x.taken ≡ true) w.written
  pub fits : w.room_seen ≡ true → length q < cap
  pub credit : w.credit ≤ cap - length q

pub record OrderOk (taken : List ℕ) (past : List Run) (now : Option Run) (p : Phase) (q : List ℕ) : Type 0 where
  pub done : List Command
  pub here : List Command
  pub well : WellCut done
  pub took : taken ≡ joined done ++ (joined here ++ q)
  pub count : length done ≡ length past
  pub served : Each Done 0 past done
  pub is_open : OpenIn now p here

pub record ReceiptsOk (past : List Run) (got q : List ℕ) (sync : ℕ) : Type 0 where
  pub same : got ++ q ≡ receipts_of past
  pub counted : sync ≡ length past % 256

pub record Inv (w : CmdLog) (past : List Run) (now : Option Run) (got : List ℕ) (cap : ℕ) (p : Phase) (cmd cmdr : List ℕ) (sync : ℕ) : Type 0 where
  pub words : WordsOk w cap cmd
  pub order : OrderOk (taken_words w.written) past now p cmd
  pub receipts : ReceiptsOk past got cmdr sync

-- ── The words written ─────────────────────────────────────────────────────────────────────────────────────────
every_snoc : (P : Written → Type 0) (ws : List Written) (w : Written) → Every P ws → P w → Every P (snoc ws w)
unfolding Every
every_snoc P [] w h k = (k, tt)
every_snoc P (x ∷ ws) w h k = (h.0, every_snoc P ws w h.1 k)

taken_snoc : (ws : List Written) (w : Written) (v : List ℕ) → taken_words (w ∷ []) ≡ v → taken_words (snoc ws w) ≡ taken_words ws ++ v
unfolding taken_words
taken_snoc [] w v e = e
taken_snoc (x ∷ ws) w v e = go x.taken (taken_snoc ws w v e)
  where
    go : (b : Bool) → taken_words (snoc ws w) ≡ taken_words ws ++ v → cond b (x.word ∷ taken_words (snoc ws w)) (taken_words (snoc ws w)) ≡ cond b (x.word ∷ taken_words ws) (taken_words ws) ++ v
    go true h = ap (λ (l : List ℕ). x.word ∷ l) h
    go false h = h

-- the words taken, with one more written
pub took_one : (w : CmdLog) (v : ℕ) → taken_words (count_word w (wrote true v)).written ≡ snoc (taken_words w.written) v
unfolding taken_words
took_one w v = taken_snoc w.written _ (v ∷ []) refl

pub lost_one : (w : CmdLog) (v : ℕ) → taken_words (count_word w (wrote false v)).written ≡ taken_words w.written
unfolding taken_words
lost_one w v = taken_snoc w.written _ [] refl ∙ append-nil (taken_words w.written)

words_took : (w : CmdLog) (cap : ℕ) (q : List ℕ) (v : ℕ) → WordsOk w cap q → WordsOk (count_word w (wrote true v)) cap (snoc q v)
words_took w cap q v h =
    record {
      seen = every_snoc _ w.written _ h.seen (λ _. refl);
      promised = every_snoc _ w.written _ h.promised (λ _. refl);
      fits = λ e. absurd (false≢true e);
      credit = simp length-append (let k = h.credit in omega arith);
    }

-- a word is lost only where the queue is full, and then no room was seen
words_lost : (w : CmdLog) (cap : ℕ) (q : List ℕ) (v : ℕ) → cap ≤ length q → WordsOk w cap q → WordsOk (count_word w (wrote false v)) cap q
words_lost w cap q v f h =
    record {
      seen = every_snoc _ w.written _ h.seen (λ e. let k = h.fits e in absurd (omega arith));
      promised = every_snoc _ w.written _ h.promised (λ e. let k = ltb-true 0 w.credit e in let m = h.credit in absurd (omega arith));
      fits = λ e. absurd (false≢true e);
      credit = let k = h.credit in omega arith;
    }

seen_fits : (b : Bool) (cap len : ℕ) → (b ≡ true → len < cap) → (b || ltb 0 (cap - len)) ≡ true → len < cap
seen_fits true cap len h e = h refl
seen_fits false cap len h e = let k = ltb-true 0 (cap - len) e in omega arith

words_room : (w : CmdLog) (cap : ℕ) (q : List ℕ) → WordsOk w cap q → WordsOk (count_word w (saw_room (cap - length q))) cap q
words_room w cap q h = record { seen = h.seen; promised = h.promised; fits = seen_fits w.room_seen cap (length q) h.fits; credit = omega arith }

words_shorter : (w : CmdLog) (cap : ℕ) (q q' : List ℕ) → length q' ≤ length q → WordsOk w cap q → WordsOk w cap q'
words_shorter w cap q q' l h = record { seen = h.seen; promised = h.promised; fits = λ e. let k = h.fits e in omega arith; credit = let k = h.credit in omega arith }

-- ── A start ───────────────────────────────────────────────────────────────────────────────────────────────────
-- a command queue of these words
abbrev pub cmd_view : ℕ → List ℕ → QueueView
cmd_view cap q = view_list (record { cap = cap; words = q })

-- it takes the first command's words from the queue
pub record Begins (q : List ℕ) (c : Command) (rest : List ℕ) : Type 0 where
  pub cut_as : CutAs c
  pub all : joined (c ∷ []) ++ rest ≡ q
  pub shorter : length rest ≤ length q

begins_one : (cap w : ℕ) → two_words w ≡ false → Begins (w ∷ []) (command (cmd_view cap (w ∷ []))) (drop (word_count (cmd_view cap (w ∷ []))) (w ∷ []))
unfolding joined
begins_one cap w e = record { cut_as = rw e e; all = rw e; shorter = rw e zero-le }

begins_two : (cap w c : ℕ) (ws : List ℕ) (b : Bool) → two_words w ≡ b → Begins (w ∷ c ∷ ws) (command (cmd_view cap (w ∷ c ∷ ws))) (drop (word_count (cmd_view cap (w ∷ c ∷ ws))) (w ∷ c ∷ ws))
unfolding joined
begins_two cap w c ws true e = record { cut_as = rw e e; all = rw e; shorter = rw e (omega arith) }
begins_two cap w c ws false e = record { cut_as = rw e e; all = rw e; shorter = rw e (omega arith) }

begins : (cap : ℕ) (q : List ℕ) → whole (cmd_view cap q) ≡ true → Begins q (command (cmd_view cap q)) (drop (word_count (cmd_view cap q)) q)
begins cap [] e = absurd (false≢true e)
begins cap (w ∷ []) e = begins_one cap w (not-true (two_words w) e)
begins cap (w ∷ c ∷ ws) e = begins_two cap w c ws (two_words w) refl

fitting_new : (v : ℕ) (c : Command) → Fitting (new_run v) c
fitting_new v c = record { sends = λ _. refl; receives = λ _. refl; addresses = λ _. refl }

begun_open : (c : Command) (a : Bool) → CutAs c → OpenAs (new_run (first_word c)) c (begun c a)
unfolding begun is_read is_write
begun_open c a k = go (is_entdaa c) (bit 0 (first_word c)) refl refl refl
  where
    go : (e b : Bool) → is_entdaa c ≡ e → is_read c ≡ (not e && b) → is_write c ≡ (not e && not b) → OpenAs (new_run (first_word c)) c (cond e (Unrequested (opened c a)) (cond (not e && b) (Reading (opened c a)) (Writing (opened c a))))
    go true b he hr hw = record { cut_as = k; is_open = refl; value = refl; ending = refl; length = refl; counted = refl; most = zero-le; writes = sym hw; reads = sym hr; assigns = sym he; fitting = fitting_new (first_word c) c }
    go false true he hr hw = record { cut_as = k; is_open = refl; value = refl; ending = refl; length = refl; counted = refl; most = zero-le; writes = sym hw; reads = sym hr; assigns = sym he; fitting = fitting_new (first_word c) c }
    go false false he hr hw = record { cut_as = k; is_open = refl; value = refl; ending = refl; length = refl; counted = refl; most = zero-le; writes = sym hw; reads = sym hr; assigns = sym he; fitting = fitting_new (first_word c) c }

nil_words : (q : List ℕ) → joined [] ++ q ≡ q
unfolding joined
nil_words q = refl

order_start :
    (taken : List ℕ) (past : List Run) (now : Option Run) (p p' : Phase) (q rest : List ℕ) (r : Run) (c : Command) → idle p ≡ true → OrderOk taken past now p q → Begins q c rest → OpenAs r c p' → OrderOk taken (past ++ opt now) (some r) p' rest
order_start taken past (some x) p p' q rest r c i h k o = absurd (true≢false (sym i ∙ h.is_open.state.is_open))
order_start taken past none p p' q rest r c i h k o =
    subst (λ (l : List Run). OrderOk taken l (some r) p' rest) (sym (append-nil past))
    (record {
      done = h.done;
      here = c ∷ [];
      well = h.well;
      took = h.took ∙ ap (λ (l : List ℕ). joined h.done ++ l) (ap (λ (l : List Command). joined l ++ q) h.is_open.1 ∙ nil_words q ∙ sym k.all);
      count = h.count;
      served = h.served;
      is_open = record { command = c; here = refl; state = o };
    })

receipts_start : (past : List Run) (now : Option Run) (p : Phase) (here : List Command) (got q : List ℕ) (sync : ℕ) → idle p ≡ true → OpenIn now p here → ReceiptsOk past got q sync → ReceiptsOk (past ++ opt now) got q sync
receipts_start past (some x) p here got q sync i o h = absurd (true≢false (sym i ∙ o.state.is_open))
receipts_start past none p here got q sync i o h = subst (λ (l : List Run). ReceiptsOk l got q sync) (sym (append-nil past)) h

-- ── A finish ──────────────────────────────────────────────────────────────────────────────────────────────────
pub each_append : (P : ℕ → Run → Command → Type 0) (i : ℕ) (rs qs : List Run) (cs ds : List Command) → length cs ≡ length rs → Each P i rs cs → Each P (i + length rs) qs ds → Each P i (rs ++ qs) (cs ++ ds)
unfolding Each
each_append P i [] qs [] ds l h k =
    let z : i + 0 ≡ i = omega arith in
    subst (λ (n : ℕ). Each P n qs ds) z k
each_append P i [] qs (c ∷ cs) ds l h k = absurd (omega arith)
each_append P i (r ∷ rs) qs [] ds l h k = absurd h
each_append P i (r ∷ rs) qs (c ∷ cs) ds l h k =
    let z : i + suc (length rs) ≡ suc i + length rs = omega arith in
    (h.0, each_append P (suc i) rs qs cs ds (omega arith) h.1 (subst (λ (n : ℕ). Each P n qs ds) z k))

each_one : (P : ℕ → Run → Command → Type 0) (i : ℕ) (r : Run) (c : Command) → P i r c → Each P i (r ∷ []) (c ∷ [])
unfolding Each
each_one P i r c h = (h, tt)

pub receipts_append : (rs qs : List Run) → receipts_of (rs ++ qs) ≡ receipts_of rs ++ receipts_of qs
receipts_append [] qs = refl
receipts_append (r ∷ rs) qs = ap (λ (l : List ℕ). receipt_in r.ending ++ l) (receipts_append rs qs) ∙ sym (append_assoc (receipt_in r.ending) (receipts_of rs) (receipts_of qs))

order_finish :
    (taken : List ℕ) (past : List Run) (r r' : Run) (p : Phase) (q : List ℕ) (h : OrderOk taken past (some r) p q) → Done (length past) r' h.is_open.command → OrderOk taken (past ++ (r' ∷ [])) none Idle q
unfolding joined
order_finish taken past r r' p q h k =
    let c = h.is_open.command in
    let z : length past ≡ 0 + length past = omega arith in
    record {
      done = h.done ++ (c ∷ []);
      here = [];
      well = well_snoc h.done c h.well h.is_open.state.cut_as;
      took =
          h.took
          ∙ ap (λ (l : List Command). joined h.done ++ (joined l ++ q)) h.is_open.here
          ∙ sym (append_assoc (joined h.done) (joined (c ∷ [])) q)
          ∙ ap (λ (l : List ℕ). l ++ q) (sym (joined_append h.done (c ∷ [])));
      count = simp length-append (rw h.count);
      served = each_append Done 0 past (r' ∷ []) h.done (c ∷ []) h.count h.served (each_one Done (0 + length past) r' c (subst (λ (n : ℕ). Done n r' c) z k));
      is_open = (refl, refl);
    }

receipts_finish : (past : List Run) (got q : List ℕ) (sync : ℕ) (r : Run) (v : ℕ) → receipt_in r.ending ≡ v ∷ [] → ReceiptsOk past got q sync → ReceiptsOk (past ++ (r ∷ [])) got (snoc q v) ((sync + 1) % 256)
receipts_finish past got q sync r v e h =
    record {
      same = sym (append_assoc got q (v ∷ [])) ∙ ap (λ (l : List ℕ). l ++ (v ∷ [])) h.same ∙ ap (λ (l : List ℕ). receipts_of past ++ l) (sym (append-nil (v ∷ [])) ∙ ap (λ (l : List ℕ). l ++ []) (sym e)) ∙ sym (receipts_append past (r ∷ []));
      counted = let k = h.counted in simp length-append (omega arith);
    }

-- ── Each event ────────────────────────────────────────────────────────────────────────────────────────────────
module _ (w : CmdLog) (past : List Run) (got : List ℕ) (cap : ℕ) (p : Phase) (cmd cmdr : List ℕ) (sync : ℕ) where
  pub inv_took : (now : Option Run) (v : ℕ) → Inv w past now got cap p cmd cmdr sync → Inv (count_word w (wrote true v)) past now got cap p (snoc cmd v) cmdr sync
  inv_took now v h =
      let o = h.order in
      record {
        words = words_took w cap cmd v h.words;
        order = record { done = o.done; here = o.here; well = o.well; took = took_one w v ∙ ap (λ (l : List ℕ). snoc l v) o.took ∙ simp append_assoc; count = o.count; served = o.served; is_open = o.is_open };
        receipts = h.receipts;
      }

  pub inv_lost : (now : Option Run) (v : ℕ) → cap ≤ length cmd → Inv w past now got cap p cmd cmdr sync → Inv (count_word w (wrote false v)) past now got cap p cmd cmdr sync
  inv_lost now v f h =
      let o = h.order in
      record {
        words = words_lost w cap cmd v f h.words;
        order = record { done = o.done; here = o.here; well = o.well; took = lost_one w v ∙ o.took; count = o.count; served = o.served; is_open = o.is_open };
        receipts = h.receipts;
      }

  pub inv_room : (now : Option Run) → Inv w past now got cap p cmd cmdr sync → Inv (count_word w (saw_room (cap - length cmd))) past now got cap p cmd cmdr sync
  inv_room now h = record { words = words_room w cap cmd h.words; order = h.order; receipts = h.receipts }

  pub inv_start : (now : Option Run) (a : Bool) → idle p ≡ true → whole (cmd_view cap cmd) ≡ true → Inv w past now got cap p cmd cmdr sync
      → (let c = command (cmd_view cap cmd) in Inv w (past ++ opt now) (some (new_run (first_word c))) got cap (begun c a) (drop (word_count (cmd_view cap cmd)) cmd) cmdr sync)
  inv_start now a i f h =
      let c = command (cmd_view cap cmd) in
      let k = begins cap cmd f in
      record {
        words = words_shorter w cap cmd _ k.shorter h.words;
        order = order_start (taken_words w.written) past now p (begun c a) cmd _ (new_run (first_word c)) c i h.order k (begun_open c a k.cut_as);
        receipts = receipts_start past now p h.order.here got cmdr sync i h.order.is_open h.receipts;
      }

  -- a byte or an address while a transfer is open
  pub inv_move : (now : Option Run) (p' : Phase) (f : Run → Run) → idle p ≡ false → ((r : Run) (c : Command) → OpenAs r c p → OpenAs (f r) c p') → Inv w past now got cap p cmd cmdr sync → Inv w past (change f now) got cap p' cmd cmdr sync
  inv_move none p' f i g h = absurd (true≢false (sym h.order.is_open.0 ∙ i))
  inv_move (some r) p' f i g h =
      let o = h.order in
      let n = o.is_open in
      record {
        words = h.words;
        order = record { done = o.done; here = o.here; well = o.well; took = o.took; count = o.count; served = o.served; is_open = record { command = n.command; here = n.here; state = g r n.command n.state } };
        receipts = h.receipts;
      }

  pub inv_finish :
      (now : Option Run) (code : ℕ) → code < 16 → idle p ≡ false → Inv w past now got cap p cmd cmdr sync → (let v = receipt_word code (transfer p).moved.0 sync in Inv w (past ++ opt (change (count_run (finished code v)) now)) none got cap Idle cmd (snoc cmdr v) ((sync + 1) % 256))
  inv_finish none code d i h = absurd (true≢false (sym h.order.is_open.0 ∙ i))
  inv_finish (some r) code d i h =
      let v = receipt_word code (transfer p).moved.0 sync in
      let o = h.order.is_open.state in
      record {
        words = h.words;
        order =
            order_finish (taken_words w.written) past r (count_run (finished code v) r) p cmd h.order
            (record { value = o.value; most = o.most; fitting = record { sends = o.fitting.sends; receives = o.fitting.receives; addresses = o.fitting.addresses }; ended = refl; receipt = (d, rw (o.counted, h.receipts.counted)) });
        receipts = receipts_finish past got cmdr sync (count_run (finished code v) r) v refl h.receipts;
      }

pub inv_got :
    (w : CmdLog) (past : List Run) (now : Option Run) (got : List ℕ) (cap : ℕ) (p : Phase) (cmd cmdr : List ℕ) (v sync : ℕ) → Inv w past now got cap p cmd (v ∷ cmdr) sync → Inv w past now (snoc got v) cap p cmd cmdr sync
inv_got w past now got cap p cmd cmdr v sync h = record { words = h.words; order = h.order; receipts = record { same = append_snoc got v cmdr ∙ h.receipts.same; counted = h.receipts.counted } }
