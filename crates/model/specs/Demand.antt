-- Demand 3 of paper 00: one statement about a whole list of calls from a fresh bank. What it speaks of is counted as 01 says, 'What
-- demand 3 counts': from the calls and their answers, beginning anew at each release.
use Rattle.std.specs.Prelude.{ℕ, suc, ◌+◌, ◌-◌, ◌%◌, ◌≤◌, ◌<◌, ◌≡◌, Bool, true, false, cond, not, ◌||◌, List, [], ◌∷◌, ◌++◌, ltb, eqb, length, take}
use Rattle.std.proofs.Math.Option.{Option, none, some}
use Rattle.number.specs.Names as number
use Rattle.bank.specs.Queues.{queues_in}
use Rattle.bank.specs.Fives.{Sizes}
use Rattle.bank.specs.declared.Control.{Control}
use Rattle.bank.specs.declared.Phase.{Phase}
use Rattle.bank.specs.declared.Phase.TheVariants.{Idle}
use Rattle.bank.specs.Phases.{idle}
use Rattle.bank.specs.Bursts.{bursting}
use Rattle.bank.specs.SetUp.{set_up}
use Rattle.model.specs.declared.Call.{Call}
use Rattle.model.specs.declared.Call.TheVariants.{Read, Write, Start, Send, Receive, Finish, Interrupt, Request, Take, Trigger}
use Rattle.bank.specs.declared.Answer.{Answer}
use Rattle.bank.specs.Bits.{bit}
use Rattle.model.specs.Commands.{Command, Single, Ccc, two_words, first_word, words_of, is_entdaa, is_read, is_write, length_of, receipt_word}
use Rattle.model.specs.Engine.{Engine, Lent, step_lent, final}
use Rattle.model.specs.Rings.{Controller, areas, words_in, rings}

-- ── What a call with its answer counts as ─────────────────────────────────────────────────────────────────────
-- of the command queue: a word written to CMD, and whether it was answered 0; a read of the room
pub data WordEvent : Type 0 where
  wrote : Bool → ℕ → WordEvent
  saw_room : ℕ → WordEvent

-- of the bus, each answered 0 (an address take also 19): a start with its value, a finish with its code and its value
pub data RunEvent : Type 0 where
  started : ℕ → RunEvent
  sent received addressed : RunEvent
  finished : ℕ → ℕ → RunEvent

pub data Event : Type 0 where
  enabled : Bool → Event  -- a write to ENABLE answered 0, with its bit 0
  word : WordEvent → Event
  bus : RunEvent → Event
  got_receipt : ℕ → Event  -- a read of CMDR answered 0, with its value
  other : Event

-- ENABLE is at 0x040, CMD at 0x0d4, CMDR at 0x0d8; the room of CMD is read at 0x0c0
abbrev pub write_event : ℕ → ℕ → Bool → Event
write_event o v ok = cond (eqb o 0x040) (cond ok (enabled (bit 0 v)) other) (cond (eqb o 0x0d4) (word (wrote ok v)) other)

abbrev pub read_event : ℕ → ℕ → Bool → Event
read_event o v ok = cond (eqb o 0x0c0) (cond ok (word (saw_room v)) other) (cond (eqb o 0x0d8) (cond ok (got_receipt v) other) other)

-- an address take answered 19 counts with those answered 0 (D5); a trigger and an interrupt request count for nothing
abbrev pub event : Call → Answer → Event
event (Read o) a = read_event o a.value (eqb a.number 0)
event (Write o v) a = write_event o v (eqb a.number 0)
event Start a = cond (eqb a.number 0) (bus (started a.value)) other
event Send a = cond (eqb a.number 0) (bus sent) other
event (Receive byte) a = cond (eqb a.number 0) (bus received) other
event (Finish code) a = cond (eqb a.number 0) (bus (finished code a.value)) other
event (Interrupt d byte) a = other
event (Request v w) a = cond (eqb a.number 0) (bus addressed) other
event Take a = cond (eqb a.number 0 || eqb a.number number.wrong_parity) (bus addressed) other
event Trigger a = other

-- ── The tally since the last release ──────────────────────────────────────────────────────────────────────────
-- a word written to CMD
pub record Written : Type 0 where
  pub word : ℕ
  pub taken : Bool  -- answered 0
  pub room_seen : Bool  -- the condition of `demand.room`: since the release the room was read above 0, and no word was written after that
  pub promised : Bool  -- the last read of the room, less the words written since, left a place for it

pub record CmdLog : Type 0 where
  pub written : List Written  -- in order
  pub room_seen : Bool  -- the room was read above 0, and no word was written since
  pub credit : ℕ  -- the room last read, less the words written since

pub record Ending : Type 0 where
  pub code : ℕ
  pub receipt : ℕ  -- the value of the finish

-- 01's term of a command that is open: from a start answered 0 to the next finish answered 0. What was answered 0 meanwhile is counted.
pub record Run : Type 0 where
  pub value : ℕ
  pub sends : ℕ
  pub receives : ℕ
  pub addresses : ℕ  -- address requests, and takes answered 0 or 19
  pub ending : Option Ending

pub record Tally : Type 0 where
  pub words : CmdLog
  pub past : List Run  -- runs no longer open; a start while one is open leaves it here without an ending
  pub now : Option Run  -- the run that is open
  pub receipts : List ℕ  -- the receipts read

abbrev pub snoc : {A : Type 0} → List A → A → List A
snoc l a = l ++ (a ∷ [])

abbrev pub opt : {A : Type 0} → Option A → List A
opt none = []
opt (some a) = a ∷ []

abbrev pub count_word : CmdLog → WordEvent → CmdLog
count_word w (wrote ok v) =
    record {
      written = snoc w.written (record { word = v; taken = ok; room_seen = w.room_seen; promised = ltb 0 w.credit });
      room_seen = false;
      credit = w.credit - 1;
    }
count_word w (saw_room n) = record { written = w.written; room_seen = w.room_seen || ltb 0 n; credit = n }

-- what an event is to the open run
abbrev pub count_run : RunEvent → Run → Run
count_run (started v) r = r
count_run sent r = record { value = r.value; sends = suc r.sends; receives = r.receives; addresses = r.addresses; ending = r.ending }
count_run received r = record { value = r.value; sends = r.sends; receives = suc r.receives; addresses = r.addresses; ending = r.ending }
count_run addressed r = record { value = r.value; sends = r.sends; receives = r.receives; addresses = suc r.addresses; ending = r.ending }
count_run (finished code v) r = record { value = r.value; sends = r.sends; receives = r.receives; addresses = r.addresses; ending = some (record { code = code; receipt = v }) }

-- an event outside a run counts for none
abbrev pub change : (Run → Run) → Option Run → Option Run
change f none = none
change f (some r) = some (f r)

abbrev pub new_run : ℕ → Run
new_run v = record { value = v; sends = 0; receives = 0; addresses = 0; ending = none }

abbrev pub count : Tally → RunEvent → Tally
count t (started v) = record { words = t.words; past = t.past ++ opt t.now; now = some (new_run v); receipts = t.receipts }
count t sent = record { words = t.words; past = t.past; now = change (count_run sent) t.now; receipts = t.receipts }
count t received = record { words = t.words; past = t.past; now = change (count_run received) t.now; receipts = t.receipts }
count t addressed = record { words = t.words; past = t.past; now = change (count_run addressed) t.now; receipts = t.receipts }
count t (finished code v) = record { words = t.words; past = t.past ++ opt (change (count_run (finished code v)) t.now); now = none; receipts = t.receipts }

abbrev pub nothing : Tally
nothing = record { words = record { written = []; room_seen = false; credit = 0 }; past = []; now = none; receipts = [] }

-- `demand.counted`, and 01's terms reset and release, told by writes to ENABLE answered 0: one with bit 0 set is a reset; one with bit 0
-- clear is a release where none came since set-up or the last reset. none: in reset, and nothing counts.
abbrev pub follow : Option Tally → Event → Option Tally
follow none (enabled true) = none
follow none (enabled false) = some nothing
follow none (word e) = none
follow none (bus e) = none
follow none (got_receipt v) = none
follow none other = none
follow (some t) (enabled true) = none
follow (some t) (enabled false) = some t
follow (some t) (word e) = some (record { words = count_word t.words e; past = t.past; now = t.now; receipts = t.receipts })
follow (some t) (bus e) = some (count t e)
follow (some t) (got_receipt v) = some (record { words = t.words; past = t.past; now = t.now; receipts = snoc t.receipts v })
follow (some t) other = some t

-- ── Words, commands, runs ─────────────────────────────────────────────────────────────────────────────────────
unfoldable pub all_words : List Written → List ℕ
all_words [] = []
all_words (w ∷ ws) = w.word ∷ all_words ws

-- 01's term of the words that CMD took: those of the writes answered 0
unfoldable pub taken_words : List Written → List ℕ
taken_words [] = []
taken_words (w ∷ ws) = let r = taken_words ws in cond w.taken (w.word ∷ r) r

unfoldable pub Every : (Written → Type 0) → List Written → Type 0
Every P [] = Unit {0}
Every P (w ∷ ws) = P w × Every P ws

-- 01's cut of words into commands, from the front, by bit 22 (`command.ccc`); the first word of a CCC without its second is no command yet
unfoldable pub cut : List ℕ → List Command
cut [] = []
cut (w ∷ []) = cond (two_words w) [] (Single w ∷ [])
cut (w ∷ x ∷ ws) = cond (two_words w) (Ccc w x ∷ cut ws) (Single w ∷ cut (x ∷ ws))

unfoldable pub joined : List Command → List ℕ
joined [] = []
joined (c ∷ cs) = words_of c ++ joined cs

-- P holds of each run, from number i on, with the command of the same number; there are commands enough
unfoldable pub Each : (ℕ → Run → Command → Type 0) → ℕ → List Run → List Command → Type 0
Each P i [] cs = Unit {0}
Each P i (r ∷ rs) [] = ⊥
Each P i (r ∷ rs) (c ∷ cs) = P i r c × Each P (suc i) rs cs

abbrev pub runs : Tally → List Run
runs t = t.past ++ opt t.now

abbrev pub taken : Tally → List ℕ
taken t = taken_words t.words.written

abbrev pub commands : Tally → List Command
commands t = cut (taken t)

-- 01's term of the bytes moved: sends and receives together
abbrev pub moved : Run → ℕ
moved r = r.sends + r.receives

-- the value of a finish is the receipt of its run (`receipt.word`): with the finish's code, the m bytes moved, and as sync (`receipt.sync`)
-- the number i of the runs before it, modulo 256; these have all ended, by `finished` below
abbrev pub ReceiptOf : ℕ → ℕ → Option Ending → Type 0
ReceiptOf i m none = Unit {0}
ReceiptOf i m (some e) = (e.code < 16) × (e.receipt ≡ receipt_word e.code m (i % 256))

-- of `demand.finished`: the command's own words say whether bytes were sent or received, and whether addresses were asked for and taken
pub record Fitting (r : Run) (c : Command) : Type 0 where
  pub sends : is_write c ≡ false → r.sends ≡ 0
  pub receives : is_read c ≡ false → r.receives ≡ 0
  pub addresses : is_entdaa c ≡ false → r.addresses ≡ 0

abbrev pub has_ended : Option Ending → Bool
has_ended none = false
has_ended (some e) = true

abbrev pub AllEnded : List Run → Type 0
AllEnded [] = Unit {0}
AllEnded (r ∷ rs) = (has_ended r.ending ≡ true) × AllEnded rs

abbrev pub is_open : Option Run → Bool
is_open none = false
is_open (some r) = true

abbrev pub receipt_in : Option Ending → List ℕ
receipt_in none = []
receipt_in (some e) = e.receipt ∷ []

abbrev pub receipts_of : List Run → List ℕ
receipts_of [] = []
receipts_of (r ∷ rs) = receipt_in r.ending ++ receipts_of rs

-- ── The demand ────────────────────────────────────────────────────────────────────────────────────────────────
-- of a tally, whether a transfer outside a burst is open at the end, and the words that CMD and CMDR then hold
pub record Demand3 (t : Tally) (transfer_open : Bool) (cmd cmdr : List ℕ) : Type 0 where
  -- `demand.started`: run number n started command number n, and its value is that command's first word
  pub started : Each (λ i r c. r.value ≡ first_word c) 0 (runs t) (commands t)
  -- `demand.started`: the words taken are those of the started commands and, behind them, those that CMD holds
  pub waiting : taken t ≡ joined (take (length (runs t)) (commands t)) ++ cmd
  -- `demand.finished`: every run has ended but one that is open at the end, and one is open just where a transfer is
  pub finished : AllEnded t.past
  pub opened : is_open t.now ≡ transfer_open
  -- `demand.finished`: the receipt of each run that ended
  pub receipted : Each (λ i r c. ReceiptOf i (moved r) r.ending) 0 (runs t) (commands t)
  -- `demand.finished`: no more bytes moved than the command's length
  pub bounded : Each (λ i r c. moved r ≤ length_of c) 0 (runs t) (commands t)
  -- `demand.finished`: bytes and addresses moved only as the command's own words allow
  pub fitting : Each (λ i r c. Fitting r c) 0 (runs t) (commands t)
  -- `demand.receipts`: those read and, behind them, those in CMDR are the receipts of the runs
  pub receipts : t.receipts ++ cmdr ≡ receipts_of (runs t)
  -- `demand.room`: a word before which room was seen was taken
  pub room : Every (λ w. w.room_seen ≡ true → w.taken ≡ true) t.words.written
  -- `demand.credit`: after a read of room r the next r words were taken; paper 00 does not ask for this
  pub credit : Every (λ w. w.promised ≡ true → w.taken ≡ true) t.words.written
  -- `demand.room`: where room was seen before each word, all were taken
  pub complete : Every (λ w. w.room_seen ≡ true) t.words.written → taken t ≡ all_words t.words.written

-- ── Every list of calls ───────────────────────────────────────────────────────────────────────────────────────
-- the tally of a list of calls on an engine, going on from o
module _ {B : Type 0} (g : Engine B) where
  unfoldable pub tally : Option Tally → B → List Lent → Option Tally
  tally o b [] = o
  tally o b (c ∷ cs) = tally (follow o (event c.call (step_lent g b c).answer)) (step_lent g b c).next cs

-- `demand.bursts`: a transfer of a burst is none of a direct command
abbrev pub direct_phase : Control → Phase → Phase
direct_phase c p = cond (bursting c) Idle p

-- Demand 3, of every list that ends released, so that its tally is some t, from a fresh bank: 01's term for the bank of any set-up answered
-- 0, with any words in its store. `demand.bursts`: triggers may be in the list, and each call is lent any output.
unfoldable pub Demand : Type 0
Demand =
    (caps marks : Sizes) (id : ℕ) (store : List ℕ) (cs : List Lent) (t : Tally) → (set_up caps marks id).answer.number ≡ 0
    → let b : Controller = record { bank = (set_up caps marks id).bank; store = store; output = [] } in
    tally rings none b cs ≡ some t
    → let l = final rings b cs in
    let a = areas (queues_in l.bank) in
    Demand3 t (not (idle (direct_phase l.bank.state.control l.bank.state.phase))) (words_in a.cmd l.store) (words_in a.cmdr l.store)
