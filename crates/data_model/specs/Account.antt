-- Where every data word went (02 §13), for authors of drivers: what holds of a ledger and the words in SDO and SDI.
use Rattle.std.specs.Prelude.{ℕ, suc, ◌+◌, ◌-◌, ◌*◌, ◌/◌, ◌%◌, ◌^◌, min, ◌≡◌, Bool, true, false, cond, ◌&&◌, ◌||◌, List, [], ◌∷◌, ◌++◌, map, eqb, length, take, replicate}
use Rattle.std.proofs.Math.Option.{Option, none, some}
use Rattle.std.specs.Int.Count.{ones}
use Rattle.bank.specs.Queues.{queues_in}
use Rattle.bank.specs.Fives.{Sizes}
use Rattle.bank.specs.SetUp.{set_up}
use Rattle.model.specs.Commands.{Command, first_word, is_entdaa, is_read, is_write, length_of}
use Rattle.model.specs.Engine.{Lent, final}
use Rattle.model.specs.Rings.{Controller, areas, words_in, rings}
use Rattle.model.specs.Laws.{fresh_controller}
use Rattle.data_model.specs.Ledger.{Address, Closing, DataRun, Ledger, ledger, data_runs, commands_in}

-- ── Bytes in words ────────────────────────────────────────────────────────────────────────────────────────────
-- `payload.order`: the most significant byte goes first
abbrev pub four_bytes : ℕ → List ℕ
four_bytes w = w / 2 ^ 24 % 256 ∷ w / 2 ^ 16 % 256 ∷ w / 2 ^ 8 % 256 ∷ w % 256 ∷ []

abbrev pub word_of : ℕ → ℕ → ℕ → ℕ → ℕ
word_of a b c d = a * 2 ^ 24 + b * 2 ^ 16 + c * 2 ^ 8 + d

-- four by four; the last has what is left, at least one
unfoldable pub fours : List ℕ → List (List ℕ)
fours [] = []
fours (a ∷ []) = (a ∷ []) ∷ []
fours (a ∷ b ∷ []) = (a ∷ b ∷ []) ∷ []
fours (a ∷ b ∷ c ∷ []) = (a ∷ b ∷ c ∷ []) ∷ []
fours (a ∷ b ∷ c ∷ d ∷ bs) = (a ∷ b ∷ c ∷ d ∷ []) ∷ fours bs

-- a payload in words, the last padded with 0 (`finish.receipt`)
unfoldable pub packed_words : List ℕ → List ℕ
packed_words [] = []
packed_words (a ∷ []) = word_of a 0 0 0 ∷ []
packed_words (a ∷ b ∷ []) = word_of a b 0 0 ∷ []
packed_words (a ∷ b ∷ c ∷ []) = word_of a b c 0 ∷ []
packed_words (a ∷ b ∷ c ∷ d ∷ bs) = word_of a b c d ∷ packed_words bs

-- its full words alone
abbrev pub full_words : List ℕ → List ℕ
full_words bs = take (length bs / 4) (packed_words bs)

-- ── Why a word left SDO ───────────────────────────────────────────────────────────────────────────────────────
-- each for the command of this number, counted from 0 since the release
pub data Departure : Type 0 where
  sent_for : ℕ → List ℕ → Departure  -- with these bytes, one to four
  removed_for : ℕ → Departure
  address_for : ℕ → Address → Departure

-- `finish.removal`: the codes with which a write fails; the command's own words say whether it is a write, so ENTDAA is none
abbrev pub failed_write : Command → ℕ → Bool
failed_write c code = is_write c && (eqb code 4 || eqb code 6 || eqb code 8)

-- `finish.removal`: the words that the commanded length needs, or those that SDO held at the finish, if fewer: what it had taken less the n
-- that had left. None while the transfer is open.
abbrev pub removals : ℕ → Command → Option Closing → ℕ
removals n c none = 0
removals n c (some e) = cond (failed_write c e.code) (min ((length_of c + 3) / 4) (e.sdo_so_far - n)) 0

-- A word leaves as its first byte is sent (`send.byte`), so the last word of a write has left though its end is unsent. By `named` below a run
-- has sent bytes or taken addresses, not both.
abbrev pub used_by : ℕ → DataRun → List Departure
used_by i r = map (sent_for i) (fours r.sent) ++ map (address_for i) r.addresses

abbrev pub leaving : ℕ → ℕ → DataRun → Command → List Departure
leaving i n r c = used_by i r ++ replicate (removals (n + length (used_by i r)) c r.closed) (removed_for i)

-- for the commands from number i on, n words having left before; by `named` there is one for each run
unfoldable pub departures : ℕ → ℕ → List DataRun → List Command → List Departure
departures i n [] cs = []
departures i n (r ∷ rs) [] = []
departures i n (r ∷ rs) (c ∷ cs) = leaving i n r c ++ departures (suc i) (n + length (leaving i n r c)) rs cs

abbrev pub gone : Ledger → List Departure
gone l = departures 0 0 (data_runs l) (commands_in l)

-- What the bus saw of a word as it left: its leading bytes; nothing; its address, and whether address and parity bit have an odd number of
-- ones (`take.address`). A removed word is known by its place alone.
abbrev pub LeftAs : Departure → ℕ → Type 0
LeftAs (sent_for i bs) w = take (length bs) (four_bytes w) ≡ bs
LeftAs (removed_for i) w = Unit {0}
LeftAs (address_for i a) w = (w / 2 ^ 25 ≡ a.value) × (eqb (ones (w / 2 ^ 24) % 2) 1 ≡ a.right)

-- The words are, in order and each once, those that left so; then these wait.
unfoldable pub Went : List Departure → List ℕ → List ℕ → Type 0
Went [] ws waiting = ws ≡ waiting
Went (d ∷ ds) [] waiting = ⊥
Went (d ∷ ds) (w ∷ ws) waiting = LeftAs d w × Went ds ws waiting

-- ── What came to SDI ──────────────────────────────────────────────────────────────────────────────────────────
-- the last bytes of an open read lie outside the queue; its finish pads and queues them (`receive.byte`, `finish.receipt`)
abbrev pub came_of : Option Closing → List ℕ → List ℕ
came_of none bs = full_words bs
came_of (some e) bs = packed_words bs

unfoldable pub arrivals : List DataRun → List ℕ
arrivals [] = []
arrivals (r ∷ rs) = r.asked ++ came_of r.closed r.received ++ arrivals rs

-- ── Each run is of a command ──────────────────────────────────────────────────────────────────────────────────
-- its start showed the command's first word; bytes were sent for a write alone, received for a read alone, and addresses asked for and taken
-- in ENTDAA alone
pub record RunOf (r : DataRun) (c : Command) : Type 0 where
  pub value : r.value ≡ first_word c
  pub sent : is_write c ≡ false → r.sent ≡ []
  pub received : is_read c ≡ false → r.received ≡ []
  pub asked : is_entdaa c ≡ false → r.asked ≡ []
  pub addresses : is_entdaa c ≡ false → r.addresses ≡ []

-- run number n is of command number n
unfoldable pub Named : List DataRun → List Command → Type 0
Named [] cs = Unit {0}
Named (r ∷ rs) [] = ⊥
Named (r ∷ rs) (c ∷ cs) = RunOf r c × Named rs cs

abbrev pub is_closed : Option Closing → Bool
is_closed none = false
is_closed (some e) = true

abbrev pub AllClosed : List DataRun → Type 0
AllClosed [] = Unit {0}
AllClosed (r ∷ rs) = (is_closed r.closed ≡ true) × AllClosed rs

-- ── The claims ────────────────────────────────────────────────────────────────────────────────────────────────
-- of a ledger, and the words that SDO and SDI then hold
pub record DataAccount (l : Ledger) (in_sdo in_sdi : List ℕ) : Type 0 where
  -- `data.named`: what a word left for or came from is a command that can be named
  pub named : Named (data_runs l) (commands_in l)
  -- `data.named`: the last run alone may be open
  pub finished : AllClosed l.past
  -- `data.named`: no address is asked for or taken outside a run
  pub in_runs : l.astray ≡ 0
  -- `data.sdo`: the words that SDO took have left, in order and each once, sent, removed or taken as an address; the others wait
  pub sdo : Went (gone l) l.sdo in_sdo
  -- `data.sdi`: the words read and, behind them, those that wait are the payloads of reads and the words of address requests, in order, of
  -- an open read the full words
  pub sdi : l.sdi ++ in_sdi ≡ arrivals (data_runs l)

-- of a ledger, and the bank and the store that the calls left
abbrev pub KeepsData : Ledger → Controller → Type 0
KeepsData l c = let a = areas (queues_in c.bank) in DataAccount l (words_in a.sdo c.store) (words_in a.sdi c.store)

-- Demand 3's lists: any set-up answered 0, any store, calls with any outputs lent. A list that ends released has a ledger; each beginning of
-- it is a list too, so the claims hold at every moment from a release to the next reset.
unfoldable pub DataKept : Type 0
DataKept =
    (caps marks : Sizes) (id : ℕ) (store : List ℕ) (cs : List Lent) (l : Ledger) → (set_up caps marks id).answer.number ≡ 0
    → let b = fresh_controller caps marks id store in
    ledger rings none b cs ≡ some l → KeepsData l (final rings b cs)
