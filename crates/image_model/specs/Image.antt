-- What a host keeps of a bank: an image, a list of words, of all but its tables, and the tables as they lie. Here are the words that a bank
-- has, the bank that is said, and what is kept of a well-formed one. Each word's place is named once, under 'Places'.
use Rattle.std.specs.Prelude.{ℕ, ◌+◌, ◌%◌, Bool, true, false, cond, ◌&&◌, List, [], ◌∷◌, ◌++◌, eqb, length, get_or}
use Rattle.ring.specs.declared.Words.{Words}
use Rattle.ring.specs.Units.{bytes, words}
use Rattle.bank.specs.Fives.{Counts}
use Rattle.bank.specs.Fives.{Heads}
use Rattle.bank.specs.declared.Regs.{Regs}
use Rattle.bank.specs.declared.Latest.{Latest}
use Rattle.bank.specs.declared.Control.{Control}
use Rattle.bank.specs.declared.Kind.{Kind}
use Rattle.bank.specs.declared.Kind.TheVariants.{Private, Direct, Broadcast}
use Rattle.bank.specs.declared.Transfer.{Transfer}
use Rattle.bank.specs.declared.Phase.{Phase}
use Rattle.bank.specs.declared.Phase.TheVariants.{Idle, Writing, Reading, Unrequested, Requested, Answered}
use Rattle.bank.specs.declared.State.{State}
use Rattle.bank.specs.declared.Bank.{Bank}
use Rattle.bank.specs.Bits.{word_if}
use Rattle.bank.specs.Phases.{stage, transfer}
use Rattle.bank.specs.Formed.{well_formed}

-- ── Places ────────────────────────────────────────────────────────────────────────────────────────────────────
-- of the queues' words: four a queue, in the order CMD, CMDR, SDO, SDI, IBI
abbrev pub at_caps : ℕ
at_caps = 0

abbrev pub at_marks : ℕ
at_marks = 1

abbrev pub at_heads : ℕ
at_heads = 2

abbrev pub at_levels : ℕ
at_levels = 3

-- of the registers that are kept
abbrev pub at_id : ℕ
at_id = 20

abbrev pub at_scratch : ℕ
at_scratch = 21

abbrev pub at_mask : ℕ
at_mask = 22

abbrev pub at_ops : ℕ
at_ops = 23

abbrev pub at_config : ℕ
at_config = 24

abbrev pub at_selected : ℕ
at_selected = 25

-- of the control
abbrev pub at_held : ℕ
at_held = 26

abbrev pub at_sync : ℕ
at_sync = 27

abbrev pub at_ibisync : ℕ
at_ibisync = 28

abbrev pub at_cmdrpending : ℕ
at_cmdrpending = 29

abbrev pub at_ibipending : ℕ
at_ibipending = 30

abbrev pub at_daapending : ℕ
at_daapending = 31

abbrev pub at_burst : ℕ
at_burst = 32

abbrev pub at_cmdrlatest : ℕ
at_cmdrlatest = 33

abbrev pub at_sdilatest : ℕ
at_sdilatest = 34

abbrev pub at_ibilatest : ℕ
at_ibilatest = 35

-- of the phase and its transfer
abbrev pub at_stage : ℕ
at_stage = 36

abbrev pub at_kind : ℕ
at_kind = 37

abbrev pub at_header : ℕ
at_header = 38

abbrev pub at_length : ℕ
at_length = 39

abbrev pub at_moved : ℕ
at_moved = 40

abbrev pub at_attached : ℕ
at_attached = 41

abbrev pub at_part : ℕ
at_part = 42

-- how many words an image has
abbrev pub size : ℕ
size = 43

-- ── The words of a bank ───────────────────────────────────────────────────────────────────────────────────────
-- of a queue: capacity, watermark, head, level
abbrev pub queue_words : Words → Words → ℕ → Words → List ℕ
queue_words k m h l = k.0 ∷ m.0 ∷ h ∷ l.0 ∷ []

abbrev pub reg_words : Regs → List ℕ
reg_words g = g.id ∷ g.scratch ∷ g.mask ∷ g.ops ∷ g.config ∷ g.selected ∷ []

-- a flag is 1 or 0
abbrev pub control_words : Control → List ℕ
control_words c =
    word_if c.held 1 ∷ c.sync ∷ c.ibisync ∷ word_if c.cmdrpending 1 ∷ word_if c.ibipending 1 ∷ word_if c.daapending 1 ∷ c.burst ∷ c.latest.cmdr ∷ c.latest.sdi ∷ c.latest.ibi ∷ []

abbrev pub kind_number : Kind → ℕ
kind_number Private = 0
kind_number Direct = 1
kind_number Broadcast = 2

abbrev pub transfer_words : Transfer → List ℕ
transfer_words t =
    kind_number t.kind ∷ word_if t.header 1 ∷ t.length.0 ∷ t.moved.0 ∷ word_if t.attached 1 ∷ t.part ∷ []

-- the number of the phase, then its transfer; where none is open, zeros
abbrev pub phase_words : Phase → List ℕ
phase_words p = stage p ∷ transfer_words (transfer p)

abbrev pub image_of : State → Heads → List ℕ
image_of s h =
    let k = s.caps in
    let m = s.regs.marks in
    let l = s.levels in
    queue_words k.cmd m.cmd h.cmd l.cmd ++ (queue_words k.cmdr m.cmdr h.cmdr l.cmdr ++ (queue_words k.sdo m.sdo h.sdo l.sdo
    ++ (queue_words k.sdi m.sdi h.sdi l.sdi ++ (queue_words k.ibi m.ibi h.ibi l.ibi
    ++ (reg_words s.regs ++ (control_words s.control ++ phase_words s.phase))))))

-- ── The bank that some words say ──────────────────────────────────────────────────────────────────────────────
-- one number of each queue: four words a queue
abbrev pub counts_in : List ℕ → ℕ → Counts
counts_in ws at = record { cmd = words (get_or ws at 0); cmdr = words (get_or ws (at + 4) 0); sdo = words (get_or ws (at + 8) 0); sdi = words (get_or ws (at + 12) 0); ibi = words (get_or ws (at + 16) 0) }

abbrev pub heads_in : List ℕ → Heads
heads_in ws = record { cmd = get_or ws at_heads 0; cmdr = get_or ws (at_heads + 4) 0; sdo = get_or ws (at_heads + 8) 0; sdi = get_or ws (at_heads + 12) 0; ibi = get_or ws (at_heads + 16) 0 }

-- a field of a byte, and one of a bit
abbrev pub byte_in : List ℕ → ℕ → ℕ
byte_in ws at = get_or ws at 0 % 256

abbrev pub bit_in : List ℕ → ℕ → Bool
bit_in ws at = eqb (get_or ws at 0) 1

abbrev pub kind_in : ℕ → Kind
kind_in n = cond (eqb n 0) Private (cond (eqb n 1) Direct Broadcast)

abbrev pub transfer_in : List ℕ → Transfer
transfer_in ws =
    record { kind = kind_in (get_or ws at_kind 0); header = bit_in ws at_header; length = bytes (get_or ws at_length 0); moved = bytes (get_or ws at_moved 0); attached = bit_in ws at_attached; part = get_or ws at_part 0 }

abbrev pub phase_in : ℕ → Transfer → Phase
phase_in n t =
    cond (eqb n 0) Idle
    (cond (eqb n 1) (Writing t)
    (cond (eqb n 2) (Reading t)
    (cond (eqb n 3) (Unrequested t)
    (cond (eqb n 4) (Requested t)
    (Answered t)))))

abbrev pub regs_in : List ℕ → Regs
regs_in ws = record { id = byte_in ws at_id; scratch = get_or ws at_scratch 0; mask = byte_in ws at_mask; ops = byte_in ws at_ops; config = byte_in ws at_config; selected = byte_in ws at_selected; marks = counts_in ws at_marks }

abbrev pub latest_in : List ℕ → Latest
latest_in ws = record { cmdr = get_or ws at_cmdrlatest 0; sdi = get_or ws at_sdilatest 0; ibi = get_or ws at_ibilatest 0 }

abbrev pub control_in : List ℕ → Control
control_in ws =
    record { held = bit_in ws at_held; sync = byte_in ws at_sync; ibisync = byte_in ws at_ibisync; cmdrpending = bit_in ws at_cmdrpending; ibipending = bit_in ws at_ibipending; daapending = bit_in ws at_daapending; burst = byte_in ws at_burst; latest = latest_in ws }

abbrev pub state_in : List ℕ → State
state_in ws = record { caps = counts_in ws at_caps; levels = counts_in ws at_levels; regs = regs_in ws; control = control_in ws; phase = phase_in (get_or ws at_stage 0) (transfer_in ws) }

-- ── Which words are a bank's ──────────────────────────────────────────────────────────────────────────────────
abbrev pub same : List ℕ → List ℕ → Bool
same [] [] = true
same [] (y ∷ ys) = false
same (x ∷ xs) [] = false
same (x ∷ xs) (y ∷ ys) = eqb x y && same xs ys

-- words that a state has: those of the state that they say
unfoldable pub encoded : List ℕ → Bool
encoded ws = same ws (image_of (state_in ws) (heads_in ws))

-- ── What a host keeps ─────────────────────────────────────────────────────────────────────────────────────────
pub record Kept : Type 0 where
  pub image : List ℕ
  pub flags : List ℕ
  pub commands : List ℕ
  pub payloads : List ℕ

abbrev pub kept : List ℕ → List ℕ → List ℕ → List ℕ → Kept
kept ws fs cs ps = record { image = ws; flags = fs; commands = cs; payloads = ps }

-- of a bank
unfoldable pub kept_of : Bank → Kept
kept_of b = kept (image_of b.state b.heads) b.flags b.commands b.payloads

-- the bank that is said
unfoldable pub bank_in : Kept → Bank
bank_in k = record { state = state_in k.image; heads = heads_in k.image; flags = k.flags; commands = k.commands; payloads = k.payloads }

-- an image of its length, 128 flag bytes, 16 words and 16 words
abbrev pub sized : Kept → Bool
sized k = eqb (length k.image) size && (eqb (length k.flags) 128 && (eqb (length k.commands) 16 && eqb (length k.payloads) 16))

-- what is kept of a well-formed bank; anything else is answered 21
unfoldable pub is_kept : Kept → Bool
is_kept k = sized k && (encoded k.image && well_formed (bank_in k))
