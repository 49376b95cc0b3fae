-- A burst from its trigger to its last finish: what its writes sent (`burst.bytes`), what its reads left in the output (`burst.finish`),
-- and that queues, syncs and pending bits are as if its events had not been (`burst.commands`). Statements; proofs/BurstLaw.antt has the
-- proofs.
use Rattle.std.specs.Prelude.{ℕ, zero, suc, ◌+◌, ◌-◌, ◌*◌, ◌/◌, ◌%◌, ◌^◌, ◌≤◌, ◌≡◌, Bool, true, false, cond, not, ◌&&◌, List, [], ◌∷◌, ◌++◌, eqb, length, get_or, drop}
use Rattle.number.specs.Names as number
use Rattle.bank.specs.Queues.{queues_in}
use Rattle.bank.specs.declared.Answer.{Answer}
use Rattle.bank.specs.Bits.{bit, bits}
use Rattle.bank.specs.Phases.{idle}
use Rattle.bank.specs.Bursts.{span, reads_in, writes_in}
use Rattle.model.specs.declared.Call.{Call}
use Rattle.model.specs.declared.Call.TheVariants.{Read, Write, Start, Send, Receive, Finish, Interrupt, Request, Take, Trigger}
use Rattle.model.specs.Engine.{step}
use Rattle.model.specs.Rings.{Controller, rings}
use Rattle.model.specs.Laws.{is_access}
use Rattle.model.specs.Demand.{snoc}

-- ── Calls one after another; bank, store and output are written by nobody else ────────────────────────────────
unfoldable pub after : Controller → List Call → Controller
after l [] = l
after l (c ∷ cs) = after (step rings l c).next cs

unfoldable pub accesses : List Call → List Call
accesses [] = []
accesses (c ∷ cs) = cond (is_access c) (c ∷ accesses cs) (accesses cs)

-- a write of 1 to ENABLE
abbrev pub resets : Call → Bool
resets (Read o) = false
resets (Write o v) = eqb o 0x040 && bit 0 v
resets Start = false
resets Send = false
resets (Receive byte) = false
resets (Finish code) = false
resets (Interrupt a byte) = false
resets (Request v w) = false
resets Take = false
resets Trigger = false

unfoldable pub no_reset : List Call → Bool
no_reset [] = true
no_reset (c ∷ cs) = not (resets c) && no_reset cs

-- ── What a burst moved, from its calls and their answers ──────────────────────────────────────────────────────
-- the bytes of one transfer: the values of its sends and the bytes of its receives, those answered 0
pub record Moved : Type 0 where
  pub sent : List ℕ
  pub received : List ℕ

pub record Log : Type 0 where
  pub done : List Moved  -- the transfers finished, each by a finish answered 0
  pub now : Moved

abbrev pub untouched : Moved
untouched = record { sent = []; received = [] }

abbrev pub noted : Log → Call → Answer → Log
noted g (Read o) a = g
noted g (Write o v) a = g
noted g Start a = g
noted g Send a = cond (eqb a.number 0) (record { done = g.done; now = record { sent = snoc g.now.sent a.value; received = g.now.received } }) g
noted g (Receive byte) a = cond (eqb a.number 0) (record { done = g.done; now = record { sent = g.now.sent; received = snoc g.now.received byte } }) g
noted g (Finish code) a = cond (eqb a.number 0) (record { done = snoc g.done g.now; now = untouched }) g
noted g (Interrupt d byte) a = g
noted g (Request v w) a = g
noted g Take a = g
noted g Trigger a = g

unfoldable pub logged : Log → Controller → List Call → Log
logged g l [] = g
logged g l (c ∷ cs) = logged (noted g c (step rings l c).answer) (step rings l c).next cs

-- ── Bytes of words ────────────────────────────────────────────────────────────────────────────────────────────
-- the first n bytes of w, the most significant first: `payload.order`
unfoldable pub leading : ℕ → ℕ → List ℕ
leading zero w = []
leading (suc n) w = snoc (leading n w) (w / 2 ^ (24 - 8 * n) % 256)

-- the word that has these bytes from place j on, and 0 in its other places
unfoldable pub packed : ℕ → List ℕ → ℕ
packed j [] = 0
packed j (b ∷ bs) = b * 2 ^ (24 - 8 * j) + packed (suc j) bs

-- ── The law ───────────────────────────────────────────────────────────────────────────────────────────────────
-- the transfer of the command at place k: of a write the bytes sent are the leading bytes of the data word that its place gives, and a
-- read sends none; neither moves more than its length
pub record Agrees (commands payloads : List ℕ) (k : ℕ) (t : Moved) : Type 0 where
  pub reads : bit 0 (get_or commands k 0) ≡ true → t.sent ≡ []
  pub writes : bit 0 (get_or commands k 0) ≡ false → (t.received ≡ []) × (t.sent ≡ leading (length t.sent) (get_or payloads (writes_in k commands) 0))
  pub bounded : length t.sent + length t.received ≤ bits 19 8 (get_or commands k 0)

unfoldable pub EachAgrees : List ℕ → List ℕ → ℕ → List Moved → Type 0
EachAgrees ws ps k [] = Unit {0}
EachAgrees ws ps k (t ∷ ts) = Agrees ws ps k t × EachAgrees ws ps (suc k) ts

-- the words of the reads, in order
unfoldable pub read_words : List ℕ → ℕ → List Moved → List ℕ
read_words ws k [] = []
read_words ws k (t ∷ ts) = cond (bit 0 (get_or ws k 0)) (packed 0 t.received ∷ read_words ws (suc k) ts) (read_words ws (suc k) ts)

-- l before the trigger, m after the last finish, n where the accesses alone were made, ts the transfers
pub record Burst (l m n : Controller) (ts : List Moved) : Type 0 where
  pub transfers : EachAgrees l.bank.commands l.bank.payloads 0 ts
  -- the output: a word for each read; the words behind these stay
  pub output : m.output ≡ read_words l.bank.commands 0 ts ++ drop (reads_in (span l.bank.state.regs) l.bank.commands) l.output
  -- the five queues, ENABLE, both syncs and the pending bits are what the accesses alone leave
  pub queues : queues_in m.bank ≡ queues_in n.bank
  pub store : m.store ≡ n.store
  pub control : m.bank.state.control ≡ n.bank.state.control
  pub closed : idle m.bank.state.phase ≡ true

-- A trigger answered 0, calls without a reset, as many finishes answered 0 as the burst has commands, the last of them at the end.
unfoldable pub BurstLaw : Type 0
BurstLaw =
    (l : Controller) (cs : List Call) (code : ℕ) → (step rings l Trigger).answer.number ≡ 0 → no_reset cs ≡ true
    → let b = (step rings l Trigger).next in
    let m = after b cs in
    let g = logged (record { done = []; now = untouched }) b cs in
    suc (length g.done) ≡ span l.bank.state.regs → (step rings m (Finish code)).answer.number ≡ 0
    → Burst l (step rings m (Finish code)).next (after l (accesses cs)) (snoc g.done g.now)

-- `burst.events`: after the trigger an interrupt request is answered 6 as long as the burst is open.
unfoldable pub BurstIsBusy : Type 0
BurstIsBusy =
    (l : Controller) (cs : List Call) (a byte : ℕ) → (step rings l Trigger).answer.number ≡ 0 → no_reset cs ≡ true → a ≤ 127
    → let b = (step rings l Trigger).next in
    suc (length (logged (record { done = []; now = untouched }) b cs).done) ≤ span l.bank.state.regs
    → (step rings (after b cs) (Interrupt a byte)).answer ≡ record { value = 0; number = number.transfer_open }
