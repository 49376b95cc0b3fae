-- The worked session of 01, 'A session', with 02 §5's last answer, and the cases that 01 marks P, in one table: calls on the session's bank, then calls with their
-- answers.
use Rattle.std.specs.Prelude.{ℕ, zero, suc, ◌≡◌, Bool, true, ◌&&◌, List, [], ◌∷◌, eqb, replicate}
use Rattle.bank.specs.Fives.{Sizes}
use Rattle.bank.specs.SetUp.{set_up}
use Rattle.model.specs.declared.Call.{Call}
use Rattle.model.specs.declared.Call.TheVariants.{Read, Write, Start, Send, Receive, Finish, Interrupt, Request, Take}
use Rattle.model.specs.Engine.{step, lending, final}
use Rattle.model.specs.Rings.{Controller, rings}

abbrev pub sizes : ℕ → ℕ → ℕ → ℕ → ℕ → Sizes
sizes a b c d e = record { cmd = a; cmdr = b; sdo = c; sdi = d; ibi = e }

-- the bank of a session (`session.bank`), with a store of zeros and no output
abbrev pub worked_session : Controller
worked_session = record { bank = (set_up (sizes 4 4 4 4 4) (sizes 1 3 1 3 3) 0).bank; store = replicate 20 0; output = [] }

-- a call, the value and the number of its answer
infix 70 ◌⇝◌·◌
pub data Line : Type 0 where
  ◌⇝◌·◌ : Call → ℕ → ℕ → Line

unfoldable pub answered : Controller → List Line → Bool
answered l [] = true
answered l ((c ⇝ v · n) ∷ ls) = eqb (step rings l c).answer.value v && eqb (step rings l c).answer.number n && answered (step rings l c).next ls

pub record Case : Type 0 where
  pub before : List Call
  pub lines : List Line

infix 5 ◌then◌
abbrev pub ◌then◌ : List Call → List Line → Case
cs then ls = record { before = cs; lines = ls }

unfoldable pub all_hold : List Case → Bool
all_hold [] = true
all_hold (k ∷ ks) = answered (final rings worked_session (lending [] k.before)) k.lines && all_hold ks

abbrev pub release : Call
release = Write 0x040 0

-- device 8: attached, may interrupt, sends a byte
abbrev pub device8 : Call
device8 = Write 0x180 0x110e

-- a private write of no bytes, its receipt read, n times
unfoldable pub rounds : ℕ → List Call
rounds zero = []
rounds (suc n) = Write 0xd4 0x10 ∷ Start ∷ Finish 0 ∷ Read 0xd8 ∷ rounds n

unfoldable pub worked : Case
worked =
    [] then Write 0x040 0 ⇝ 0 · 0 ∷ Write 0x180 0x1102 ⇝ 0 · 0 ∷ Write 0xdc 0xa5c30000 ⇝ 0 · 0 ∷ Write 0xd4 0x210 ⇝ 0 · 0 ∷ Start ⇝ 0x210 · 0
    ∷ Send ⇝ 0xa5 · 0 ∷ Send ⇝ 0xc3 · 0 ∷ Finish 0 ⇝ 0x200 · 0 ∷ Read 0xd8 ⇝ 0x200 · 0 ∷ Read 0xd8 ⇝ 0x200 · 3 ∷ []

-- a write of two bytes sends no third: 11 of `send.tests`
unfoldable pub third_byte : Case
third_byte = release ∷ device8 ∷ Write 0xdc 0xa5c30000 ∷ Write 0xd4 0x210 ∷ Start ∷ Send ∷ Send ∷ [] then Send ⇝ 0 · 11 ∷ Finish 0 ⇝ 0x200 · 0 ∷ []

-- the sources, the status and the room of CMD right after a release: `source.read`, `status.read`, `room.read`
unfoldable pub released_case : Case
released_case = release ∷ [] then Read 0x088 ⇝ 0x05 · 0 ∷ Read 0x0e8 ⇝ 0x07 · 0 ∷ Read 0x0c0 ⇝ 4 · 0 ∷ []

-- four words fill CMD, which has no room then and drops the next: `room.read`, `cmd.push`
unfoldable pub fifth_write : Case
fifth_write = release ∷ Write 0xd4 1 ∷ Write 0xd4 2 ∷ Write 0xd4 3 ∷ Write 0xd4 4 ∷ [] then Read 0x0c0 ⇝ 0 · 0 ∷ Write 0xd4 5 ⇝ 0 · 1 ∷ []

-- the first word of a CCC is no whole command: 9 of `start.tests`
unfoldable pub ccc_alone : Case
ccc_alone = release ∷ Write 0xd4 0x400000 ∷ [] then Start ⇝ 0 · 9 ∷ []

-- two address words with a right parity bit, for 8 and 9, and one with a wrong bit: `take.address`
unfoldable pub addresses : Case
addresses =
    release ∷ Write 0xd4 0x400000 ∷ Write 0xd4 0x07 ∷ Start ∷ Request 1 2 ∷ Write 0xdc 0x10000000 ∷ []
    then Take ⇝ 8 · 0 ∷ Request 3 4 ⇝ 0 · 0 ∷ Write 0xdc 0x11000000 ⇝ 0 · 0 ∷ Take ⇝ 8 · 19 ∷ Write 0xdc 0x13000000 ⇝ 0 · 0 ∷ Take ⇝ 9 · 0 ∷ Finish 0 ⇝ 0 · 0 ∷ []

-- five bytes received fill a word and pad a second: `receive.byte`, `finish.receipt`, `payload.order`
unfoldable pub five_bytes : Case
five_bytes =
    release ∷ device8 ∷ Write 0xd4 0x511 ∷ Start ∷ Receive 0 ∷ Receive 1 ∷ Receive 2 ∷ Receive 3 ∷ Receive 4 ∷ []
    then Finish 0 ⇝ 0x500 · 0 ∷ Read 0xe0 ⇝ 0x00010203 · 0 ∷ Read 0xe0 ⇝ 0x04000000 · 0 ∷ []

-- the entry of an interrupt with its byte: `interrupt.entry`, `entry.word`
unfoldable pub interrupt8 : Case
interrupt8 = release ∷ device8 ∷ Write 0x140 3 ∷ [] then Interrupt 8 0x5a ⇝ 0x00105a00 · 0 ∷ []

-- after 256 receipts the sync is 0 again: `receipt.sync`
unfoldable pub receipt257 : Case
receipt257 =
    release ∷ device8 ∷ rounds 255
    then Write 0xd4 0x10 ⇝ 0 · 0 ∷ Start ⇝ 0x10 · 0 ∷ Finish 0 ⇝ 0xff · 0 ∷ Write 0xdc 0 ⇝ 0 · 0 ∷ Write 0xd4 0x110 ⇝ 0 · 0 ∷ Start ⇝ 0x110 · 0 ∷ Send ⇝ 0 · 0 ∷ Finish 0 ⇝ 0x100 · 0 ∷ []

-- the finish of the worked session is one of the cases marked P too
unfoldable pub table : List Case
table = worked ∷ third_byte ∷ released_case ∷ fifth_write ∷ ccc_alone ∷ addresses ∷ five_bytes ∷ interrupt8 ∷ receipt257 ∷ []

unfoldable pub Hold : Type 0
Hold = all_hold table ≡ true
