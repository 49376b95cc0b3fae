-- Bursts worked by hand, on the session's bank: calls with their answers, and the output that they leave.
use Rattle.std.specs.Prelude.{ℕ, ◌≡◌, Bool, true, List, [], ◌∷◌}
use Rattle.model.specs.declared.Call.{Call}
use Rattle.model.specs.declared.Call.TheVariants.{Read, Write, Start, Send, Receive, Finish, Interrupt, Request, Take, Trigger}
use Rattle.model.specs.Rings.{Controller, rings}
use Rattle.model.specs.BurstLaw.{after}
use Rattle.model.specs.Cases.{worked_session, Line, ◌⇝◌·◌, answered, release}

-- the session with an output lent
abbrev pub session_lending : List ℕ → Controller
session_lending o = rings.lend o worked_session

unfoldable pub calls_of : List Line → List Call
calls_of [] = []
calls_of ((c ⇝ v · n) ∷ ls) = c ∷ calls_of ls

pub record Works (o : List ℕ) (ls : List Line) (left : List ℕ) : Type 0 where
  pub answers : answered (session_lending o) ls ≡ true
  pub output : (after (session_lending o) (calls_of ls)).output ≡ left

-- A write of two bytes to device 8, a read of three from 9, a write of one to 8, a read of four from 10, which is not attached, and one of
-- four from 8, which does not acknowledge. Three words of the output are the reads'; the fourth stays. No receipt, no pending bit; the
-- registers of the burst are held while it is open, and an error code does not stop it.
unfoldable pub sampling : List Line
sampling =
    release ⇝ 0 · 0 ∷ Write 0x180 0x1102 ⇝ 0 · 0 ∷ Write 0x180 0x1302 ⇝ 0 · 0 ∷ Write 0x2c0 0x210 ⇝ 0 · 0 ∷ Write 0x2c4 0x313 ⇝ 0 · 0 ∷ Write 0x2c8 0x110 ⇝ 0 · 0 ∷ Write 0x2cc 0x415 ⇝ 0 · 0 ∷ Write 0x2d0 0x411 ⇝ 0 · 0
    ∷ Write 0x300 0xa1b2c3d4 ⇝ 0 · 0 ∷ Write 0x304 0xe5000000 ⇝ 0 · 0 ∷ Write 0xdc 0x77777777 ⇝ 0 · 0 ∷ Write 0x100 0x0b ⇝ 0 · 0 ∷ Trigger ⇝ 0 · 0 ∷ Read 0x100 ⇝ 0x0b · 0
    ∷ Send ⇝ 0xa1 · 0 ∷ Send ⇝ 0xb2 · 0 ∷ Send ⇝ 0 · 11 ∷ Finish 0 ⇝ 0 · 0
    ∷ Receive 1 ⇝ 0 · 0 ∷ Write 0x100 0 ⇝ 0 · 6 ∷ Write 0x2c0 0 ⇝ 0 · 6 ∷ Write 0x300 0 ⇝ 0 · 6 ∷ Receive 2 ⇝ 0 · 0 ∷ Receive 3 ⇝ 0 · 0 ∷ Receive 4 ⇝ 0 · 11 ∷ Finish 0 ⇝ 0 · 0
    ∷ Trigger ⇝ 0 · 6 ∷ Start ⇝ 0 · 6 ∷ Request 1 2 ⇝ 0 · 10 ∷ Take ⇝ 0 · 10 ∷ Send ⇝ 0xe5 · 0 ∷ Finish 0 ⇝ 0 · 0
    ∷ Receive 1 ⇝ 0 · 20 ∷ Finish 0 ⇝ 0 · 14 ∷ Finish 8 ⇝ 0 · 0 ∷ Interrupt 8 0 ⇝ 0 · 6 ∷ Finish 6 ⇝ 0 · 0
    ∷ Read 0x100 ⇝ 0x8b · 0 ∷ Read 0x0d8 ⇝ 0 · 3 ∷ Read 0x0c8 ⇝ 3 · 0 ∷ Read 0x0cc ⇝ 0 · 0 ∷ Read 0x088 ⇝ 0x01 · 0 ∷ Start ⇝ 0 · 8 ∷ []

-- Attachment is noted as a transfer opens (`burst.finish`): device 9 is attached after the trigger and before its own transfer opens,
-- device 8 is detached while its transfer is open.
unfoldable pub attaching : List Line
attaching =
    release ⇝ 0 · 0 ∷ Write 0x180 0x1102 ⇝ 0 · 0 ∷ Write 0x2c0 0x110 ⇝ 0 · 0 ∷ Write 0x2c4 0x413 ⇝ 0 · 0 ∷ Write 0x300 0x5a000000 ⇝ 0 · 0 ∷ Write 0x100 0x05 ⇝ 0 · 0 ∷ Trigger ⇝ 0 · 0
    ∷ Write 0x180 0x1302 ⇝ 0 · 0 ∷ Write 0x180 0x1100 ⇝ 0 · 0 ∷ Send ⇝ 0x5a · 0 ∷ Finish 0 ⇝ 0 · 0 ∷ Receive 1 ⇝ 0 · 0 ∷ Receive 2 ⇝ 0 · 0 ∷ Receive 3 ⇝ 0 · 0 ∷ Receive 4 ⇝ 0 · 0 ∷ Finish 0 ⇝ 0 · 0 ∷ []

-- `trigger.tests`: the numbers of the trigger in their order, 5, 8, 28, 29 for a CCC and for five bytes, 13; and 6 before 8.
unfoldable pub refusing : List Line
refusing =
    Trigger ⇝ 0 · 5 ∷ release ⇝ 0 · 0 ∷ Trigger ⇝ 0 · 8 ∷ Write 0x100 0x01 ⇝ 0 · 0 ∷ Trigger ⇝ 0 · 28 ∷ Write 0x2c0 0x400010 ⇝ 0 · 0 ∷ Write 0x100 0x03 ⇝ 0 · 0 ∷ Trigger ⇝ 0 · 29
    ∷ Write 0x2c0 0x511 ⇝ 0 · 0 ∷ Trigger ⇝ 0 · 29 ∷ Write 0x2c0 0x411 ⇝ 0 · 0 ∷ Trigger ⇝ 0 · 13 ∷ Write 0x100 0 ⇝ 0 · 0 ∷ Write 0xd4 0x10 ⇝ 0 · 0 ∷ Start ⇝ 0x10 · 0 ∷ Trigger ⇝ 0 · 6 ∷ []

-- `burst.output`: a burst of one read is open, and the output lent is too short: 13 at each event, right after 18. A reset closes the
-- burst.
unfoldable pub opened_burst : List Line
opened_burst = release ⇝ 0 · 0 ∷ Write 0x180 0x1102 ⇝ 0 · 0 ∷ Write 0x2c0 0x411 ⇝ 0 · 0 ∷ Write 0x100 0x03 ⇝ 0 · 0 ∷ Trigger ⇝ 0 · 0 ∷ []

unfoldable pub shortened : List Line
shortened =
    Start ⇝ 0 · 13 ∷ Send ⇝ 0 · 13 ∷ Receive 1 ⇝ 0 · 13 ∷ Finish 0 ⇝ 0 · 13 ∷ Finish 16 ⇝ 0 · 18 ∷ Interrupt 8 0 ⇝ 0 · 13 ∷ Interrupt 128 0 ⇝ 0 · 18 ∷ Request 1 2 ⇝ 0 · 13 ∷ Take ⇝ 0 · 13 ∷ Trigger ⇝ 0 · 13
    ∷ Write 0x040 1 ⇝ 0 · 0 ∷ release ⇝ 0 · 0 ∷ Read 0x100 ⇝ 0x83 · 0 ∷ Write 0x100 0 ⇝ 0 · 0 ∷ Send ⇝ 0 · 7 ∷ []

pub record BurstsWork : Type 0 where
  pub sampled : Works (0xffffffff ∷ 0xffffffff ∷ 0xffffffff ∷ 0xffffffff ∷ []) sampling (0x01020300 ∷ 0 ∷ 0 ∷ 0xffffffff ∷ [])
  pub attached : Works (0 ∷ []) attaching (0x01020304 ∷ [])
  pub refused : Works [] refusing []
  pub shorter : answered (rings.lend [] (after (session_lending (0 ∷ [])) (calls_of opened_burst))) shortened ≡ true
