-- What a call decides by. It sees nothing else: not where the queues lie, and not their words behind the second. The tests 21 and 22
-- belong to the engine.
use Rattle.std.specs.Prelude.{ℕ, ◌-◌, Bool, List, leb, eqb}
use Rattle.queues.specs.declared.Five.{Five}
use Rattle.bank.specs.declared.Regs.{Regs}
use Rattle.bank.specs.declared.Control.{Control}
use Rattle.bank.specs.declared.Phase.{Phase}

-- a queue: its capacity, its level and its first two words; a word that is not there is 0
pub record QueueView : Type 0 where
  pub cap : ℕ
  pub level : ℕ
  pub first : ℕ
  pub second : ℕ

-- the words that still fit: capacity less level (`room.read`)
abbrev pub room : QueueView → ℕ
room q = q.cap - q.level

abbrev pub empty : QueueView → Bool
empty q = eqb q.level 0

abbrev pub full : QueueView → Bool
full q = leb q.cap q.level

-- taking one word leaves the queue empty
abbrev pub last : QueueView → Bool
last q = leb q.level 1

-- the flags of the 128 devices (`device.flags`), the offload commands and data words (`offload.keeps`), and the output lent to the call
-- (`burst.output`)
pub record Tables : Type 0 where
  pub flags : List ℕ
  pub commands : List ℕ
  pub payloads : List ℕ
  pub output : List ℕ

abbrev pub tables : List ℕ → List ℕ → List ℕ → List ℕ → Tables
tables f c p o = record { flags = f; commands = c; payloads = p; output = o }

pub record View : Type 0 where
  pub regs : Regs
  pub control : Control
  pub phase : Phase
  pub tables : Tables
  pub queues : Five QueueView
