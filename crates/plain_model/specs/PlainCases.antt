-- Cases of the plain engine, worked by hand: what stands in the store, dead words too.
use Rattle.std.specs.Prelude.{ℕ, ◌≡◌, List, [], ◌∷◌, replicate, take, drop}
use Rattle.model.specs.declared.Call.{Call}
use Rattle.model.specs.declared.Call.TheVariants.{Read, Write, Start, Send, Finish, Request, Take}
use Rattle.model.specs.Decision.{QueueOp, clear, push, push2}
use Rattle.model.specs.Decision.{take as takes}
use Rattle.model.specs.Engine.{lending, final}
use Rattle.model.specs.Cases.{sizes, release, device8}
use Rattle.plain_model.specs.declared.PlainArea.{PlainArea}
use Rattle.plain_model.specs.Moves.{on_plain_store}
use Rattle.plain_model.specs.Plain.{Plain, plain}
use Rattle.plain_model.specs.PlainLaws.{fresh_plain}

-- ── One queue: three words in an area of five, 90 and 91 before it, 92 behind it ──────────────────────────────
abbrev pub three_of_five : PlainArea
three_of_five = record { base = 2; cap = 5; level = 3 }

abbrev pub three_before : List ℕ
three_before = 90 ∷ 91 ∷ 11 ∷ 12 ∷ 13 ∷ 0 ∷ 0 ∷ 92 ∷ []

abbrev pub three_after : QueueOp → List ℕ
three_after o = on_plain_store o three_of_five three_before

pub record MovesWork : Type 0 where
  -- a take of two moves one word, by two places, and leaves the rest
  pub two : three_after (takes 2) ≡ 90 ∷ 91 ∷ 13 ∷ 12 ∷ 13 ∷ 0 ∷ 0 ∷ 92 ∷ []
  pub one : three_after (takes 1) ≡ 90 ∷ 91 ∷ 12 ∷ 13 ∷ 13 ∷ 0 ∷ 0 ∷ 92 ∷ []
  -- a take of all, and a clear, write nothing
  pub all : three_after (takes 3) ≡ three_before
  pub cleared : three_after clear ≡ three_before
  pub pushed : three_after (push 14) ≡ 90 ∷ 91 ∷ 11 ∷ 12 ∷ 13 ∷ 14 ∷ 0 ∷ 92 ∷ []
  pub both : three_after (push2 14 15) ≡ 90 ∷ 91 ∷ 11 ∷ 12 ∷ 13 ∷ 14 ∷ 15 ∷ 92 ∷ []

-- ── Calls from a set-up of five areas of four, in a store of sevens ───────────────────────────────────────────
abbrev pub sevens : Plain
sevens = fresh_plain (sizes 4 4 4 4 4) (sizes 1 3 1 3 3) 0 (replicate 20 7)

unfoldable pub store_after : List Call → List ℕ
store_after cs = (final plain sevens (lending [] cs)).store

-- CMD has a CCC and a private write: a start takes two words, and the third is then the first (`start.opens`)
unfoldable pub ccc_and_more : List Call
ccc_and_more = release ∷ Write 0xd4 0x400000 ∷ Write 0xd4 0x07 ∷ Write 0xd4 0x10 ∷ Start ∷ []

-- SDO has three words, and a write of eight bytes takes two of them, each with its first byte (`send.byte`)
unfoldable pub eight_bytes : List Call
eight_bytes = release ∷ device8 ∷ Write 0xdc 1 ∷ Write 0xdc 2 ∷ Write 0xdc 3 ∷ Write 0xd4 0x810 ∷ Start ∷ Send ∷ Send ∷ Send ∷ Send ∷ Send ∷ []

-- SDO has three words, and a write of eight bytes that is not acknowledged removes two of them (`finish.removal`)
unfoldable pub eight_removed : List Call
eight_removed = release ∷ device8 ∷ Write 0xdc 1 ∷ Write 0xdc 2 ∷ Write 0xdc 3 ∷ Write 0xd4 0x810 ∷ Start ∷ Finish 6 ∷ []

-- SDI has two words of an address request: a read takes one, and the next request goes behind the one that is left
unfoldable pub read_between : List Call
read_between = release ∷ Write 0xd4 0x400000 ∷ Write 0xd4 0x07 ∷ Start ∷ Request 1 2 ∷ Read 0xe0 ∷ Write 0xdc 0x10000000 ∷ Take ∷ Request 3 4 ∷ []

-- a reset leaves the words where they are, and the next ones begin at the front again (`plain.clear`)
unfoldable pub reset_between : List Call
reset_between = release ∷ Write 0xdc 1 ∷ Write 0xdc 2 ∷ Write 0x040 1 ∷ release ∷ Write 0xdc 3 ∷ []

pub record PlainWorks : Type 0 where
  pub started : store_after ccc_and_more ≡ 0x10 ∷ 0x07 ∷ 0x10 ∷ 7 ∷ replicate 16 7
  pub sent : take 4 (drop 8 (store_after eight_bytes)) ≡ 3 ∷ 3 ∷ 3 ∷ 7 ∷ []
  pub removed : take 4 (drop 8 (store_after eight_removed)) ≡ 3 ∷ 2 ∷ 3 ∷ 7 ∷ []
  pub received : take 4 (drop 12 (store_after read_between)) ≡ 2 ∷ 3 ∷ 4 ∷ 7 ∷ []
  pub again : take 4 (drop 8 (store_after reset_between)) ≡ 3 ∷ 2 ∷ 7 ∷ 7 ∷ []
