-- What `timing_list` and `timing_each` share: the bank that they set up, and where the last answer goes.
use Rattle.std.specs.Prelude.{ℕ, ◌-◌, ◌%◌, ◌^◌, cond, List, [], ltb, length, set}
use Rattle.bank.specs.declared.Answer.{Answer}
use Rattle.bank.specs.declared.Bank.{Bank}
use Rattle.bank.specs.SetUp.{set_up}
use Rattle.answer.specs.Given.{controller}
use Rattle.playback_model.specs.Replay.{replay_of}

-- a bank with queues of cap words, the watermark 1 for CMD and SDO, one less than cap for the other three, and ID 0
abbrev pub fresh_of : ℕ → Bank
fresh_of cap = (set_up (record { cmd = cap; cmdr = cap; sdo = cap; sdi = cap; ibi = cap }) (record { cmd = 1; cmdr = cap - 1; sdo = 1; sdi = cap - 1; ibi = cap - 1 }) 0).bank

-- the lent words with value and number in them, where there is room for both
abbrev pub kept_in : List ℕ → Answer → List ℕ
kept_in ws a = cond (ltb 1 (length ws)) (set (set ws 0 a.value) 1 a.number) ws

-- how many records were done, and store and last answer as they are left
pub record Timed : Type 0 where
  pub count : ℕ
  pub store : List ℕ
  pub last : List ℕ

abbrev pub timed : ℕ → List ℕ → List ℕ → Timed
timed n s ws = record { count = n; store = s; last = ws }

-- the whole of section 0 of a trace, on a fresh bank
abbrev pub timed_of : ℕ → List ℕ → List ℕ → List ℕ → Timed
timed_of cap s file ws = let r = replay_of file 0 (length file) (controller (fresh_of cap) s []) in timed (r.told.count % 2 ^ 32) r.left.store (kept_in ws r.told.answer)
