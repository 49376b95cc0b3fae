-- What an empty queue shows, 02 §5: the law of `take.empty` along every list of calls, and worked sessions.
use Rattle.std.specs.Prelude.{ℕ, ◌≡◌, Bool, true, false, cond, List, [], ◌∷◌, eqb, length}
use Rattle.number.specs.Names as number
use Rattle.bank.specs.Fives.{Sizes}
use Rattle.bank.specs.declared.Answer.{Answer}
use Rattle.bank.specs.SetUp.{total}
use Rattle.bank.specs.Formed.{well_formed}
use Rattle.registers.specs.Map.{register_at}
use Rattle.model.specs.declared.Call.{Call}
use Rattle.model.specs.declared.Call.TheVariants.{Read, Write, Start, Send, Receive, Finish, Interrupt, Request, Take, Trigger}
use Rattle.queues.specs.declared.Queue.{Queue}
use Rattle.model.specs.Registers.{takes, row}
use Rattle.model.specs.Engine.{step, Lent, step_lent, final}
use Rattle.model.specs.Rings.{Controller, rings}
use Rattle.model.specs.Laws.{fresh_controller, read_names}
use Rattle.model.specs.BurstLaw.{resets}
use Rattle.model.specs.Driver.{held_words}
use Rattle.model.specs.Cases.{◌⇝◌·◌, Case, ◌then◌, all_hold, release, device8}

-- the call is a read of the register that takes from the queue k
abbrev pub reads_from : Queue → Call → Bool
reads_from k (Read o) = read_names (row (register_at o)) k
reads_from k (Write o v) = false
reads_from k Start = false
reads_from k Send = false
reads_from k (Receive byte) = false
reads_from k (Finish code) = false
reads_from k (Interrupt a byte) = false
reads_from k (Request v w) = false
reads_from k Take = false
reads_from k Trigger = false

-- the word last read from the queue k, by a call and its answer, where w was the one before: a reset forgets it, and a read that takes from
-- the queue gives a new one; a call that is not answered 0 does neither
abbrev pub last_by : Queue → Call → Answer → ℕ → ℕ
last_by k c a w = cond (eqb a.number 0) (cond (resets c) 0 (cond (reads_from k c) a.value w)) w

-- along a list of calls
unfoldable pub last_read : Queue → Controller → List Lent → ℕ → ℕ
last_read k l [] w = w
last_read k l (c ∷ cs) w = let r = step_lent rings l c in last_read k r.next cs (last_by k c.call r.answer w)

-- From any set-up, along every list of calls each lent any output, with any store: a read of the queue k that is answered 3 shows the word
-- last read from it since the last reset, 0 where none was.
unfoldable pub EmptyShowsLast : Type 0
EmptyShowsLast =
    (caps marks : Sizes) (id : ℕ) (store : List ℕ) (cs : List Lent) (k : Queue) (o : ℕ) → row (register_at o) ≡ takes k
    → let fresh = fresh_controller caps marks id store in
    let r = step rings (final rings fresh cs) (Read o) in
    r.answer.number ≡ number.empty → r.answer.value ≡ last_read k fresh cs 0

-- ── When a queue is empty ─────────────────────────────────────────────────────────────────────────────────────
-- on a well-formed bank with its store, a read of the queue k is answered 3 exactly where the queue has no word
unfoldable pub EmptyIsThree : Type 0
EmptyIsThree =
    (l : Controller) (k : Queue) (o : ℕ) → row (register_at o) ≡ takes k → well_formed l.bank ≡ true → length l.store ≡ total l.bank.state.caps
    → (step rings l (Read o)).answer.number ≡ cond (eqb (length (held_words k l)) 0) number.empty 0

-- ── Worked sessions ───────────────────────────────────────────────────────────────────────────────────────────
-- before any word was read, in reset and out of it
unfoldable pub none_yet : Case
none_yet = [] then Read 0xd8 ⇝ 0 · 3 ∷ release ⇝ 0 · 0 ∷ Read 0xd8 ⇝ 0 · 3 ∷ Read 0xe0 ⇝ 0 · 3 ∷ Read 0xe4 ⇝ 0 · 3 ∷ []

-- an interrupt entry, two received bytes and their receipt: each queue shows its own word, as often as it is read, and 0 as long as nothing
-- was read from it, whatever another has given
unfoldable pub each_its_own : Case
each_its_own =
    release ∷ device8 ∷ Write 0x140 3 ∷ Interrupt 8 0x5a ∷ Write 0xd4 0x211 ∷ Start ∷ Receive 0xa1 ∷ Receive 0xb2 ∷ []
    then Read 0xe4 ⇝ 0x00105a00 · 0 ∷ Read 0xd8 ⇝ 0 · 3 ∷ Finish 0 ⇝ 0x200 · 0 ∷ Read 0xe0 ⇝ 0xa1b20000 · 0 ∷ Read 0xd8 ⇝ 0x200 · 0 ∷ Read 0xe0 ⇝ 0xa1b20000 · 3 ∷ Read 0xd8 ⇝ 0x200 · 3
    ∷ Read 0xe4 ⇝ 0x00105a00 · 3 ∷ Read 0xe4 ⇝ 0x00105a00 · 3 ∷ []

-- a reset forgets the three words
unfoldable pub forgotten : Case
forgotten =
    release ∷ device8 ∷ Write 0x140 3 ∷ Interrupt 8 0x5a ∷ Read 0xe4 ∷ Write 0xd4 0x211 ∷ Start ∷ Receive 0xa1 ∷ Receive 0xb2 ∷ Finish 0 ∷ Read 0xd8 ∷ Read 0xe0 ∷ []
    then Write 0x040 1 ⇝ 0 · 0 ∷ Read 0xe4 ⇝ 0 · 3 ∷ release ⇝ 0 · 0 ∷ Read 0xd8 ⇝ 0 · 3 ∷ Read 0xe0 ⇝ 0 · 3 ∷ Read 0xe4 ⇝ 0 · 3 ∷ []

-- five entries through four places: the place that the next word would have holds an older one, which is not shown
unfoldable pub past_the_wrap : Case
past_the_wrap =
    release ∷ device8 ∷ Write 0x140 3 ∷ Interrupt 8 1 ∷ Read 0xe4 ∷ Interrupt 8 2 ∷ Read 0xe4 ∷ Interrupt 8 3 ∷ Read 0xe4 ∷ Interrupt 8 4 ∷ Read 0xe4 ∷ Interrupt 8 5 ∷ []
    then Read 0xe4 ⇝ 0x00100504 · 0 ∷ Read 0xe4 ⇝ 0x00100504 · 3 ∷ []

unfoldable pub EmptyReadsWork : Type 0
EmptyReadsWork = all_hold (none_yet ∷ each_its_own ∷ forgotten ∷ past_the_wrap ∷ []) ≡ true
