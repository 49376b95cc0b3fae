-- Contracts of calls: what code gives, as a step of the ring engine, and what it may ask past the two tests of bank and store.
use Rattle.std.specs.Prelude.{ℕ, ◌≡◌, true, List, length}
use Rattle.std.proofs.Math.Option.{none}
use Rattle.bank.specs.Fives.{Heads}
use Rattle.bank.specs.declared.State.{State}
use Rattle.bank.specs.declared.Bank.{Bank}
use Rattle.bank.specs.Queues.{queues_of}
use Rattle.bank.specs.SetUp.{total}
use Rattle.bank.specs.Formed.{queues_ok, open_ok}
use Rattle.model.specs.View.{Tables, tables, View}
use Rattle.model.specs.Decision.{Effect, Decision, first, effect}
use Rattle.model.specs.Engine.{Step, outcome}
use Rattle.model.specs.Rings.{Controller, view_rings, settle_rings}
use Rattle.answer.specs.declared.Next.{Next}
use Rattle.answer.specs.declared.Out.{Out}

-- ── A bank by its parts ───────────────────────────────────────────────────────────────────────────────────────
abbrev pub bank_with : State → Heads → Tables → Bank
bank_with st h t = record { state = st; heads = h; flags = t.flags; commands = t.commands; payloads = t.payloads }

abbrev pub tables_of : Bank → List ℕ → Tables
tables_of b o = tables b.flags b.commands b.payloads o

-- with the store and the output that are lent
abbrev pub controller : Bank → List ℕ → List ℕ → Controller
controller b s o = record { bank = b; store = s; output = o }

abbrev pub view : State → Heads → Tables → List ℕ → View
view st h t s = view_rings (controller (bank_with st h t) s t.output)

-- ── What code gives ───────────────────────────────────────────────────────────────────────────────────────────
-- a result, with the tables, the store and the output that the code left
abbrev pub given : Next → Tables → List ℕ → Step Controller
given y t s = record { answer = y.answer; next = controller (bank_with y.state y.heads t) s t.output }

abbrev pub given_out : Out → List ℕ → List ℕ → Step Controller
given_out y s o = record { answer = y.answer; next = controller y.bank s o }

abbrev pub refused_next : State → Heads → ℕ → Next
refused_next st h n = record { state = st; heads = h; answer = record { value = 0; number = n } }

-- ── Past the two tests of bank and store ──────────────────────────────────────────────────────────────────────
-- the step that a decision gives
unfoldable pub decided : State → Heads → Tables → List ℕ → Decision → Step Controller
decided st h t s d = let l = controller (bank_with st h t) s t.output in outcome (first d) (effect d) l (settle_rings l (effect d))

-- the step that settling an effect gives
abbrev pub served : State → Heads → Tables → List ℕ → Effect → Step Controller
served st h t s e = let l = controller (bank_with st h t) s t.output in outcome none e l (settle_rings l e)

-- of what the two tests say, what decisions need: the rings are valid (`formed.set-up`), the store has their length (`answer.bank`), and
-- what is open is well formed
pub record Open (st : State) (h : Heads) (commands s : List ℕ) : Type 0 where
  pub queues : queues_ok (queues_of st.caps st.levels h) ≡ true
  pub size : length s ≡ total st.caps
  pub phase : open_ok st.control st.regs st.phase commands ≡ true
