-- Laws of the plain engine, as statements: it agrees with the ring engine (`plain.agrees`), what its two tests refuse, and that a bank stays
-- well formed. proofs/ has a proof of each.
use Rattle.std.specs.Prelude.{ℕ, ◌+◌, ◌-◌, ◌≤◌, ◌<◌, ◌≡◌, true, false, List, [], ◌⊎◌, length, get_or}
use Rattle.number.specs.Names as number
use Rattle.bank.specs.declared.Bank.{Bank}
use Rattle.bank.specs.Fives.{Sizes}
use Rattle.bank.specs.Queues.{queues_in}
use Rattle.bank.specs.SetUp.{set_up, total}
use Rattle.bank.specs.Formed.{well_formed}
use Rattle.model.specs.declared.Call.{Call}
use Rattle.queues.specs.declared.Queue.{Queue}
use Rattle.queues.specs.Each.{of}
use Rattle.model.specs.Decision.{take}
use Rattle.model.specs.Engine.{Step, step, Lent, final, answers}
use Rattle.model.specs.Rings.{areas, words_in, rings}
use Rattle.model.specs.Laws.{fresh_controller}
use Rattle.plain_model.specs.declared.PlainBank.{PlainBank}
use Rattle.plain_model.specs.declared.PlainArea.{PlainArea}
use Rattle.plain_model.specs.Areas.{plain_areas, plain_words}
use Rattle.plain_model.specs.Moves.{on_plain_store}
use Rattle.plain_model.specs.Plain.{Plain, plain_formed, plain}

-- ── Beside the rings ──────────────────────────────────────────────────────────────────────────────────────────
-- a bank of rings without its heads
abbrev pub headless : Bank → PlainBank
headless b = record { state = b.state; flags = b.flags; commands = b.commands; payloads = b.payloads }

-- the plain engine right after a set-up, with any store
abbrev pub fresh_plain : Sizes → Sizes → ℕ → List ℕ → Plain
fresh_plain caps marks id store = record { bank = headless (set_up caps marks id).bank; store = store; output = [] }

abbrev pub plain_words_of : Queue → Plain → List ℕ
plain_words_of k p = plain_words (of k (plain_areas p.bank.state.caps p.bank.state.levels)) p.store

-- `plain.agrees`: one set-up answered 0, each engine with a store of its own, of the right length and any contents. After any list of calls,
-- and so after every call of it, answers, banks but for heads, each queue's words in order, and outputs are equal.
pub record PlainAgreement (caps marks : Sizes) (id : ℕ) (store store' : List ℕ) (cs : List Lent) : Type 0 where
  pub same_answers : answers rings (fresh_controller caps marks id store) cs ≡ answers plain (fresh_plain caps marks id store') cs
  pub same_bank : headless (final rings (fresh_controller caps marks id store) cs).bank ≡ (final plain (fresh_plain caps marks id store') cs).bank
  pub same_words : (k : Queue) → (let l = final rings (fresh_controller caps marks id store) cs in words_in (of k (areas (queues_in l.bank))) l.store ≡ plain_words_of k (final plain (fresh_plain caps marks id store') cs))
  pub same_output : (final rings (fresh_controller caps marks id store) cs).output ≡ (final plain (fresh_plain caps marks id store') cs).output

unfoldable pub PlainAgrees : Type 0
PlainAgrees =
    (caps marks : Sizes) (id : ℕ) (store store' : List ℕ) (cs : List Lent) → (set_up caps marks id).answer.number ≡ 0
    → length store ≡ total (set_up caps marks id).bank.state.caps
    → length store' ≡ total (set_up caps marks id).bank.state.caps
    → PlainAgreement caps marks id store store' cs

-- `plain.take`: only the places of the words that are left are written; every other word of the store stays, dead ones too
unfoldable pub DeadWordsStay : Type 0
DeadWordsStay = (k : ℕ) (a : PlainArea) (st : List ℕ) (x : ℕ) → (x < a.base) ⊎ (a.base + (a.level - k) ≤ x) → get_or (on_plain_store (take k) a st) x 0 ≡ get_or st x 0

-- ── 21 and 22: `plain.tests` ──────────────────────────────────────────────────────────────────────────────────
-- whatever the heads are of a well-formed bank: without them it is well formed
unfoldable pub HeadsNotAsked : Type 0
HeadsNotAsked = (b : Bank) → well_formed b ≡ true → plain_formed (headless b) ≡ true

abbrev pub refused_plain : Plain → ℕ → Step Plain
refused_plain p n = record { answer = record { value = 0; number = n }; next = p }

unfoldable pub PlainIllFormed : Type 0
PlainIllFormed = (p : Plain) (c : Call) → plain_formed p.bank ≡ false → step plain p c ≡ refused_plain p number.not_well_formed

unfoldable pub PlainWrongLength : Type 0
PlainWrongLength =
    (p : Plain) (c : Call) → plain_formed p.bank ≡ true → (length p.store ≡ total p.bank.state.caps → ⊥) → step plain p c ≡ refused_plain p number.store_length

-- `formed.kept`, of the plain engine, whatever the store
unfoldable pub PlainStaysFormed : Type 0
PlainStaysFormed = (p : Plain) (c : Call) → plain_formed p.bank ≡ true → plain_formed (step plain p c).next.bank ≡ true

unfoldable pub PlainStoreKeepsLength : Type 0
PlainStoreKeepsLength = (p : Plain) (c : Call) → length (step plain p c).next.store ≡ length p.store

unfoldable pub PlainOutputKeepsLength : Type 0
PlainOutputKeepsLength = (p : Plain) (c : Call) → length (step plain p c).next.output ≡ length p.output
