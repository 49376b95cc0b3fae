-- Laws of `step`, as statements: both engines agree, refusals, what stays well formed, what a call leaves alone. proofs/ has a proof of
-- each; of accesses and the output `cases_model` has it.
use Rattle.std.specs.Prelude.{ℕ, ◌≡◌, Bool, true, false, ◌||◌, List, [], length}
use Rattle.number.specs.Names as number
use Rattle.bank.specs.Queues.{queues_in}
use Rattle.bank.specs.Fives.{Sizes}
use Rattle.bank.specs.SetUp.{set_up, total}
use Rattle.bank.specs.Formed.{well_formed}
use Rattle.registers.specs.Map.{register_at}
use Rattle.model.specs.declared.Call.{Call}
use Rattle.model.specs.declared.Call.TheVariants.{Read, Write, Start, Send, Receive, Finish, Interrupt, Request, Take, Trigger}
use Rattle.bank.specs.Bits.{bit}
use Rattle.queues.specs.declared.Queue.{Queue}
use Rattle.queues.specs.declared.Queue.TheVariants.{Cmd, Cmdr, Sdo, Sdi, Ibi}
use Rattle.queues.specs.Each.{each, of}
use Rattle.model.specs.Registers.{Row, absent, shows, holds, pushes, takes, enables, acknowledges, row}
use Rattle.model.specs.Engine.{Step, step, Lent, final, answers}
use Rattle.model.specs.Rings.{Controller, areas, words_in, view_rings, rings}
use Rattle.model.specs.Lists.{ListQueue, Lists, lists}

-- the ring engine right after a set-up, with any store
abbrev pub fresh_controller : Sizes → Sizes → ℕ → List ℕ → Controller
fresh_controller caps marks id store = record { bank = (set_up caps marks id).bank; store = store; output = [] }

-- the list engine after the same set-up: every queue is an empty list
abbrev pub empty_queue : ℕ → ListQueue
empty_queue cap = record { cap = cap; words = [] }

abbrev pub fresh_lists : Sizes → Sizes → ℕ → Lists
fresh_lists c m id =
    let v = view_rings (fresh_controller c m id []) in
    record { regs = v.regs; control = v.control; phase = v.phase; tables = v.tables; queues = each (empty_queue c.cmd) (empty_queue c.cmdr) (empty_queue c.sdo) (empty_queue c.sdi) (empty_queue c.ibi) }

-- `queue.order`: from the same set-up answered 0, with a store of the right length and any contents, both engines give equal answers along
-- every list of calls, and each ring then holds the words of its list.
pub record Agreement (caps marks : Sizes) (id : ℕ) (store : List ℕ) (cs : List Lent) : Type 0 where
  pub same_answers : answers rings (fresh_controller caps marks id store) cs ≡ answers lists (fresh_lists caps marks id) cs
  pub same_words : (k : Queue) → (let l = final rings (fresh_controller caps marks id store) cs in words_in (of k (areas (queues_in l.bank))) l.store ≡ (of k (final lists (fresh_lists caps marks id) cs).queues).words)

unfoldable pub EnginesAgree : Type 0
EnginesAgree =
    (caps marks : Sizes) (id : ℕ) (store : List ℕ) (cs : List Lent) → (set_up caps marks id).answer.number ≡ 0 → length store ≡ total (set_up caps marks id).bank.state.caps → Agreement caps marks id store cs

-- `answer.bank`: with a bank that is not well formed every call is 21; else with a store of any other length every call is 22. Nothing
-- changes.
abbrev pub refused_step : Controller → ℕ → Step Controller
refused_step l n = record { answer = record { value = 0; number = n }; next = l }

unfoldable pub IllFormed : Type 0
IllFormed = (l : Controller) (c : Call) → well_formed l.bank ≡ false → step rings l c ≡ refused_step l number.not_well_formed

unfoldable pub WrongLength : Type 0
WrongLength =
    (l : Controller) (c : Call) → well_formed l.bank ≡ true → (length l.store ≡ total l.bank.state.caps → ⊥)
    → step rings l c ≡ refused_step l number.store_length

-- `answer.refusal`: with any number but 0 and 19 bank, store and output are as before
unfoldable pub RefusalChangesNothing : Type 0
RefusalChangesNothing =
    (l : Controller) (c : Call) → let r = step rings l c in (r.answer.number ≡ 0 → ⊥) → (r.answer.number ≡ number.wrong_parity → ⊥) → r.next ≡ l

-- `answer.refusal`, `take.empty`: any number but 0, 3 and 19 comes with the value 0
unfoldable pub RefusalShowsNothing : Type 0
RefusalShowsNothing =
    (l : Controller) (c : Call) → let r = step rings l c in (r.answer.number ≡ 0 → ⊥) → (r.answer.number ≡ number.empty → ⊥) → (r.answer.number ≡ number.wrong_parity → ⊥) → r.answer.value ≡ 0

-- `formed.kept`: set-up answered 0 gives a well-formed bank, every call keeps it so, and store and output keep their lengths
unfoldable pub SetUpWellFormed : Type 0
SetUpWellFormed = (caps marks : Sizes) (id : ℕ) → (set_up caps marks id).answer.number ≡ 0 → well_formed (set_up caps marks id).bank ≡ true

unfoldable pub StaysWellFormed : Type 0
StaysWellFormed = (l : Controller) (c : Call) → well_formed l.bank ≡ true → well_formed (step rings l c).next.bank ≡ true

unfoldable pub StoreKeepsLength : Type 0
StoreKeepsLength = (l : Controller) (c : Call) → length (step rings l c).next.store ≡ length l.store

unfoldable pub OutputKeepsLength : Type 0
OutputKeepsLength = (l : Controller) (c : Call) → length (step rings l c).next.output ≡ length l.output

-- ── Accesses and the output ───────────────────────────────────────────────────────────────────────────────────
abbrev pub is_access : Call → Bool
is_access (Read o) = true
is_access (Write o v) = true
is_access Start = false
is_access Send = false
is_access (Receive byte) = false
is_access (Finish code) = false
is_access (Interrupt a byte) = false
is_access (Request v w) = false
is_access Take = false
is_access Trigger = false

-- A register access neither looks at the output nor changes it.
unfoldable pub AccessesLeaveOutput : Type 0
AccessesLeaveOutput =
    (l : Controller) (o : List ℕ) (c : Call) → is_access c ≡ true
    → let r = step rings l c in step rings (rings.lend o l) c ≡ record { answer = r.answer; next = rings.lend o r.next }

-- ── Which queues a call names ─────────────────────────────────────────────────────────────────────────────────
abbrev pub same_queue : Queue → Queue → Bool
same_queue Cmd k = of k (each true false false false false)
same_queue Cmdr k = of k (each false true false false false)
same_queue Sdo k = of k (each false false true false false)
same_queue Sdi k = of k (each false false false true false)
same_queue Ibi k = of k (each false false false false true)

abbrev pub read_names : Row → Queue → Bool
read_names absent k = false
read_names (shows f) k = false
read_names (holds c) k = false
read_names (pushes q) k = false
read_names (takes q) k = same_queue q k
read_names enables k = false
read_names acknowledges k = false

-- a write of 1 to ENABLE names all queues: it clears them
abbrev pub write_names : Row → ℕ → Queue → Bool
write_names absent v k = false
write_names (shows f) v k = false
write_names (holds c) v k = false
write_names (pushes q) v k = same_queue q k
write_names (takes q) v k = false
write_names enables v k = bit 0 v
write_names acknowledges v k = false

abbrev pub names : Call → Queue → Bool
names (Read o) k = read_names (row (register_at o)) k
names (Write o v) k = write_names (row (register_at o)) v k
names Start k = same_queue Cmd k
names Send k = same_queue Sdo k
names (Receive byte) k = same_queue Sdi k
names (Finish code) k = same_queue Cmdr k || (same_queue Sdo k || same_queue Sdi k)
names (Interrupt a byte) k = same_queue Ibi k
names (Request v w) k = same_queue Sdi k
names Take k = same_queue Sdo k
names Trigger k = false

-- `queue.apart`: head, level and words of a queue that a call does not name stay, and so does its place in the store.
unfoldable pub OthersStay : Type 0
OthersStay =
    (l : Controller) (c : Call) (k : Queue) → names c k ≡ false
    → let m = (step rings l c).next in
    let a = of k (areas (queues_in l.bank)) in
    let b = of k (areas (queues_in m.bank)) in
    (b ≡ a) × (words_in b m.store ≡ words_in a l.store)
