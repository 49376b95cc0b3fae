-- Each number of the table is given for some input (`answer.every`): a try for every one.
use Rattle.std.specs.Prelude.{ℕ, ◌≡◌, List, [], ◌∷◌, ◌++◌, map, length, replicate}
use Rattle.bank.specs.SetUp.{set_up}
use Rattle.model.specs.declared.Call.{Call}
use Rattle.model.specs.declared.Call.TheVariants.{Read, Write, Start, Send, Receive, Finish, Interrupt, Request, Take, Trigger}
use Rattle.model.specs.Engine.{Lent, step_lent, lending, final}
use Rattle.model.specs.Rings.{Controller, rings}
use Rattle.model.specs.Cases.{sizes, worked_session, release, device8}
use Rattle.numbers_model.specs.Numbers.{numbers, ends}

-- a call, on what other calls left
pub record Try : Type 0 where
  pub on : Controller
  pub call : Lent

-- what it ends with
abbrev pub number_of : Try → ℕ
number_of t = (step_lent rings t.on t.call).answer.number

abbrev upon : Controller → List Call → Call → Try
upon l cs c = record { on = final rings l (lending (0 ∷ []) cs); call = record { output = []; call = c } }

-- on the session's bank: as set up, held in reset; and released, with device 8 attached, after some calls
abbrev fresh : Call → Try
fresh c = upon worked_session [] c

abbrev after : List Call → Call → Try
after cs c = upon worked_session (release ∷ device8 ∷ cs) c

-- the bank of a refused set-up, and a store of no words
abbrev ill_formed : Call → Try
ill_formed c = upon (record { bank = (set_up (sizes 0 0 0 0 0) (sizes 0 0 0 0 0) 0).bank; store = []; output = [] }) [] c

abbrev wrong_length : Call → Try
wrong_length c = upon (record { bank = worked_session.bank; store = []; output = [] }) [] c

-- ── What calls leave ──────────────────────────────────────────────────────────────────────────────────────────
-- a command in CMD that is started: of device 8 a write of so many bytes, a read, and a write of device 9, which is not attached
abbrev started : ℕ → List Call
started w = Write 0xd4 w ∷ Start ∷ []

abbrev writing : List Call
writing = started 0x110

abbrev reading : List Call
reading = started 0x111

abbrev absent : List Call
absent = started 0x112

-- ENTDAA, and with a request open
abbrev entdaa : List Call
entdaa = Write 0xd4 0x400000 ∷ Write 0xd4 7 ∷ Start ∷ []

abbrev requested : List Call
requested = entdaa ++ (Request 1 2 ∷ [])

-- bytes received
abbrev received : ℕ → List Call
received n = replicate n (Receive 1)

-- offload mode with a burst of one command, and the burst open: each call before the last is lent a word
abbrev offload : ℕ → List Call
offload w = Write 0x2c0 w ∷ Write 0x100 3 ∷ []

abbrev opened : ℕ → List Call
opened w = offload w ++ (Trigger ∷ [])

-- a read in a burst that is open, whose word the last call is not lent
abbrev without_output : Call → Try
without_output c = after (opened 0x111) c

-- four words in a queue, which are as many as it holds; four receipts in CMDR
abbrev four : Call → List Call
four c = replicate 4 c

abbrev receipt : List Call
receipt = started 0x010 ++ (Finish 0 ∷ [])

abbrev receipts : List Call
receipts = receipt ++ (receipt ++ (receipt ++ receipt))

-- ── A try for each number, in the table's order ───────────────────────────────────────────────────────────────
abbrev pub tries : Call → List Try
tries (Read o) = fresh (Read 0) ∷ ill_formed (Read 0) ∷ wrong_length (Read 0) ∷ fresh (Read 0x00c) ∷ fresh (Read 0x0d8) ∷ []
tries (Write o v) =
    fresh (Write 8 0) ∷ ill_formed (Write 8 0) ∷ wrong_length (Write 8 0) ∷ fresh (Write 0x00c 0) ∷ after (opened 0x110) (Write 0x100 0)
    ∷ fresh (Write 0x200 5) ∷ fresh (Write 0 0) ∷ fresh (Write 0x0d4 0) ∷ after (four (Write 0x0d4 0)) (Write 0x0d4 0) ∷ []
tries Start =
    after (Write 0x0d4 0x110 ∷ []) Start ∷ ill_formed Start ∷ wrong_length Start ∷ without_output Start ∷ fresh Start
    ∷ after writing Start ∷ after (Write 0x100 1 ∷ []) Start ∷ after [] Start ∷ after (Write 0x0dc 0 ∷ Write 0x0d4 0x400000 ∷ Write 0x0d4 7 ∷ []) Start ∷ []
tries Send =
    after (Write 0x0dc 0 ∷ writing) Send ∷ ill_formed Send ∷ wrong_length Send ∷ without_output Send ∷ fresh Send ∷ after [] Send
    ∷ after absent Send ∷ after reading Send ∷ after (started 0x010) Send ∷ after writing Send ∷ []
tries (Receive b) =
    after reading (Receive 1) ∷ ill_formed (Receive 1) ∷ wrong_length (Receive 1) ∷ without_output (Receive 1) ∷ fresh (Receive 1) ∷ after [] (Receive 1)
    ∷ after absent (Receive 1) ∷ after writing (Receive 1) ∷ after (started 0x011) (Receive 1) ∷ after (started 0x1411 ++ received 19) (Receive 1) ∷ []
tries (Finish code) =
    after (started 0x010) (Finish 0) ∷ ill_formed (Finish 0) ∷ wrong_length (Finish 0) ∷ fresh (Finish 16) ∷ without_output (Finish 0) ∷ fresh (Finish 0)
    ∷ after [] (Finish 0) ∷ after writing (Finish 0) ∷ after (receipts ++ started 0x010) (Finish 0) ∷ []
tries (Interrupt a b) =
    after (Write 0x140 3 ∷ []) (Interrupt 8 0) ∷ ill_formed (Interrupt 8 0) ∷ wrong_length (Interrupt 8 0) ∷ fresh (Interrupt 128 0) ∷ without_output (Interrupt 8 0) ∷ fresh (Interrupt 8 0)
    ∷ after writing (Interrupt 8 0) ∷ after [] (Interrupt 8 0) ∷ after (Write 0x140 3 ∷ []) (Interrupt 9 0) ∷ after (Write 0x140 3 ∷ four (Interrupt 8 0)) (Interrupt 8 0) ∷ []
tries (Request v w) =
    after entdaa (Request 1 2) ∷ ill_formed (Request 1 2) ∷ wrong_length (Request 1 2) ∷ without_output (Request 1 2) ∷ fresh (Request 1 2) ∷ after [] (Request 1 2)
    ∷ after writing (Request 1 2) ∷ after (started 0x1011 ++ (received 16 ++ (Finish 0 ∷ entdaa))) (Request 1 2) ∷ []
tries Take =
    after (requested ++ (Write 0x0dc 0x10000000 ∷ [])) Take ∷ after (requested ++ (Write 0x0dc 0x11000000 ∷ [])) Take ∷ ill_formed Take ∷ wrong_length Take ∷ without_output Take ∷ fresh Take
    ∷ after [] Take ∷ after entdaa Take ∷ after requested Take ∷ []
tries Trigger =
    after (offload 0x110) Trigger ∷ ill_formed Trigger ∷ wrong_length Trigger ∷ without_output Trigger ∷ fresh Trigger
    ∷ after writing Trigger ∷ after [] Trigger ∷ after (Write 0x100 1 ∷ []) Trigger ∷ after (offload 0x400000) Trigger ∷ after (offload 0x111) Trigger ∷ []

-- each try is of that call, whatever its arguments, and they end with the numbers of the table, one after another
pub record Reached (c : Call) : Type 0 where
  pub given : map number_of (tries c) ≡ ends c ++ numbers c
  pub own : map (λ t. numbers t.call.call) (tries c) ≡ replicate (length (tries c)) (numbers c)
