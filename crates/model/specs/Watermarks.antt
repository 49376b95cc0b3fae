-- Watermarks that the driver sets, 02 §6: what a write to one changes, that nothing else moves one, and worked sessions.
use Rattle.std.specs.Prelude.{ℕ, ◌%◌, ◌^◌, ◌≡◌, Bool, true, false, cond, List, [], ◌∷◌, ltb, length}
use Rattle.number.specs.Names as number
use Rattle.bank.specs.SetUp.{total}
use Rattle.bank.specs.Formed.{well_formed}
use Rattle.registers.specs.Map.{register_at}
use Rattle.model.specs.declared.Call.{Call}
use Rattle.model.specs.declared.Call.TheVariants.{Read, Write, Start, Send, Receive, Finish, Interrupt, Request, Take, Trigger}
use Rattle.model.specs.View.{View}
use Rattle.queues.specs.declared.Queue.{Queue}
use Rattle.model.specs.Registers.{Cell, scratch, mask, ops, ibi_config, dev_char, watermark, offload_cmd, offload_sdo, Row, absent, shows, holds, pushes, takes, enables, acknowledges, row, sources, count_of, counts_with}
use Rattle.model.specs.Engine.{step}
use Rattle.model.specs.Rings.{Controller, view_rings, rings}
use Rattle.model.specs.Laws.{same_queue}
use Rattle.model.specs.Cases.{◌⇝◌·◌, Case, ◌then◌, all_hold, release, device8}

-- ── What moves a watermark ────────────────────────────────────────────────────────────────────────────────────
abbrev pub marks_cell : Queue → Cell → Bool
marks_cell q scratch = false
marks_cell q mask = false
marks_cell q ops = false
marks_cell q ibi_config = false
marks_cell q dev_char = false
marks_cell q (watermark k) = same_queue k q
marks_cell q (offload_cmd i) = false
marks_cell q (offload_sdo i) = false

abbrev pub marks_row : Queue → Row → Bool
marks_row q absent = false
marks_row q (shows f) = false
marks_row q (holds c) = marks_cell q c
marks_row q (pushes k) = false
marks_row q (takes k) = false
marks_row q enables = false
marks_row q acknowledges = false

-- the call is a write to the watermark register of the queue q
abbrev pub marks : Queue → Call → Bool
marks q (Read o) = false
marks q (Write o v) = marks_row q (row (register_at o))
marks q Start = false
marks q Send = false
marks q (Receive byte) = false
marks q (Finish code) = false
marks q (Interrupt a byte) = false
marks q (Request v w) = false
marks q Take = false
marks q Trigger = false

-- `watermark.keeps`: no other call moves a watermark, a reset neither
unfoldable pub WatermarksStay : Type 0
WatermarksStay = (l : Controller) (c : Call) (q : Queue) → marks q c ≡ false → count_of q (step rings l c).next.bank.state.regs.marks ≡ count_of q l.bank.state.regs.marks

-- ── Which writes are taken ────────────────────────────────────────────────────────────────────────────────────
-- `watermark.keeps`: on a well-formed bank with its store, 30 exactly where the low 16 bits are above the capacity of that queue
unfoldable pub WatermarkBound : Type 0
WatermarkBound =
    (l : Controller) (o v : ℕ) (q : Queue) → row (register_at o) ≡ holds (watermark q) → well_formed l.bank ≡ true → length l.store ≡ total l.bank.state.caps
    → (step rings l (Write o v)).answer ≡ record { value = 0; number = cond (ltb (count_of q l.bank.state.caps) (v % 2 ^ 16)) number.watermark_above_capacity 0 }

-- ── What a write to one changes ───────────────────────────────────────────────────────────────────────────────
-- the same controller with another watermark
abbrev pub with_mark : Queue → ℕ → Controller → Controller
with_mark q x l =
    let b = l.bank in
    let s = b.state in
    let g = s.regs in
    record {
      bank =
          record {
            state = record { caps = s.caps; levels = s.levels; regs = record { id = g.id; scratch = g.scratch; mask = g.mask; ops = g.ops; config = g.config; selected = g.selected; marks = counts_with q x g.marks }; control = s.control; phase = s.phase };
            heads = b.heads;
            flags = b.flags;
            commands = b.commands;
            payloads = b.payloads;
          };
      store = l.store;
      output = l.output;
    }

-- `watermark.keeps`: a write that is answered 0 sets that watermark to its low 16 bits and changes nothing else, so no pending bit; the
-- sources then are those of the new watermark (`source.levels`)
unfoldable pub WatermarkAlone : Type 0
WatermarkAlone =
    (l : Controller) (o v : ℕ) (q : Queue) → row (register_at o) ≡ holds (watermark q) → (step rings l (Write o v)).answer.number ≡ 0
    → let m = (step rings l (Write o v)).next in (m ≡ with_mark q (v % 2 ^ 16) l) × ((step rings m (Read 0x088)).answer.value ≡ sources 0xff (view_rings (with_mark q (v % 2 ^ 16) l)))

-- ── Worked sessions ───────────────────────────────────────────────────────────────────────────────────────────
-- the first values are those of the set-up; each register has its own, in reset too, and a reset leaves them
unfoldable pub each_its_own_mark : Case
each_its_own_mark =
    [] then Read 0x200 ⇝ 1 · 0 ∷ Read 0x204 ⇝ 3 · 0 ∷ Read 0x208 ⇝ 1 · 0 ∷ Read 0x20c ⇝ 3 · 0 ∷ Read 0x210 ⇝ 3 · 0
    ∷ Write 0x200 0 ⇝ 0 · 0 ∷ Write 0x204 1 ⇝ 0 · 0 ∷ Write 0x208 3 ⇝ 0 · 0 ∷ Write 0x20c 4 ⇝ 0 · 0 ∷ Write 0x210 2 ⇝ 0 · 0 ∷ release ⇝ 0 · 0 ∷ Write 0x040 1 ⇝ 0 · 0
    ∷ Read 0x200 ⇝ 0 · 0 ∷ Read 0x204 ⇝ 1 · 0 ∷ Read 0x208 ⇝ 3 · 0 ∷ Read 0x20c ⇝ 4 · 0 ∷ Read 0x210 ⇝ 2 · 0 ∷ []

-- the capacity is taken, one more is not, and bits 31:16 count for nothing; beside the five registers there is none
unfoldable pub up_to_the_capacity : Case
up_to_the_capacity =
    [] then Write 0x200 4 ⇝ 0 · 0 ∷ Write 0x200 5 ⇝ 0 · 30 ∷ Read 0x200 ⇝ 4 · 0 ∷ Write 0x200 0x00050002 ⇝ 0 · 0 ∷ Read 0x200 ⇝ 2 · 0 ∷ Write 0x200 0x0001ffff ⇝ 0 · 30 ∷ Read 0x200 ⇝ 2 · 0
    ∷ Write 0x202 0 ⇝ 0 · 4 ∷ Write 0x214 0 ⇝ 0 · 4 ∷ []

-- sources follow at once, those of each queue its own register, and pending bits stay: a receipt, a word received and an interrupt wait
unfoldable pub sources_follow : Case
sources_follow =
    release ∷ device8 ∷ Write 0x140 3 ∷ Interrupt 8 0 ∷ Write 0xd4 0x111 ∷ Start ∷ Receive 0 ∷ Finish 0 ∷ []
    then Read 0x088 ⇝ 0x65 · 0 ∷ Write 0x200 0 ⇝ 0 · 0 ∷ Read 0x088 ⇝ 0x64 · 0 ∷ Write 0x204 0 ⇝ 0 · 0 ∷ Read 0x088 ⇝ 0x66 · 0 ∷ Write 0x204 1 ⇝ 0 · 0 ∷ Read 0x088 ⇝ 0x64 · 0
    ∷ Write 0x208 0 ⇝ 0 · 0 ∷ Read 0x088 ⇝ 0x60 · 0 ∷ Write 0x20c 0 ⇝ 0 · 0 ∷ Read 0x088 ⇝ 0x68 · 0 ∷ Write 0x210 0 ⇝ 0 · 0 ∷ Read 0x088 ⇝ 0x78 · 0 ∷ []

-- an open burst holds none of them
unfoldable pub while_a_burst_is_open : Case
while_a_burst_is_open =
    release ∷ device8 ∷ Write 0x2c0 0x110 ∷ Write 0x100 0x03 ∷ Trigger ∷ []
    then Write 0x100 0 ⇝ 0 · 6 ∷ Write 0x208 2 ⇝ 0 · 0 ∷ Write 0x208 5 ⇝ 0 · 30 ∷ Read 0x208 ⇝ 2 · 0 ∷ []

unfoldable pub WatermarksWork : Type 0
WatermarksWork = all_hold (each_its_own_mark ∷ up_to_the_capacity ∷ sources_follow ∷ while_a_burst_is_open ∷ []) ≡ true
