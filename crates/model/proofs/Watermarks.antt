-- `watermark.keeps`: a write to a watermark changes that one alone, and no other call changes any.
use Prim.Native.Nat.{ℕ, ◌%◌, ◌^◌}
use mathlib.Core.Path.{◌≡◌, refl, ◌∙◌, ap, subst}
use mathlib.Core.Bool.{Bool, true, false, cond, true≢false}
use lib.Dec.{ltb, eqb}
use lib.ListN.{length}
use Rattle.bank.specs.Fives.{Counts}
use Rattle.bank.specs.declared.Regs.{Regs}
use Rattle.bank.specs.Bits.{bit}
use Rattle.bank.specs.Bursts.{bursting}
use Rattle.bank.specs.Formed.{well_formed}
use Rattle.bank.specs.SetUp.{total}
use Rattle.registers.specs.Map.{named, entry_at, register_at}
use Rattle.model.specs.declared.Call.{Call}
use Rattle.model.specs.declared.Call.TheVariants.{Read, Write, Start, Send, Receive, Finish, Interrupt, Request, Take, Trigger}
use Rattle.model.specs.View.{View}
use Rattle.queues.specs.declared.Queue.{Queue}
use Rattle.queues.specs.declared.Queue.TheVariants.{Cmd, Cmdr, Sdo, Sdi, Ibi}
use Rattle.model.specs.Decision.{Decision, effect}
use Rattle.model.specs.Registers.{Cell, scratch, mask, ops, ibi_config, dev_char, watermark, offload_cmd, offload_sdo, Row, absent, shows, holds, pushes, takes, enables, acknowledges, row, sources, count_of, counts_with, stored_regs, enable, write}
use Rattle.model.specs.Calls.{start, send, receive, finish, interrupt, request, take_address}
use Rattle.model.specs.Bursts.{trigger, burst_send, burst_receive, burst_finish, decide}
use Rattle.model.specs.Engine.{Step, step}
use Rattle.model.specs.Rings.{Controller, on_ring, on_store, view_rings, settle_rings, guard_rings, rings}
use Rattle.model.specs.Laws.{StaysWellFormed, same_queue}
use Rattle.model.specs.Cases.{answered, all_hold}
use Rattle.model.specs.Watermarks.{marks_cell, marks_row, marks, WatermarksStay, WatermarkBound, with_mark, WatermarkAlone, each_its_own_mark, up_to_the_capacity, sources_follow, while_a_burst_is_open, WatermarksWork}
use Rattle.model.specs.Driver.{PlainWriteTaken}
use Rattle.model.proofs.Steps.{steps}
use Rattle.model.proofs.Tests.{of_two}
use Rattle.model.proofs.Formed.{read_untouched}
use Rattle.model.proofs.Simulation.{capped, stays_well_formed}
use Rattle.model.proofs.Laws.{by_outcome}
use Rattle.model.proofs.Driver.{served, plain_write_taken}

-- ── What stays ────────────────────────────────────────────────────────────────────────────────────────────────
others_count : (k q : Queue) (x : ℕ) (m : Counts) → same_queue k q ≡ false → count_of q (counts_with k x m) ≡ count_of q m
others_count Cmd Cmd x m e = absurd (true≢false e)
others_count Cmd Cmdr x m e = refl
others_count Cmd Sdo x m e = refl
others_count Cmd Sdi x m e = refl
others_count Cmd Ibi x m e = refl
others_count Cmdr Cmd x m e = refl
others_count Cmdr Cmdr x m e = absurd (true≢false e)
others_count Cmdr Sdo x m e = refl
others_count Cmdr Sdi x m e = refl
others_count Cmdr Ibi x m e = refl
others_count Sdo Cmd x m e = refl
others_count Sdo Cmdr x m e = refl
others_count Sdo Sdo x m e = absurd (true≢false e)
others_count Sdo Sdi x m e = refl
others_count Sdo Ibi x m e = refl
others_count Sdi Cmd x m e = refl
others_count Sdi Cmdr x m e = refl
others_count Sdi Sdo x m e = refl
others_count Sdi Sdi x m e = absurd (true≢false e)
others_count Sdi Ibi x m e = refl
others_count Ibi Cmd x m e = refl
others_count Ibi Cmdr x m e = refl
others_count Ibi Sdo x m e = refl
others_count Ibi Sdi x m e = refl
others_count Ibi Ibi x m e = absurd (true≢false e)

module _ (q : Queue) (s : View) where
  abbrev Stays : Regs → Type 0
  Stays g = count_of q g.marks ≡ count_of q s.regs.marks

  abbrev Keeps : Decision → Type 0
  Keeps d = Stays (effect d).regs

  stored : (c : Cell) (v : ℕ) → marks_cell q c ≡ false → Stays (stored_regs c v s.regs)
  stored scratch v e = refl
  stored mask v e = refl
  stored ops v e = refl
  stored ibi_config v e = refl
  stored dev_char v e = refl
  stored (watermark k) v e = others_count k q (v % 2 ^ 16) s.regs.marks e
  stored (offload_cmd i) v e = refl
  stored (offload_sdo i) v e = refl

  enabled : (b : Bool) → Stays (enable s b).regs
  unfolding enable
  enabled true = refl
  enabled false = refl

  written : (x : Row) (v : ℕ) → marks_row q x ≡ false → Keeps (write x s v)
  written absent v e = refl
  written (shows f) v e = refl
  written (holds c) v e = stored c v e
  written (pushes k) v e = refl
  written (takes k) v e = refl
  written enables v e = enabled (bit 0 v)
  written acknowledges v e = refl

  keeps : (c : Call) → marks q c ≡ false → Keeps (decide s c)
  unfolding start send receive finish interrupt request take_address trigger burst_send burst_receive burst_finish
  keeps (Read o) e = ap (λ (g : Regs). count_of q g.marks) (read_untouched s (row (register_at o))).regs_same
  keeps (Write o v) e = written (row (register_at o)) v e
  keeps Start e = refl
  keeps Send e = of_two Keeps (bursting s.control) (burst_send s) (send s) (λ f. refl) (λ f. refl)
  keeps (Receive b) e = of_two Keeps (bursting s.control) (burst_receive s b) (receive s b) (λ f. refl) (λ f. refl)
  keeps (Finish code) e = of_two Keeps (bursting s.control) (burst_finish s code) (finish s code) (λ f. refl) (λ f. refl)
  keeps (Interrupt a b) e = refl
  keeps (Request v w) e = refl
  keeps Take e = refl
  keeps Trigger e = refl

pub watermarks_stay : WatermarksStay
unfolding WatermarksStay
watermarks_stay l c q e =
    by_outcome (λ r. count_of q r.next.bank.state.regs.marks ≡ count_of q l.bank.state.regs.marks) l c (λ n k. refl) (λ f z p. keeps q (view_rings l) c e)

-- ── Which writes are taken ────────────────────────────────────────────────────────────────────────────────────
pub watermark_bound : WatermarkBound
unfolding WatermarkBound PlainWriteTaken
watermark_bound l o v q e f z = plain_write_taken l o v (watermark q) e f z ∙ ap (λ (k : ℕ). record { value = 0; number = cond (ltb k (v % 2 ^ 16)) 30 0 }) (capped l q)

-- ── What a write changes ──────────────────────────────────────────────────────────────────────────────────────
set_mark : (l : Controller) (v : ℕ) (q : Queue) → settle_rings l (effect (write (holds (watermark q)) (view_rings l) v)) ≡ with_mark q (v % 2 ^ 16) l
unfolding on_ring on_store
set_mark l v q = refl

sources_read : (l : Controller) → well_formed l.bank ≡ true → eqb (length l.store) (total l.bank.state.caps) ≡ true → (step rings l (Read 0x088)).answer.value ≡ sources 0xff (view_rings l)
unfolding step guard_rings named entry_at
sources_read l f z = rw (f, z)

pub watermark_alone : WatermarkAlone
unfolding WatermarkAlone StaysWellFormed
watermark_alone l o v q e n =
    let h = served l (Write o v) n in
    let m = with_mark q (v % 2 ^ 16) l in
    let is : (step rings l (Write o v)).next ≡ m = ap (λ (r : Step Controller). r.next) h.2 ∙ ap (λ (x : Row). settle_rings l (effect (write x (view_rings l) v))) e ∙ set_mark l v q in
    let f = subst (λ (x : Controller). well_formed x.bank ≡ true) is (stays_well_formed l (Write o v) h.0) in
    (is, ap (λ (x : Controller). (step rings x (Read 0x088)).answer.value) is ∙ sources_read m f h.1)

-- ── Worked by hand ────────────────────────────────────────────────────────────────────────────────────────────
pub watermarks_work : WatermarksWork
unfolding steps answered all_hold each_its_own_mark up_to_the_capacity sources_follow while_a_burst_is_open WatermarksWork
watermarks_work = refl
