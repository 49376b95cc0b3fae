-- Records and their lines one after another: one that is done, a wrong one, the last one.
use Prim.Native.Nat.{ℕ, ◌+◌, ◌-◌, ◌*◌, ◌<◌, ◌≤◌}
use native.Mathlib.Omega.{arith}
use mathlib.Core.Path.{◌≡◌, ap, sym, ◌∙◌}
use mathlib.Core.Bool.{true, false}
use mathlib.Core.List.{List, [], ◌++◌}
use lib.ListN.{length, take}
use Rattle.model.specs.declared.Call.{Call}
use Rattle.model.specs.Engine.{Step, step}
use Rattle.model.specs.Rings.{Controller, rings}
use Rattle.model.specs.View.{tables}
use Rattle.answer.specs.declared.Next.{Next}
use Rattle.answer.specs.Given.{bank_with, controller, given}
use Rattle.faults.specs.Faults.{fault_number}
use Rattle.faults.proofs.Guards.{kept}
use Rattle.letters.specs.Named.{Parsed}
use Rattle.std.specs.Prelude.{Some, None}
use Rattle.print.specs.Line.{line_of}
use Rattle.record_model.specs.Record.{record_at, each_record}
use Rattle.record_model.proofs.Each.{stops, ends}
use Rattle.record_model.proofs.Kept.{empty}
use Rattle.stream_model.specs.Stream.{RecordsPrinted, records_printed, said, met}
use Rattle.stream_model.proofs.Text.{next}
use Rattle.stream_lines.specs.declared.Lines.{Lines}
use Rattle.stream_lines.specs.Given.{shown_parts}

-- a call that is made keeps what the two tests say
module _ (l : Controller) (k : Call) (y : Next) (flags commands payloads output store : List ℕ) (made : given y (tables flags commands payloads output) store ≡ step rings l k) where
  pub fault_kept : (fault : ℕ) → fault ≡ fault_number l.bank (length l.store)
      → fault ≡ fault_number (bank_with y.state y.heads (tables flags commands payloads output)) (length store)
  fault_kept fault e = e ∙ sym (kept l k) ∙ ap (λ (x : Step Controller). fault_number x.next.bank (length x.next.store)) (sym made)

  -- and the records after it give what it and they gave
  pub line_done : (n i : ℕ) (bytes t text out : List ℕ) (all : RecordsPrinted) (found : Parsed) → i < n → found ≡ record_at bytes i → found ≡ Some k
      → text ≡ line_of y.answer.value y.answer.number → take (12 * i + 12) out ≡ t ++ text → each_record said met (n - i) bytes i (records_printed l t false) ≡ all
      → each_record said met (n - (i + 1)) bytes (i + 1) (records_printed (controller (bank_with y.state y.heads (tables flags commands payloads output)) store output) (take (12 * (i + 1)) out) false) ≡ all
  line_done n i bytes t text out all found h e f g p r = next n i bytes l k (given y (tables flags commands payloads output) store) t text out h (sym e ∙ f) made g p ∙ r

module _ (n i : ℕ) (bytes out : List ℕ) (l : Controller) (all : RecordsPrinted) (left : each_record said met (n - i) bytes i (records_printed l (take (12 * i) out) false) ≡ all) where
  -- a wrong record
  pub line_wrong : (found : Parsed) → i < n → found ≡ record_at bytes i → found ≡ None → records_printed l (take (12 * i) out) true ≡ all
  line_wrong found h e f = stops said met n i bytes (records_printed l (take (12 * i) out) false) h (sym e ∙ f) ∙ left

  -- past the last
  pub lines_done : i ≤ n → n ≤ i → records_printed l (take (12 * n) out) false ≡ all
  lines_done h k =
      let e : n ≡ i = omega arith in
      ap (λ (m : ℕ). records_printed l (take (12 * m) out) false) e ∙ ends said met n i bytes (records_printed l (take (12 * i) out) false) k ∙ left

-- the output that is lent is empty, and stays so
pub no_output : (all : RecordsPrinted) (y : Lines) (flags commands payloads output store out : List ℕ) → length output ≡ 0
    → shown_parts y (tables flags commands payloads output) store out ≡ all → shown_parts y (tables flags commands payloads []) store out ≡ all
no_output all y flags commands payloads output store out z e = ap (λ (o : List ℕ). shown_parts y (tables flags commands payloads o) store out) (empty output z) ∙ e
