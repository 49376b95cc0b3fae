-- A written trace as a whole input: its calls' lines are printed, and nothing else.
use Prim.Native.Nat.{ℕ, ◌+◌, ◌*◌}
use native.Mathlib.Omega.{arith}
use mathlib.Core.Path.{◌≡◌, refl, ap, ◌∙◌}
use mathlib.Core.Bool.{Bool, false, cond}
use mathlib.Core.List.{List, [], ◌∷◌, ◌++◌, foldl, flatten, append-nil}
use lib.ListN.{length, take, drop}
use lib.Seq.{take-length}
use Rattle.model.specs.declared.Call.{Call}
use Rattle.print.specs.Line.{line_of}
use Rattle.record_model.specs.Writer.{section_bytes, trace_of}
use Rattle.record_model.proofs.Writing.{section_read, section_length}
use Rattle.record_model.proofs.Joined.{every_joined, records_behind, head_right}
use Rattle.record_model.proofs.Made.{each_named}
use Rattle.stream_model.specs.Stream.{RecordsPrinted, records_printed, said, met, lines}
use Rattle.stream_model.specs.Laws.{WrittenIsPrinted}
use Rattle.stream_model.proofs.Inputs.{reported, head_and_records}

-- calls one after another, from where some were made
abbrev pub made : List Call → RecordsPrinted → RecordsPrinted
made ks p = foldl (λ p k. said k p) p ks

pub none_wrong : (ks : List Call) (p : RecordsPrinted) → p.wrong ≡ false → (made ks p).wrong ≡ false
none_wrong [] p e = e
none_wrong (k ∷ ks) p e = none_wrong ks (said k p) refl

pub written_is_printed : WrittenIsPrinted
unfolding WrittenIsPrinted
written_is_printed ss l few many size a =
    let ks = flatten ss in
    let n = length ks in
    let start = records_printed l [] false in
    let bytes : drop (6 + 8 * length ss) (trace_of ss) ≡ section_bytes ks = records_behind ss many size in
    let named : lines n (section_bytes ks) l ≡ made (take n ks) start = each_named said met ks (section_bytes ks) 0 n start (section_read ks (every_joined ss a)) (omega arith) in
    head_and_records l (trace_of ss) (6 + 8 * length ss) n (head_right ss many size few) (ap length bytes ∙ section_length ks)
    ∙ ap reported (ap (λ (x : List ℕ). lines n x l) bytes ∙ named ∙ ap (λ (x : List Call). made x start) (take-length ks))
    ∙ ap (λ (w : Bool). (made ks start).text ++ cond w (line_of 0 27) []) (none_wrong ks start refl)
    ∙ append-nil (made ks start).text
