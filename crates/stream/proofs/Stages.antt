-- The first piece by what its head tells.
use Prim.Native.Nat.{ℕ, ◌+◌, ◌-◌, ◌≤◌}
use native.Mathlib.Omega.{arith}
use mathlib.Core.Path.{◌≡◌, ap, sym, ◌∙◌}
use mathlib.Core.List.{List, []}
use lib.ListN.{length, take, drop, length-drop}
use lib.Seq.{take_all}
use Rattle.number.specs.declared.Refusal.{Refusal}
use Rattle.number.specs.Refusals.{number_of}
use Rattle.bank.specs.declared.Bank.{Bank}
use Rattle.answer.specs.Given.{controller}
use Rattle.trace_model.specs.declared.Head.{Head}
use Rattle.trace_model.specs.declared.Head.TheVariants.{Wrong, Right}
use Rattle.trace_model.specs.Head.{head_of}
use Rattle.trace_model.proofs.Heads.{right_within}
use Rattle.stream_model.specs.Stream.{Stream, stream, over, records_of, opened_by}
use Rattle.stream_end.specs.declared.StreamTurn.{StreamTurn}
use Rattle.stream_end.specs.Given.{fed_by}

module _ (bytes : List ℕ) (found : Head) (is : found ≡ head_of bytes) where
  pub head_there : (n records : ℕ) → found ≡ Right n records → n ≤ length bytes
  head_there n records e = right_within bytes n records (sym is ∙ e)

  module _ (b : Bank) (store : List ℕ) where
    pub head_wrong : (x : Stream) (why : Refusal) → found ≡ Wrong why → x ≡ over (controller b store []) bytes [] (number_of why) → x ≡ opened_by (controller b store []) bytes (head_of bytes)
    head_wrong x why e f = f ∙ ap (opened_by (controller b store []) bytes) (sym (sym is ∙ e))

    -- the records behind the head
    pub head_right : (y : StreamTurn) (left text : List ℕ) (n records : ℕ) → found ≡ Right n records
        → fed_by y left text ≡ records_of (controller b store []) records (take (length bytes - n) (drop n bytes))
        → stream (controller y.bank left []) y.stage (n + y.used) (take y.count text) ≡ opened_by (controller b store []) bytes (head_of bytes)
    head_right y left text n records e f =
        let behind : Stream → Stream = λ s. stream s.left s.stage (n + s.used) s.text in
        ap behind f ∙ ap (λ (x : List ℕ). behind (records_of (controller b store []) records x)) (take_all (length bytes - n) (drop n bytes) (omega (arith, length-drop n bytes)))
        ∙ ap (opened_by (controller b store []) bytes) (sym (sym is ∙ e))

pub rest_length : (n : ℕ) (bytes : List ℕ) → length (take (length bytes - n) (drop n bytes)) ≡ length bytes - n
rest_length n bytes = ap length (take_all (length bytes - n) (drop n bytes) (omega (arith, length-drop n bytes))) ∙ length-drop n bytes
