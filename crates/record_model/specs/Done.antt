-- Which calls are made where records are gone over, whatever their bytes: those before the first wrong one.
use Rattle.std.specs.Prelude.{ℕ, ◌≡◌, Bool, true, false, cond, Some, None}
use mathlib.Core.List.{List, [], ◌∷◌, foldl}
use Rattle.model.specs.declared.Call.{Call}
use Rattle.letters.specs.Named.{Parsed}
use Rattle.record_model.specs.Record.{each_record}
use Rattle.record_model.specs.Writer.{named_from}

-- of what records name: the calls before a wrong one, and whether there is one
unfoldable pub calls_before : List Parsed → List Call
calls_before [] = []
calls_before (Some k ∷ ps) = k ∷ calls_before ps
calls_before (None ∷ ps) = []

unfoldable pub any_wrong : List Parsed → Bool
any_wrong [] = false
any_wrong (Some k ∷ ps) = any_wrong ps
any_wrong (None ∷ ps) = true

-- n records of any bytes, from record i on: those calls are made one after another, and a wrong record stops behind them
unfoldable pub EachIsMade : Type 1
EachIsMade = (A : Type 0) (make : Call → A → A) (stop : A → A) (n : ℕ) (bytes : List ℕ) (i : ℕ) (a : A)
    → (let ps = named_from n bytes i in
    let x = foldl (λ x k. make k x) a (calls_before ps) in
    each_record make stop n bytes i a ≡ cond (any_wrong ps) (stop x) x)
