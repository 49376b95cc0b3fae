-- The number of the two tests before every call, 0 where both are passed: `answer.bank`.
use Rattle.std.specs.Prelude.{ℕ, Bool, cond, not, eqb}
use Rattle.number.specs.Names as number
use Rattle.bank.specs.declared.Bank.{Bank}
use Rattle.bank.specs.SetUp.{total}
use Rattle.bank.specs.Formed.{well_formed}

abbrev pub fault_by : Bool → Bool → ℕ
fault_by formed sized = cond (not formed) number.not_well_formed (cond (not sized) number.store_length 0)

abbrev pub fault_number : Bank → ℕ → ℕ
fault_number b len = fault_by (well_formed b) (eqb len (total b.state.caps))
