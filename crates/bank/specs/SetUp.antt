-- Set-up: the ranges of its numbers, and the bank and the answer that it gives. 01, 'The part of the controller we model' and 'Numbers that
-- come back'.
use Rattle.std.specs.Prelude.{ℕ, ◌+◌, Bool, true, false, cond, ◌&&◌, leb, replicate}
use Rattle.number.specs.Names as number
use Rattle.ring.specs.Units.{words}
use Rattle.bank.specs.Fives.{Counts}
use Rattle.bank.specs.Fives.{Heads}
use Rattle.bank.specs.declared.Latest.{Latest}
use Rattle.bank.specs.declared.Control.{Control}
use Rattle.bank.specs.declared.Phase.TheVariants.{Idle}
use Rattle.bank.specs.declared.Bank.{Bank}
use Rattle.bank.specs.Fives.{Sizes}
use Rattle.bank.specs.declared.SetUp.{SetUp}

-- `set-up.numbers`: a capacity, from the least that its queue may have
abbrev pub size_ok : ℕ → ℕ → Bool
size_ok least cap = leb least cap && leb cap 1024

unfoldable pub caps_ok : Counts → Bool
caps_ok k = size_ok 2 k.cmd.0 && size_ok 1 k.cmdr.0 && size_ok 1 k.sdo.0 && size_ok 2 k.sdi.0 && size_ok 1 k.ibi.0

-- `set-up.numbers`: watermarks m of queues with the capacities k
unfoldable pub marks_ok : Counts → Counts → Bool
marks_ok m k = leb m.cmd.0 k.cmd.0 && leb m.cmdr.0 k.cmdr.0 && leb m.sdo.0 k.sdo.0 && leb m.sdi.0 k.sdi.0 && leb m.ibi.0 k.ibi.0

-- numbers as a caller gives them, as counts of words
abbrev pub counts_of : Sizes → Counts
counts_of s = record { cmd = words s.cmd; cmdr = words s.cmdr; sdo = words s.sdo; sdi = words s.sdi; ibi = words s.ibi }

unfoldable pub sizes_ok : Sizes → Sizes → Bool
sizes_ok c m = caps_ok (counts_of c) && marks_ok (counts_of m) (counts_of c)

abbrev pub zeros : Sizes
zeros = record { cmd = 0; cmdr = 0; sdo = 0; sdi = 0; ibi = 0 }

abbrev pub no_heads : Heads
no_heads = record { cmd = 0; cmdr = 0; sdo = 0; sdi = 0; ibi = 0 }

-- no word was read yet from CMDR, SDI or IBI
abbrev pub none_read : Latest
none_read = record { cmdr = 0; sdi = 0; ibi = 0 }

-- control bits with syncs and pending bits 0, no burst open and no word read
abbrev pub cleared : Bool → Control
cleared held = record { held = held; sync = 0; ibisync = 0; cmdrpending = false; ibipending = false; daapending = false; burst = 0; latest = none_read }

-- a bank in which all is 0 but capacities, watermarks, ENABLE and ID
abbrev pub bank_of : Sizes → Sizes → Bool → ℕ → Bank
bank_of c m held id =
    record {
      state = record { caps = counts_of c; levels = counts_of zeros; regs = record { id = id; scratch = 0; mask = 0; ops = 0; config = 0; selected = 0; marks = counts_of m }; control = cleared held; phase = Idle };
      heads = no_heads;
      flags = replicate 128 0;
      commands = replicate 16 0;
      payloads = replicate 16 0;
    }

-- `set-up.refused`: a bank of zeros, with ENABLE 0 too, and 23
abbrev pub refused_set_up : SetUp
refused_set_up = record { bank = bank_of zeros zeros false 0; answer = record { value = 0; number = number.set_up_out_of_range } }

-- `set-up.fresh`: a bank in reset and 0, where all numbers are in range (`set-up.numbers`)
unfoldable pub set_up : Sizes → Sizes → ℕ → SetUp
set_up c m id = cond (leb id 255 && sizes_ok c m) (record { bank = bank_of c m true id; answer = record { value = 0; number = 0 } }) refused_set_up

-- the length of a store for these capacities, else 22 (`answer.bank`)
abbrev pub total : Counts → ℕ
total k = k.cmd.0 + k.cmdr.0 + k.sdo.0 + k.sdi.0 + k.ibi.0
