-- Offload bursts, 02 §3: which commands a burst runs and where it stands. The place of a command tells its data word or its output word.
use Rattle.std.specs.Prelude.{ℕ, zero, suc, ◌+◌, ◌-◌, Bool, true, cond, not, ◌&&◌, List, leb, eqb, get_or}
use Rattle.bank.specs.declared.Regs.{Regs}
use Rattle.bank.specs.declared.Control.{Control}
use Rattle.bank.specs.declared.Phase.{Phase}
use Rattle.bank.specs.Bits.{bit, bits, word_if}
use Rattle.bank.specs.Phases.{writing, reading, transfer, private}

-- `ops.keeps`: the mode is offload
abbrev pub offloads : Regs → Bool
offloads g = bit 0 g.ops

-- `burst.commands`: how many commands a burst has
abbrev pub span : Regs → ℕ
span g = bits 4 1 g.ops

-- 29 of `trigger.tests`: a burst can run the command w, which is no CCC and has at most 4 bytes
abbrev pub carried : ℕ → Bool
carried w = not (bit 22 w) && leb (bits 19 8 w) 4

-- of the first n words: a burst can run each; how many are reads, by bit 0 (`command.word`), and how many writes
unfoldable pub all_carried : ℕ → List ℕ → Bool
all_carried zero ws = true
all_carried (suc n) ws = all_carried n ws && carried (get_or ws n 0)

unfoldable pub reads_in : ℕ → List ℕ → ℕ
reads_in zero ws = 0
reads_in (suc n) ws = reads_in n ws + bits 0 0 (get_or ws n 0)

abbrev pub writes_in : ℕ → List ℕ → ℕ
writes_in n ws = n - reads_in n ws

-- ── An open burst ─────────────────────────────────────────────────────────────────────────────────────────────
-- `burst` is 0 where none is open, else 1 more than the place of the command whose transfer is open
abbrev pub bursting : Control → Bool
bursting c = not (eqb c.burst 0)

abbrev pub place : Control → ℕ
place c = c.burst - 1

-- of `formed.burst`: the open transfer has kind, header bit, length and direction of the command w
abbrev pub opens : ℕ → Phase → Bool
opens w p =
    let t = transfer p in
    private t.kind && eqb (word_if t.header 1) (bits 21 21 w) && eqb t.length.0 (bits 19 8 w) && cond (bit 0 w) (reading p) (writing p)

-- of `formed.burst`: the bytes in the part word, of a read all that moved, of a write none, since they are in the offload data
abbrev pub gathered_bytes : Phase → ℕ
gathered_bytes p = cond (reading p) (transfer p).moved.0 0
