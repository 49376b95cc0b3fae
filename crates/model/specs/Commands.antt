-- Words of commands, receipts and interrupt entries: 01, 'Commands and receipts', and the formats of 004.
use Rattle.std.specs.Prelude.{ℕ, ◌+◌, ◌*◌, ◌%◌, ◌^◌, Bool, false, cond, not, ◌&&◌, List, [], ◌∷◌, eqb}
use Rattle.ring.specs.Units.{bytes}
use Rattle.bank.specs.declared.Kind.{Kind}
use Rattle.bank.specs.declared.Kind.TheVariants.{Private, Direct, Broadcast}
use Rattle.bank.specs.declared.Transfer.{Transfer}
use Rattle.bank.specs.declared.Phase.{Phase}
use Rattle.bank.specs.declared.Phase.TheVariants.{Writing, Reading, Unrequested}
use Rattle.bank.specs.Bits.{bit, bits}

-- `command.ccc`: a CCC has two words, any other command one
pub data Command : Type 0 where
  Single : ℕ → Command
  Ccc : ℕ → ℕ → Command

-- `command.word`: bit 22 of the first word says that it is a CCC
abbrev pub two_words : ℕ → Bool
two_words w = bit 22 w

abbrev pub first_word : Command → ℕ
first_word (Single w) = w
first_word (Ccc w x) = w

abbrev pub words_of : Command → List ℕ
words_of (Single w) = w ∷ []
words_of (Ccc w x) = w ∷ x ∷ []

-- `command.ccc`: bit 7 of the second word tells a direct CCC from a broadcast one
unfoldable pub kind_of : Command → Kind
kind_of (Single w) = Private
kind_of (Ccc w x) = cond (bit 7 x) Direct Broadcast

-- `command.entdaa`: a CCC with the code 0x07, where all eight bits are compared
unfoldable pub is_entdaa : Command → Bool
is_entdaa (Single w) = false
is_entdaa (Ccc w x) = eqb (x % 256) 0x07

-- `command.word`: bit 0 says whether it is a read; `command.entdaa`: ENTDAA is neither a read nor a write
unfoldable pub is_read : Command → Bool
is_read c = not (is_entdaa c) && bit 0 (first_word c)

unfoldable pub is_write : Command → Bool
is_write c = not (is_entdaa c) && not (bit 0 (first_word c))

-- 01's term commanded length, in bytes; of ENTDAA it is 0: `command.word`, `command.entdaa`
unfoldable pub length_of : Command → ℕ
length_of c = cond (is_entdaa c) 0 (bits 19 8 (first_word c))

-- the address of the device that it names: `command.word`
abbrev pub address_of : Command → ℕ
address_of c = bits 7 1 (first_word c)

-- the transfer that a command opens (`start.opens`), with no byte moved and an empty part word; bit 21 is the header bit (`command.word`)
abbrev pub opened : Command → Bool → Transfer
opened c attached = record { kind = kind_of c; header = bit 21 (first_word c); length = bytes (length_of c); moved = bytes 0; attached = attached; part = 0 }

-- the phase that a command begins, told by its direction; ENTDAA begins with no request made
unfoldable pub begun : Command → Bool → Phase
begun c a = cond (is_entdaa c) (Unrequested (opened c a)) (cond (is_read c) (Reading (opened c a)) (Writing (opened c a)))

-- `receipt.word`: the code from bit 20 on, the bytes moved from bit 8 on, the sync in the low byte
unfoldable pub receipt_word : ℕ → ℕ → ℕ → ℕ
receipt_word code moved sync = code * 2 ^ 20 + moved * 2 ^ 8 + sync

-- `entry.word`: the address from bit 17 on, the device's byte from bit 8 on, the sync of the entries in the low byte
unfoldable pub entry_word : ℕ → ℕ → ℕ → ℕ
entry_word address byte sync = address * 2 ^ 17 + byte * 2 ^ 8 + sync
