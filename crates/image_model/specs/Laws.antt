-- What is promised of what a host keeps: a bank comes back out of it, and what is taken is that of the well-formed bank that it says.
use Rattle.std.specs.Prelude.{◌≡◌, Bool, true, ◌&&◌, eqb, leb, length}
use Rattle.bank.specs.declared.Bank.{Bank}
use Rattle.bank.specs.Formed.{well_formed}
use Rattle.image_model.specs.Image.{Kept, kept_of, bank_in, sized, is_kept}

-- what the types of a bank say and `well_formed` does not: fields of a byte, arrays of 128, 16 and 16
abbrev pub in_types : Bank → Bool
in_types b =
    let s = b.state in
    leb s.regs.id 255 && leb s.regs.mask 255 && leb s.control.sync 255 && leb s.control.ibisync 255
    && leb s.control.burst 255 && eqb (length b.flags) 128 && eqb (length b.commands) 16 && eqb (length b.payloads) 16

-- a well-formed bank comes back out of what is kept of it
unfoldable pub KeptIsRead : Type 0
KeptIsRead = (b : Bank) → in_types b ≡ true → well_formed b ≡ true → (is_kept (kept_of b) ≡ true) × (bank_in (kept_of b) ≡ b)

-- what is taken has its lengths and is what is kept of the bank that it says, and that is in its types and well formed: calls can go on from it
unfoldable pub TakenIsKept : Type 0
TakenIsKept = (k : Kept) → is_kept k ≡ true → (sized k ≡ true) × (kept_of (bank_in k) ≡ k) × (in_types (bank_in k) ≡ true) × (well_formed (bank_in k) ≡ true)
