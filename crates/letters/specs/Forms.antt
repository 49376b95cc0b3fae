-- The nine letters of lines and of records (`session.lines`, `trace.record`): the fields that a letter has, and its call.
use Rattle.std.specs.Prelude.{ℕ, Bool, true, false, cond, List, [], ◌∷◌, eqb, Option, None, Some}
use Prim.Native.Char.{code}
use Rattle.model.specs.declared.Call.{Call}
use Rattle.model.specs.declared.Call.TheVariants.{Read, Write, Start, Send, Receive, Finish, Interrupt, Request, Take}

-- how many hex digits a field may have, by what it holds: a byte, an address or a code; a value or a word; nothing, where the letter does not use it
abbrev pub byte : ℕ
byte = 2

abbrev pub word : ℕ
word = 8

abbrev pub unused : ℕ
unused = 0

-- the fields of a letter, in their order: whether it has an offset, and what its first and its second value are
pub record Fields : Type 0 where
  pub offset : Bool
  pub first : ℕ
  pub second : ℕ

abbrev pub fields : Bool → ℕ → ℕ → Fields
fields o v w = record { offset = o; first = v; second = w }

-- an offset has up to four digits
abbrev pub offset_digits : Fields → ℕ
offset_digits fs = cond fs.offset 4 unused

-- a letter, its fields, and its call by offset, first value and second value
pub record Form : Type 0 where
  pub letter : ℕ
  pub fields : Fields
  pub call : ℕ → ℕ → ℕ → Call

abbrev pub form : ℕ → Bool → ℕ → ℕ → (ℕ → ℕ → ℕ → Call) → Form
form l o v w c = record { letter = l; fields = fields o v w; call = c }

-- letter, whether it has an offset, first value, second value, call. The trigger has no letter.
unfoldable pub forms : List Form
forms =
    form (code "W") true word unused (λ o v w. Write o v)
    ∷ form (code "R") true unused unused (λ o v w. Read o)
    ∷ form (code "S") false unused unused (λ o v w. Start)
    ∷ form (code "T") false unused unused (λ o v w. Send)
    ∷ form (code "X") false byte unused (λ o v w. Receive v)
    ∷ form (code "F") false byte unused (λ o v w. Finish v)
    ∷ form (code "I") false byte byte (λ o v w. Interrupt v w)
    ∷ form (code "D") false word word (λ o v w. Request v w)
    ∷ form (code "A") false unused unused (λ o v w. Take)
    ∷ []

unfoldable pub form_with : ℕ → List Form → Option Form
form_with l [] = None
form_with l (f ∷ fs) = let r = form_with l fs in cond (eqb l f.letter) (Some f) r

abbrev pub form_of : ℕ → Option Form
form_of l = form_with l forms
