-- What the words of a command say, by the number of words as code has it.
use Prim.Native.Nat.{ℕ, ◌/◌, ◌%◌}
use mathlib.Core.Path.{◌≡◌, refl}
use mathlib.Core.Bool.{Bool, true, false, cond, ◌&&◌}
use lib.Dec.{eqb}
use Rattle.bank.specs.declared.Transfer.{Transfer}
use Rattle.bank.specs.declared.Phase.TheVariants.{Writing, Reading, Unrequested}
use Rattle.ring.specs.Units.{bytes}
use Rattle.bank.specs.Bits.{bit}
use Rattle.model.specs.Commands.{first_word, kind_of, is_entdaa, is_read, length_of, opened, begun}
use Rattle.start.specs.Word.{command_of}

pub entdaa_is : (t : Bool) (w x : ℕ) → (t && eqb (x % 256) 7) ≡ is_entdaa (command_of t w x)
unfolding is_entdaa
entdaa_is true w x = refl
entdaa_is false w x = refl

pub first_word_lem : (t : Bool) (w x : ℕ) → first_word (command_of t w x) ≡ w
first_word_lem true w x = refl
first_word_lem false w x = refl

abbrev opened_by : Bool → ℕ → ℕ → Bool → Transfer
opened_by t w x a = record { kind = kind_of (command_of t w x); header = eqb (w / 0x200000 % 2) 1; length = bytes (cond (is_entdaa (command_of t w x)) 0 (w / 256 % 4096)); moved = bytes 0; attached = a; part = 0 }

pub opened_is : (t : Bool) (w x : ℕ) (a : Bool) → opened_by t w x a ≡ opened (command_of t w x) a
unfolding length_of
opened_is true w x a = refl
opened_is false w x a = refl

module _ (t : Bool) (w x : ℕ) (a : Bool) where
  pub assigns : is_entdaa (command_of t w x) ≡ true → Unrequested (opened (command_of t w x) a) ≡ begun (command_of t w x) a
  unfolding begun
  assigns e = rw e

  pub reads : is_entdaa (command_of t w x) ≡ false → bit 0 w ≡ true → Reading (opened (command_of t w x) a) ≡ begun (command_of t w x) a
  unfolding begun is_read
  reads e h = rw (e, first_word_lem t w x, h)

  pub writes : is_entdaa (command_of t w x) ≡ false → bit 0 w ≡ false → Writing (opened (command_of t w x) a) ≡ begun (command_of t w x) a
  unfolding begun is_read
  writes e h = rw (e, first_word_lem t w x, h)
