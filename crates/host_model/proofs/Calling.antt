-- Which call numbers name: the trigger's, those that fit a record, and the others.
use Prim.Native.Nat.{ℕ, ◌<◌}
use native.Mathlib.Omega.{arith}
use mathlib.Core.Path.{◌≡◌, refl, ap, sym}
use mathlib.Core.Bool.{Bool, true, false, cond, ◌&&◌}
use mathlib.Core.List.{[]}
use lib.Dec.{leb}
use borrow.Author.Tests.{ne_eqb, le-ltb, leb-true}
use Rattle.bank.proofs.Bools.{and-true}
use Rattle.model.specs.declared.Call.TheVariants.{Trigger}
use Rattle.std.specs.Prelude.{Option, Some, None}
use Rattle.letters.specs.Forms.{Form, forms, form_with, form_of}
use Rattle.record_model.specs.Record.{Record, rec, named_in, record_at, has_offset, fits}
use Rattle.record_model.specs.Writer.{record_bytes}
use Rattle.record_model.proofs.Writing.{fields_read}
use Rattle.host_model.specs.Host.{triggers, call_of}

-- no letter is above 255
no_letter : (l : ℕ) → 255 < l → form_of l ≡ None
unfolding forms form_with
no_letter l h =
    rw (
      ne_eqb l 0x57 (λ e. omega (arith, e, h)),
      ne_eqb l 0x52 (λ e. omega (arith, e, h)),
      ne_eqb l 0x53 (λ e. omega (arith, e, h)),
      ne_eqb l 0x54 (λ e. omega (arith, e, h)),
      ne_eqb l 0x58 (λ e. omega (arith, e, h)),
      ne_eqb l 0x46 (λ e. omega (arith, e, h)),
      ne_eqb l 0x49 (λ e. omega (arith, e, h)),
      ne_eqb l 0x44 (λ e. omega (arith, e, h)),
      ne_eqb l 0x41 (λ e. omega (arith, e, h)),
    )
    refl

-- an offset above 0xffff fits no letter's fields
unfit_offset : (b : Bool) (o : ℕ) → 65535 < o → fits (cond b 4 0) o ≡ false
unfit_offset true o h = le-ltb o 65536 (omega (arith, h))
unfit_offset false o h = ne_eqb o 0 (λ e. omega (arith, e, h))

no_offset : (f : Option Form) (l o v w : ℕ) → 65535 < o → named_in f (rec l 0 o v w) ≡ None
no_offset None l o v w h = refl
no_offset (Some f) l o v w h = rw (unfit_offset (has_offset f.fields) o h) refl

module _ (l o v w : ℕ) where
  pub triggered : triggers l o v w ≡ true → Some Trigger ≡ call_of l o v w
  unfolding call_of
  triggered e = rw e refl

  -- any other call is the record's
  pub recorded : triggers l o v w ≡ false → named_in (form_of l) (rec l 0 o v w) ≡ call_of l o v w
  unfolding call_of
  recorded e = rw e refl

  -- numbers that fit no record
  pub past_letters : 255 < l → None ≡ named_in (form_of l) (rec l 0 o v w)
  past_letters h = sym (ap (λ (f : Option Form). named_in f (rec l 0 o v w)) (no_letter l h))

  pub past_offsets : 65535 < o → None ≡ named_in (form_of l) (rec l 0 o v w)
  past_offsets h = sym (no_offset (form_of l) l o v w h)

  -- and those that do, written and read again
  pub written : (leb l 255 && leb o 65535) ≡ true → v < 0x100000000 → w < 0x100000000 → record_at (record_bytes (rec l 0 o v w)) 0 ≡ named_in (form_of l) (rec l 0 o v w)
  written e hv hw =
      let h = and-true (leb l 255) (leb o 65535) e in
      ap (λ (r : Record). named_in (form_of r.letter) r) (fields_read (rec l 0 o v w) [] (omega (arith, leb-true o 65535 h.1), hv, hw))
