-- What a host's call is, by the tests that the code makes on what is kept.
use Prim.Native.Nat.{ℕ, ◌%◌, ◌^◌}
use mathlib.Core.Path.{◌≡◌, refl, ap, sym, ◌∙◌}
use mathlib.Core.Bool.{Bool, true, false, ◌&&◌}
use mathlib.Core.List.{List}
use lib.ListN.{length, set}
use borrow.Author.Tests.{eq-eqb, ne_eqb}
use Rattle.number.specs.declared.Refusal.{Refusal}
use Rattle.number.specs.Refusals.{number_of}
use Rattle.bank.specs.Fives.{Sizes}
use Rattle.bank.specs.SetUp.{set_up}
use Rattle.bank.specs.Formed.{well_formed}
use Rattle.model.specs.declared.Call.{Call}
use Rattle.model.specs.Engine.{Step, step}
use Rattle.model.specs.Rings.{Controller, rings}
use Rattle.answer.specs.Given.{controller}
use Rattle.letters.specs.Named.{Parsed}
use Rattle.std.specs.Prelude.{Some, None}
use Rattle.trace_model.specs.Format.{look_number, section_start, section}
use Rattle.trace_model.proofs.Refused.{not_zero}
use Rattle.playback_model.specs.declared.Report.{Report}
use Rattle.image_model.specs.Image.{Kept, kept_of, bank_in, encoded, sized, is_kept}
use Rattle.host_model.specs.Host.{set_up_in, hosted, refusal, made_in, step_in, tells, told_in, placed_in, section_in}

-- ── What is kept of no well-formed bank ───────────────────────────────────────────────────────────────────────
-- an image of its length makes the whole sized where the tables are
pub sized_is : (k : Kept) → length k.image ≡ 43 → length k.flags ≡ 128 → length k.commands ≡ 16 → length k.payloads ≡ 16 → sized k ≡ true
sized_is k n f c p = rw (eq-eqb (length k.image) 43 n, eq-eqb (length k.flags) 128 f, eq-eqb (length k.commands) 16 c, eq-eqb (length k.payloads) 16 p)

pub unsized : (k : Kept) → (length k.image ≡ 43 → ⊥) → sized k ≡ false
unsized k n = rw (ne_eqb (length k.image) 43 n)

pub wrong_size : (k : Kept) → (length k.image ≡ 43 → ⊥) → is_kept k ≡ false
unfolding is_kept
wrong_size k n = rw (unsized k n) refl

pub not_encoded : (k : Kept) → encoded k.image ≡ false → is_kept k ≡ false
unfolding is_kept
not_encoded k e = go (sized k)
  where
    go : (b : Bool) → (b && (encoded k.image && well_formed (bank_in k))) ≡ false
    go true = rw e refl
    go false = refl

-- words of a state, and tables of their lengths, are kept just where the bank is well formed
pub formed_kept : (k : Kept) → sized k ≡ true → encoded k.image ≡ true → is_kept k ≡ well_formed (bank_in k)
unfolding is_kept
formed_kept k n e = rw (n, e) refl

pub not_formed : (k : Kept) → well_formed (bank_in k) ≡ false → is_kept k ≡ false
unfolding is_kept
not_formed k w = go (sized k) (encoded k.image)
  where
    go : (a b : Bool) → (a && (b && well_formed (bank_in k))) ≡ false
    go true true = w
    go true false = refl
    go false b = refl

-- ── Set-up ────────────────────────────────────────────────────────────────────────────────────────────────────
module _ (k : Kept) (caps marks : Sizes) (id : ℕ) where
  pub no_size : sized k ≡ false → record { number = 21; kept = k } ≡ set_up_in k caps marks id
  unfolding set_up_in
  no_size n = rw n refl

  module _ (n : sized k ≡ true) where
    pub set_up_done : (set_up caps marks id).answer.number ≡ 0 → record { number = (set_up caps marks id).answer.number; kept = kept_of (set_up caps marks id).bank } ≡ set_up_in k caps marks id
    unfolding set_up_in
    set_up_done z = rw (n, eq-eqb (set_up caps marks id).answer.number 0 z) refl

    pub set_up_refused : ((set_up caps marks id).answer.number ≡ 0 → ⊥) → record { number = (set_up caps marks id).answer.number; kept = k } ≡ set_up_in k caps marks id
    unfolding set_up_in
    set_up_refused z = rw (n, ne_eqb (set_up caps marks id).answer.number 0 z) refl

-- ── One call ──────────────────────────────────────────────────────────────────────────────────────────────────
module _ (k : Kept) (st o : List ℕ) where
  pub no_bank : (p : Parsed) → is_kept k ≡ false → refusal 21 k st o ≡ step_in p k st o
  unfolding step_in
  no_bank p e = rw e refl

  -- the numbers name no call
  pub no_call : (p : Parsed) → is_kept k ≡ true → p ≡ None → refusal 27 k st o ≡ step_in p k st o
  unfolding step_in
  no_call p e f = rw e (sym (ap (λ (x : Parsed). made_in x k st o) f))

  -- the call that they name
  pub one_call : (p : Parsed) (c : Call) (s : Step Controller) → is_kept k ≡ true → p ≡ Some c → s ≡ step rings (controller (bank_in k) st o) c → hosted s ≡ step_in p k st o
  unfolding step_in
  one_call p c s e f g = rw e (ap hosted g ∙ sym (ap (λ (x : Parsed). made_in x k st o) f))

-- ── What is told, in lent words ───────────────────────────────────────────────────────────────────────────────
module _ (t : Report) (ts : List ℕ) where
  pub untold : tells t.number ≡ false → ts ≡ told_in t ts
  untold e = rw e

  pub is_told : tells t.number ≡ true → set (set (set ts 0 (t.count % 2 ^ 32)) 1 t.answer.value) 2 t.answer.number ≡ told_in t ts
  is_told e = rw e

module _ (number start bytes : ℕ) (ws : List ℕ) where
  pub unplaced : (number ≡ 0 → ⊥) → ws ≡ placed_in number start bytes ws
  unplaced h = rw (ne_eqb number 0 h)

  pub is_placed : number ≡ 0 → set (set ws 0 start) 1 (bytes % 2 ^ 32) ≡ placed_in number start bytes ws
  is_placed e = rw (eq-eqb number 0 e)

pub one_section : (file : List ℕ) (i : ℕ) (ws : List ℕ) (number start : ℕ) (records : List ℕ) → number ≡ look_number file i → start ≡ section_start file i → records ≡ section file i
    → record { number = number; place = placed_in number start (length records) ws } ≡ section_in file i ws
unfolding section_in
one_section file i ws number start records e f g = λ j. record { number = e j; place = placed_in (e j) (f j) (length (g j)) ws }

-- a section that is refused
pub no_section : (file : List ℕ) (i : ℕ) (ws : List ℕ) (why : Refusal) (x : ℕ) → x ≡ number_of why → number_of why ≡ look_number file i
    → (x ≡ (section_in file i ws).number) × (ws ≡ (section_in file i ws).place)
unfolding section_in
no_section file i ws why x e f = (e ∙ f, rw (ne_eqb (look_number file i) 0 (λ z. not_zero why (f ∙ z))) refl)
