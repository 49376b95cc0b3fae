-- The laws of what a host keeps: a bank comes back out of it, and what is taken is what is kept of a well-formed bank.
use Prim.Native.Nat.{ℕ, ◌%◌, ◌<◌, ◌≤◌}
use native.Mathlib.Omega.{arith}
use native.Mathlib.Nat.{mod-lt}
use mathlib.Core.Path.{◌≡◌, refl, ap, sym, ◌∙◌}
use mathlib.Core.Bool.{true, ◌&&◌}
use mathlib.Core.List.{List}
use lib.Dec.{eqb, leb, ltb}
use lib.ListN.{length, get_or}
use borrow.Author.Tests.{leb-true, ltb-true, le-leb}
use Rattle.bank.specs.declared.Regs.{Regs}
use Rattle.bank.specs.declared.Bank.{Bank}
use Rattle.bank.specs.Formed.{regs_ok, well_formed}
use Rattle.bank.proofs.Bools.{and-true, true_and, three, five}
use Rattle.bank.proofs.Laws.{formed_of}
use Rattle.image_model.specs.Image.{image_of, encoded, same, Kept, kept_of, bank_in, sized, is_kept}
use Rattle.image_model.specs.Laws.{in_types, KeptIsRead, TakenIsKept}
use Rattle.image_model.proofs.Words.{same_refl, same_eq}
use Rattle.image_model.proofs.Back.{Bytes, bank_back}

-- ── What the tests tell ───────────────────────────────────────────────────────────────────────────────────────
pub record Typed (b : Bank) : Type 0 where
  pub id : leb b.state.regs.id 255 ≡ true
  pub mask : leb b.state.regs.mask 255 ≡ true
  pub sync : leb b.state.control.sync 255 ≡ true
  pub ibisync : leb b.state.control.ibisync 255 ≡ true
  pub burst : leb b.state.control.burst 255 ≡ true
  pub flags : eqb (length b.flags) 128 ≡ true
  pub commands : eqb (length b.commands) 16 ≡ true
  pub payloads : eqb (length b.payloads) 16 ≡ true

pub typed_of : (b : Bank) → in_types b ≡ true → Typed b
typed_of b h =
    let g = b.state.regs in
    let c = b.state.control in
    let x = leb g.id 255 && leb g.mask 255 && leb c.sync 255 && leb c.ibisync 255 && leb c.burst 255 in
    let y = and-true (x && eqb (length b.flags) 128 && eqb (length b.commands) 16) (eqb (length b.payloads) 16) h in
    let w = three x (eqb (length b.flags) 128) (eqb (length b.commands) 16) y.0 in
    let v = five (leb g.id 255) (leb g.mask 255) (leb c.sync 255) (leb c.ibisync 255) (leb c.burst 255) w.0 in
    record { id = v.0; mask = v.1; sync = v.2; ibisync = v.3; burst = v.4; flags = w.1; commands = w.2; payloads = y.1 }

pub typed_is : (b : Bank) → Typed b → in_types b ≡ true
typed_is b t = rw (t.id, t.mask, t.sync, t.ibisync, t.burst, t.flags, t.commands, t.payloads)

below : (n m : ℕ) → m ≤ 256 → ltb n m ≡ true → n ≤ 255
below n m h e = let k = ltb-true n m e in omega arith

regs_below : (g : Regs) → regs_ok g ≡ true → (g.ops ≤ 255) × (g.config ≤ 255) × (g.selected ≤ 255)
unfolding regs_ok
regs_below g h =
    let z = three (ltb g.ops 128) (ltb g.config 4) (ltb g.selected 128) h in
    (below g.ops 128 (omega arith) z.0, below g.config 4 (omega arith) z.1, below g.selected 128 (omega arith) z.2)

bytes_of : (b : Bank) → Typed b → regs_ok b.state.regs ≡ true → Bytes b.state
bytes_of b t r =
    let z = regs_below b.state.regs r in
    record {
      id = leb-true _ 255 t.id;
      mask = leb-true _ 255 t.mask;
      ops = z.0;
      config = z.1;
      selected = z.2;
      sync = leb-true _ 255 t.sync;
      ibisync = leb-true _ 255 t.ibisync;
      burst = leb-true _ 255 t.burst;
    }

-- ── The laws ──────────────────────────────────────────────────────────────────────────────────────────────────
-- words that a state has are those of the state that they say
pub words_back : (ws : List ℕ) → encoded ws ≡ true → (k : Kept) → k.image ≡ ws → kept_of (bank_in k) ≡ k
unfolding encoded kept_of bank_in
words_back ws e k f =
    let g : encoded k.image ≡ true = ap encoded f ∙ e in
    let h = same_eq k.image (image_of (bank_in k).state (bank_in k).heads) g in
    λ i. record { image = sym h i; flags = k.flags; commands = k.commands; payloads = k.payloads }

-- what is kept of a bank that comes back out of it
taken : (b : Bank) → Typed b → bank_in (kept_of b) ≡ b → well_formed b ≡ true → is_kept (kept_of b) ≡ true
unfolding is_kept kept_of encoded bank_in
taken b t e w =
    let ws = image_of b.state b.heads in
    let s : encoded ws ≡ true = ap (λ (x : Bank). same ws (image_of x.state x.heads)) e ∙ same_refl ws in
    true_and (sized (kept_of b)) (encoded ws && well_formed (bank_in (kept_of b))) (rw (t.flags, t.commands, t.payloads))
    (true_and (encoded ws) (well_formed (bank_in (kept_of b))) s (ap well_formed e ∙ w))

pub kept_is_read : KeptIsRead
unfolding KeptIsRead
kept_is_read b h w =
    let t = typed_of b h in
    let e = bank_back b (bytes_of b t (formed_of b w).regs) in
    (taken b t e w, e)

low : (n : ℕ) → leb (n % 256) 255 ≡ true
low n =
    let h : n % 256 < 256 = mod-lt n (omega arith) in
    le-leb (n % 256) 255 (omega (arith, h))

typed_in : (k : Kept) → sized k ≡ true → in_types (bank_in k) ≡ true
unfolding bank_in
typed_in k z =
    let ws = k.image in
    let y = and-true (eqb (length ws) 43) (eqb (length k.flags) 128 && (eqb (length k.commands) 16 && eqb (length k.payloads) 16)) z in
    let x = and-true (eqb (length k.flags) 128) (eqb (length k.commands) 16 && eqb (length k.payloads) 16) y.1 in
    let v = and-true (eqb (length k.commands) 16) (eqb (length k.payloads) 16) x.1 in
    typed_is (bank_in k)
    (record {
      id = low (get_or ws 20 0);
      mask = low (get_or ws 22 0);
      sync = low (get_or ws 27 0);
      ibisync = low (get_or ws 28 0);
      burst = low (get_or ws 32 0);
      flags = x.0;
      commands = v.0;
      payloads = v.1;
    })

pub taken_is_kept : TakenIsKept
unfolding TakenIsKept is_kept
taken_is_kept k h =
    let z = and-true (sized k) (encoded k.image && well_formed (bank_in k)) h in
    let y = and-true (encoded k.image) (well_formed (bank_in k)) z.1 in
    (z.0, words_back k.image y.0 k refl, typed_in k z.0, y.1)
