-- Demand 3 counts accesses at four offsets. At every other the row is one that leaves what it speaks of alone. The same of ENABLE, and of
-- the queues that the driver reads.
use Prim.Native.Nat.{ℕ, ◌-◌, ◌/◌}
use mathlib.Core.Path.{◌≡◌, refl, sym, ◌∙◌, ap, subst}
use mathlib.Core.Bool.{Bool, true, false, cond, ◌&&◌, ◌||◌, true≢false}
use mathlib.Core.List.{List, [], ◌∷◌}
use lib.Dec.{eqb}
use borrow.Author.Tests.{eqb-true}
use Rattle.registers.specs.declared.Register.{Register}
use Rattle.registers.specs.declared.Register.TheVariants.{OffloadCmd, OffloadSdo, Unmapped}
use Rattle.registers.specs.Map.{Entry, named, in_memory, offload, entry_at, register_at}
use Rattle.bank.proofs.Bools.{and-true}
use Rattle.queues.specs.declared.Queue.{Queue}
use Rattle.queues.specs.Each.{of, each}
use Rattle.model.specs.Registers.{Row, absent, shows, holds, pushes, takes, enables, acknowledges, row}

-- a row whose writes, or reads, leave CMD, CMDR, the transfer and the receipts' sync alone
abbrev pub quiet_write : Row → Bool
quiet_write absent = true
quiet_write (shows f) = true
quiet_write (holds c) = true
quiet_write (pushes q) = of q (each false false true true true)
quiet_write (takes q) = true
quiet_write enables = false
quiet_write acknowledges = true

abbrev pub quiet_read : Row → Bool
quiet_read absent = true
quiet_read (shows f) = true
quiet_read (holds c) = true
quiet_read (pushes q) = true
quiet_read (takes q) = of q (each false false true true true)
quiet_read enables = true
quiet_read acknowledges = true

-- P holds of each entry but those at the offsets j and k
abbrev pub only_at : (Row → Bool) → ℕ → ℕ → List Entry → Bool
only_at P j k [] = true
only_at P j k (e ∷ es) = (P (row e.register) || (eqb e.offset j || eqb e.offset k)) && only_at P j k es

either : (p a b : Bool) → (p || (a || b)) ≡ true → a ≡ false → b ≡ false → p ≡ true
either true a b e f g = e
either false true b e f g = absurd (true≢false f)
either false false true e f g = absurd (true≢false g)
either false false false e f g = e

module _ (P : Row → Bool) (j k off : ℕ) (nj : eqb off j ≡ false) (nk : eqb off k ≡ false) where
  at_entry : (e : Entry) → (P (row e.register) || (eqb e.offset j || eqb e.offset k)) ≡ true → eqb off e.offset ≡ true → P (row e.register) ≡ true
  at_entry e h m =
      let z = eqb-true off e.offset m in
      either (P (row e.register)) (eqb e.offset j) (eqb e.offset k) h (subst (λ (n : ℕ). eqb n j ≡ false) z nj) (subst (λ (n : ℕ). eqb n k ≡ false) z nk)

  pub found : (es : List Entry) (d : Register) → P (row d) ≡ true → only_at P j k es ≡ true → P (row (entry_at off es d)) ≡ true
  unfolding entry_at
  found [] d h o = h
  found (e ∷ es) d h o = go (eqb off e.offset) refl (and-true (P (row e.register) || (eqb e.offset j || eqb e.offset k)) (only_at P j k es) o) (found es d h)
    where
      go : (b : Bool) → eqb off e.offset ≡ b → ((P (row e.register) || (eqb e.offset j || eqb e.offset k)) ≡ true) × (only_at P j k es ≡ true) → (only_at P j k es ≡ true → P (row (entry_at off es d)) ≡ true) → P (row (cond b e.register (entry_at off es d))) ≡ true
      go true m h2 r = at_entry e h2.0 m
      go false m h2 r = r h2.1

-- the offload memories hold words, and what is in neither is absent
pub offload_is : (P : Row → Bool) → ((i : ℕ) → P (row (OffloadCmd i)) ≡ true) → ((i : ℕ) → P (row (OffloadSdo i)) ≡ true) → P absent ≡ true → (o : ℕ) → P (row (offload o)) ≡ true
unfolding offload
offload_is P hc hw hu o = two (in_memory 0x2c0 o) (in_memory 0x300 o) ((o - 0x2c0) / 4) ((o - 0x300) / 4)
  where
    two : (a b : Bool) (i j : ℕ) → P (row (cond a (OffloadCmd i) (cond b (OffloadSdo j) Unmapped))) ≡ true
    two true b i j = hc i
    two false true i j = hw j
    two false false i j = hu

pub write_quiet : (o : ℕ) → eqb o 0x040 ≡ false → eqb o 0x0d4 ≡ false → quiet_write (row (register_at o)) ≡ true
unfolding named
write_quiet o m n = found quiet_write 0x040 0x0d4 o m n named (offload o) (offload_is quiet_write (λ i. refl) (λ i. refl) refl o) refl

-- a write elsewhere is no write to ENABLE
abbrev pub enables_not : Row → Bool
enables_not absent = true
enables_not (shows f) = true
enables_not (holds c) = true
enables_not (pushes q) = true
enables_not (takes q) = true
enables_not enables = false
enables_not acknowledges = true

pub enables_not_lem : (o : ℕ) → eqb o 0x040 ≡ false → enables_not (row (register_at o)) ≡ true
unfolding named
enables_not_lem o n = found enables_not 0x040 0x040 o n n named (offload o) (offload_is enables_not (λ i. refl) (λ i. refl) refl o) refl

-- the queues that the driver reads; no register takes from another
abbrev pub driver_reads : Queue → Bool
driver_reads q = of q (each false true false true true)

abbrev takes_these : Row → Bool
takes_these absent = true
takes_these (shows f) = true
takes_these (holds c) = true
takes_these (pushes q) = true
takes_these (takes q) = driver_reads q
takes_these enables = true
takes_these acknowledges = true

-- 1 is no offset of the map
takes_these_lem : (o : ℕ) → takes_these (row (register_at o)) ≡ true
unfolding named entry_at offload
takes_these_lem o = go (eqb o 1) refl
  where
    go : (b : Bool) → eqb o 1 ≡ b → takes_these (row (register_at o)) ≡ true
    go true e = subst (λ (n : ℕ). takes_these (row (register_at n)) ≡ true) (sym (eqb-true o 1 e)) refl
    go false e = found takes_these 1 1 o e e named (offload o) (offload_is takes_these (λ i. refl) (λ i. refl) refl o) refl

pub taken_by_driver : (o : ℕ) (k : Queue) → row (register_at o) ≡ takes k → driver_reads k ≡ true
taken_by_driver o k e = sym (ap takes_these e) ∙ takes_these_lem o

-- reads of the room count too, and change nothing
pub read_quiet : (o : ℕ) → eqb o 0x0d8 ≡ false → quiet_read (row (register_at o)) ≡ true
unfolding named
read_quiet o n = found quiet_read 0x0d8 0x0d8 o n n named (offload o) (offload_is quiet_read (λ i. refl) (λ i. refl) refl o) refl
