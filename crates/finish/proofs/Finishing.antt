-- The bytes that an open transfer has moved fit the field of its receipt; the words that leave SDO, by which of two numbers is the less.
use Rattle.std.proofs.Common.{◌≡◌, ℕ, ◌-◌, ◌*◌, ◌%◌, ◌^◌, ◌<◌, ◌≤◌, min, Bool, true, false, cond, ◌||◌, eqb, ltb, leb, ap, arith, ltb-true, leb-true}
use Rattle.ring.specs.declared.Words.{Words}
use Rattle.bank.specs.declared.Phase.{Phase}
use Rattle.bank.specs.Phases.{transfer, assigning, unattached, limit, part_bytes}
use Rattle.bank.specs.Formed.{phase_ok}
use Rattle.bank.proofs.Bools.{three}

capped : (a : Bool) (n : ℕ) → cond a 0 n ≤ n
capped true n = omega arith
capped false n = omega arith

below : (m l n : ℕ) → n < 4096 → m ≤ l → l ≤ n → m < 4096
below m l n a b c = omega arith

pub moved_small : (p : Phase) → phase_ok p ≡ true → (transfer p).moved.0 < 4096
unfolding phase_ok
moved_small p h =
    let t = transfer p in
    let z = three (ltb t.length.0 4096) (leb t.moved.0 (limit p)) (eqb (t.part % 2 ^ (32 - 8 * part_bytes p)) 0) h in
    below t.moved.0 (limit p) t.length.0 (ltb-true t.length.0 4096 z.0) (leb-true t.moved.0 (limit p) z.1) (capped (assigning p || unattached p) t.length.0)
