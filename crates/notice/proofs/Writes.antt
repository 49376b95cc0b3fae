-- A write that takes some bytes at the front of the rest, and one that fails as one that takes none.
use Rattle.std.proofs.Common.{◌≡◌, ℕ, ◌+◌, ◌-◌, List, [], ◌++◌, None, Some, Result, Ok, Err, length, take, drop, sym, ap, ◌∙◌, subst, append-nil}
use Rattle.std.proofs.lemmas.List.{take_rest}
use Rattle.std.proofs.Math.Seq.{take-add}
use Rattle.std.specs.Prelude.{Option}
use Rattle.std.specs.Result.{result_unwrap_or}
use Rattle.std.specs.Io.KnownBytes.{Appends, Keeps, WriteAppends}
use Rattle.std.proofs.KnownBytes.{Appends-trans}

kept : (a b : Option (List ℕ)) → Keeps a b → Appends a b []
kept None b k = tt
kept (Some x) None k = absurd k
kept (Some x) (Some y) k = k ∙ sym (append-nil x)

-- the bytes that a write took, none where it failed
taken : {E : Type 0} (a b : Option (List ℕ)) (r : Result ℕ E) (bytes : List ℕ) → WriteAppends a b r bytes
    → Appends a b (take (result_unwrap_or r 0) bytes)
taken a b (Ok n) bytes w = w
taken a b (Err e) bytes w = kept a b w

pub write_more : {E : Type 0} (a b c : Option (List ℕ)) (r : Result ℕ E) (bytes : List ℕ) (done n : ℕ) → Appends a b (take done bytes)
    → WriteAppends b c r (take (length bytes - done) (drop done bytes)) → n ≡ result_unwrap_or r 0 → Appends a c (take (done + n) bytes)
write_more a b c r bytes done n before w e =
    let rest = drop done bytes in
    let whole : take (length bytes - done) rest ≡ rest = take_rest bytes done in
    let now : Appends b c (take (result_unwrap_or r 0) rest) = taken b c r rest (subst (WriteAppends b c r) whole w) in
    subst (Appends a c) (ap (λ k. take done bytes ++ take k rest) (sym e) ∙ sym (take-add done n bytes)) (Appends-trans a b c (take done bytes) (take (result_unwrap_or r 0) rest) before now)
