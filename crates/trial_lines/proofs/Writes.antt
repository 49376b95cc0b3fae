-- One text behind another.
use Rattle.std.proofs.Common.{◌≡◌, ℕ, List, ◌++◌, Result, Ok, Err, OnOk}
use Rattle.std.specs.Prelude.{Option}
use Rattle.std.specs.Result.{result_and}
use Rattle.std.specs.Io.KnownBytes.{Appends}
use Rattle.std.proofs.KnownBytes.{Appends-trans}
use Rattle.trial_lines.specs.Growing.{Grows}

pub grows : {T E : Type 0} (a b : Option (List ℕ)) (r : Result T E) (text : List ℕ) → OnOk r (Appends a b text) → OnOk r (Grows a b)
grows a b (Ok x) text w = (text, w)
grows a b (Err e) text w = tt

pub grown : {T E : Type 0} (a b c : Option (List ℕ)) (r : Result T E) → Grows a b → OnOk r (Grows b c) → OnOk r (Grows a c)
grown a b c (Ok x) (before, h) (text, w) = (before ++ text, Appends-trans a b c before text h w)
grown a b c (Err e) h w = tt

-- both written, or one of them not
pub both : {T U E : Type 0} (a b c : Option (List ℕ)) (r : Result T E) (s t : Result U E) → t ≡ result_and r s → OnOk r (Grows a b) → OnOk s (Grows b c) → OnOk t (Grows a c)
both a b c (Ok x) s t e h w = rw e (grown a b c s h w)
both a b c (Err x) s t e h w = rw e tt
