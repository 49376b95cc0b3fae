-- Laws of the cut of words into commands.
use Prim.Native.Nat.{ℕ}
use mathlib.Core.Path.{◌≡◌, refl, ap, sym, ◌∙◌}
use mathlib.Core.Bool.{true, false}
use mathlib.Core.List.{List, [], ◌∷◌, ◌++◌, append_assoc}
use Rattle.model.specs.Commands.{Command, Single, Ccc, two_words, words_of}
use Rattle.model.specs.Demand.{cut, joined}

-- each command is cut as its first word says
abbrev pub CutAs : Command → Type 0
CutAs (Single w) = two_words w ≡ false
CutAs (Ccc w c) = two_words w ≡ true

abbrev pub WellCut : List Command → Type 0
WellCut [] = Unit {0}
WellCut (c ∷ cs) = CutAs c × WellCut cs

pub well_snoc : (cs : List Command) (c : Command) → WellCut cs → CutAs c → WellCut (cs ++ (c ∷ []))
well_snoc [] c h k = (k, tt)
well_snoc (d ∷ cs) c h k = (h.0, well_snoc cs c h.1 k)

cut_single : (w : ℕ) (ws : List ℕ) → two_words w ≡ false → cut (w ∷ ws) ≡ Single w ∷ cut ws
unfolding cut
cut_single w [] e = rw e
cut_single w (c ∷ ws) e = rw e

cut_ccc : (w c : ℕ) (ws : List ℕ) → two_words w ≡ true → cut (w ∷ c ∷ ws) ≡ Ccc w c ∷ cut ws
unfolding cut
cut_ccc w c ws e = rw e

pub cut_joined : (cs : List Command) (q : List ℕ) → WellCut cs → cut (joined cs ++ q) ≡ cs ++ cut q
unfolding joined
cut_joined [] q h = refl
cut_joined (Single w ∷ cs) q h = cut_single w (joined cs ++ q) h.0 ∙ ap (λ (l : List Command). Single w ∷ l) (cut_joined cs q h.1)
cut_joined (Ccc w c ∷ cs) q h = cut_ccc w c (joined cs ++ q) h.0 ∙ ap (λ (l : List Command). Ccc w c ∷ l) (cut_joined cs q h.1)

pub joined_append : (cs ds : List Command) → joined (cs ++ ds) ≡ joined cs ++ joined ds
unfolding joined
joined_append [] ds = refl
joined_append (c ∷ cs) ds = ap (λ (l : List ℕ). words_of c ++ l) (joined_append cs ds) ∙ sym (append_assoc (words_of c) (joined cs) (joined ds))
