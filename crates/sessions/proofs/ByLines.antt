-- A session prints what its lines print, one after another, each read by the grammar.
use Prim.Native.Nat.{ℕ}
use mathlib.Core.Path.{◌≡◌, sym, ap, ap₂, ◌∙◌}
use mathlib.Core.List.{List, [], ◌∷◌, ◌++◌, foldl, append-nil, append_assoc, foldl-append}
use lib.Dec.{eqb}
use Rattle.model.specs.Rings.{Controller}
use Rattle.letters.specs.Named.{Parsed}
use Rattle.lines.specs.declared.Reading.{Reading}
use Rattle.lines.specs.Lines.{before, behind}
use Rattle.lines.specs.Automaton.{unread, eat_of, reading_of}
use Rattle.lines.proofs.Choices.{chosen, passed, split}
use Rattle.lines.proofs.Grammar.{reads_the_grammar}
use Rattle.sessions.specs.Session.{Printed, with_text, ran_of, Session, session, line_end, session_fed, after_line, EachLineIsRead}

abbrev between : Printed → Session
between t = session t.controller unread t.text

-- the end of a line whose bytes are `part`
line_read : (l : Controller) (t part : List ℕ) → line_end (session l (reading_of part) t) ≡ between (after_line (with_text l t) part)
line_read l t part = ap (λ (p : Parsed). let y = ran_of l p in session y.controller unread (t ++ y.text)) (reads_the_grammar part)

-- the rest of an input, `part` being what came of a line
by_lines : (bytes : List ℕ) (l : Controller) (t part : List ℕ)
    → line_end (session_fed (session l (reading_of part) t) bytes) ≡ between (foldl after_line (with_text l t) ((part ++ before 0x0a bytes) ∷ behind 0x0a bytes))
unfolding session_fed before behind
by_lines [] l t part = line_read l t part ∙ ap (λ (x : List ℕ). between (after_line (with_text l t) x)) (sym (append-nil part))
by_lines (b ∷ bytes) l t part =
    let s = session l (reading_of part) t in
    let first = before 0x0a bytes in
    let rest = behind 0x0a bytes in
    let lines : List ℕ → List (List ℕ) → Session = λ x xs. between (foldl after_line (with_text l t) ((part ++ x) ∷ xs)) in
    split (eqb b 0x0a)
    (λ e.
    ap (λ (x : Session). line_end (session_fed x bytes)) (chosen (eqb b 0x0a) (line_end s) (session l (eat_of (reading_of part) b) t) e ∙ line_read l t part)
    ∙ by_lines bytes (after_line (with_text l t) part).controller (after_line (with_text l t) part).text []
    ∙ ap (λ (x : List ℕ). between (foldl after_line (with_text l t) (x ∷ first ∷ rest))) (sym (append-nil part))
    ∙ sym (ap₂ lines (chosen (eqb b 0x0a) [] (b ∷ first) e) (chosen (eqb b 0x0a) (first ∷ rest) rest e)))
    (λ e.
    ap (λ (x : Session). line_end (session_fed x bytes)) (passed (eqb b 0x0a) (line_end s) (session l (eat_of (reading_of part) b) t) e ∙ ap (λ (r : Reading). session l r t) (sym (foldl-append eat_of unread part (b ∷ []))))
    ∙ by_lines bytes l t (part ++ b ∷ [])
    ∙ ap (λ (x : List ℕ). between (foldl after_line (with_text l t) (x ∷ rest))) (append_assoc part (b ∷ []) first)
    ∙ sym (ap₂ lines (passed (eqb b 0x0a) [] (b ∷ first) e) (passed (eqb b 0x0a) (first ∷ rest) rest e)))

pub each_line_is_read : EachLineIsRead
unfolding EachLineIsRead
each_line_is_read l bytes = ap (λ (s : Session). s.text) (by_lines bytes l [] [])
