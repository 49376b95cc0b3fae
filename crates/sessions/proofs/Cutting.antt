-- `session.pieces`: a session's bytes may be cut anywhere.
use Prim.Native.Nat.{ℕ, ◌+◌, ◌<◌, ◌≤◌}
use mathlib.Core.Path.{◌≡◌, refl, ap, sym, ◌∙◌}
use mathlib.Core.Bool.{Bool, true, false, cond}
use mathlib.Core.List.{List, [], ◌∷◌, ◌++◌, append-nil, append_assoc, foldl-append}
use lib.Dec.{eqb}
use lib.ListN.{length, get_or, take}
use lib.Seq.{take_all}
use borrow.Author.Tests.{eq-eqb, ne_eqb}
use Rattle.model.specs.Rings.{Controller}
use Rattle.answer.specs.Given.{controller}
use Rattle.lines.specs.declared.Reading.{Reading}
use Rattle.sessions.specs.declared.Ended.{Ended}
use Rattle.lines.specs.Automaton.{unread, eat_of, call_read}
use Rattle.sessions.specs.Session.{ran_of, ended_session, Session, session, line_end, fed_byte, session_fed}
use Rattle.lines.proofs.Choices.{chosen, passed}
use Rattle.std.proofs.lemmas.List.{take_more}

pub cut : (s : Session) (a b : List ℕ) → session_fed s (a ++ b) ≡ session_fed (session_fed s a) b
unfolding session_fed
cut s a b = foldl-append fed_byte s a b

-- what is printed does not depend on what was printed before, and comes after it
abbrev after : List ℕ → Session → Session
after t s = session s.controller s.line (t ++ s.text)

choice_after : (t : List ℕ) (s : Session) (b : ℕ) (newline : Bool)
    → cond newline (line_end (after t s)) (session s.controller (eat_of s.line b) (t ++ s.text))
    ≡ after t (cond newline (line_end s) (session s.controller (eat_of s.line b) s.text))
choice_after t s b true =
    let y = ran_of s.controller (call_read s.line) in
    ap (session y.controller unread) (append_assoc t s.text y.text)
choice_after t s b false = refl

fed_after : (t : List ℕ) (s : Session) (bytes : List ℕ) → session_fed (after t s) bytes ≡ after t (session_fed s bytes)
unfolding session_fed
fed_after t s [] = refl
fed_after t s (b ∷ bytes) = ap (λ (x : Session). session_fed x bytes) (choice_after t s b (eqb b 0x0a)) ∙ fed_after t (fed_byte s b) bytes

-- the text of two pieces is that of the first and then that of the second from where the first left bank, store, output and line
pub pieces : (l : Controller) (r : Reading) (a b : List ℕ)
    → let y = session_fed (session l r []) a in
    (session_fed (session l r []) (a ++ b)).text ≡ y.text ++ (session_fed (session y.controller y.line []) b).text
pieces l r a b =
    let y = session_fed (session l r []) a in
    ap (λ (x : Session). x.text) (cut (session l r []) a b)
    ∙ ap (λ (t : List ℕ). (session_fed (session y.controller y.line t) b).text) (sym (append-nil y.text))
    ∙ ap (λ (x : Session). x.text) (fed_after y.text (session y.controller y.line []) b)

-- one byte more
pub fed_next : (s : Session) (bytes : List ℕ) (i : ℕ) → i < length bytes → fed_byte (session_fed s (take i bytes)) (get_or bytes i 0) ≡ session_fed s (take (i + 1) bytes)
unfolding session_fed
fed_next s bytes i h = sym (ap (session_fed s) (take_more bytes i 0 h) ∙ cut s (take i bytes) (get_or bytes i 0 ∷ []))

-- ── The loop of `feed` ───────────────────────────────────────────────────────────────────────────
-- a byte of a line
pub fed_byte_lem : (s : Session) (l : Controller) (r : Reading) (t bytes : List ℕ) (i : ℕ) → i < length bytes → session l r t ≡ session_fed s (take i bytes)
    → (get_or bytes i 0 ≡ 0x0a → ⊥) → (q : Reading) → q ≡ eat_of r (get_or bytes i 0) → session l q t ≡ session_fed s (take (i + 1) bytes)
fed_byte_lem s l r t bytes i h e n q f =
    ap (λ (x : Reading). session l x t) f
    ∙ sym (passed (eqb (get_or bytes i 0) 0x0a) (line_end (session l r t)) (session l (eat_of r (get_or bytes i 0)) t) (ne_eqb (get_or bytes i 0) 0x0a n))
    ∙ ap (λ (x : Session). fed_byte x (get_or bytes i 0)) e
    ∙ fed_next s bytes i h

-- a newline
pub fed_newline : (s : Session) (l : Controller) (r : Reading) (t bytes : List ℕ) (i : ℕ) → i < length bytes → session l r t ≡ session_fed s (take i bytes)
    → get_or bytes i 0 ≡ 0x0a → (y : Ended) (s' o out : List ℕ) → ended_session y s' o out ≡ line_end (session l r t) → (q : Reading) → q ≡ unread
    → session (controller y.bank s' o) q (take y.count out) ≡ session_fed s (take (i + 1) bytes)
fed_newline s l r t bytes i h e n y s' o out z q f =
    ap (λ (x : Reading). session (controller y.bank s' o) x (take y.count out)) f
    ∙ z
    ∙ sym (chosen (eqb (get_or bytes i 0) 0x0a) (line_end (session l r t)) (session l (eat_of r (get_or bytes i 0)) t) (eq-eqb (get_or bytes i 0) 0x0a n))
    ∙ ap (λ (x : Session). fed_byte x (get_or bytes i 0)) e
    ∙ fed_next s bytes i h

-- all bytes
pub fed_all : (s x : Session) (bytes : List ℕ) (i : ℕ) → x ≡ session_fed s (take i bytes) → length bytes ≤ i → x ≡ session_fed s bytes
fed_all s x bytes i e h = e ∙ ap (session_fed s) (take_all i bytes h)
