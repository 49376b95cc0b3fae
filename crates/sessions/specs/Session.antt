-- A session, 01, 'A session': bytes come in, lines are told apart, calls made, answers printed.
use Rattle.std.specs.Prelude.{ℕ, ◌≡◌, cond, eqb, take, Option, Some, None}
use mathlib.Core.List.{List, [], ◌∷◌, ◌++◌, foldl}
use Rattle.bank.specs.declared.Answer.{Answer}
use Rattle.model.specs.Engine.{step}
use Rattle.model.specs.Rings.{Controller, rings}
use Rattle.answer.specs.Given.{controller}
use Rattle.print.specs.Line.{line_of}
use Rattle.lines.specs.declared.Reading.{Reading}
use Rattle.sessions.specs.declared.Ran.{Ran}
use Rattle.sessions.specs.declared.Ended.{Ended}
use Rattle.sessions.specs.declared.SessionTurn.{SessionTurn}
use Rattle.letters.specs.Named.{Parsed}
use Rattle.lines.specs.Lines.{before, behind, line_names}
use Rattle.lines.specs.Automaton.{unread, eat_of, call_read}

-- a bank with its store and output, and what was printed
pub record Printed : Type 0 where
  pub controller : Controller
  pub text : List ℕ

abbrev pub with_text : Controller → List ℕ → Printed
with_text l t = record { controller = l; text = t }

abbrev pub answer_line : Answer → List ℕ
answer_line a = line_of a.value a.number

-- `session.answers`: the call of a line is made and its answer printed; a line that names none is skipped (`session.lines`)
abbrev pub ran_of : Controller → Parsed → Printed
ran_of l None = with_text l []
ran_of l (Some c) = let s = step rings l c in with_text s.next (answer_line s.answer)

-- the line printed, if any
abbrev pub text_of : Option (List ℕ) → List ℕ
text_of None = []
text_of (Some text) = text

-- what `run` gives
abbrev pub ran_told : Ran → List ℕ → List ℕ → Printed
ran_told r s o = with_text (controller r.bank s o) (text_of r.text)

-- a session between two bytes: bank, store and output, the line so far, what was printed
pub record Session : Type 0 where
  pub controller : Controller
  pub line : Reading
  pub text : List ℕ

abbrev pub session : Controller → Reading → List ℕ → Session
session l r t = record { controller = l; line = r; text = t }

-- what `end_line` and `feed` give
abbrev pub ended_session : Ended → List ℕ → List ℕ → List ℕ → Session
ended_session r s o out = session (controller r.bank s o) unread (take r.count out)

abbrev pub fed_session : SessionTurn → List ℕ → List ℕ → List ℕ → Session
fed_session r s o out = session (controller r.bank s o) r.line (take r.count out)

-- a line ends: its call is made, and a new line begins
abbrev pub line_end : Session → Session
line_end s = let t = ran_of s.controller (call_read s.line) in session t.controller unread (s.text ++ t.text)

-- `session.lines`: a newline closes a line; the end of the input does so in `printed`
abbrev pub fed_byte : Session → ℕ → Session
fed_byte s b = cond (eqb b 0x0a) (line_end s) (session s.controller (eat_of s.line b) s.text)

-- the bytes of a piece, one after another (`session.pieces`)
unfoldable pub session_fed : Session → List ℕ → Session
session_fed = foldl fed_byte

-- what a session prints on a whole input
abbrev pub printed : Controller → List ℕ → List ℕ
printed l bytes = (line_end (session_fed (session l unread []) bytes)).text

-- ── By lines ──────────────────────────────────────────────────────────────────────────────────────────────────
-- the lines of an input: before its first newline, and behind each
abbrev pub lines_of : List ℕ → List (List ℕ)
lines_of bytes = before 0x0a bytes ∷ behind 0x0a bytes

-- the call that a line names is made, and its answer printed behind what is printed
abbrev pub after_line : Printed → List ℕ → Printed
after_line t line = let y = ran_of t.controller (line_names line) in with_text y.controller (t.text ++ y.text)

-- a session prints what its lines print, one after another, each read by the grammar (`session.lines`); an empty rest behind the last newline names no call
unfoldable pub EachLineIsRead : Type 0
EachLineIsRead = (l : Controller) (bytes : List ℕ) → printed l bytes ≡ (foldl after_line (with_text l []) (lines_of bytes)).text
