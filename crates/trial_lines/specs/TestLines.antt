-- Lines of the test programs, read byte by byte as `lines` reads those of a session: B, G, O and P are letters too, and B has eleven fields.
use Rattle.std.specs.Prelude.{ℕ, ◌+◌, ◌%◌, false, true, cond, not, ◌&&◌, ◌||◌, List, eqb, leb, get_or, set, replicate, Option, None, Some}
use Rattle.bank.specs.declared.Answer.{Answer}
use Rattle.bank.specs.Fives.{Sizes}
use Rattle.lines.specs.declared.Reading.{Reading}
use Rattle.lines.specs.Automaton.{reading_with, unread, skipped, eat_of, call_read}
use Rattle.letters.specs.Named.{Parsed}
use Rattle.model.specs.declared.Call.TheVariants.{Trigger}
use Rattle.trial_lines.specs.declared.Asked.{Asked}
use Rattle.trial_lines.specs.declared.Asked.TheVariants.{SetUp, Make, Lend, Show}
use Rattle.trial_lines.specs.declared.Console.{Console}
use Rattle.trial_lines.specs.declared.Line.{Line}
use Rattle.trial_lines.specs.declared.Output.{Output}

abbrev pub line_with : Reading → ℕ → List ℕ → Line
line_with r at values = record { reading = r; at = at; values = values }

abbrev pub no_line : Line
no_line = line_with unread 0 (replicate 11 0)

-- a letter, and the most digits of its field
abbrev pub test_letter : ℕ → ℕ → Reading
test_letter letter digits = reading_with letter 0 digits 0 false 0 0

-- the first byte of a line
abbrev pub test_letter_read : ℕ → Reading
test_letter_read b =
    cond (eqb b 0x42) (test_letter 0x42 0)
    (cond (eqb b 0x47) (test_letter 0x47 0) (cond (eqb b 0x4f) (test_letter 0x4f 2) (cond (eqb b 0x50) (test_letter 0x50 1) (eat_of unread b))))

-- the next field of a set-up begins, of eight digits
abbrev pub next_field : Line → Line
next_field x =
    let dead = line_with skipped x.at x.values in
    cond x.reading.bare dead
    (cond (leb 11 x.at) dead (line_with (reading_with 0x42 8 0 0 true 0 0) (x.at + 1) (set x.values x.at x.reading.value)))

abbrev pub eat_test : Line → ℕ → Line
eat_test x b =
    let r = x.reading in
    cond (eqb r.letter 0) (line_with (test_letter_read b) x.at x.values)
    (cond (eqb r.letter 0x42 && eqb b 0x20) (next_field x) (line_with (eat_of r b) x.at x.values))

-- the letter of a line that ends here, where all its fields are there
abbrev pub letter_named : Line → Option ℕ
letter_named x =
    let r = x.reading in
    cond (r.bare || not (eqb r.next 0) || (eqb r.letter 0x42 && not (eqb x.at 11))) None (Some r.letter)

-- five numbers of a set-up, from the one at place i on
abbrev pub five_from : ℕ → List ℕ → Sizes
five_from i v = record { cmd = get_or v i 0; cmdr = get_or v (i + 1) 0; sdo = get_or v (i + 2) 0; sdi = get_or v (i + 3) 0; ibi = get_or v (i + 4) 0 }

-- what a line asks that names a call
abbrev pub call_asked : Parsed → Option Asked
call_asked None = None
call_asked (Some c) = Some (Make c)

-- what a line asks with its letter: the capacities of a set-up stand before its watermarks, and its ID was read last
abbrev pub asked_by : Line → Option ℕ → Option Asked
asked_by x None = None
asked_by x (Some l) =
    let v = x.reading.value in
    cond (eqb l 0x42) (Some (SetUp (five_from 1 x.values) (five_from 6 x.values) v))
    (cond (eqb l 0x47) (Some (Make Trigger))
    (cond (eqb l 0x4f) (Some (Lend v)) (cond (eqb l 0x50) (Some (Show v)) (call_asked (call_read x.reading)))))

abbrev pub asked_of : Line → Option Asked
asked_of x = asked_by x (letter_named x)

-- another output, where there are so many words
abbrev pub lent_test : Output → ℕ → Output
lent_test o n = cond (leb n 16) (record { words = replicate 16 0xffffffff; lent = n }) o

abbrev pub word_shown : Output → ℕ → Answer
word_shown o place = record { value = get_or o.words (place % 16) 0; number = 0 }

-- a console before its first byte: an output of ones of which no word is lent, and no line
abbrev pub console_of : {E : Type 0} → E → Console E
console_of e = record { engine = e; output = record { words = replicate 16 0xffffffff; lent = 0 }; line = no_line }
