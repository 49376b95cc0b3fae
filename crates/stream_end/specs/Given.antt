-- Contracts of pieces: what code gives, with the store and the text that it left, as the definitions have it. An empty output stays empty.
use Rattle.std.specs.Prelude.{ℕ, ◌+◌, ◌<◌, ◌≤◌, List, [], length, take}
use Rattle.std.specs.Borrow.{Bor}
use denote.Triple.Both.{Both}
use Rattle.answer.specs.Given.{controller}
use Rattle.answer.specs.Memory.{Param}
use Rattle.stream_model.specs.Stream.{Stream, stream}
use Rattle.stream_end.specs.declared.StreamTurn.{StreamTurn}

abbrev pub fed_by : StreamTurn → List ℕ → List ℕ → Stream
fed_by r s text = stream (controller r.bank s []) r.stage r.used (take r.count text)

-- as it is left: of a turn, a store and a text
abbrev pub fed_left : StreamTurn → Param → Param → Stream
fed_left r s out = fed_by r s.exit.now out.exit.now

-- it fills no more of the text than there is, and uses the bytes of the piece but for the last few
abbrev pub Bounded : ℕ → StreamTurn → Both (Bor (List ℕ)) (Bor (List ℕ)) → Param → Type 0
Bounded few r bytes out = (r.count ≤ length out.exit.now) × (r.used ≤ length bytes.entry.now) × (length bytes.entry.now < r.used + few)
