-- The bytes before i are fed, and their text has a line a byte at most.
use Rattle.std.proofs.Common.{◌≡◌, ◌*◌, ◌≤◌, [], take}
use Rattle.answer.specs.Given.{controller}
use Rattle.sessions.specs.Session.{session, session_fed}
use Rattle.sessions.proofs.feed.Given as goal

abbrev pub invariant-loop-byte : goal.invariant-loop-byte
invariant-loop-byte l = record {
  room : l.turn.count ≤ 12 * l.byte-index;
  same : session (controller l.turn.bank l.store l.output) l.turn.line (take l.turn.count l.out) ≡ session_fed (session (controller l.fn.b l.fn.store l.fn.output) l.fn.line []) (take l.byte-index l.piece);
}
