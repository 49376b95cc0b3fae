-- `plain_words::word`: a word of the queue lies at its place, and past the last one there is 0.
use Rattle.std.proofs.Common.{sym}
use Rattle.plain_words.proofs.Laws.{word_there, no_word_there}
use Rattle.plain_words.proofs.word.Goals as goal

pub returns-then-i-a : goal.returns-then-i-a
returns-then-i-a c = sym (word_there _ _ _ c.if-i-a.true)

pub returns : goal.returns
returns c = sym (no_word_there _ _ _ c.if-i-a.false)
