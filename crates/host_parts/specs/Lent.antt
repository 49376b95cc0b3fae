-- Contracts of a host's calls: what is lent to a call, as one record, when the call begins and when it ends.
use Rattle.std.specs.Prelude.{ℕ, List}
use Rattle.bank.specs.Fives.{Sizes}
use Rattle.answer.specs.Memory.{Param}
use Rattle.letters.specs.Named.{Parsed}
use Rattle.image_model.specs.Image.{Kept, kept}
use Rattle.host_model.specs.Host.{Fresh, Hosted, step_in, packed_of, Replayed, replay_in}

-- image and tables, as they are lent, and as they are left
abbrev pub kept_lent : Param → Param → Param → Param → Kept
kept_lent i f c p = kept i.entry.now f.entry.now c.entry.now p.entry.now

abbrev pub kept_left : Param → Param → Param → Param → Kept
kept_left i f c p = kept i.exit.now f.exit.now c.exit.now p.exit.now

-- with a store, and the words that a call may write: the output of a step, or what a replay tells
pub record Loan : Type 0 where
  pub keeps : Kept
  pub store : List ℕ
  pub words : List ℕ

abbrev pub loan : Kept → List ℕ → List ℕ → Loan
loan k s w = record { keeps = k; store = s; words = w }

-- image, flags, offload commands, offload data words, store and words
abbrev pub lent_all : Param → Param → Param → Param → Param → Param → Loan
lent_all i f c p s w = loan (kept_lent i f c p) s.entry.now w.entry.now

abbrev pub left_all : Param → Param → Param → Param → Param → Param → Loan
left_all i f c p s w = loan (kept_left i f c p) s.exit.now w.exit.now

-- the number that a call gives, with all that was lent as the call leaves it
pub record Gave : Type 0 where
  pub number : ℕ
  pub after : Loan

abbrev pub gave : ℕ → Loan → Gave
gave n m = record { number = n; after = m }

abbrev pub fresh : ℕ → Kept → Fresh
fresh n k = record { number = n; kept = k }

abbrev pub sizes_given : ℕ → ℕ → ℕ → ℕ → ℕ → Sizes
sizes_given a b c d e = record { cmd = a; cmdr = b; sdo = c; sdi = d; ibi = e }

-- what the definitions say that a call and a replay give, of what is lent
abbrev pub packed_step : Hosted → Gave
packed_step h = gave (packed_of h.answer) (loan h.kept h.store h.output)

abbrev pub step_on : Parsed → Loan → Gave
step_on p m = packed_step (step_in p m.keeps m.store m.words)

abbrev pub replayed : Replayed → Gave
replayed h = gave h.number (loan h.kept h.store h.told)

abbrev pub replay_on : List ℕ → ℕ → ℕ → Loan → Gave
replay_on file i limit m = replayed (replay_in file i limit m.keeps m.store m.words)
