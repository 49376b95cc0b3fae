-- What an operation does to a queue: to its level, and to the words of its area.
use Rattle.std.specs.Prelude.{ℕ, zero, suc, ◌+◌, ◌-◌, List, get_or, set}
use Rattle.ring.specs.Units.{words}
use Rattle.bank.specs.Fives.{Counts}
use Rattle.queues.specs.declared.Five.{Five}
use Rattle.model.specs.Decision.{QueueOp, keep, clear, take, push, push2}
use Rattle.plain_model.specs.declared.PlainArea.{PlainArea}

-- ── One queue ─────────────────────────────────────────────────────────────────────────────────────────────────
abbrev pub on_level : QueueOp → ℕ → ℕ
on_level keep n = n
on_level clear n = 0
on_level (take k) n = n - k
on_level (push w) n = n + 1
on_level (push2 v w) n = n + 2

-- n words, from the first on, each copied from its place at from, from + 1, .. to the places to, to + 1, ..
unfoldable pub shift : ℕ → ℕ → ℕ → List ℕ → List ℕ
shift to from zero st = st
shift to from (suc n) st = shift (suc to) (suc from) n (set st to (get_or st from 0))

-- `plain.push`: a word goes behind the last one. `plain.take`: the words that are left move to the front of the area. `plain.clear`: no
-- word is written.
unfoldable pub on_plain_store : QueueOp → PlainArea → List ℕ → List ℕ
on_plain_store keep a st = st
on_plain_store clear a st = st
on_plain_store (take k) a st = shift a.base (a.base + k) (a.level - k) st
on_plain_store (push w) a st = set st (a.base + a.level) w
on_plain_store (push2 v w) a st = set (set st (a.base + a.level) v) (a.base + (a.level + 1)) w

-- ── The five queues ───────────────────────────────────────────────────────────────────────────────────────────
abbrev pub on_levels : Five QueueOp → Counts → Counts
on_levels o l =
    record {
      cmd = words (on_level o.cmd l.cmd.0);
      cmdr = words (on_level o.cmdr l.cmdr.0);
      sdo = words (on_level o.sdo l.sdo.0);
      sdi = words (on_level o.sdi l.sdi.0);
      ibi = words (on_level o.ibi l.ibi.0);
    }

abbrev pub on_plain_stores : Five QueueOp → Five PlainArea → List ℕ → List ℕ
on_plain_stores o a st =
    on_plain_store o.ibi a.ibi
    (on_plain_store o.sdi a.sdi (on_plain_store o.sdo a.sdo (on_plain_store o.cmdr a.cmdr (on_plain_store o.cmd a.cmd st))))
