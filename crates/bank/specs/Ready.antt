-- What code that looks into the queues, or moves them, asks of its caller.
use Rattle.std.specs.Prelude.{ℕ, ◌≡◌, List, length}
use Rattle.ring.specs.Ring.{Valid}
use Rattle.bank.specs.Queues.{Queues, caps_of}
use Rattle.bank.specs.SetUp.{total}

-- five valid rings and a store of their total length
pub record Ready (q : Queues) (s : List ℕ) : Type 0 where
  pub cmd : Valid q.cmd
  pub cmdr : Valid q.cmdr
  pub sdo : Valid q.sdo
  pub sdi : Valid q.sdi
  pub ibi : Valid q.ibi
  pub size : length s ≡ total (caps_of q)
