-- Five of a kind, one for each queue: put together, looked at and changed by the queue's name.
use Rattle.queues.specs.declared.Queue.{Queue}
use Rattle.queues.specs.declared.Queue.TheVariants.{Cmd, Cmdr, Sdo, Sdi, Ibi}
use Rattle.queues.specs.declared.Five.{Five}

abbrev pub each : {A : Type 0} → A → A → A → A → A → Five A
each a b c d e = record { cmd = a; cmdr = b; sdo = c; sdi = d; ibi = e }

abbrev pub every : {A : Type 0} → A → Five A
every x = each x x x x x

abbrev pub of : {A : Type 0} → Queue → Five A → A
of Cmd f = f.cmd
of Cmdr f = f.cmdr
of Sdo f = f.sdo
of Sdi f = f.sdi
of Ibi f = f.ibi

abbrev pub with : {A : Type 0} → Queue → A → Five A → Five A
with Cmd x f = each x f.cmdr f.sdo f.sdi f.ibi
with Cmdr x f = each f.cmd x f.sdo f.sdi f.ibi
with Sdo x f = each f.cmd f.cmdr x f.sdi f.ibi
with Sdi x f = each f.cmd f.cmdr f.sdo x f.ibi
with Ibi x f = each f.cmd f.cmdr f.sdo f.sdi x
