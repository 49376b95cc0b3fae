-- What is unfolded where calls compute: cases worked by hand name `steps` alone.
use lib.Count.{ones}
use Rattle.ring.specs.Ring.{entries}
use Rattle.bank.specs.SetUp.{caps_ok, marks_ok, sizes_ok, set_up}
use Rattle.bank.specs.Bursts.{all_carried, reads_in}
use Rattle.bank.specs.Formed.{queues_ok, regs_ok, flags_ok, phase_ok, burst_ok, open_ok, queues_clear, control_clear, reset_ok, well_formed}
use Rattle.registers.specs.Map.{named, offload, entry_at}
use Rattle.model.specs.Commands.{kind_of, is_entdaa, is_read, is_write, length_of, begun, receipt_word, entry_word}
use Rattle.model.specs.Registers.{enable}
use Rattle.model.specs.Calls.{start, send, receive, allowed, padded, finish, interrupt, request, take_address}
use Rattle.model.specs.Bursts.{short_in_burst, trigger, burst_send, burst_receive, burst_finish}
use Rattle.model.specs.Engine.{step, lending, final}
use Rattle.model.specs.Rings.{on_ring, on_store, guard_rings}

-- set-up, and whether a bank is well formed
unfoldable pub banks : Unit {0}
unfolding entries caps_ok marks_ok sizes_ok set_up queues_ok regs_ok flags_ok phase_ok burst_ok open_ok all_carried reads_in queues_clear control_clear reset_ok well_formed
banks = tt

-- commands and registers
unfoldable pub words : Unit {0}
unfolding kind_of is_entdaa is_read is_write length_of begun receipt_word entry_word named offload entry_at enable ones
words = tt

-- the calls
unfoldable pub calls : Unit {0}
unfolding start send receive allowed padded finish interrupt request take_address short_in_burst trigger burst_send burst_receive burst_finish
calls = tt

-- a step of the ring engine, and a run of steps
unfoldable pub steps : Unit {0}
unfolding banks words calls step lending final on_ring on_store guard_rings
steps = tt
