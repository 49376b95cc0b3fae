-- The numbers of answers, by the names that header, bindings and docs/ANSWERS.md have for them. 0 is done and has no name.
use Rattle.std.specs.Prelude.{ℕ}

-- a word written to a full CMD or SDO was dropped
abbrev pub dropped_full : ℕ
dropped_full = 1

-- a write to a read-only register was dropped
abbrev pub dropped_read_only : ℕ
dropped_read_only = 2

-- the queue that was read is empty
abbrev pub empty : ℕ
empty = 3

-- no register there
abbrev pub no_register : ℕ
no_register = 4

-- held in reset
abbrev pub held_in_reset : ℕ
held_in_reset = 5

-- a transfer is open
abbrev pub transfer_open : ℕ
transfer_open = 6

-- no transfer is open
abbrev pub no_transfer : ℕ
no_transfer = 7

-- not in this mode
abbrev pub not_in_this_mode : ℕ
not_in_this_mode = 8

-- no whole command waits
abbrev pub no_command : ℕ
no_command = 9

-- not with this transfer, or not now
abbrev pub not_this_kind : ℕ
not_this_kind = 10

-- commanded length reached
abbrev pub length_reached : ℕ
length_reached = 11

-- SDO is empty
abbrev pub sdo_empty : ℕ
sdo_empty = 12

-- no room in the receiving queue or in the output
abbrev pub no_room : ℕ
no_room = 13

-- ending not allowed here
abbrev pub ending_not_allowed : ℕ
ending_not_allowed = 14

-- SDO not empty at the start of ENTDAA
abbrev pub sdo_not_empty : ℕ
sdo_not_empty = 15

-- interrupt request not heard
abbrev pub not_heard : ℕ
not_heard = 16

-- interrupt request not acknowledged
abbrev pub not_acknowledged : ℕ
not_acknowledged = 17

-- argument out of range
abbrev pub out_of_range : ℕ
out_of_range = 18

-- the address word had a wrong parity bit
abbrev pub wrong_parity : ℕ
wrong_parity = 19

-- the transfer's device is not attached
abbrev pub not_attached : ℕ
not_attached = 20

-- the bank is not well formed
abbrev pub not_well_formed : ℕ
not_well_formed = 21

-- the store has another length
abbrev pub store_length : ℕ
store_length = 22

-- a set-up number is out of range
abbrev pub set_up_out_of_range : ℕ
set_up_out_of_range = 23

-- the trace's mark is wrong
abbrev pub wrong_mark : ℕ
wrong_mark = 24

-- the trace's table or length is wrong
abbrev pub wrong_table : ℕ
wrong_table = 25

-- the trace has no such section
abbrev pub no_such_section : ℕ
no_such_section = 26

-- a record of the trace is wrong
abbrev pub wrong_record : ℕ
wrong_record = 27

-- the burst has no commands
abbrev pub burst_has_no_commands : ℕ
burst_has_no_commands = 28

-- a command of the burst is not carried
abbrev pub not_carried : ℕ
not_carried = 29

-- the watermark written is above the capacity of its queue: dropped
abbrev pub watermark_above_capacity : ℕ
watermark_above_capacity = 30
