-- The table of worked cases holds, so do the worked removals, empty reads and bursts, and five lists of calls come to their tallies: by
-- computation.
use mathlib.Core.Path.{refl}
use Rattle.model.specs.Demand.{tally}
use Rattle.model.specs.Cases.{answered, all_hold, rounds, worked, third_byte, released_case, fifth_write, ccc_alone, addresses, five_bytes, interrupt8, receipt257, table, Hold}
use Rattle.model.specs.Removal.{refused_once, rounded_up, fewer, no_bytes, kinds, round_the_end, others_keep, assignment_keeps, no_room_keeps, burst_keeps, sessions, RemovalsWork}
use Rattle.model.specs.EmptyRead.{none_yet, each_its_own, forgotten, past_the_wrap, EmptyReadsWork}
use Rattle.model.specs.BurstLaw.{after}
use Rattle.model.specs.BurstCases.{calls_of, sampling, attaching, refusing, opened_burst, shortened, BurstsWork}
use Rattle.model.specs.Tallies.{session_calls, session_tally, assignment_calls, assignment_tally, writes, retry_calls, retry_tally, dropped_calls, dropped_tally, burst_calls, burst_tally, WorkedTallies}
use Rattle.model.proofs.Steps.{steps}

pub hold : Hold
unfolding steps answered all_hold rounds worked third_byte released_case fifth_write ccc_alone addresses five_bytes interrupt8 receipt257 table Hold
hold = refl

pub tallied : WorkedTallies
unfolding steps tally session_calls session_tally assignment_calls assignment_tally writes retry_calls retry_tally dropped_calls dropped_tally burst_calls burst_tally
tallied = record { worked = refl; assignment = refl; retry = refl; dropped = refl; burst = refl }

pub bursts_work : BurstsWork
unfolding steps answered after calls_of sampling attaching refusing opened_burst shortened
bursts_work =
    record {
      sampled = record { answers = refl; output = refl };
      attached = record { answers = refl; output = refl };
      refused = record { answers = refl; output = refl };
      shorter = refl;
    }

pub removals_work : RemovalsWork
unfolding steps answered all_hold refused_once rounded_up fewer no_bytes kinds round_the_end others_keep assignment_keeps no_room_keeps burst_keeps sessions RemovalsWork
removals_work = refl

pub empty_reads_work : EmptyReadsWork
unfolding steps answered all_hold none_yet each_its_own forgotten past_the_wrap EmptyReadsWork
empty_reads_work = refl
