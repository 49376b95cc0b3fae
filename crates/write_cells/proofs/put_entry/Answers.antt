-- `write_cells::put_entry`: refused while a burst is open, or stored.
use Rattle.std.proofs.Common.{◌∙◌, sym, ap}
use Rattle.number.specs.Refusals.{told}
use Rattle.number.proofs.Refusals.{not_0}
use Rattle.bank.specs.Bursts.{bursting}
use Rattle.effect.specs.Seen.{seen}
use Rattle.effect.proofs.Laws.{no_fronts}
use Rattle.write_cells.proofs.Entries.{stays}
use Rattle.write_cells.proofs.put_entry.Goals as goal

pub returns-in-Err : goal.returns-in-Err
returns-in-Err c = λ x.
    let st = c.args.st in
    c.refused.ensures x no_fronts ∙ stays (seen st x no_fronts) (bursting st.control) _ _ (sym (ap told c.in-Err.is) ∙ c.burst_tests.ensures) (not_0 c.in-Err.why)
