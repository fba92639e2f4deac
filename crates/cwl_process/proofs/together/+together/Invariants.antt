use Rattle.std.proofs.Common.{◌≡◌, ◌+◌, ◌*◌, drop, map}
use Rattle.document_table.specs.Entries.{entry_seen}
use Rattle.cwl_process.specs.FirstFaults.{first_in}
use Rattle.cwl_process.specs.Together.{process_fault, step_fault}
use Rattle.cwl_process.proofs.together.+together.Given as goal

-- Each workflow inside another takes a level; on one level the functions call one another in this order.

abbrev pub decreases-process_fault : goal.decreases-process_fault
decreases-process_fault l = 6 * l.levels

abbrev pub decreases-step_fault : goal.decreases-step_fault
decreases-step_fault l = 6 * l.levels + 1

abbrev pub decreases-first_step_fault : goal.decreases-first_step_fault
decreases-first_step_fault l = 6 * l.levels + 2

abbrev pub decreases-steps_fault : goal.decreases-steps_fault
decreases-steps_fault l = 6 * l.levels + 3

abbrev pub decreases-links_fault : goal.decreases-links_fault
decreases-links_fault l = 6 * l.levels + 4

abbrev pub decreases-workflow_fault : goal.decreases-workflow_fault
decreases-workflow_fault l = 6 * l.levels + 5

abbrev pub invariant-first_step_fault-loop-entry : goal.invariant-first_step_fault-loop-entry
invariant-first_step_fault-loop-entry l =
    first_in (step_fault (process_fault l.levels) l.id) (map entry_seen (drop l.entry-index l.all)) ≡ first_in (step_fault (process_fault l.levels) l.id) (map entry_seen l.all)
