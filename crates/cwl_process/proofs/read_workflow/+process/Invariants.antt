use Rattle.std.proofs.Common.{◌≡◌, ◌+◌, ◌*◌, ◌++◌, drop, map}
use Rattle.document_table.specs.Entries.{entry_seen}
use Rattle.cwl_process.specs.Processes.{process_in, step_in}
use Rattle.cwl_process.proofs.read_workflow.+process.Given as goal

-- Each workflow inside another takes a level; on one level the functions call one another in this order.

abbrev pub decreases-read_process : goal.decreases-read_process
decreases-read_process l = 6 * l.levels

abbrev pub decreases-run_at : goal.decreases-run_at
decreases-run_at l = 6 * l.levels + 1

abbrev pub decreases-read_step : goal.decreases-read_step
decreases-read_step l = 6 * l.levels + 2

abbrev pub decreases-read_steps : goal.decreases-read_steps
decreases-read_steps l = 6 * l.levels + 3

abbrev pub decreases-steps_at : goal.decreases-steps_at
decreases-steps_at l = 6 * l.levels + 4

abbrev pub decreases-read_workflow : goal.decreases-read_workflow
decreases-read_workflow l = 6 * l.levels + 5

abbrev pub invariant-read_steps-loop-entry : goal.invariant-read_steps-loop-entry
invariant-read_steps-loop-entry l =
    l.made.items ++ map (λ e. (e.0, step_in (process_in l.levels) l.id l.around e.1)) (map entry_seen (drop l.entry-index l.entry-items))
    ≡ map (λ e. (e.0, step_in (process_in l.levels) l.id l.around e.1)) (map entry_seen l.entry-items)
