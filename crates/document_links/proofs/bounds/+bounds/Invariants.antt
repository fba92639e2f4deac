use Rattle.std.proofs.Common.{◌≡◌, ◌+◌, ◌*◌, drop, map}
use Rattle.document_table.specs.Entries.{entry_seen}
use Rattle.document_links.specs.Bounds.{left, steps_left}
use Rattle.document_links.specs.Homes.{home_seen}
use Rattle.document_links.specs.Targets.{leads_in}
use Rattle.document_links.proofs.bounds.+bounds.Given as goal

-- Each workflow inside another takes a level; on one level the functions call one another in this order.

abbrev pub decreases-left : goal.decreases-left
decreases-left l = 7 * l.levels

abbrev pub decreases-item_left : goal.decreases-item_left
decreases-item_left l = 7 * l.levels + 1

abbrev pub decreases-document_left : goal.decreases-document_left
decreases-document_left l = 7 * l.levels + 1

abbrev pub decreases-run_left : goal.decreases-run_left
decreases-run_left l = 7 * l.levels + 2

abbrev pub decreases-step_left : goal.decreases-step_left
decreases-step_left l = 7 * l.levels + 3

abbrev pub decreases-steps_left : goal.decreases-steps_left
decreases-steps_left l = 7 * l.levels + 4

abbrev pub decreases-workflow_left : goal.decreases-workflow_left
decreases-workflow_left l = 7 * l.levels + 5

abbrev pub invariant-steps_left-loop-entry : goal.invariant-steps_left-loop-entry
invariant-steps_left-loop-entry l =
    steps_left (left (leads_in l.library) l.levels) (leads_in l.library) l.still (home_seen l.home) (map entry_seen (drop l.entry-index l.all))
    ≡ steps_left (left (leads_in l.library) l.levels) (leads_in l.library) l.room (home_seen l.home) (map entry_seen l.all)
