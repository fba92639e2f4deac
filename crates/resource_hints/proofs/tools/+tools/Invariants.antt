use Rattle.std.proofs.Common.{◌≡◌, ◌+◌, ◌*◌, drop, map}
use Rattle.std.specs.List.{flat_map}
use Rattle.document_table.specs.Entries.{entry_seen}
use Rattle.document_links.specs.Homes.{home_seen}
use Rattle.document_links.specs.Library.{finds_in}
use Rattle.resource_hints.specs.Hints.{asked_below, step_asked, with_each}
use Rattle.resource_hints.proofs.tools.+tools.Given as goal

-- Each workflow inside another takes a level; on one level the functions call one another in this order.

abbrev pub decreases-add_process : goal.decreases-add_process
decreases-add_process l = 4 * l.levels

abbrev pub decreases-add_run : goal.decreases-add_run
decreases-add_run l = 4 * l.levels + 1

abbrev pub decreases-add_step : goal.decreases-add_step
decreases-add_step l = 4 * l.levels + 2

abbrev pub decreases-add_steps : goal.decreases-add_steps
decreases-add_steps l = 4 * l.levels + 3

abbrev pub invariant-add_steps-loop-entry : goal.invariant-add_steps-loop-entry
invariant-add_steps-loop-entry l =
    with_each (flat_map (step_asked (asked_below (finds_in l.library) l.levels) (finds_in l.library) (home_seen l.home) l.around l.place) (map entry_seen (drop l.entry-index l.entry-items))) l.asked
    ≡ with_each (flat_map (step_asked (asked_below (finds_in l.library) l.levels) (finds_in l.library) (home_seen l.home) l.around l.place) (map entry_seen l.entry-items)) l.initial.asked
