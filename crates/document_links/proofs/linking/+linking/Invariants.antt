use Rattle.std.proofs.Common.{◌≡◌, ◌+◌, ◌*◌, ◌++◌, drop, map}
use Rattle.document_table.specs.Entries.{entry_seen}
use Rattle.document_links.specs.Homes.{home_seen}
use Rattle.document_links.specs.Library.{finds_in}
use Rattle.document_links.specs.Linked.{linked, step_in}
use Rattle.document_links.proofs.linking.+linking.Given as goal

-- Each workflow inside another takes a level; on one level the functions call one another in this order.

abbrev pub decreases-linked : goal.decreases-linked
decreases-linked l = 9 * l.levels

abbrev pub decreases-item_in : goal.decreases-item_in
decreases-item_in l = 9 * l.levels + 1

abbrev pub decreases-document_in : goal.decreases-document_in
decreases-document_in l = 9 * l.levels + 1

abbrev pub decreases-run_in : goal.decreases-run_in
decreases-run_in l = 9 * l.levels + 2

abbrev pub decreases-run_at : goal.decreases-run_at
decreases-run_at l = 9 * l.levels + 3

abbrev pub decreases-linked_step : goal.decreases-linked_step
decreases-linked_step l = 9 * l.levels + 4

abbrev pub decreases-linked_steps : goal.decreases-linked_steps
decreases-linked_steps l = 9 * l.levels + 5

abbrev pub decreases-steps_at : goal.decreases-steps_at
decreases-steps_at l = 9 * l.levels + 6

abbrev pub decreases-linked_workflow : goal.decreases-linked_workflow
decreases-linked_workflow l = 9 * l.levels + 7

abbrev pub invariant-linked_steps-loop-entry : goal.invariant-linked_steps-loop-entry
invariant-linked_steps-loop-entry l =
    l.made.items ++ map (λ e. (e.0, step_in (linked (finds_in l.library) l.levels) (finds_in l.library) (home_seen l.home) l.id l.around e.1)) (map entry_seen (drop l.entry-index l.entry-items))
    ≡ map (λ e. (e.0, step_in (linked (finds_in l.library) l.levels) (finds_in l.library) (home_seen l.home) l.id l.around e.1)) (map entry_seen l.entry-items)
