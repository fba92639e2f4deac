use Rattle.std.proofs.Common.{◌≡◌, ◌+◌, ◌*◌, ◌++◌, drop, map}
use Rattle.document_table.specs.Entries.{entry_seen}
use Rattle.document_links.specs.Homes.{home_seen}
use Rattle.document_links.specs.Names.{steps_urls, urls_in}
use Rattle.document_links.proofs.names.+names.Given as goal

-- Each workflow inside another takes a level; on one level the functions call one another in this order.

abbrev pub decreases-push_urls : goal.decreases-push_urls
decreases-push_urls l = 5 * l.levels

abbrev pub decreases-push_named_urls : goal.decreases-push_named_urls
decreases-push_named_urls l = 5 * l.levels + 1

abbrev pub decreases-push_step_urls : goal.decreases-push_step_urls
decreases-push_step_urls l = 5 * l.levels + 2

abbrev pub decreases-push_steps_urls : goal.decreases-push_steps_urls
decreases-push_steps_urls l = 5 * l.levels + 3

abbrev pub decreases-push_workflow_urls : goal.decreases-push_workflow_urls
decreases-push_workflow_urls l = 5 * l.levels + 4

abbrev pub invariant-push_steps_urls-loop-entry : goal.invariant-push_steps_urls-loop-entry
invariant-push_steps_urls-loop-entry l =
    l.urls.items ++ steps_urls (urls_in l.levels (home_seen l.home)) (home_seen l.home) (map entry_seen (drop l.entry-index l.all))
    ≡ l.initial.urls.items ++ steps_urls (urls_in l.levels (home_seen l.home)) (home_seen l.home) (map entry_seen l.all)
