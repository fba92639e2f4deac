use Rattle.serde_json.specs.View.{view}
use Rattle.cwl_process.proofs.Forms.{made_differ, seen_differ}
use Rattle.cwl_process.proofs.from_entry.read_entries.Goals as goal

pub from_distinct-requires : goal.from_distinct-requires
from_distinct-requires g c =
    made_differ (g.T.FromEntry.meaning c.args.id.now) _ c.loop-entry.made.items _ c.loop-entry.invariant
    (seen_differ c.args.kind (view c.args.value.now) c.in_ok-found.found.items c.as_slice-entry-items.result.now c.as_slice-entry-items.ensures.value c.in_ok-found.ensures.value (c.in_ok-found.ensures.ids c.requires))
