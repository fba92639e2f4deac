use Rattle.collected_outputs.proofs.Wanting.{wanted_once}
use Rattle.collected_outputs.proofs.heads.wanted_by_outputs.Goals as goal

pub returns-clause-ok : goal.returns-clause-ok
returns-clause-ok c =
    let ok = c.all_wanted-wanted.ensures.ok in
    let err = c.all_wanted-wanted.ensures.err in
    wanted_once c.args.listing.now c.args.inputs.now c.args.tool.now.outputs c.in_ok-runtime.runtime c.all_wanted-wanted.result c.each_once.result c.in_ok-runtime.ensures c.requires (rw (← c.as_slice.ensures.entries) ok) (rw (← c.as_slice.ensures.entries) err) c.each_once.ensures.ok
