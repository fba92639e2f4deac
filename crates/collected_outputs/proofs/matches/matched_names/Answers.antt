use Rattle.collected_outputs.proofs.Matching.{if_once}
use Rattle.collected_outputs.proofs.matches.matched_names.Goals as goal

pub returns : goal.returns
returns c = if_once c.args.listing.now c.args.patterns.now c.in_ok-names.names c.as_slice.result.now c.without_repeats.result c.in_ok-names.ensures c.as_slice.ensures c.without_repeats.ensures
