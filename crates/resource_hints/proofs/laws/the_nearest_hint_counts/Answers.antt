use Rattle.resource_hints.proofs.Walked.{around_counts, own_hint_counts, process_hides, step_hides}
use Rattle.resource_hints.proofs.laws.the_nearest_hint_counts.Goals as goal

pub returns : goal.returns
returns c = record {
  own = own_hint_counts;
  around = around_counts;
  processes = process_hides;
  steps = step_hides;
}
