use Rattle.std.proofs.Common.{◌≡◌, ◌+◌, ◌-◌, map, take}
use Rattle.std.specs.Prelude.{filter}
use Rattle.collected_outputs.specs.Values.{stands_in, entry_value, values_in}
use Rattle.collected_outputs.proofs.values.+values.Given as goal

abbrev pub invariant-values_in-loop-entry : goal.invariant-values_in-loop-entry
invariant-values_in-loop-entry l = l.values ≡ map (λ e. entry_value (values_in l.listing (l.depth - 1)) e.0 e.1) (filter (λ e. stands_in l.folder e.0) (take l.entry-index l.entry-items))

abbrev pub decreases-values_in : goal.decreases-values_in
decreases-values_in l = l.depth + l.depth

abbrev pub decreases-entry_value : goal.decreases-entry_value
decreases-entry_value l = l.depth + l.depth + 1
