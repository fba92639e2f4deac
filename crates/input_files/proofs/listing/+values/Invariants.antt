use Rattle.std.proofs.Common.{◌≡◌, ◌+◌, ◌-◌, map, take}
use Rattle.input_files.specs.Listing.{found_value, values_in}
use Rattle.input_files.proofs.listing.+values.Given as goal

abbrev pub invariant-values_in-loop-found : goal.invariant-values_in-loop-found
invariant-values_in-loop-found l =
    l.values ≡ map (λ f. found_value l.root (values_in l.root l.listing (l.depth - 1)) f.now) (take l.found-index l.found-items)

abbrev pub decreases-values_in : goal.decreases-values_in
decreases-values_in l = l.depth + l.depth

abbrev pub decreases-found_value : goal.decreases-found_value
decreases-found_value l = l.depth + l.depth + 1
