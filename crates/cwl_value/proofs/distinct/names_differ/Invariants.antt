use Rattle.std.proofs.Common.{◌≡◌, ℕ, ◌≤◌, true, List, length, drop}
use Rattle.std.specs.BTreeSet.{contains_by}
use Rattle.std.specs.Cmp.Lexicographic.{slice_cmp}
use Rattle.std.specs.List.{list_any}
use Rattle.std.specs.Ordering.{nat_cmp}
use Rattle.cwl_value.specs.Secondary.{has_name, are_distinct}
use Rattle.cwl_value.proofs.distinct.names_differ.Given as goal

abbrev pub invariant-loop-at : goal.invariant-loop-at
invariant-loop-at l = record {
  within : l.at ≤ length l.values;
  seen : (name : List ℕ) → contains_by (λ k. slice_cmp nat_cmp name k.now) l.seen ≡ list_any (has_name name) (drop l.at l.values);
  distinct : are_distinct (drop l.at l.values) ≡ true;
}

abbrev pub decreases-loop-at : goal.decreases-loop-at
decreases-loop-at l = l.at
