use Rattle.std.proofs.Common.{[], arith}
use Rattle.std.proofs.lemmas.Cmp.{nat_list_cmp_total}
use Rattle.std.proofs.lemmas.List.Sorted.{ranks_by}
use Rattle.cwl_value.specs.Json.{name_in, is_above}
use Rattle.cwl_value.proofs.Sorting.{all_in-permutation, all_in-sorted, all_in-stable}
use Rattle.cwl_value.proofs.laws.listings_are_in_order.Goals as goal

pub returns : goal.returns
returns c = λ entries. record {
  same = all_in-permutation is_above [] entries;
  climbs = all_in-sorted is_above (ranks_by nat_list_cmp_total name_in) [] entries (λ k d low high. absurd (omega arith));
  stands = all_in-stable is_above (ranks_by nat_list_cmp_total name_in) [] entries;
}
