use Rattle.std.proofs.Common.{rules}
use Rattle.std.proofs.lemmas.Cmp.{nat_list_cmp_total}
use Rattle.std.proofs.lemmas.List.Sorted.{answers_always, ranks_by}
use Rattle.serde_json.specs.View.{view}
use Rattle.cwl_value.specs.Json.{name_in, is_above}
use Rattle.cwl_value.proofs.Stable.{below, stably_sorted_by}
use Rattle.cwl_value.proofs.write.sorted.Goals as goal

pub returns : goal.returns
returns c =
    let order = ranks_by nat_list_cmp_total (λ entry. name_in (view entry)) in
    let answers = answers_always _ _ _ (λ f a r q called. search rules) in
    stably_sorted_by view is_above order _ _ (c.in_ok-sort_by.ensures.sorted (below view is_above) order answers) (c.in_ok-sort_by.ensures.stable (below view is_above) order answers)
