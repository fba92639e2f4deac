use Rattle.std.proofs.Common.{rules, ap, ◌∙◌}
use Rattle.std.proofs.lemmas.Cmp.{nat_list_cmp_total}
use Rattle.std.proofs.lemmas.List.Sorted.{answers_always, ranks_by}
use Rattle.cwl_value.proofs.Stable.{stably_sorted}
use Rattle.param_refs.specs.Listings.{entry_name, is_before, in_order}
use Rattle.param_refs.proofs.listing.in_order.Goals as goal

pub returns : goal.returns
returns c =
    let order = ranks_by nat_list_cmp_total entry_name in
    let answers = answers_always _ _ _ (λ f a r q called. search rules) in
    let sorted = stably_sorted is_before order c.into_vec-found.result.items c.sort_by.new.self.items (c.in_ok-sort_by.ensures.sorted is_before order answers) (c.in_ok-sort_by.ensures.stable is_before order answers) in
    c.from_vec.ensures ∙ sorted ∙ ap in_order (c.into_vec-found.ensures ∙ c.in_ok-copy.ensures)
