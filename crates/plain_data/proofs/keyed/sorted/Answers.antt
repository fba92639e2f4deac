use Rattle.std.proofs.Common.{rules}
use Rattle.std.specs.Cmp.Lexicographic.{nat_list_cmp_total}
use Rattle.std.specs.Ordering.{is_lt}
use Rattle.std.proofs.lemmas.List.Sorted.{answers_always, ranks_by}
use Rattle.plain_data.specs.ByName.{name_cmp}
use Rattle.plain_data.proofs.keyed.sorted.Goals as goal

pub returns-clause-climbs : goal.returns-clause-climbs
returns-clause-climbs g c =
    c.sort_unstable_by.ensures.sorted (λ a b. is_lt (name_cmp a.0 b.0)) (ranks_by nat_list_cmp_total (λ e. e.0)) (answers_always _ _ _ (λ f a r q called. search rules))
