use Rattle.std.proofs.Common.{◌≡◌, [], ◌∷◌, ◌++◌, None, unwrap_or, bytes_eq, true, ap, ◌∙◌}
use Rattle.std.specs.BTreeMap.{get_by}
use Rattle.std.specs.Cmp.Lexicographic.{slice_cmp}
use Rattle.std.specs.Ordering.{nat_cmp}
use Rattle.std.proofs.lemmas.Map.Text.{btree_map_updates_str}
use Rattle.std.proofs.lemmas.Slice.Eq.{bytes_eq-Decides}
use Rattle.input_files.proofs.OneMore.{one_more}
use Rattle.input_files.proofs.grouped.Grouped.add.Goals as goal

pub returns : goal.returns
returns g c = λ other.
    let text = c.args.text.now in
    let before = c.args.self.now.held in
    let taken = btree_map_updates_str text before c.remove.new.self None c.remove.ensures.updates other in
    let put = btree_map_updates_str text c.remove.new.self c.insert.new.self _ c.in_ok-insert.ensures.updates other in
    let more : bytes_eq text other ≡ true → c.push.new.self ≡ unwrap_or (get_by (λ k. slice_cmp nat_cmp other k.now) before) [] ++ c.args.item ∷ [] = λ same.
    c.in_ok-push.ensures.ok
    ∙ ap (λ l. l ++ c.args.item ∷ []) (c.or_none-items.ensures ∙ ap (λ o. unwrap_or o []) c.remove.ensures.value ∙ ap (λ t. unwrap_or (get_by (λ k. slice_cmp nat_cmp t k.now) before) []) ((bytes_eq-Decides text other).0 same)) in
    one_more (λ o. unwrap_or o []) (bytes_eq text other) _ _ _ c.push.new.self c.args.item taken put more
