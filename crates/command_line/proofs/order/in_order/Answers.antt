-- The rows are sorted by their keys, and so what they stand for is in order.
use Rattle.std.proofs.Common.{rules, ap, sym, ◌∙◌, ◌++◌, map, subst, List, ℕ, bytes_eq, ◌≡◌, ◌+◌, get_or}
use Rattle.std.specs.List.{IsDistinct, enumerate_from, filter_map}
use Rattle.std.specs.List.Sorted.{IsPermutation}
use Rattle.std.specs.Map.{keys_of}
use Rattle.std.specs.Ordering.{int_cmp, is_lt, ordering_then}
use Rattle.std.proofs.lemmas.List.Sorted.{answers_always, IsPermutation-map}
use Rattle.cwl_process.specs.declared.tool.ToolInput.{ToolInput}
use Rattle.command_line.specs.Order.{Bound, bindings_of, bound_argument, bound_input, key_cmp}
use Rattle.command_line.specs.inner.View.{bound_of}
use Rattle.command_line.proofs.Rising.{sorted_map}
use Rattle.command_line.proofs.Origins.{origins_agree}
use Rattle.command_line.proofs.Bindings.{in_order_from_sort}
use Rattle.command_line.proofs.order.in_order.Goals as goal

pub returns : goal.returns
returns c =
    let inputs = c.args.inputs.now in
    let listed : map bound_of c.push_inputs.new.rows.items ≡ bindings_of c.args.tool.now inputs =
    c.in_ok-push_inputs.ensures
    ∙ ap (λ bs. bs ++ filter_map (bound_input inputs) c.as_slice-2.result.now)
    (c.in_ok-push_arguments.ensures
    ∙ ap (λ rows. map bound_of rows ++ map bound_argument (enumerate_from 0 c.as_slice.result.now)) c.new-rows.ensures.items
    ∙ ap (λ arguments. map bound_argument (enumerate_from 0 arguments)) c.as_slice.ensures)
    ∙ ap (λ entries. map bound_argument (enumerate_from 0 c.args.tool.now.arguments) ++ filter_map (bound_input inputs) entries) c.as_slice-2.ensures.entries in
    in_order_from_sort inputs c.args.tool.now
    (subst (λ (entries : List (List ℕ × ToolInput)). IsDistinct bytes_eq (keys_of entries)) c.as_slice-2.ensures.entries c.as_slice-2.ensures.ids)
    (map bound_of c.sort_by_key.new.self.items)
    (subst (λ (bound : List Bound). IsPermutation bound (map bound_of c.sort_by_key.new.self.items)) listed
    (IsPermutation-map bound_of _ _ c.in_ok-sort_by_key.ensures.permutation))
    (sorted_map bound_of (λ a b. is_lt (key_cmp a b)) c.sort_by_key.new.self.items
    (λ k d low within. sym (ap (λ o. is_lt (ordering_then (int_cmp (get_or c.sort_by_key.new.self.items (k + 1) d).key.position (get_or c.sort_by_key.new.self.items k d).key.position) o)) (origins_agree (get_or c.sort_by_key.new.self.items (k + 1) d).key.origin (get_or c.sort_by_key.new.self.items k d).key.origin)) ∙ c.in_ok-sort_by_key.ensures.sorted (λ row. row.key) (answers_always _ _ _ (λ f a r g h. search rules)) k d low within))
