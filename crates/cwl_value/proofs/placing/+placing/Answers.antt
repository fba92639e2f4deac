use Rattle.std.proofs.Common.{◌≡◌, IfOk, map, sym, ap, subst, ◌∙◌, rules}
use Rattle.plain_data.proofs.ByName.{by_name_built}
use Rattle.cwl_value.specs.Placed.{value_moved}
use Rattle.cwl_value.proofs.Unmoved.{fileless_placed}
use Rattle.cwl_value.specs.declared.value.Value.{Value, the_lemmas}
use Rattle.cwl_value.specs.declared.value.Value as value
use Rattle.cwl_value.proofs.placing.+placing.Goals as goal

pub placed-returns-in-List : goal.placed-returns-in-List
placed-returns-in-List g t c =
    subst (λ (v : Value). IfOk c.clone_in.result (λ found. found ≡ v)) (sym (fileless_placed (g.P.Placing.goes c.args.placing.now) c.args.value.now (sym c.if-not-holds_files.ensures))) c.clone_in.ensures

pub placed-returns-in_ok-placed_items-in-List-2 : goal.placed-returns-in_ok-placed_items-in-List-2
placed-returns-in_ok-placed_items-in-List-2 g t c =
    let moved = value_moved (g.P.Placing.goes c.args.placing.now) in
    let list : moved (value.List c.in-List-2.items) ≡ value.List (map moved c.in-List-2.items) = search (rules, the_lemmas) in
    c.of_items.ensures ∙ ap value.List (c.in_ok-placed_items-in-List-2.ensures ∙ ap (map moved) c.as_items.ensures) ∙ sym list ∙ ap moved (sym c.in-List-2.is)

pub placed_fields-from_sorted-requires : goal.placed_fields-from_sorted-requires
placed_fields-from_sorted-requires g t c = by_name_built (value_moved (g.P.Placing.goes c.args.placing.now)) _ _ _ c.loop-field.invariant c.as_slice-field-items.ensures.order
