use Rattle.std.proofs.Common.{◌≡◌, List, [], ◌∷◌, ◌++◌, Ok, map, take, sym, ap, ◌∙◌, rules}
use Rattle.std.proofs.lemmas.List.{take_all}
use Rattle.std.proofs.lemmas.Result.{err_from_is_err_and}
use Rattle.plain_data.proofs.ByName.{by_name_along, by_name_taken}
use Rattle.cwl_value.specs.declared.value.Value.{Value, the_lemmas}
use Rattle.collected_outputs.specs.Gives.{and_map, all_given}
use Rattle.collected_outputs.specs.Matched.{Name}
use Rattle.collected_outputs.specs.Object.{placed}
use Rattle.collected_outputs.proofs.Every.{same_names}
use Rattle.collected_outputs.proofs.Giving.{slice_more, slice_stop, refused_map}
use Rattle.collected_outputs.proofs.Placing.{field_placed, all_fields}
use Rattle.cwl_value.specs.declared.value.Value as value
use Rattle.collected_outputs.proofs.placed.+placed.Goals as goal

pub placed-returns-in_ok-placed_items-in-List-clause-ok : goal.placed-returns-in_ok-placed_items-in-List-clause-ok
placed-returns-in_ok-placed_items-in-List-clause-ok t c =
    let list : placed c.args.listing.now (value.List c.in-List.items) ≡ and_map value.List (all_given (map (placed c.args.listing.now) c.in-List.items)) = search (rules, the_lemmas) in
    ap (placed c.args.listing.now) c.in-List.is ∙ list
    ∙ ap (λ vs. and_map value.List (all_given (map (placed c.args.listing.now) vs))) (sym c.as_items.ensures)
    ∙ ap (and_map value.List) c.in_ok-placed_items-in-List.ensures.ok ∙ ap Ok (sym c.of_items.ensures)

pub placed_items-returns-in_err-placed-clause-err : goal.placed_items-returns-in_err-placed-clause-err
placed_items-returns-in_err-placed-clause-err t c =
    let p = err_from_is_err_and c.from_residual.result c.from_residual.ensures.1 in
    let stop = slice_stop (placed c.args.listing.now) c.as_slice-item-items.result.now c.loop-item.item-index c.item-item.result c.loop-item.found c.in_err-placed.field-0.0 c.loop-item-test.true c.item-item.is c.loop-item.invariant c.in_err-placed.ensures.err in
    rw (p.1, p.2, ← c.as_slice-item-items.ensures) stop

pub placed_fields-loop-field-preserved : goal.placed_fields-loop-field-preserved
placed_fields-loop-field-preserved t c = record {
  names = same_names c.as_slice-field-items.result.now c.loop-field.field-index c.field-item.result c.loop-field.found.items c.push.new.self.items c.in_ok-name.name c.in_ok-placed.field-0 c.loop-field-test.true c.field-item.is c.in_ok-name.ensures c.in_ok-push.ensures.items c.loop-field.invariant.names;
  so_far = slice_more (field_placed c.args.listing.now) c.as_slice-field-items.result.now c.loop-field.field-index c.field-item.result c.loop-field.found.items c.push.new.self.items (c.field-item.result.0, c.in_ok-placed.field-0) c.loop-field-test.true c.field-item.is c.loop-field.invariant.so_far
      (ap (and_map (λ v. (c.field-item.result.0, v))) c.in_ok-placed.ensures.ok) (c.in_ok-push.ensures.items ∙ ap (λ n. c.loop-field.found.items ++ (n, c.in_ok-placed.field-0) ∷ []) c.in_ok-name.ensures);
}

pub placed_fields-returns-in_err-placed-clause-err : goal.placed_fields-returns-in_err-placed-clause-err
placed_fields-returns-in_err-placed-clause-err t c =
    let p = err_from_is_err_and c.from_residual-in_err-placed.result c.from_residual-in_err-placed.ensures.1 in
    let stop = slice_stop (field_placed c.args.listing.now) c.as_slice-field-items.result.now c.loop-field.field-index c.field-item.result c.loop-field.found.items c.in_err-placed.field-0.0 c.loop-field-test.true c.field-item.is c.loop-field.invariant.so_far
    (refused_map (λ v. (c.field-item.result.0, v)) (placed c.args.listing.now c.field-item.result.1) c.in_err-placed.field-0.0 c.in_err-placed.ensures.err) in
    rw (p.1, p.2, all_fields c.args.listing.now c.args.fields.now, ← c.as_slice-field-items.ensures.entries) stop

pub placed_fields-from_sorted-requires : goal.placed_fields-from_sorted-requires
placed_fields-from_sorted-requires t c = by_name_along (take c.loop-field.field-index c.as_slice-field-items.result.now) c.loop-field.found.items c.loop-field.invariant.names (by_name_taken c.loop-field.field-index c.as_slice-field-items.result.now c.as_slice-field-items.ensures.order)

pub placed_items-loop-item-preserved : goal.placed_items-loop-item-preserved
placed_items-loop-item-preserved t c =
    slice_more (placed c.args.listing.now) c.as_slice-item-items.result.now c.loop-item.item-index c.item-item.result c.loop-item.found c.push.new.self c.in_ok-placed.field-0 c.loop-item-test.true c.item-item.is c.loop-item.invariant c.in_ok-placed.ensures.ok c.in_ok-push.ensures.ok

pub placed_fields-returns-clause-ok : goal.placed_fields-returns-clause-ok
placed_fields-returns-clause-ok t c =
    let es = c.as_slice-field-items.result.now in
    all_fields c.args.listing.now c.args.fields.now
    ∙ ap (λ (l : List (Name × Value)). all_given (map (field_placed c.args.listing.now) l)) (sym c.as_slice-field-items.ensures.entries ∙ sym (take_all c.loop-field.field-index es c.loop-field-test.false))
    ∙ c.loop-field.invariant.so_far
    ∙ ap Ok (sym c.from_sorted.ensures)
