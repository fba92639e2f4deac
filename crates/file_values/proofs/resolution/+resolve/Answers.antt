use Rattle.std.proofs.Common.{◌≡◌, [], ◌∷◌, ◌++◌, Ok, map, sym, ap, ◌∙◌, rules}
use Rattle.std.proofs.lemmas.Result.{err_from_is_err_and}
use Rattle.file_values.specs.Location.{and_map}
use Rattle.file_values.specs.Resolved.{all_found, resolved, has_long}
use Rattle.file_values.proofs.Finding.{items_more, items_stop, fields_more_at, fields_stop_at, fields_by_name}
use Rattle.file_values.proofs.Levels.{file_at_place, file_at_name, file_at_items, file_at_beside, dir_at_place, dir_at_name}
use Rattle.cwl_value.specs.declared.value.Value.{the_lemmas}
use Rattle.cwl_value.specs.declared.value.Value as value
use Rattle.file_values.proofs.resolution.+resolve.Goals as goal

pub resolved-returns-in_ok-resolved_items-in-List-clause-ok : goal.resolved-returns-in_ok-resolved_items-in-List-clause-ok
resolved-returns-in_ok-resolved_items-in-List-clause-ok t c =
    let list : resolved c.args.base.now (value.List c.in-List.items) ≡ and_map value.List (all_found (map (resolved c.args.base.now) c.in-List.items)) = search (rules, the_lemmas) in
    ap (resolved c.args.base.now) c.in-List.is ∙ list
    ∙ ap (λ vs. and_map value.List (all_found (map (resolved c.args.base.now) vs))) (sym c.as_items.ensures)
    ∙ ap (and_map value.List) c.in_ok-resolved_items-in-List.ensures.ok ∙ ap Ok (sym c.of_items.ensures)

pub resolved_items-loop-item-preserved : goal.resolved_items-loop-item-preserved
resolved_items-loop-item-preserved t c =
    items_more (resolved c.args.base.now) c.as_slice-item-items.result.now c.loop-item.item-index c.item-item.result c.loop-item.found c.in_ok-resolved.field-0 c.loop-item-test.true c.item-item.is c.loop-item.invariant c.in_ok-resolved.ensures.ok
    ∙ ap Ok (sym c.in_ok-push.ensures.ok)

pub resolved_items-returns-in_err-resolved-clause-err : goal.resolved_items-returns-in_err-resolved-clause-err
resolved_items-returns-in_err-resolved-clause-err t c =
    let p = err_from_is_err_and c.from_residual.result c.from_residual.ensures.1 in
    let stop = items_stop (resolved c.args.base.now) (has_long c.args.base.now) c.as_slice-item-items.result.now c.loop-item.item-index c.item-item.result c.loop-item.found _ c.loop-item-test.true c.item-item.is c.loop-item.invariant c.in_err-resolved.ensures.err in
    rw (p.1, p.2, ← c.as_slice-item-items.ensures) stop

pub resolved_fields-loop-field-preserved : goal.resolved_fields-loop-field-preserved
resolved_fields-loop-field-preserved t c =
    let e = c.field-item.result in
    let found = c.loop-field.found.items in
    fields_more_at (resolved c.args.base.now) c.as_slice-field-items.result.now c.loop-field.field-index e found c.in_ok-resolved.field-0 c.loop-field-test.true c.field-item.is c.loop-field.invariant c.in_ok-resolved.ensures.ok
    ∙ ap (λ name. Ok (found ++ (name, c.in_ok-resolved.field-0) ∷ [])) (sym c.in_ok-name.ensures)
    ∙ ap Ok (sym c.in_ok-push.ensures.items)

pub resolved_fields-returns-in_err-resolved-clause-err : goal.resolved_fields-returns-in_err-resolved-clause-err
resolved_fields-returns-in_err-resolved-clause-err t c =
    let p = err_from_is_err_and c.from_residual-in_err-resolved.result c.from_residual-in_err-resolved.ensures.1 in
    let stop = fields_stop_at (resolved c.args.base.now) (has_long c.args.base.now) c.as_slice-field-items.result.now c.loop-field.field-index c.field-item.result c.loop-field.found.items _ c.loop-field-test.true c.field-item.is c.loop-field.invariant c.in_err-resolved.ensures.err in
    rw (p.1, p.2, ← c.as_slice-field-items.ensures.entries) stop

pub resolved_fields-from_sorted-requires : goal.resolved_fields-from_sorted-requires
resolved_fields-from_sorted-requires t c =
    fields_by_name (resolved c.args.base.now) c.loop-field.field-index c.as_slice-field-items.result.now c.loop-field.found.items c.loop-field.invariant c.as_slice-field-items.ensures.order

pub resolved_file-returns-in_err-place-clause-err : goal.resolved_file-returns-in_err-place-clause-err
resolved_file-returns-in_err-place-clause-err t c =
    let p = err_from_is_err_and c.from_residual.result c.from_residual.ensures.1 in
    rw (p.1, p.2) (file_at_place c.args.base.now c.args.file.now _ c.in_err-place.ensures.err)

pub resolved_file-returns-in_err-name-clause-err : goal.resolved_file-returns-in_err-name-clause-err
resolved_file-returns-in_err-name-clause-err t c =
    let p = err_from_is_err_and c.from_residual-in_err-name.result c.from_residual-in_err-name.ensures.1 in
    rw (p.1, p.2) (file_at_name c.args.base.now c.args.file.now _ _ c.in_ok-place.ensures.ok c.in_err-name.ensures.err)

pub resolved_file-returns-in_err-found-clause-err : goal.resolved_file-returns-in_err-found-clause-err
resolved_file-returns-in_err-found-clause-err t c =
    let p = err_from_is_err_and c.from_residual-in_err-found.result c.from_residual-in_err-found.ensures.1 in
    rw (p.1, p.2) (file_at_items c.args.base.now c.args.file.now _ _ _ c.in_ok-place.ensures.ok c.in_ok-name.ensures.ok c.in_err-found.ensures.err)

pub resolved_file-returns-in_err-file_at-clause-err : goal.resolved_file-returns-in_err-file_at-clause-err
resolved_file-returns-in_err-file_at-clause-err t c =
    let p = err_from_is_err_and c.from_residual-in_err-file_at.result c.from_residual-in_err-file_at.ensures.1 in
    rw (p.1, p.2) (file_at_beside c.args.base.now c.args.file.now _ _ _ _ c.in_ok-place.ensures.ok c.in_ok-name.ensures.ok c.in_ok-found.ensures.ok c.in_err-file_at.ensures.err)

pub resolved_dir-returns-in_err-place-clause-err : goal.resolved_dir-returns-in_err-place-clause-err
resolved_dir-returns-in_err-place-clause-err t c =
    let p = err_from_is_err_and c.from_residual.result c.from_residual.ensures.1 in
    rw (p.1, p.2) (dir_at_place c.args.base.now c.args.dir.now _ c.in_err-place.ensures.err)

pub resolved_dir-returns-in_err-name-clause-err : goal.resolved_dir-returns-in_err-name-clause-err
resolved_dir-returns-in_err-name-clause-err t c =
    let p = err_from_is_err_and c.from_residual-in_err-name.result c.from_residual-in_err-name.ensures.1 in
    rw (p.1, p.2) (dir_at_name c.args.base.now c.args.dir.now _ _ c.in_ok-place.ensures.ok c.in_err-name.ensures.err)
