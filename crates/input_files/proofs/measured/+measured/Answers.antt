use Rattle.std.proofs.Common.{◌≡◌, map, sym, ap, ◌∙◌, rules}
use Rattle.plain_data.proofs.ByName.{by_name_built}
use Rattle.input_files.specs.Measured.{as_measured}
use Rattle.cwl_value.specs.declared.value.Value.{the_lemmas}
use Rattle.cwl_value.specs.declared.value.Value as value
use Rattle.input_files.proofs.measured.+measured.Goals as goal

pub as_measured-returns-in_ok-measured_items-in-List : goal.as_measured-returns-in_ok-measured_items-in-List
as_measured-returns-in_ok-measured_items-in-List t c =
    let list : as_measured c.args.measures.now (value.List c.in-List.items) ≡ value.List (map (as_measured c.args.measures.now) c.in-List.items) = search (rules, the_lemmas) in
    c.of_items.ensures ∙ ap value.List (c.in_ok-measured_items-in-List.ensures ∙ ap (map (as_measured c.args.measures.now)) c.as_items.ensures)
    ∙ sym list ∙ ap (as_measured c.args.measures.now) (sym c.in-List.is)

pub measured_fields-from_sorted-requires : goal.measured_fields-from_sorted-requires
measured_fields-from_sorted-requires t c = by_name_built (as_measured c.args.measures.now) _ _ _ c.loop-field.invariant c.as_slice-field-items.ensures.order
