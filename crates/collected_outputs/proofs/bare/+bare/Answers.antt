use Rattle.std.proofs.Common.{map, sym, ap, ◌∙◌}
use Rattle.plain_data.proofs.ByName.{by_name_built}
use Rattle.collected_outputs.specs.Checked.{bare}
use Rattle.collected_outputs.proofs.Throughout.{bare_list}
use Rattle.cwl_value.specs.declared.value.Value as value
use Rattle.collected_outputs.proofs.bare.+bare.Goals as goal

pub bare-returns-in_ok-bare_items-in-List : goal.bare-returns-in_ok-bare_items-in-List
bare-returns-in_ok-bare_items-in-List t c =
    c.of_items.ensures ∙ ap value.List (c.in_ok-bare_items-in-List.ensures ∙ ap (map bare) c.as_items.ensures) ∙ sym (bare_list c.in-List.items) ∙ ap bare (sym c.in-List.is)

pub bare_fields-from_sorted-requires : goal.bare_fields-from_sorted-requires
bare_fields-from_sorted-requires t c = by_name_built bare _ _ _ c.loop-field.invariant c.as_slice-field-items.ensures.order
