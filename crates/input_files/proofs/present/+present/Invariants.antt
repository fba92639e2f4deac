use Rattle.std.proofs.Common.{◌≡◌, map, drop}
use Rattle.plain_data.specs.ByName.{map_values}
use Rattle.input_files.specs.Present.{all_true, is_present}
use Rattle.input_files.proofs.present.+present.Given as goal

abbrev pub invariant-are_fields_present-loop-field : goal.invariant-are_fields_present-loop-field
invariant-are_fields_present-loop-field l =
    all_true (map (λ e. e.1) (map_values is_present l.field-items)) ≡ all_true (map (λ e. e.1) (map_values is_present (drop l.field-index l.field-items)))

abbrev pub invariant-are_present-loop-item : goal.invariant-are_present-loop-item
invariant-are_present-loop-item l = all_true (map is_present l.item-items) ≡ all_true (map is_present (drop l.item-index l.item-items))
