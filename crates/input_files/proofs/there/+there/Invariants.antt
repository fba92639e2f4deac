use Rattle.std.proofs.Common.{◌≡◌, map, drop}
use Rattle.plain_data.specs.ByName.{map_values}
use Rattle.input_files.specs.Measured.{is_there}
use Rattle.input_files.specs.Present.{all_true}
use Rattle.input_files.proofs.there.+there.Given as goal

abbrev pub invariant-are_fields_there-loop-field : goal.invariant-are_fields_there-loop-field
invariant-are_fields_there-loop-field l =
    all_true (map (λ e. e.1) (map_values (is_there l.measures) l.field-items)) ≡ all_true (map (λ e. e.1) (map_values (is_there l.measures) (drop l.field-index l.field-items)))

abbrev pub invariant-are_there-loop-item : goal.invariant-are_there-loop-item
invariant-are_there-loop-item l = all_true (map (is_there l.measures) l.item-items) ≡ all_true (map (is_there l.measures) (drop l.item-index l.item-items))
