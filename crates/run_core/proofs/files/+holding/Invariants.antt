use Rattle.std.proofs.Common.{◌≡◌, map, drop}
use Rattle.cwl_value.specs.Fileless.{some_true}
use Rattle.run_rules.specs.Delivered.{has_file}
use Rattle.run_core.proofs.files.+holding.Given as goal

abbrev pub invariant-fields_have_file-loop-field : goal.invariant-fields_have_file-loop-field
invariant-fields_have_file-loop-field l =
    some_true (map (λ field. has_file field.1) l.fn.fields) ≡ some_true (map (λ field. has_file field.1) (drop l.field-index l.field-items))

abbrev pub invariant-items_have_file-loop-value : goal.invariant-items_have_file-loop-value
invariant-items_have_file-loop-value l = some_true (map has_file l.fn.values) ≡ some_true (map has_file (drop l.value-index l.value-items))
