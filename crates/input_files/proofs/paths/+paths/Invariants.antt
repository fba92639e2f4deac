use Rattle.std.proofs.Common.{◌≡◌, ◌++◌, take}
use Rattle.input_files.specs.Paths.{paths_of_items, paths_of_fields}
use Rattle.input_files.proofs.paths.+paths.Given as goal

abbrev pub invariant-push_fields-loop-field : goal.invariant-push_fields-loop-field
invariant-push_fields-loop-field l = l.paths ≡ l.initial.paths ++ paths_of_fields (take l.field-index l.field-items)

abbrev pub invariant-push_items-loop-item : goal.invariant-push_items-loop-item
invariant-push_items-loop-item l = l.paths ≡ l.initial.paths ++ paths_of_items (take l.item-index l.item-items)
