use Rattle.std.proofs.Common.{◌≡◌, ◌∷◌, take}
use Rattle.std.specs.List.{flat_map}
use Rattle.cwl_value.specs.declared.value.FileVal.{out-FileVal}
use Rattle.staging.specs.Groups.{path_of, name_of, copied}
use Rattle.staging.proofs.groups.file_group.Given as goal

abbrev pub invariant-loop-value : goal.invariant-loop-value
invariant-loop-value l =
    l.group ≡ record { source = path_of (out-FileVal l.file).place; name = name_of (out-FileVal l.file).basename } ∷ flat_map (λ v. (copied v).own) (take l.value-index l.value-items)
