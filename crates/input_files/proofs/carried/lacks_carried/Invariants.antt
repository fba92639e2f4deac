use Rattle.std.proofs.Common.{◌≡◌, drop}
use Rattle.std.specs.List.{list_any}
use Rattle.input_files.specs.Given.{files_among}
use Rattle.input_files.specs.Carried.{is_uncarried}
use Rattle.input_files.proofs.carried.lacks_carried.Given as goal

abbrev pub invariant-loop-item : goal.invariant-loop-item
invariant-loop-item l =
    list_any (λ f. list_any (is_uncarried f) l.declared) (files_among l.item-items) ≡ list_any (λ f. list_any (is_uncarried f) l.declared) (files_among (drop l.item-index l.item-items))
