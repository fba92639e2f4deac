use Rattle.std.proofs.Common.{◌≡◌, drop}
use Rattle.serde_json.specs.View.{items_view}
use Rattle.cwl_process.specs.FilelessDefaults.{items_have_fileless_defaults}
use Rattle.cwl_process.proofs.fileless_defaults.items_have_fileless_defaults.Given as goal

abbrev pub invariant-loop-item : goal.invariant-loop-item
invariant-loop-item l = items_have_fileless_defaults (items_view (drop l.item-index l.item-items)) ≡ items_have_fileless_defaults (items_view l.item-items)
