use Rattle.std.proofs.Common.{◌≡◌, true, map, take}
use Rattle.plain_data.specs.ByName.{map_values}
use Rattle.collected_outputs.specs.Checked.{every}
use Rattle.job_reuse.specs.inner.Stands.{all_stand_by}
use Rattle.job_reuse.proofs.stands.+stands.Given as goal

abbrev pub invariant-items_stand-loop-item : goal.invariant-items_stand-loop-item
invariant-items_stand-loop-item l = every (map (all_stand_by l.index) (take l.item-index l.item-items)) ≡ true

abbrev pub invariant-fields_stand-loop-field : goal.invariant-fields_stand-loop-field
invariant-fields_stand-loop-field l = every (map (λ e. e.1) (map_values (all_stand_by l.index) (take l.field-index l.field-items))) ≡ true
