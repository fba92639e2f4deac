use Rattle.std.proofs.Common.{◌≡◌, List, ◌++◌, take, Ok}
use Rattle.serde_json.specs.View.{items_view}
use Rattle.cwl_value.specs.Reading.{all_read, items_read}
use Rattle.cwl_value.proofs.JsonReads.{Entry, fields_of}
use Rattle.cwl_value.proofs.read.+read.Given as goal

abbrev pub invariant-read_items-loop-item : goal.invariant-read_items-loop-item
invariant-read_items-loop-item l = all_read (items_read (items_view (take l.item-index l.item-items))) ≡ Ok l.found

abbrev pub invariant-read_fields-loop-key : goal.invariant-read_fields-loop-key
invariant-read_fields-loop-key l =
    (done : List Entry) × (l.members.entries ≡ done ++ l.key-iterator) × (fields_of done ≡ Ok l.found.items)
