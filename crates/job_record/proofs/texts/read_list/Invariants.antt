use Rattle.std.proofs.Common.{◌≡◌, take, Some}
use Rattle.serde_json.specs.View.{items_view}
use Rattle.job_record.specs.Texts.{list_in}
use Rattle.job_record.proofs.texts.read_list.Given as goal

abbrev pub invariant-loop-entry : goal.invariant-loop-entry
invariant-loop-entry l = list_in (items_view (take l.entry-index l.list)) ≡ Some l.files.items
