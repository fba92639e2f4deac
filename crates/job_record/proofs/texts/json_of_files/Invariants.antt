use Rattle.std.proofs.Common.{◌≡◌, take, map}
use Rattle.serde_json.specs.View.{view}
use Rattle.job_record.specs.Texts.{found_json}
use Rattle.job_record.proofs.texts.json_of_files.Given as goal

abbrev pub invariant-loop-found : goal.invariant-loop-found
invariant-loop-found l = map view l.list.items ≡ map found_json (take l.found-index l.found-items)
