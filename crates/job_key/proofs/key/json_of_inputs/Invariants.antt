use Rattle.std.proofs.Common.{◌≡◌, take}
use Rattle.serde_json.specs.View.{members_view}
use Rattle.job_key.specs.Key.{inputs_members}
use Rattle.job_key.proofs.key.json_of_inputs.Given as goal

abbrev pub invariant-loop-input : goal.invariant-loop-input
invariant-loop-input l = members_view l.members.entries ≡ inputs_members (take l.input-index l.inputs) l.given
