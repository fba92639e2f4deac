use Rattle.std.proofs.Common.{◌≡◌}
use Rattle.serde_json.specs.View.{members_view}
use Rattle.cwl_process.specs.FilelessDefaults.{members_have_fileless_defaults}
use Rattle.cwl_process.proofs.fileless_defaults.members_have_fileless_defaults.Given as goal

abbrev pub invariant-loop-member : goal.invariant-loop-member
invariant-loop-member l = members_have_fileless_defaults (members_view l.member-iterator) ≡ members_have_fileless_defaults (members_view l.members.entries)
