-- For private clauses: what is lent, as the definitions speak of it.
use Rattle.std.specs.Borrow.{Bor}
use Rattle.std.specs.Prelude.{ℕ, List}
use Rattle.cwl_types.specs.declared.types.MemberType.{MemberType}
use Rattle.document_links.specs.declared.process.Step.{Step}
use Rattle.type_check.specs.Levels.{members_at}
use Rattle.workflow_check.specs.Links.{Around}
use Rattle.workflow_check.specs.Scope.{Asked, Gift}
use Rattle.workflow_check.specs.Types.{sink_type}
use Rattle.workflow_check.specs.declared.overlapping.Sink.{Sink}
use Rattle.workflow_check.specs.declared.scope.Given.{Given}
use Rattle.workflow_check.specs.declared.scope.Scope.{Scope}
use Rattle.workflow_check.specs.declared.scope.Taken.{Taken}

abbrev pub asked : Taken → Asked
asked t = record { kind = t.kind.now; has_default = t.has_default }

abbrev pub gift_seen : Given → Gift
gift_seen g = record { members = g.members.now; or_null = g.or_null; arrays = g.arrays }

abbrev pub around : Scope → Around
around s = record { inputs = s.inputs.now; steps = s.steps.now }

abbrev pub lent : Bor (List ℕ × Step) → List ℕ × Step
lent e = e.now

abbrev pub sink_seen : Sink → List MemberType
sink_seen s = sink_type s.scattered (members_at s.kind)
