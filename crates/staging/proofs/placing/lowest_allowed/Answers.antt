use Rattle.staging.proofs.Naming.{taken_by_names, kept_out}
use Rattle.std.proofs.Common.{sym, ◌∙◌}
use Rattle.staging.proofs.placing.lowest_allowed.Goals as goal

pub returns-then-floor-gt0-clause-early : goal.returns-then-floor-gt0-clause-early
returns-then-floor-gt0-clause-early c = λ placed is j less. taken_by_names c.args.holds_others c.args.names.now placed c.args.group.now j is (c.floor_of-floor.ensures is.floored j less)

pub returns-then-is_kept_out-clause-early : goal.returns-then-is_kept_out-clause-early
returns-then-is_kept_out-clause-early c = λ placed is j less. kept_out c.args.holds_others placed c.args.group.now j (sym c.is_kept_out.ensures ∙ c.if-is_kept_out.true) less
