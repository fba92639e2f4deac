use Rattle.std.proofs.Common.{sym}
use Rattle.workflow_check.proofs.Circle.{cyclic}
use Rattle.workflow_check.proofs.Ranked.{not_cyclic_by}
use Rattle.workflow_check.specs.inner.Ranks.{rank_of}
use Rattle.workflow_check.proofs.order.shown.Goals as goal

pub returns-then-is_circle : goal.returns-then-is_circle
returns-then-is_circle c = sym (cyclic c.args.steps.now c.if-is_circle.ensures)

pub returns-else-some_late : goal.returns-else-some_late
returns-else-some_late c = sym (not_cyclic_by (rank_of c.args.found.now.ranks) c.args.steps.now (sym c.if-some_late.ensures))
