use Rattle.std.proofs.Common.{rules}
use Rattle.plan_keeper.proofs.Remarked.{loaded_mark}
use Rattle.plan_keeper.proofs.kept.mark_now.Goals as goal

pub returns-else-is_left : goal.returns-else-is_left
returns-else-is_left c = loaded_mark c.args.graph.now c.args.number (search rules)
