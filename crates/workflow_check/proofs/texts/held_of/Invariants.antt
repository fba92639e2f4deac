use Rattle.std.proofs.Common.{drop}
use Rattle.workflow_check.proofs.Indexed.{Holds}
use Rattle.workflow_check.proofs.texts.held_of.Given as goal

abbrev pub invariant-loop-text : goal.invariant-loop-text
invariant-loop-text l = Holds l.held (drop l.text-index l.texts) l.fn.texts
