use Rattle.std.proofs.Common.{◌≡◌, ◌++◌, drop, map}
use Rattle.std.specs.List.{enumerate_from}
use Rattle.command_line.specs.Order.{bound_argument}
use Rattle.command_line.specs.inner.View.{bound_of}
use Rattle.command_line.proofs.order.push_arguments.Given as goal

abbrev pub invariant-loop-index : goal.invariant-loop-index
invariant-loop-index l = map bound_of l.rows.items ++ map bound_argument (enumerate_from l.index (drop l.index l.arguments)) ≡ map bound_of l.initial.rows.items ++ map bound_argument (enumerate_from 0 l.arguments)
