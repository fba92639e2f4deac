use Rattle.std.proofs.Common.{◌≡◌, ◌++◌, drop, map}
use Rattle.std.specs.List.{filter_map}
use Rattle.command_line.specs.Order.{bound_input}
use Rattle.command_line.specs.inner.View.{bound_of}
use Rattle.command_line.proofs.order.push_inputs.Given as goal

abbrev pub invariant-loop-entry : goal.invariant-loop-entry
invariant-loop-entry l = map bound_of l.rows.items ++ filter_map (bound_input l.inputs) (drop l.entry-index l.entries) ≡ map bound_of l.initial.rows.items ++ filter_map (bound_input l.inputs) l.entries
