use Rattle.std.proofs.Common.{◌≡◌, drop}
use Rattle.std.specs.List.{list_any}
use Rattle.command_line.specs.Added.{binds_items}
use Rattle.command_line.proofs.order.+binding.Given as goal

abbrev pub invariant-any_binds_items-loop-member : goal.invariant-any_binds_items-loop-member
invariant-any_binds_items-loop-member l = list_any binds_items (drop l.member-index l.fn.members) ≡ list_any binds_items l.fn.members
