use Rattle.std.proofs.Common.{ap, sym, ◌∙◌}
use Rattle.std.specs.List.{list_any}
use Rattle.command_line.specs.Added.{binds_items}
use Rattle.command_line.proofs.ItemBindings.{none_of_its_own}
use Rattle.command_line.proofs.order.+binding.Goals as goal

pub array_binds-returns-else-is_some : goal.array_binds-returns-else-is_some
array_binds-returns-else-is_some t c =
    c.any_binds_items.ensures ∙ ap (list_any binds_items) c.as_slice.ensures
    ∙ sym (none_of_its_own c.args.array.now (sym c.is_some.ensures ∙ c.if-is_some.false))
