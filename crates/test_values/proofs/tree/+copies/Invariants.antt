use Rattle.std.proofs.Common.{◌≡◌, take}
use Rattle.test_values.proofs.tree.+copies.Given as goal

abbrev pub invariant-items_copied-loop-item : goal.invariant-items_copied-loop-item
invariant-items_copied-loop-item l = l.copies.items ≡ take l.item-index l.item-items

abbrev pub invariant-fields_copied-loop-entry : goal.invariant-fields_copied-loop-entry
invariant-fields_copied-loop-entry l = l.copies.items ≡ take l.entry-index l.entry-items
