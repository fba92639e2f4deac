use Rattle.std.proofs.Common.{sym, ◌∙◌}
use Rattle.collected_outputs.specs.Checked.{all_found}
use Rattle.collected_outputs.proofs.Every.{fails, field_fails}
use Rattle.collected_outputs.proofs.found.+found.Goals as goal

pub items_found-returns-then-not-all_found : goal.items_found-returns-then-not-all_found
items_found-returns-then-not-all_found t c =
    fails (all_found c.args.listing.now) c.args.items.now c.as_slice-item-items.result.now c.loop-item.item-index c.item-item.result c.as_slice-item-items.ensures c.loop-item-test.true c.item-item.is (sym c.all_found.ensures ∙ c.if-not-all_found.true)

pub fields_found-returns-then-not-all_found : goal.fields_found-returns-then-not-all_found
fields_found-returns-then-not-all_found t c =
    field_fails (all_found c.args.listing.now) c.args.fields.now c.as_slice-field-items.result.now c.loop-field.field-index c.field-item.result c.as_slice-field-items.ensures.entries c.loop-field-test.true c.field-item.is (sym c.all_found.ensures ∙ c.if-not-all_found.true)
