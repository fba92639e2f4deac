use Rattle.std.proofs.Common.{sym, ◌∙◌}
use Rattle.collected_outputs.proofs.Every.{fails, field_fails}
use Rattle.job_reuse.specs.inner.Stands.{all_stand_by}
use Rattle.job_reuse.proofs.stands.+stands.Goals as goal

pub items_stand-returns-then-not-value_stands : goal.items_stand-returns-then-not-value_stands
items_stand-returns-then-not-value_stands t c =
    fails (all_stand_by c.args.index.now) c.args.items.now c.as_slice-item-items.result.now c.loop-item.item-index c.item-item.result c.as_slice-item-items.ensures c.loop-item-test.true c.item-item.is (sym c.value_stands.ensures ∙ c.if-not-value_stands.true)

pub fields_stand-returns-then-not-value_stands : goal.fields_stand-returns-then-not-value_stands
fields_stand-returns-then-not-value_stands t c =
    field_fails (all_stand_by c.args.index.now) c.args.fields.now c.as_slice-field-items.result.now c.loop-field.field-index c.field-item.result c.as_slice-field-items.ensures.entries c.loop-field-test.true c.field-item.is (sym c.value_stands.ensures ∙ c.if-not-value_stands.true)
