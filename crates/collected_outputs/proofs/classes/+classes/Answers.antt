use Rattle.std.proofs.Common.{sym, ◌∙◌}
use Rattle.cwl_value.specs.declared.value.Value.{Value}
use Rattle.collected_outputs.specs.Matched.{Name}
use Rattle.collected_outputs.specs.Readable.{Seen, seen, has_class}
use Rattle.collected_outputs.proofs.Every.{some_pass, any_mapped}
use Rattle.collected_outputs.proofs.classes.+classes.Goals as goal

pub items_have_class-returns-then-has_class : goal.items_have_class-returns-then-has_class
items_have_class-returns-then-has_class t c =
    some_pass has_class c.args.items.now c.as_slice-item-items.result.now c.loop-item.item-index c.item-item.result c.as_slice-item-items.ensures c.loop-item-test.true c.item-item.is (sym c.has_class.ensures ∙ c.if-has_class.true)
    ∙ sym (any_mapped (λ (s : Seen). s.1) seen c.args.items.now)

pub fields_have_class-returns-then-has_class : goal.fields_have_class-returns-then-has_class
fields_have_class-returns-then-has_class t c =
    some_pass (λ (e : Name × Value). has_class e.1) c.args.fields.now c.as_slice-field-items.result.now c.loop-field.field-index c.field-item.result c.as_slice-field-items.ensures.entries c.loop-field-test.true c.field-item.is (sym c.has_class.ensures ∙ c.if-has_class.true)
    ∙ sym (any_mapped (λ (e : Name × Seen). e.1.1) (λ (e : Name × Value). (e.0, seen e.1)) c.args.fields.now)
