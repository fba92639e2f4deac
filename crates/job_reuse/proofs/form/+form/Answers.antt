use Rattle.std.proofs.Common.{[], sym, subst}
use Rattle.std.specs.Prelude.{unwrap_or}
use Rattle.job_reuse.specs.Form.{IsInForm, AreAllInForm, AreFieldsInForm}
use Rattle.job_reuse.proofs.InForm.{items_more, fields_more}
use Rattle.job_reuse.proofs.form.+form.Goals as goal

pub in_form-loop-field-init : goal.in_form-loop-field-init
in_form-loop-field-init t c = AreFieldsInForm.no_fields

pub in_form-loop-field-preserved : goal.in_form-loop-field-preserved
in_form-loop-field-preserved t c =
    fields_more c.as_slice-field-items.result.now c.loop-field.field-index c.field-item.result c.loop-field-test.true c.field-item.is c.loop-field.invariant c.value_in_form.ensures

pub items_in_form-loop-item-init : goal.items_in_form-loop-item-init
items_in_form-loop-item-init t c = AreAllInForm.no_values

pub items_in_form-loop-item-preserved : goal.items_in_form-loop-item-preserved
items_in_form-loop-item-preserved t c =
    items_more c.as_slice-item-items.result.now c.loop-item.item-index c.item-item.result c.loop-item-test.true c.item-item.is c.loop-item.invariant c.value_in_form.ensures

pub dir_in_form-returns-in-None : goal.dir_in_form-returns-in-None
dir_in_form-returns-in-None t c = subst (λ o. AreAllInForm (unwrap_or o [])) (sym c.in-None.is) AreAllInForm.no_values

pub dir_in_form-returns-in-Some : goal.dir_in_form-returns-in-Some
dir_in_form-returns-in-Some t c = subst (λ o. AreAllInForm (unwrap_or o [])) (sym c.in-Some.is) c.items_in_form.ensures

pub value_in_form-returns-in-Null : goal.value_in_form-returns-in-Null
value_in_form-returns-in-Null t c = subst IsInForm (sym c.in-Null.is) IsInForm.null

pub value_in_form-returns-in-Bool : goal.value_in_form-returns-in-Bool
value_in_form-returns-in-Bool t c = subst IsInForm (sym c.in-Bool.is) (IsInForm.boolean c.in-Bool._flag)

pub value_in_form-returns-in-Whole : goal.value_in_form-returns-in-Whole
value_in_form-returns-in-Whole t c = subst IsInForm (sym c.in-Whole.is) (IsInForm.whole c.in-Whole.number c.whole_in_form.ensures)

pub value_in_form-returns-in-Text : goal.value_in_form-returns-in-Text
value_in_form-returns-in-Text t c = subst IsInForm (sym c.in-Text.is) (IsInForm.text c.in-Text._text)

pub value_in_form-returns-in-FileVal : goal.value_in_form-returns-in-FileVal
value_in_form-returns-in-FileVal t c = subst IsInForm (sym c.in-FileVal.is) (IsInForm.file c.in-FileVal.file c.file_in_form.ensures)

pub value_in_form-returns-in-DirVal : goal.value_in_form-returns-in-DirVal
value_in_form-returns-in-DirVal t c = subst IsInForm (sym c.in-DirVal.is) (IsInForm.dir c.in-DirVal.dir c.dir_in_form.ensures)

pub value_in_form-returns-in-List : goal.value_in_form-returns-in-List
value_in_form-returns-in-List t c = subst IsInForm (sym c.in-List.is) (IsInForm.list c.in-List.items (subst AreAllInForm c.as_items.ensures c.items_in_form.ensures))

pub value_in_form-returns-in-Fields : goal.value_in_form-returns-in-Fields
value_in_form-returns-in-Fields t c = subst IsInForm (sym c.in-Fields.is) (IsInForm.fields c.in-Fields.fields c.in_form.ensures.order c.in_form.ensures.each)
