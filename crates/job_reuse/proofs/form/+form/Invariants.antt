use Rattle.std.proofs.Common.{take}
use Rattle.job_reuse.specs.Form.{AreAllInForm, AreFieldsInForm}
use Rattle.job_reuse.proofs.form.+form.Given as goal

abbrev pub invariant-in_form-loop-field : goal.invariant-in_form-loop-field
invariant-in_form-loop-field l = AreFieldsInForm (take l.field-index l.field-items)

abbrev pub invariant-items_in_form-loop-item : goal.invariant-items_in_form-loop-item
invariant-items_in_form-loop-item l = AreAllInForm (take l.item-index l.item-items)
