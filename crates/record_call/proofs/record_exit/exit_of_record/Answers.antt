use Rattle.std.proofs.Common.{subst}
use Rattle.std.proofs.lemmas.Result.{IfOk-weaker}
use Rattle.program_words.specs.RecordForm.{IsForm}
use Rattle.program_words.specs.RecordWords.{wish_of_record}
use Rattle.record_call.specs.RecordEnds.{is_trim, is_check, misused}
use Rattle.record_call.proofs.record_exit.exit_of_record.Goals as goal

pub exit_of_rows-requires : goal.exit_of_rows-requires
exit_of_rows-requires g c = subst (λ form. IsForm (wish_of_record c.args.words.now) form) c.in-Rows.is c.form_of.ensures

pub exit_of_list-requires : goal.exit_of_list-requires
exit_of_list-requires g c = subst (λ form. IsForm (wish_of_record c.args.words.now) form) c.in-Long.is c.form_of.ensures

pub returns-in-Trim : goal.returns-in-Trim
returns-in-Trim g c =
    IfOk-weaker c.exit_of_trim.result _ _ (λ exit trims. is_trim c.in-Trim.budget (subst (λ form. IsForm (wish_of_record c.args.words.now) form) c.in-Trim.is c.form_of.ensures) trims) c.exit_of_trim.ensures

pub returns-in-Check : goal.returns-in-Check
returns-in-Check g c =
    IfOk-weaker c.exit_of_check.result _ _ (λ exit checks. is_check c.in-Check.remove (subst (λ form. IsForm (wish_of_record c.args.words.now) form) c.in-Check.is c.form_of.ensures) checks) c.exit_of_check.ensures

pub returns-in-Misused : goal.returns-in-Misused
returns-in-Misused g c = misused (subst (λ form. IsForm (wish_of_record c.args.words.now) form) c.in-Misused.is c.form_of.ensures)
