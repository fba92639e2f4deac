use Rattle.std.proofs.Common.{◌≡◌, Some, sym, ap, subst, ◌∙◌}
use Rattle.std.proofs.lemmas.Result.{IfOk-weaker}
use Rattle.serde_json.specs.Data.{array}
use Rattle.serde_json.specs.Read.{read}
use Rattle.serde_json.specs.View.{view, items_view}
use Rattle.serde_json.proofs.Views.{view-Array}
use Rattle.job_record.specs.Texts.{files_in, list_in}
use Rattle.job_record.proofs.texts.read_files.Goals as goal

pub returns-in-Array-clause-ok : goal.returns-in-Array-clause-ok
returns-in-Array-clause-ok c =
    let text = subst (λ t. read t ≡ Some (view c.in-Ok.json)) c.as_str.ensures.bytes c.in-Ok.ensures.ok in
    let whole : view c.in-Ok.json ≡ array (items_view c.in-Array.list.items) = ap view c.in-Array.is ∙ view-Array c.in-Array.list in
    let listed = ap (λ xs. list_in (items_view xs)) (sym c.as_slice.ensures.value) in
    IfOk-weaker c.read_list.result _ _ (λ files h. (view c.in-Ok.json, text, ap files_in whole ∙ listed ∙ h)) c.read_list.ensures.ok
