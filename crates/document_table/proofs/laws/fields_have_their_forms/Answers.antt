use Rattle.document_table.proofs.Faultless.{field_has_form}
use Rattle.document_table.proofs.laws.fields_have_their_forms.Goals as goal

pub returns : goal.returns
returns c = field_has_form
