use Rattle.std.proofs.Common.{◌≡◌, Ok, sym, subst, ap, ◌∙◌, string_bytes}
use Rattle.std.specs.Prelude.{IsUtf8}
use Rattle.std.proofs.lemmas.Str.{IsUtf8-string_bytes}
use Rattle.serde_json.specs.View.{view}
use Rattle.cwl_value.specs.Json.{json_of}
use Rattle.cwl_value.specs.Texts.{ReadsAs}
use Rattle.cwl_value.specs.declared.value.Value as value
use Rattle.job_record.proofs.WrittenRow.{outputs_read}
use Rattle.job_record.proofs.texts.outputs_text.Goals as goal

pub returns-clause-reads : goal.returns-clause-reads
returns-clause-reads c kept =
    let outputs = c.args.outputs.now in
    let text = c.in_ok-to_string.field-0 in
    let json = c.in_ok-json.field-0 in
    let is : view json ≡ json_of (value.Fields outputs) = c.in_ok-json.ensures ∙ ap (λ copy. json_of (value.Fields copy)) c.in_ok-copy_fields.ensures in
    subst (λ bytes. ReadsAs bytes (Ok (value.Fields outputs))) (sym c.from_string.ensures)
    (outputs_read (string_bytes text) outputs (view json) (IsUtf8-string_bytes text) is c.in_ok-to_string.ensures.reads_back kept)

pub returns-clause-utf8 : goal.returns-clause-utf8
returns-clause-utf8 c = subst IsUtf8 (sym c.from_string.ensures) (IsUtf8-string_bytes c.in_ok-to_string.field-0)
