-- Texts with references at fields (CWL v1.2, Command Line Tool Description, "Parameter references"): what they read as, as `param_refs`
-- says, and which are wrong. The template of a text that is wrong stands for nothing.
use Rattle.std.specs.Prelude.{ℕ, List, [], map, Option, Some, None, Result, Ok, Err, option_map}
use Rattle.serde_json.specs.Data.{Data}
use Rattle.document_table.specs.Faults.{here}
use Rattle.document_table.specs.declared.fault.Cause.TheVariants.{WrongForm}
use Rattle.document_table.specs.declared.fault.DocumentFault.{DocumentFault}
use Rattle.param_refs.specs.Parsed.{parsed}
use Rattle.param_refs.specs.declared.fault.RefFault.{RefFault}
use Rattle.param_refs.specs.declared.template.Part.{Part}
use Rattle.cwl_process.specs.Simple.{list_at, text_at, text_in}

abbrev pub parts_of : Result (List Part) RefFault → List Part
parts_of (Ok parts) = parts
parts_of (Err fault) = []

abbrev pub template_of : List ℕ → List Part
template_of text = parts_of (parsed text)

abbrev pub template_in : Data → List Part
template_in d = template_of (text_in d)

abbrev pub template_at : List ℕ → Data → Option (List Part)
template_at name d = option_map template_of (text_at name d)

abbrev pub templates_at : List ℕ → Data → List (List Part)
templates_at name d = map template_in (list_at name d)

-- ---- texts that are wrong

abbrev pub refused_as : Result (List Part) RefFault → Option DocumentFault
refused_as (Ok parts) = None
refused_as (Err fault) = Some (here WrongForm)

-- a `${`, a `$(` that begins no reference, or a backslash beside one of the two
abbrev pub text_fault : Data → Option DocumentFault
text_fault d = refused_as (parsed (text_in d))
