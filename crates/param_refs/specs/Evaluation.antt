-- The value of a text with references (CWL v1.2, "Parameter references").
use Rattle.std.specs.Prelude.{ℕ, Bool, false, if◌then◌else◌, List, [], ◌∷◌, ◌++◌, Option, Some, None, Ok}
use Rattle.std.specs.Char.{is_ascii_whitespace}
use Rattle.std.specs.List.{list_all}
use Rattle.serde_json.specs.Written.{compact_text}
use Rattle.cwl_value.specs.Erased.{erased}
use Rattle.cwl_value.specs.Json.{json_of}
use Rattle.cwl_value.specs.declared.value.Value.{Value, out-Value}
use Rattle.cwl_value.specs.declared.value.Value as value
use Rattle.cwl_value.specs.declared.value.Value.TheOpen.{Value-F}
use Rattle.cwl_value.specs.declared.value.FileVal.{FileVal}
use Rattle.cwl_value.specs.declared.value.DirVal.{DirVal}
use Rattle.param_refs.specs.Descent.{Gives, and_then, and_map, root, descent, has_outdir}
use Rattle.param_refs.specs.declared.template.Part.{Part}
use Rattle.param_refs.specs.declared.template.Part.TheVariants.{Plain, Referred}
use Rattle.param_refs.specs.declared.template.Reference.{Reference}

-- no more than white space
abbrev pub is_blank : Part → Bool
is_blank (Plain text) = list_all is_ascii_whitespace text
is_blank (Referred reference) = false

-- the one reference, where there is nothing else but white space around it
abbrev pub is_all_blank : List Part → Bool
is_all_blank = list_all is_blank

abbrev pub alone : List Part → Option Reference
alone [] = None
alone (Plain text ∷ ps) = if is_blank (Plain text) then alone ps else None
alone (Referred reference ∷ ps) = if is_all_blank ps then Some reference else None

-- a Text as it is, and any other value as the JSON of it without its places
abbrev pub level_text : Value → Value-F Value DirVal FileVal → List ℕ
level_text v (Value-F.Text text) = text
level_text v _ = compact_text (json_of (erased v))

abbrev pub text_of_value : Value → List ℕ
text_of_value v = level_text v (out-Value v)

module _ (inputs : List (List ℕ × Value)) (runtime : Option Value) (own : Value) where
  abbrev pub reference_value : Reference → Gives Value
  reference_value r = and_then (root inputs runtime own r.symbol) (descent (has_outdir runtime) r.segments)

  abbrev pub part_text : Part → Gives (List ℕ)
  part_text (Plain text) = Ok text
  part_text (Referred reference) = and_map text_of_value (reference_value reference)

  -- the parts, from left to right
  abbrev pub joined : List Part → Gives (List ℕ)
  joined [] = Ok []
  joined (p ∷ ps) = and_then (part_text p) (λ text. and_map (λ rest. text ++ rest) (joined ps))

  abbrev pub value_or_text : Option Reference → List Part → Gives Value
  value_or_text (Some reference) ps = reference_value reference
  value_or_text None ps = and_map value.Text (joined ps)

  abbrev pub template_value : List Part → Gives Value
  template_value ps = value_or_text (alone ps) ps
