-- The patterns of an output (CWL v1.2, "CommandOutputBinding": glob), and the values of its references.
use Rattle.std.specs.Prelude.{ℕ, pos, List, [], ◌∷◌, ◌++◌, map, codes, Some, Result, Ok, Err}
use Rattle.cwl_value.specs.declared.value.Value.{Value, out-Value}
use Rattle.cwl_value.specs.declared.value.Value as value
use Rattle.cwl_value.specs.declared.value.Value.TheOpen.{Value-F}
use Rattle.cwl_value.specs.declared.value.FileVal.{FileVal}
use Rattle.cwl_value.specs.declared.value.DirVal.{DirVal}
use Rattle.param_refs.specs.Evaluation.{template_value}
use Rattle.param_refs.specs.declared.fault.RefFault.{RefFault}
use Rattle.param_refs.specs.declared.template.Part.{Part}
use Rattle.staging.specs.Reading.{IsReading}
use Rattle.staging.specs.declared.fault.GlobFault.{GlobFault}
use Rattle.staging.specs.declared.item.PatternItem.{PatternItem}
use Rattle.std.specs.Str.{chars}
use Rattle.collected_outputs.specs.Gives.{Gives, and_map, and_then, all_given}
use Rattle.collected_outputs.specs.Matched.{Name}
use Rattle.collected_outputs.specs.declared.fault.CollectFault.TheVariants.{PatternNotText, Reference}

-- one core, and no folder: no output sees the path of one
abbrev pub runtime : Value
runtime = value.Fields ((codes "cores", value.Whole (pos 1)) ∷ [])

abbrev pub referred : Result Value RefFault → Gives Value
referred (Ok v) = Ok v
referred (Err fault) = Err (Reference fault)

-- the value of a text with references, where `self` is this
abbrev pub value_in : List (List ℕ × Value) → Value → Value → List Part → Gives Value
value_in inputs runtime own template = referred (template_value inputs (Some runtime) own template)

abbrev pub text_level : Value-F Value DirVal FileVal → Gives Name
text_level (Value-F.Text text) = Ok text
text_level _ = Err PatternNotText

abbrev pub text_in : Value → Gives Name
text_in v = text_level (out-Value v)

abbrev pub texts_level : Value → Value-F Value DirVal FileVal → Gives (List Name)
texts_level v (Value-F.List vs) = all_given (map text_in vs)
texts_level v _ = and_map (λ text. text ∷ []) (text_in v)

-- a text, or each text of a list
abbrev pub texts_in : Value → Gives (List Name)
texts_in v = texts_level v (out-Value v)

abbrev pub texts_at : List (List ℕ × Value) → Value → List Part → Gives (List Name)
texts_at inputs runtime template = and_then (value_in inputs runtime value.Null template) texts_in

-- what the texts of a `glob` stand for, one after another
abbrev pub pattern_texts : List (List ℕ × Value) → Value → List (List Part) → Gives (List Name)
pattern_texts inputs runtime [] = Ok []
pattern_texts inputs runtime (template ∷ templates) = and_then (texts_at inputs runtime template) (λ these. and_map (λ rest. these ++ rest) (pattern_texts inputs runtime templates))

-- the patterns that texts read as, or the fault of the first that reads as none
pub data AreRead : List Name → Result (List (List PatternItem)) GlobFault → Type 0 where
  none : AreRead [] (Ok [])
  one_more : (texts : List Name) (patterns : List (List PatternItem)) (text : Name) (pattern : List PatternItem) → AreRead texts (Ok patterns) → IsReading (chars text) (Ok pattern)
      → AreRead (texts ++ text ∷ []) (Ok (patterns ++ pattern ∷ []))
  refused : (texts rest : List Name) (patterns : List (List PatternItem)) (text : Name) (fault : GlobFault) → AreRead texts (Ok patterns) → IsReading (chars text) (Err fault)
      → AreRead (texts ++ text ∷ rest) (Err fault)
