-- What the definitions settle.
use Rattle.std.specs.Prelude.{◌≡◌, ◌≢◌, ℕ, false, List, Option, Result, Ok, Err}
use Rattle.cwl_value.specs.declared.value.Value.{Value}
use Rattle.cwl_value.specs.declared.value.Value as value
use Rattle.param_refs.specs.Evaluation.{template_value}
use Rattle.param_refs.specs.Grammar.{has_opening, IsReading}
use Rattle.param_refs.specs.Parsed.{parsed}
use Rattle.param_refs.specs.declared.fault.RefFault.{RefFault}
use Rattle.param_refs.specs.declared.fault.RefFault.TheVariants.{NotAReference, BackslashOut}
use Rattle.param_refs.specs.declared.template.Part.{Part}

-- a text has one reading at most
abbrev pub ReadingsAreSettled : Type 0
ReadingsAreSettled = (text : List ℕ) (one other : Result (List Part) RefFault) → IsReading text one → IsReading text other → one ≡ other

-- and `parsed` is it
abbrev pub EachTextHasItsReading : Type 0
EachTextHasItsReading = (text : List ℕ) → IsReading text (parsed text)

-- a text reads as parts whose value is that text, whatever references may speak of
pub record IsKept (text : List ℕ) : Type 0 where
  pub parts : List Part
  pub read : parsed text ≡ Ok parts
  pub stays : (inputs : List (List ℕ × Value)) (runtime : Option Value) (own : Value) → template_value inputs runtime own parts ≡ Ok (value.Text text)

-- a text without `$(` and `${` stands for itself
abbrev pub PlainTextsAreKept : Type 0
PlainTextsAreKept = (text : List ℕ) → has_opening text ≡ false → IsKept text

-- neither P1 nor P2, which are faults of a text alone
abbrev pub IsOfValues : RefFault → Type 0
IsOfValues fault = (fault ≢ NotAReference) × (fault ≢ BackslashOut)

-- what was read has no value only by P3 to P6
abbrev pub ValuesFailByValues : Type 0
ValuesFailByValues = (inputs : List (List ℕ × Value)) (runtime : Option Value) (own : Value) (parts : List Part) (fault : RefFault) → template_value inputs runtime own parts ≡ Err fault → IsOfValues fault
