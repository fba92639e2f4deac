-- The outputs of a tool, from what its command left behind (CWL v1.2, Command Line Tool, "Output binding").
use Rattle.std.specs.Prelude.{◌≡◌, ℕ, Bool, false, not, ◌||◌, codes, if◌then◌else◌, List, [], ◌∷◌, ◌++◌, Option, Some, None, is_some, unwrap_or, Result, Ok, Err}
use Rattle.std.specs.Option.{option_map_or, option_to_list}
use Rattle.plain_data.specs.ByName.{with_value, value_at}
use Rattle.cwl_process.specs.declared.tool.OutputBinding.{OutputBinding}
use Rattle.cwl_process.specs.declared.tool.OutputType.{OutputType}
use Rattle.cwl_process.specs.declared.tool.OutputType.TheVariants.{Stdout, Stderr, Members}
use Rattle.cwl_process.specs.declared.tool.ToolOutput.{ToolOutput}
use Rattle.cwl_types.specs.declared.types.MemberType.{MemberType}
use Rattle.cwl_types.specs.declared.types.MemberType as member
use Rattle.cwl_types.specs.declared.types.PlainType.TheVariants as plain
use Rattle.cwl_value.specs.declared.value.Value.{Value}
use Rattle.cwl_value.specs.declared.value.Value as value
use Rattle.param_refs.specs.declared.template.Part.{Part}
use Rattle.staging.specs.declared.fault.GlobFault.{GlobFault}
use Rattle.staging.specs.declared.item.PatternItem.{PatternItem}
use Rattle.collected_outputs.specs.declared.listing.Entry.{Entry}
use Rattle.collected_outputs.specs.Beside.{all_beside}
use Rattle.collected_outputs.specs.ByType.{value_by_type}
use Rattle.collected_outputs.specs.Checked.{is_typed, all_found, bare}
use Rattle.collected_outputs.specs.Contents.{Heads, all_loaded}
use Rattle.collected_outputs.specs.Gives.{Gives, and_then}
use Rattle.collected_outputs.specs.Listing.{Listing}
use Rattle.collected_outputs.specs.Matched.{Name, AreMatched}
use Rattle.collected_outputs.specs.Patterns.{pattern_texts, value_in, AreRead}
use Rattle.collected_outputs.specs.Values.{values_of, value_under}
use Rattle.collected_outputs.specs.declared.fault.CollectFault.{CollectFault}
use Rattle.collected_outputs.specs.declared.fault.CollectFault.TheVariants.{Pattern, NotTyped, NameOutside}

-- a file `cwl.output.json`, which is the whole output object
abbrev pub has_object : Listing → Bool
has_object listing = option_map_or (λ (e : Entry). not e.is_dir) (value_at (codes "cwl.output.json") listing) false

-- what a command leaves behind, and what references speak of
pub record Left : Type 0 where
  pub listing : Listing
  pub heads : Heads
  pub stdout : Name
  pub stderr : Name
  pub inputs : List (List ℕ × Value)
  pub runtime : Value

-- the texts of a `glob`; none where there is none
abbrev pub globs_in : Option OutputBinding → List (List Part)
globs_in None = []
globs_in (Some binding) = unwrap_or binding.glob []

abbrev pub globs_of : OutputType → Option OutputBinding → List (List Part)
globs_of Stdout binding = []
globs_of Stderr binding = []
globs_of (Members members) binding = globs_in binding

-- the names that texts of patterns match, or the fault in their way
pub data AreNames (listing : Listing) : Gives (List Name) → Gives (List Name) → Type 0 where
  no_texts : (fault : CollectFault) → AreNames listing (Err fault) (Err fault)
  no_pattern : (texts : List Name) (fault : GlobFault) → AreRead texts (Err fault) → AreNames listing (Ok texts) (Err (Pattern fault))
  matched : (texts : List Name) (patterns : List (List PatternItem)) (names : List Name) → AreRead texts (Ok patterns) → AreMatched listing patterns names → AreNames listing (Ok texts) (Ok names)

-- the files of the names, with their contents where these are asked for
abbrev pub matched_values : Left → Bool → List Name → Gives (List Value)
matched_values left load names = (if load then all_loaded left.heads (values_of left.listing names) else Ok (values_of left.listing names))

-- the value of `outputEval`, where `self` is the list of what matches, or else the value by the type
abbrev pub evaluated : Left → List MemberType → Option (List Part) → List Value → Gives Value
evaluated left members None values = value_by_type members values
evaluated left members (Some template) values = value_in left.inputs left.runtime (value.List values) template

-- null without patterns and without `outputEval`
abbrev pub value_of_binding : Left → List MemberType → Option OutputBinding → List Name → Gives Value
value_of_binding left members None names = Ok value.Null
value_of_binding left members (Some binding) names =
    (if is_some binding.glob || is_some binding.output_eval then and_then (matched_values left binding.load_contents names) (evaluated left members binding.output_eval) else Ok value.Null)

-- the file of a stream
abbrev pub stream_value : Left → Name → Gives Value
stream_value left name = value_by_type (member.Plain plain.File ∷ []) (option_to_list (value_under left.listing name))

abbrev pub unchecked : Left → OutputType → Option OutputBinding → List Name → Gives Value
unchecked left Stdout binding names = stream_value left left.stdout
unchecked left Stderr binding names = stream_value left left.stderr
unchecked left (Members members) binding names = value_of_binding left members binding names

-- a value that fits the type, and holds only what was found; its contents are dropped
abbrev pub checked : Listing → OutputType → Value → Gives Value
checked listing kind v = (if is_typed kind v then (if all_found listing v then Ok (bare v) else Err NameOutside) else Err NotTyped)

-- with the files beside it
abbrev pub value_beside : Left → ToolOutput → List Name → Gives Value
value_beside left output names = and_then (unchecked left output.kind output.binding names) (all_beside left.listing output.secondary_files)

-- the value of an output, of the names that its patterns match
abbrev pub output_value : Left → ToolOutput → List Name → Gives Value
output_value left output names = and_then (value_beside left output names) (checked left.listing output.kind)

pub record HasValue (left : Left) (output : ToolOutput) (given : Gives Value) : Type 0 where
  pub names : Gives (List Name)
  pub are_names : AreNames left.listing (pattern_texts left.inputs left.runtime (globs_of output.kind output.binding)) names
  pub value : given ≡ and_then names (output_value left output)

-- the values of the outputs, or the fault of the first that has none
pub data AreOutputs (left : Left) : List (Name × ToolOutput) → Result (List (Name × Value)) (Name × CollectFault) → Type 0 where
  none : AreOutputs left [] (Ok [])
  one_more : (outputs : List (Name × ToolOutput)) (values : List (Name × Value)) (output : Name × ToolOutput) (v : Value) → AreOutputs left outputs (Ok values) → HasValue left output.1 (Ok v)
      → AreOutputs left (outputs ++ output ∷ []) (Ok (with_value output.0 v values))
  refused : (outputs rest : List (Name × ToolOutput)) (values : List (Name × Value)) (output : Name × ToolOutput) (fault : CollectFault) → AreOutputs left outputs (Ok values) → HasValue left output.1 (Err fault)
      → AreOutputs left (outputs ++ output ∷ rest) (Err (output.0, fault))
