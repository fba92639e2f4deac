-- Which first bytes are wanted of the files that were found, before the outputs are collected: those of `cwl.output.json` alone where it
-- is found, and else those of the files whose contents are asked for. A file over its limit has none.
use Rattle.std.specs.Prelude.{◌≡◌, ℕ, Bool, false, not, ◌&&◌, nat_le, if◌then◌else◌, List, [], ◌∷◌, ◌++◌, filter, codes, bytes_eq, Option, Some, None, Ok, Err}
use Rattle.std.specs.Option.{option_map_or}
use Rattle.plain_data.specs.ByName.{value_at}
use Rattle.cwl_process.specs.declared.tool.OutputBinding.{OutputBinding}
use Rattle.cwl_process.specs.declared.tool.OutputType.{OutputType}
use Rattle.cwl_process.specs.declared.tool.OutputType.TheVariants.{Stdout, Stderr, Members}
use Rattle.cwl_process.specs.declared.tool.ToolOutput.{ToolOutput}
use Rattle.cwl_value.specs.declared.value.Value.{Value}
use Rattle.cwl_value.specs.declared.value.TheConstants.{MOST_CONTENTS}
use Rattle.collected_outputs.specs.declared.object.TheConstants.{MOST_OBJECT}
use Rattle.collected_outputs.specs.declared.fault.CollectFault.{CollectFault}
use Rattle.collected_outputs.specs.declared.listing.Entry.{Entry}
use Rattle.collected_outputs.specs.Collected.{object_entry}
use Rattle.collected_outputs.specs.Gives.{Gives}
use Rattle.collected_outputs.specs.Listing.{Listing}
use Rattle.collected_outputs.specs.Matched.{Name, without_repeats}
use Rattle.collected_outputs.specs.Object.{Named}
use Rattle.collected_outputs.specs.Outputs.{globs_of, AreNames, has_object}
use Rattle.collected_outputs.specs.Patterns.{pattern_texts, runtime as job_runtime}

-- the most bytes that are read of the file of that name
abbrev pub limit_of : Name → ℕ
limit_of name = (if bytes_eq name (codes "cwl.output.json") then MOST_OBJECT else MOST_CONTENTS)

-- the output asks for contents
abbrev pub loads : OutputType → Option OutputBinding → Bool
loads (Members members) (Some binding) = binding.load_contents
loads (Members members) None = false
loads Stdout binding = false
loads Stderr binding = false

-- a file that isn't too long
abbrev pub is_short : Listing → Name → Bool
is_short listing name = option_map_or (λ (e : Entry). not e.is_dir && nat_le e.size MOST_CONTENTS) (value_at name listing) false

abbrev pub wanted_of : Listing → ToolOutput → List Name → List Name
wanted_of listing output names = (if loads output.kind output.binding then filter (is_short listing) names else [])

-- those that outputs ask for, one output after another, or the fault of the first whose patterns aren't read
pub data AreWantedBy (listing : Listing) (inputs : Named) (runtime : Value) : List (Name × ToolOutput) → Gives (List Name) → Type 0 where
  none : AreWantedBy listing inputs runtime [] (Ok [])
  one_more : (outputs : List (Name × ToolOutput)) (wanted : List Name) (output : Name × ToolOutput) (names : List Name) → AreWantedBy listing inputs runtime outputs (Ok wanted)
      → AreNames listing (pattern_texts inputs runtime (globs_of output.1.kind output.1.binding)) (Ok names)
      → AreWantedBy listing inputs runtime (outputs ++ output ∷ []) (Ok (wanted ++ wanted_of listing output.1 names))
  refused : (outputs rest : List (Name × ToolOutput)) (wanted : List Name) (output : Name × ToolOutput) (fault : CollectFault) → AreWantedBy listing inputs runtime outputs (Ok wanted)
      → AreNames listing (pattern_texts inputs runtime (globs_of output.1.kind output.1.binding)) (Err fault)
      → AreWantedBy listing inputs runtime (outputs ++ output ∷ rest) (Err fault)

-- the object, unless it is too long
abbrev pub object_wanted : Entry → List Name
object_wanted e = (if nat_le e.size MOST_OBJECT then codes "cwl.output.json" ∷ [] else [])

-- the names of the files whose first bytes are wanted, each once; none where a pattern isn't read
pub data AreHeadsWanted (listing : Listing) (inputs : Named) (outputs : List (Name × ToolOutput)) : List Name → Type 0 where
  of_object : (e : Entry) → object_entry listing ≡ Some e → AreHeadsWanted listing inputs outputs (object_wanted e)
  of_outputs : (wanted : List Name) → has_object listing ≡ false → AreWantedBy listing inputs job_runtime outputs (Ok wanted) → AreHeadsWanted listing inputs outputs (without_repeats wanted)
  unread : (fault : CollectFault) → has_object listing ≡ false → AreWantedBy listing inputs job_runtime outputs (Err fault) → AreHeadsWanted listing inputs outputs []
