-- What the steps of finding the wanted heads answer. No public contract cites this.
use Rattle.std.specs.Prelude.{◌≡◌, List, [], ◌++◌, Result, Ok, Err}
use Rattle.cwl_process.specs.declared.tool.ToolOutput.{ToolOutput}
use Rattle.cwl_value.specs.declared.value.Value.{Value}
use Rattle.collected_outputs.specs.Gives.{Gives}
use Rattle.collected_outputs.specs.HeadsWanted.{AreWantedBy, wanted_of}
use Rattle.collected_outputs.specs.Listing.{Listing}
use Rattle.collected_outputs.specs.Matched.{Name, without_repeats}
use Rattle.collected_outputs.specs.Object.{Named}
use Rattle.collected_outputs.specs.Outputs.{AreNames}
use Rattle.collected_outputs.specs.declared.fault.Stop.{Stop}
use Rattle.collected_outputs.specs.declared.fault.Stop.TheVariants.{Refused, OutOfMemory}

pub record AddsWanted (listing : Listing) (output : ToolOutput) (texts : Gives (List Name)) (before after : List Name) : Type 0 where
  pub names : List Name
  pub are_names : AreNames listing texts (Ok names)
  pub added : after ≡ before ++ wanted_of listing output names

-- a pattern isn't read
abbrev pub NoneWanted : Listing → Named → Value → List (Name × ToolOutput) → Stop → Type 0
NoneWanted listing inputs runtime outputs OutOfMemory = Unit {0}
NoneWanted listing inputs runtime outputs (Refused fault) = AreWantedBy listing inputs runtime outputs (Err fault)

-- each name once; none where a pattern isn't read. Out of memory gives no names at all
abbrev pub IsOnceOf : Result (List Name) Stop → List Name → Type 0
IsOnceOf (Ok names) once = once ≡ without_repeats names
IsOnceOf (Err (Refused fault)) once = once ≡ []
IsOnceOf (Err OutOfMemory) once = ⊥
