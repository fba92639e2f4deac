-- What the definitions of this crate settle.
use Rattle.std.specs.Prelude.{◌≡◌, ◌⊎◌, ℕ, List, bytes_eq}
use Rattle.std.specs.List.{IsDistinct}
use Rattle.std.specs.Map.{keys_of}
use Rattle.cwl_value.specs.declared.value.Value.{Value}
use Rattle.cwl_process.specs.declared.tool.Tool.{Tool}
use Rattle.command_line.specs.declared.fault.BuildFault.{BuildFault}
use Rattle.command_line.specs.declared.launch.Launch.{Launch}
use Rattle.command_line.specs.declared.runtime.Runtime.{Runtime}
use Rattle.command_line.specs.Launch.{IsLaunch, IsRefused}
use Rattle.command_line.specs.Words.{AreWords}

-- a tool and its inputs have one command at most
abbrev pub WordsAreSettled : Type 0
WordsAreSettled = (tool : Tool) (inputs : List (List ℕ × Value)) (around : Value) (one other : List (List ℕ)) → AreWords tool inputs around one → AreWords tool inputs around other → one ≡ other

-- they have one launch at most
abbrev pub LaunchIsSettled : Type 0
LaunchIsSettled = (tool : Tool) (inputs : List (List ℕ × Value)) (runtime : Runtime) (one other : Launch) → IsLaunch tool inputs runtime one → IsLaunch tool inputs runtime other → one ≡ other

-- and none where a cause of refusal holds
abbrev pub LaunchExcludesRefusal : Type 0
LaunchExcludesRefusal = (tool : Tool) (inputs : List (List ℕ × Value)) (runtime : Runtime) (launch : Launch) (fault : BuildFault) → IsLaunch tool inputs runtime launch → IsRefused tool inputs runtime fault → ⊥

-- and one or the other, where no two inputs have one id
abbrev pub LaunchOrRefusal : Type 0
LaunchOrRefusal = (tool : Tool) (inputs : List (List ℕ × Value)) (runtime : Runtime) → IsDistinct bytes_eq (keys_of tool.inputs)
    → ((launch : Launch) × IsLaunch tool inputs runtime launch) ⊎ ((fault : BuildFault) × IsRefused tool inputs runtime fault)
