-- What is started for a tool, its inputs and what it runs in, and why nothing is
-- (CWL v1.2, Command Line Tool Description, "Runtime environment" and "Input binding").
use Rattle.std.specs.Prelude.{◌≡◌, ◌≢◌, ℕ, true, false, List, [], Ok, Err, Contains}
use Rattle.cwl_value.specs.declared.value.Value.{Value}
use Rattle.cwl_process.specs.declared.tool.Tool.{Tool}
use Rattle.command_line.specs.declared.fault.BuildFault.{BuildFault}
use Rattle.command_line.specs.declared.fault.BuildFault.TheVariants.{NotText, EmptyCommand}
use Rattle.command_line.specs.declared.fault.LaunchText.TheVariants.{BaseCommand, Folder}
use Rattle.command_line.specs.declared.fault.BuildError.{BuildError}
use Rattle.command_line.specs.declared.fault.BuildError.TheVariants.{Refused, OutOfMemory}
use Rattle.command_line.specs.declared.launch.Launch.{Launch}
use Rattle.command_line.specs.declared.runtime.Runtime.{Runtime}
use Rattle.command_line.specs.Environment.{environment_of}
use Rattle.command_line.specs.Order.{Bound, bindings_of}
use Rattle.command_line.specs.Streams.{stderr_of, stdin_of, stdout_of}
use Rattle.command_line.specs.Texts.{is_plain, runtime_value}
use Rattle.command_line.specs.Words.{AreWords, words_of}
use Rattle.std.specs.List.{AllPass}

-- the launch of a tool, all of whose texts an operating system takes
pub record IsLaunch (tool : Tool) (inputs : List (List ℕ × Value)) (runtime : Runtime) (launch : Launch) : Type 0 where
  pub words : AreWords tool inputs (runtime_value runtime) launch.words
  pub some_word : launch.words ≢ []
  pub plain_base : AllPass is_plain tool.base_command
  pub env : environment_of inputs (runtime_value runtime) runtime tool ≡ Ok launch.env
  pub stdin : stdin_of inputs (runtime_value runtime) tool ≡ Ok launch.stdin
  pub stdout : stdout_of inputs (runtime_value runtime) tool ≡ Ok launch.stdout
  pub stderr : stderr_of inputs (runtime_value runtime) tool ≡ Ok launch.stderr
  pub dir : launch.dir ≡ runtime.outdir
  pub plain_dir : is_plain runtime.outdir ≡ true

-- why there is no launch: a constructor for each part of it
pub data IsRefused (tool : Tool) (inputs : List (List ℕ × Value)) (runtime : Runtime) : BuildFault → Type 0 where
  in_base_command : (word : List ℕ) → Contains tool.base_command word → is_plain word ≡ false → IsRefused tool inputs runtime (NotText BaseCommand)
  in_binding : (b : Bound) (fault : BuildFault) → Contains (bindings_of tool inputs) b → words_of inputs (runtime_value runtime) b ≡ Err fault → IsRefused tool inputs runtime fault
  in_env : (fault : BuildFault) → environment_of inputs (runtime_value runtime) runtime tool ≡ Err fault → IsRefused tool inputs runtime fault
  in_stdin : (fault : BuildFault) → stdin_of inputs (runtime_value runtime) tool ≡ Err fault → IsRefused tool inputs runtime fault
  in_stdout : (fault : BuildFault) → stdout_of inputs (runtime_value runtime) tool ≡ Err fault → IsRefused tool inputs runtime fault
  in_stderr : (fault : BuildFault) → stderr_of inputs (runtime_value runtime) tool ≡ Err fault → IsRefused tool inputs runtime fault
  in_folder : is_plain runtime.outdir ≡ false → IsRefused tool inputs runtime (NotText Folder)
  no_word : AreWords tool inputs (runtime_value runtime) [] → IsRefused tool inputs runtime EmptyCommand

-- an answer in place of a launch: a cause that holds, or out of memory
abbrev pub IsError : Tool → List (List ℕ × Value) → Runtime → BuildError → Type 0
IsError tool inputs runtime (Refused fault) = IsRefused tool inputs runtime fault
IsError tool inputs runtime OutOfMemory = Unit {0}
