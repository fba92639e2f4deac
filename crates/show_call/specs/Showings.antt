-- What is said of a process, and of inputs for it, in place of a run.
use Rattle.std.specs.Prelude.{◌≡◌, ℕ, ◌++◌, Bool, true, List, [], map, flat_map, codes, Option, Some, None, is_some, if◌then◌else◌}
use Rattle.clap.specs.Words.{Text}
use Rattle.command_line.specs.Launch.{IsLaunch, IsRefused}
use Rattle.command_line.specs.declared.fault.BuildFault.{BuildFault}
use Rattle.command_line.specs.declared.launch.Launch.{Launch}
use Rattle.command_line.specs.declared.runtime.Runtime.{Runtime}
use Rattle.cwl_process.specs.declared.tool.Tool.{Tool}
use Rattle.document_links.specs.declared.process.Process.{Process, out-Process}
use Rattle.document_links.specs.declared.process.Process.TheOpen.{Process-F}
use Rattle.document_links.specs.declared.process.Step.{Step}
use Rattle.document_links.specs.declared.process.Workflow.{Workflow, out-Workflow}
use Rattle.input_files.specs.Given.{named_inputs}
use Rattle.input_forms.specs.Lines.{tool_line, workflow_line}
use Rattle.input_forms.specs.Templates.{template, tool_entry, workflow_entry}
use Rattle.job_graph.specs.Words.{Fields}
use Rattle.job_graph.specs.declared.cause.Cause.TheVariants as equations
use Rattle.run_facts.specs.Misfits.{first_misfit}
use Rattle.run_rules.specs.Folders.{out_folder, tmp_folder}
use Rattle.run_rules.specs.declared.outcome.Cause.{Cause}
use Rattle.run_rules.specs.declared.outcome.Cause.TheVariants as causes
use Rattle.run_rules.specs.declared.outcome.Outcome.TheVariants as outcomes
use Rattle.program_words.specs.RunWords.{RunWish}
use Rattle.program_words.specs.ShellWords.{IsLineOf}
use Rattle.program_words.specs.Visible.{visible}
use Rattle.program_words.specs.declared.shows.Shows.{Shows}
use Rattle.program_words.specs.declared.shows.Shows.TheVariants.{Template, Command}
use Rattle.end_words.specs.RunEnds.{outcome_exit}
use Rattle.end_words.specs.declared.exit.Exit.{Exit}
use Rattle.end_words.specs.declared.exit.Exit.TheVariants as exits
use Rattle.end_words.specs.declared.exit.Fault.TheVariants as faults
use Rattle.run_given.specs.declared.given.Given.{Given}
use Rattle.run_given.specs.Paths.{from_root}
use Rattle.run_given.specs.Named.{IsNotGiven, IsReady}

-- ---- a process alone

-- a tool or a workflow
abbrev pub Seen : Type 0
Seen = Process-F Process Step Workflow

abbrev pub class_line : Seen → List ℕ
class_line (Process-F.Tool tool) = codes "valid: CommandLineTool"
class_line (Process-F.Workflow workflow) = codes "valid: Workflow"

-- a line for each input, in the order of the document
abbrev pub input_lines : Seen → List (List ℕ)
input_lines (Process-F.Tool tool) = map tool_line tool.inputs
input_lines (Process-F.Workflow workflow) = map workflow_line (out-Workflow workflow).inputs

abbrev pub line_below : List ℕ → List ℕ
line_below line = codes "\n" ++ visible line

-- the class of a process, and below it its inputs
abbrev pub lines_of : Process → List ℕ
lines_of process = class_line (out-Process process) ++ flat_map line_below (input_lines (out-Process process))

-- an input object for a process, to be filled in: an entry for each input, in the order of the document
abbrev pub template_of : Seen → List ℕ
template_of (Process-F.Tool tool) = template (map tool_entry tool.inputs)
template_of (Process-F.Workflow workflow) = template (map workflow_entry (out-Workflow workflow).inputs)

-- ---- a process and inputs for it

-- the end of a run that fails for this cause before its first job
abbrev pub failed : Cause → Exit
failed cause = outcome_exit (outcomes.PermanentFail [] cause)

-- what the first job of a run of these words is given to run in (CWL v1.2, Command Line Tool Description, "Runtime environment")
abbrev pub first_runtime : (here : Text) (words : RunWish) (path : Text) → Runtime
first_runtime here words path = record {
  outdir = out_folder (from_root here words.work) 0;
  tmpdir = tmp_folder (from_root here words.work) 0;
  path_env = path;
}

-- the command of a tool in one line that a shell reads so, where its inputs have these values; or why it has none
pub data IsCommandEnd (tool : Tool) (values : Fields) (runtime : Runtime) : Exit → Type 0 where
  command : (launch : Launch) (line : Text) → IsLaunch tool values runtime launch → IsLineOf launch line →
      IsCommandEnd tool values runtime (exits.Output line)
  no_command : (fault : BuildFault) → IsRefused tool values runtime fault → IsCommandEnd tool values runtime (failed (causes.Build fault))

-- a tool has a command, for the inputs that are given and its defaults, each File where it is given; of a workflow its lines are shown
abbrev pub IsCommandShown : Seen → Given → Runtime → Exit → Type 0
IsCommandShown (Process-F.Tool tool) given runtime exit = IsCommandEnd tool (named_inputs tool.inputs given.inputs) runtime exit
IsCommandShown (Process-F.Workflow workflow) given runtime exit = exit ≡ exits.Output (lines_of given.process)

-- what is asked for: a command, an input object or the lines
abbrev pub IsAskedShown : Shows → Given → Runtime → Exit → Type 0
IsAskedShown Command given runtime exit = IsCommandShown (out-Process given.process) given runtime exit
IsAskedShown Template given runtime exit = exit ≡ exits.Output (template_of (out-Process given.process))
IsAskedShown other given runtime exit = exit ≡ exits.Output (lines_of given.process)

-- whether the values of the inputs have to fit: for a command always, else where an input object is named
abbrev pub is_checked : Shows → (inputs : Option Text) → Bool
is_checked Command inputs = true
is_checked other inputs = is_some inputs

-- the first input whose value has to fit and does not
abbrev pub misfit_of : RunWish → Given → Option Text
misfit_of words given = if is_checked words.shows words.inputs then first_misfit given.process given.inputs else None

-- ---- how `run` ends the program where no run is asked for

pub data IsShown (here : Text) (words : RunWish) (path : Text) (given : Given) : Exit → Type 0 where
  shown : {exit : Exit} → misfit_of words given ≡ None → IsAskedShown words.shows given (first_runtime here words path) exit →
      IsShown here words path given exit
  misfit : (input : Text) → misfit_of words given ≡ Some input → IsShown here words path given (failed (causes.Equation (equations.Kind input)))

-- the named process on the named inputs is shown, or there is nothing to show; the document is looked at first
pub data IsEndOfShowing (words : RunWish) (path : Text) : Exit → Type 0 where
  shows : {exit : Exit} (here : Text) (given : Given) → IsReady here words given → IsShown here words path given exit →
      IsEndOfShowing words path exit
  not_given : {exit : Exit} (here : Text) → IsNotGiven here words exit → IsEndOfShowing words path exit
  -- the name of the current folder can't be found
  lost : IsEndOfShowing words path (exits.Fault faults.Folder)
