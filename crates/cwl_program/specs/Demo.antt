-- How the demo ends the program: as a run of a document of its own on inputs of its own, which answers from a script.
use Rattle.std.specs.Prelude.{[], codes, false}
use Rattle.clap.specs.Words.{Text}
use Rattle.url.specs.Parts.{Parts}
use Rattle.document_links.specs.declared.process.Process.{Process}
use Rattle.job_graph.specs.Words.{Fields}
use Rattle.run_rules.specs.declared.setting.Options.{Options}
use Rattle.run_given.specs.Paths.{IsAt}
use Rattle.run_call.specs.Runs.{IsRan}
use Rattle.run_given.specs.Sources.{IsAccepted, IsDocumentStop, IsInputs, IsInputsStop}
use Rattle.cwl_program.specs.declared.demo.TheConstants.{DOCUMENT, INPUTS}
use Rattle.end_words.specs.declared.exit.Exit.{Exit}

-- the URLs of its document and of its inputs
abbrev pub IsDocumentUrl : Parts → Type 0
IsDocumentUrl base = IsAt (codes "/") (codes "hello.json") base

abbrev pub IsInputsUrl : Parts → Type 0
IsInputsUrl base = IsAt (codes "/") (codes "inputs.json") base

abbrev pub IsDemoProcess : Process → Type 0
IsDemoProcess process = (base : Parts) × IsDocumentUrl base × IsAccepted DOCUMENT.now base [] process

abbrev pub IsDemoInputs : Fields → Type 0
IsDemoInputs inputs = (base : Parts) × IsInputsUrl base × IsInputs INPUTS.now base inputs

-- what it runs with: one slot, no retries, and this `PATH`
abbrev pub demo_options : (path : Text) → Options
demo_options path = record {
  work = codes "cwl-work";
  outdir = codes "/out";
  path_env = path;
  slots = 1;
  retries = 0;
  base = 1;
  rate = 100000;
  keep = false;
}

-- there is no such process, or there are no such inputs, and the program ends so
abbrev pub IsNoDemoProcess : Exit → Type 0
IsNoDemoProcess exit = (base : Parts) × IsDocumentUrl base × IsDocumentStop DOCUMENT.now base [] exit

abbrev pub IsNoDemoInputs : Exit → Type 0
IsNoDemoInputs exit = (base : Parts) × IsInputsUrl base × IsInputsStop INPUTS.now base exit

pub data IsDemoExit (path : Text) : Exit → Type 0 where
  runs : {exit : Exit} (process : Process) (inputs : Fields) → IsDemoProcess process → IsDemoInputs inputs →
      IsRan process inputs (demo_options path) exit → IsDemoExit path exit
  no_process : {exit : Exit} → IsNoDemoProcess exit → IsDemoExit path exit
  no_inputs : {exit : Exit} (process : Process) → IsDemoProcess process → IsNoDemoInputs exit → IsDemoExit path exit
