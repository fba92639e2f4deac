-- The walk through a lone tool, by any inputs that it has for what was measured.
use Rattle.std.proofs.Common.{◌≡◌, ◌∙◌, ◌++◌, Bool, List, [], Result, sym, ap}
use Rattle.cwl_process.specs.declared.tool.Tool.{Tool}
use Rattle.document_links.specs.declared.process.Process.{out-Process, out-roll-Process, fold-roll-Process}
use Rattle.document_links.specs.declared.process.Process.TheOpen.{Process-F}
use Rattle.document_links.specs.declared.process.Process.TheVariants.{rolls-Tool}
use Rattle.document_links.specs.declared.process.Process as process
use Rattle.input_files.specs.Measured.{Measures}
use Rattle.input_files.specs.Paths.{each_once, paths_of_fields, input_paths as tool_paths}
use Rattle.input_files.specs.Taken.{tool_root_fields}
use Rattle.job_graph.specs.declared.cause.Cause.{Cause}
use Rattle.job_graph.specs.Equations.{Meaning, StepMeaning, meaning_of, process_level, step_meaning, workflow_meaning, walker}
use Rattle.job_graph.specs.Inputs.{root_fields, root_fields_at, tool_inputs_for}
use Rattle.job_graph.specs.Jobs.{Made, tool_walk}
use Rattle.job_graph.specs.Paths.{input_paths, root_adds}
use Rattle.job_graph.specs.Words.{Name, Fields, JobPlace}
use Rattle.run_rules.specs.declared.setting.Options.{Options}
use Rattle.run_rules.specs.declared.setting.Setting.{Setting}
use Rattle.run_rules.specs.Scene.{Scene, is_made_before, scene_of}

-- what a tool's inputs are, by what was measured, or why it has none
abbrev pub InputsBy : Type 0
InputsBy = Measures → Result Fields Cause

abbrev pub lone : Tool → InputsBy → List Name → Options → (JobPlace → Bool) → Scene
lone tool inputs_by paths options before =
    record { walker = λ measures. tool_walk tool [] (inputs_by measures); paths = paths; options = options; made_before = before }

-- the inputs of a tool at the root
abbrev pub inputs_of : Tool → Fields → InputsBy
inputs_of tool given measures = tool_inputs_for measures tool.inputs (tool_root_fields tool.inputs given measures)

out_tool : (tool : Tool) → out-Process (process.Tool tool) ≡ Process-F.Tool tool
out_tool tool = ap out-Process (sym (rolls-Tool tool)) ∙ out-roll-Process (Process-F.Tool tool)

root_tool : (tool : Tool) (given : Fields) (measures : Measures) → root_fields (process.Tool tool) given measures ≡ tool_root_fields tool.inputs given measures
root_tool tool given measures = ap (λ q. root_fields_at q given measures) (out_tool tool)

meaning_tool : (tool : Tool) (measures : Measures) (made : Made) →
    meaning_of measures made (process.Tool tool) ≡ (λ place fields. tool_walk tool place (tool_inputs_for measures tool.inputs fields) made)
meaning_tool tool measures made =
    ap (meaning_of measures made) (sym (rolls-Tool tool))
    ∙ fold-roll-Process Meaning StepMeaning Meaning (process_level measures made) (step_meaning measures) (workflow_meaning measures) (Process-F.Tool tool)

pub walker_tool : (tool : Tool) (given : Fields) (measures : Measures) → walker (process.Tool tool) given measures ≡ tool_walk tool [] (inputs_of tool given measures)
walker_tool tool given measures =
    (λ i made. meaning_tool tool measures made i [] (root_fields (process.Tool tool) given measures))
    ∙ ap (λ (fields : Fields). tool_walk tool [] (tool_inputs_for measures tool.inputs fields)) (root_tool tool given measures)

paths_tool : (tool : Tool) (given : Fields) → input_paths (process.Tool tool) given ≡ tool_paths tool.inputs given
paths_tool tool given = ap (λ q. each_once (paths_of_fields given ++ root_adds given q)) (out_tool tool)

-- a run of a tool on these inputs
abbrev pub setting_on : Tool → Fields → Options → Setting
setting_on tool given options = record { process = process.Tool tool; inputs = given; options = options }

abbrev pub scene_by : Tool → Fields → Options → Scene
scene_by tool given options = lone tool (inputs_of tool given) (tool_paths tool.inputs given) options (is_made_before (process.Tool tool) given)

pub scene_tool : (tool : Tool) (given : Fields) (options : Options) → scene_of (setting_on tool given options) ≡ scene_by tool given options
scene_tool tool given options = λ i. record {
  walker = λ measures. walker_tool tool given measures i;
  paths = paths_tool tool given i;
  options = options;
  made_before = is_made_before (process.Tool tool) given;
}
