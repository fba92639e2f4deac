-- What a run's definitions look at: how its process walks, by what was measured, which paths are measured, what it may use, and what was made
-- before it.
use Rattle.std.specs.Prelude.{◌≡◌, ◌||◌, Bool, false, List}
use Rattle.document_links.specs.declared.process.Process.{Process}
use Rattle.input_files.specs.Measured.{Measures}
use Rattle.run_rules.specs.declared.setting.Options.{Options}
use Rattle.run_rules.specs.declared.setting.Setting.{Setting}
use Rattle.job_graph.specs.Equations.{walker}
use Rattle.job_graph.specs.Jobs.{Walker}
use Rattle.job_graph.specs.Made.{any_made, holds_made}
use Rattle.job_graph.specs.Makers.{any_default}
use Rattle.job_graph.specs.Paths.{input_paths}
use Rattle.job_graph.specs.Words.{Name, Fields, JobPlace}

pub record Scene : Type 0 where
  pub walker : Measures → Walker
  pub paths : List Name
  pub options : Options
  -- whether a File or Directory that is given, or stands in a default, is said to be made by the job at a place
  pub made_before : JobPlace → Bool

-- what is said so of the inputs of a process and of its defaults
abbrev pub is_made_before : Process → Fields → JobPlace → Bool
is_made_before process inputs place = any_made place inputs || any_default (holds_made place) process

abbrev pub scene_of : Setting → Scene
scene_of setting = record {
  walker = walker setting.process setting.inputs;
  paths = input_paths setting.process setting.inputs;
  options = setting.options;
  made_before = is_made_before setting.process setting.inputs;
}

-- none is: so it is of inputs and documents that were read, whose files are at paths and locations
abbrev pub NothingWasMadeBefore : Scene → Type 0
NothingWasMadeBefore s = (place : JobPlace) → s.made_before place ≡ false
