-- What comes once a job is staged: first bytes of its inputs are read, one file after another, where it asks for their contents; then it is
-- started, or fails where the contents or the launch are refused.
use Rattle.std.specs.Prelude.{◌≡◌, ℕ, List, [], ◌∷◌, Ok, Err}
use Rattle.command_line.specs.Launch.{IsLaunch, IsRefused}
use Rattle.command_line.specs.declared.fault.BuildFault.{BuildFault}
use Rattle.command_line.specs.declared.launch.Launch.{Launch}
use Rattle.input_files.specs.Contents.{with_contents}
use Rattle.input_files.specs.declared.fault.ContentsFault.{ContentsFault}
use Rattle.run_rules.specs.declared.outcome.Cause.{Cause}
use Rattle.run_rules.specs.declared.outcome.CollectCause.{CollectCause}
use Rattle.run_rules.specs.declared.setting.Options.{Options}
use Rattle.collected_outputs.specs.Contents.{Heads}
use Rattle.job_graph.specs.Jobs.{Job}
use Rattle.job_graph.specs.Words.{Name, Fields, JobPlace}
use Rattle.run_rules.specs.Folders.{runtime_of}
use Rattle.run_rules.specs.Events.{Event, job_failed, Work, nothing_due, input_heads_due, start_due}

-- the job at a place, in the folders of this number, with these staged inputs, where these first bytes were read and those of these paths are not
pub data StartsOn (options : Options) (place : JobPlace) (job : Job) (number : ℕ) (staged : Fields) (read : Heads) : List Name → Work → List Event → Type 0 where
  reads_on : (path : Name) (more : List Name) →
      StartsOn options place job number staged read (path ∷ more) (input_heads_due place staged (path ∷ more) read) []
  has_launch : (inputs : Fields) (launch : Launch) → with_contents job.tool.inputs staged read ≡ Ok inputs →
      IsLaunch job.tool inputs (runtime_of options number) launch →
      StartsOn options place job number staged read [] (start_due place inputs launch) []
  has_no_launch : (inputs : Fields) (fault : BuildFault) → with_contents job.tool.inputs staged read ≡ Ok inputs →
      IsRefused job.tool inputs (runtime_of options number) fault →
      StartsOn options place job number staged read [] nothing_due (job_failed place (Cause.Build fault) ∷ [])
  has_no_contents : (fault : ContentsFault) → with_contents job.tool.inputs staged read ≡ Err fault →
      StartsOn options place job number staged read [] nothing_due (job_failed place (Cause.Collect (CollectCause.Input fault)) ∷ [])
