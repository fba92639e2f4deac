-- A run is honest in a world where each end of a job is what the world says of it.
use Rattle.std.specs.Prelude.{◌≡◌, List, [], ◌∷◌, ◌++◌, Some, None}
use Rattle.cwl_value.specs.Erased.{fields_erased}
use Rattle.input_files.specs.Measured.{Measures}
use Rattle.run_rules.specs.declared.setting.Setting.{Setting}
use Rattle.job_graph.specs.Eval.{World, eval}
use Rattle.job_graph.specs.Jobs.{Job}
use Rattle.job_key.specs.Key.{key}
use Rattle.run_rules.specs.Events.{Event, job_succeeded, job_failed, row_differs, row_found, job_at}
use Rattle.run_rules.specs.End.{End, succeeds_with, fails_permanently, mismatches}
use Rattle.run_rules.specs.Scene.{Scene, scene_of}

module _ (s : Scene) where
  -- temporary ends and calls that fail are free
  abbrev pub AgreesAt : World → List Event → Event → Type 0
  AgreesAt world es (job_succeeded place outputs) =
      (job : Job) → job_at s es place ≡ Some job → world (key job.tool job.inputs) ≡ Some outputs
  AgreesAt world es (job_failed place cause) =
      (job : Job) → job_at s es place ≡ Some job → world (key job.tool job.inputs) ≡ None
  AgreesAt world es (row_differs place outputs) =
      (job : Job) → job_at s es place ≡ Some job → world (key job.tool job.inputs) ≡ Some outputs
  AgreesAt world es (row_found place row) =
      (job : Job) → job_at s es place ≡ Some job → world (key job.tool job.inputs) ≡ Some row.outputs
  AgreesAt world es _ = Unit {0}

  abbrev pub AgreesFrom : World → List Event → List Event → Type 0
  AgreesFrom world es [] = Unit {0}
  AgreesFrom world es (e ∷ later) = AgreesAt world es e × AgreesFrom world (es ++ e ∷ []) later

-- all that happened is as the world says
abbrev pub IsHonest : Setting → World → List Event → Type 0
IsHonest setting world events = AgreesFrom (scene_of setting) world [] events

-- what an end says of computing every job, where the input files were measured so
abbrev pub Means : Setting → Measures → World → End → Type 0
Means setting measures world (succeeds_with outputs delivered) =
    eval key world setting.process setting.inputs measures ≡ Some (fields_erased outputs)
Means setting measures world (fails_permanently place cause) = eval key world setting.process setting.inputs measures ≡ None
Means setting measures world (mismatches place) = ⊥
Means setting measures world _ = Unit {0}
