-- The inputs of a step, gone through one after another.
use Rattle.std.specs.Prelude.{◌≡◌, List, map, flat_map}
use Rattle.job_graph.specs.declared.partly.Partly.{Partly}
use Rattle.job_graph.specs.declared.step.Entered.{Entered}
use Rattle.job_graph.specs.Words.{Name, JobPlace}
use Rattle.job_graph.specs.Equations.{fault_at}
use Rattle.job_graph.specs.Links.{all_given}
use Rattle.job_graph.specs.inner.Views.{met_of}

-- those that fail are met at the step's place, and all are kept by their names where each is known
pub record HasEntered (place : JobPlace) (entries : List (Name × Partly)) (entered : Entered) : Type 0 where
  pub faults : map met_of entered.faults ≡ flat_map (λ e. fault_at place e.1) entries
  pub values : entered.values ≡ all_given entries
