-- What the machine turns to while input files are measured.
use Rattle.std.specs.Prelude.{◌≡◌, ◌<◌, ◌^◌, List, [], ◌∷◌, ◌++◌, length, reverse}
use Rattle.job_graph.specs.Equations.{walker}
use Rattle.job_graph.specs.Paths.{input_paths}
use Rattle.proc_host.specs.declared.call.HostRequest.{HostRequest}
use Rattle.staging.specs.declared.measure.Measure.{Measure}
use Rattle.job_graph.specs.Words.{Name}
use Rattle.run_core.specs.declared.state.Course.{Course}
use Rattle.run_core.specs.declared.state.Given.{Given}
use Rattle.run_core.specs.declared.state.Measuring.{Measuring}
use Rattle.run_core.specs.declared.state.Phase.{Phase}
use Rattle.run_core.specs.declared.state.Turn.{Turn}
use Rattle.run_core.specs.inner.Course.{past_of}
use Rattle.run_core.specs.inner.Knows.{IsUnfolded}
use Rattle.run_core.specs.inner.Picks.{Picks}
use Rattle.run_core.specs.inner.Turn.{waits}
use Rattle.run_core.specs.inner.Turns.{PutsNext}

-- the next input file is measured; where all are, the first jobs are known
pub data MeasuresOn (given : Given) (old : Course) (measuring : Measuring) : Turn → Course → Type 0 where
  all_measured : (known : Course) (turn : Turn) (new : Course) → measuring.left ≡ [] →
      IsUnfolded (walker given.process.now given.inputs.now measuring.measures) [] old known → Picks given known turn new →
      MeasuresOn given old measuring turn new
  measures : (rest : List Name) (path : Name) (new : Course) → measuring.left ≡ rest ++ path ∷ [] → past_of new ≡ past_of old → new.known ≡ old.known →
      MeasuresOn given old measuring (waits (HostRequest.Measure path) (Phase.Measuring measuring)) new

-- before any answer
pub record Begins (given : Given) (old : Course) (turn : Turn) (new : Course) : Type 0 where
  pub measuring : Measuring
  pub paths : measuring.left ≡ reverse (input_paths given.process.now given.inputs.now)
  pub few : length measuring.left < 2 ^ 64
  pub none : measuring.measures ≡ []
  pub on : MeasuresOn given old measuring turn new

-- after a measure
pub record TakesMeasure (given : Given) (old : Course) (measuring : Measuring) (measure : Measure) (turn : Turn) (new : Course) : Type 0 where
  pub next : Measuring
  pub puts : PutsNext measuring.left measuring.measures measure next.left next.measures
  pub on : MeasuresOn given old next turn new
