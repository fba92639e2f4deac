-- Input files that are measured, one after another.
use Rattle.std.specs.Prelude.{◌≡◌, ◌<◌, ◌^◌, List, ◌++◌, length, map, reverse}
use Rattle.std.specs.Map.{keys_of}
use Rattle.staging.specs.declared.measure.Measure.{Measure}
use Rattle.run_rules.specs.Events.{Event, file_measured, measures}
use Rattle.run_rules.specs.Scene.{Scene}
use Rattle.job_graph.specs.Words.{Name}
use Rattle.run_core.specs.declared.state.Measuring.{Measuring}

-- the measures of these paths, in this order
abbrev pub measured_by : List (Name × Measure) → List Event
measured_by found = map (λ m. file_measured m.0 m.1) found

-- the first input files are measured, and the others are still to be
pub record IsMeasuring (s : Scene) (found : List (Name × Measure)) (measuring : Measuring) : Type 0 where
  pub paths : s.paths ≡ keys_of found ++ reverse measuring.left
  pub measures : measuring.measures ≡ measures (measured_by found)
  pub few : length measuring.left < 2 ^ 64
