use Rattle.std.proofs.Common.{ap₂, Bool}
use Rattle.std.specs.Prelude.{◌||◌}
use Rattle.job_graph.proofs.laws_of_walks.ReadDefaults.{defaults_unmade, inputs_unmade}
use Rattle.run_rules.proofs.laws.nothing_read_was_made_before.Goals as goal

pub returns : goal.returns
returns c = λ bytes base docs process text at read inputs options its reads given place.
    ap₂ (λ (one other : Bool). one || other) (inputs_unmade text at read inputs reads given place) (defaults_unmade bytes base docs process its place)
