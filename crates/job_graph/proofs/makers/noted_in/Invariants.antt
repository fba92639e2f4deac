use Rattle.std.proofs.Common.{◌≡◌, drop}
use Rattle.std.specs.Prelude.{◌||◌}
use Rattle.job_graph.specs.Words.{JobPlace}
use Rattle.job_graph.specs.Made.{any_made}
use Rattle.job_graph.specs.inner.Makers.{is_noted}
use Rattle.job_graph.proofs.makers.noted_in.Given as goal

abbrev pub invariant-loop-field : goal.invariant-loop-field
invariant-loop-field l = (job : JobPlace) → (is_noted job l.noted || any_made job (drop l.field-index l.fields)) ≡ any_made job l.fields
