use Rattle.std.proofs.Common.{drop}
use Rattle.std.specs.List.{list_any}
use Rattle.job_graph.specs.inner.Makers.{is_this}
use Rattle.job_graph.proofs.Gathering.{PutsUntil}
use Rattle.job_graph.proofs.makers.put_numbers.Given as goal

abbrev pub invariant-loop-place : goal.invariant-loop-place
invariant-loop-place l = PutsUntil (λ job. list_any (is_this job) l.places) (λ job. list_any (is_this job) (drop l.place-index l.places)) l.known l.fn.numbers l.numbers
