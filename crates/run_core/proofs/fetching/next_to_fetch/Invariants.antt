use Rattle.run_core.specs.inner.Fetches.{NoneLoads}
use Rattle.run_core.specs.inner.Marks.{marks_in}
use Rattle.run_core.proofs.fetching.next_to_fetch.Given as goal

abbrev pub invariant-loop-number : goal.invariant-loop-number
invariant-loop-number l = NoneLoads (marks_in l.course.planned) l.course l.number
