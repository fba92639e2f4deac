use Rattle.std.proofs.Common.{List, ℕ}
use Rattle.run_facts.proofs.BestSoFar.{texts_decide}
use Rattle.run_facts.proofs.nearest_job.are_same.Goals as goal

pub returns : goal.returns
returns c = rw (c.as_slice.ensures.entries, c.as_slice-2.ensures.entries) at (texts_decide c.as_slice.result.now c.as_slice-2.result.now c.eq.result c.eq.ensures)
