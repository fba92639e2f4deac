use Rattle.std.proofs.Common.{take}
use Rattle.collected_outputs.proofs.Listings.{Holds}
use Rattle.job_reuse.specs.inner.Index.{listing_by}
use Rattle.job_reuse.proofs.index.index_of.Given as goal

abbrev pub invariant-loop-found : goal.invariant-loop-found
invariant-loop-found l = Holds (take l.found-index l.files) (listing_by l.index)
