use Rattle.std.proofs.Common.{take}
use Rattle.collected_outputs.proofs.Listings.{Holds}
use Rattle.collected_outputs.proofs.listing.listing_of.Given as goal

abbrev pub invariant-loop-one : goal.invariant-loop-one
invariant-loop-one l = Holds (take l.one-index l.found) l.listing
