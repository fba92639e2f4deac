use Rattle.std.proofs.Common.{◌≡◌, take}
use Rattle.staging.proofs.copying.listing_in.Given as goal

-- the front of the listing is copied
abbrev pub invariant-loop-found : goal.invariant-loop-found
invariant-loop-found l = l.copies.items ≡ take l.found-index l.found-items
