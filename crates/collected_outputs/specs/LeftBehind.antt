-- What a child left behind, as the definitions of outputs take it.
use Rattle.collected_outputs.specs.Listing.{Listing, listing_of}
use Rattle.collected_outputs.specs.Outputs.{Left}
use Rattle.collected_outputs.specs.Patterns.{runtime}
use Rattle.collected_outputs.specs.declared.collect.LeftBehind.{LeftBehind}

-- with this listing of its output folder
abbrev pub left_with : LeftBehind → Listing → Left
left_with it listing = record {
  listing = listing;
  heads = it.heads.now;
  stdout = it.streams.stdout.now;
  stderr = it.streams.stderr.now;
  inputs = it.inputs.now;
  runtime = runtime;
}

abbrev pub left_behind : LeftBehind → Left
left_behind it = left_with it (listing_of it.found.now)
