-- A transcript as the list of its pairs.
use Rattle.std.specs.Prelude.{List, map}
use Rattle.run_rules.specs.declared.request.Pair.{Pair}
use Rattle.run_core.specs.declared.transcript.Transcript.{Transcript}
use Rattle.run_core.specs.inner.Answered.{pair_of}

-- oldest first
abbrev pub pairs_in : Transcript → List Pair
pairs_in transcript = map pair_of transcript.past.items
