use Rattle.std.proofs.Common.{IsTrue}
use Rattle.collected_outputs.specs.Listing.{are_paths}
use Rattle.process_machine.proofs.listing.found_in.Given as goal

-- what was listed so far stands below the folder
abbrev pub invariant-loop-below : goal.invariant-loop-below
invariant-loop-below g l = IsTrue (are_paths l.found)
