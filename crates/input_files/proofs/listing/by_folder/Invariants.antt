use Rattle.std.proofs.Common.{take}
use Rattle.input_files.specs.inner.Folders.{IsByFolder}
use Rattle.input_files.proofs.listing.by_folder.Given as goal

abbrev pub invariant-loop-found : goal.invariant-loop-found
invariant-loop-found l = IsByFolder l.grouped (take l.found-index l.listing)
