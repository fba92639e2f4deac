use Rattle.std.proofs.Common.{Ok, take}
use Rattle.collected_outputs.specs.HeadsWanted.{AreWantedBy}
use Rattle.collected_outputs.proofs.heads.all_wanted.Given as goal

abbrev pub invariant-loop-output : goal.invariant-loop-output
invariant-loop-output l = AreWantedBy l.folder.listing.now l.folder.speaks.inputs.now l.folder.speaks.runtime.now (take l.output-index l.outputs) (Ok l.wanted)
