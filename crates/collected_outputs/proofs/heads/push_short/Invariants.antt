use Rattle.std.proofs.Common.{◌≡◌, ◌++◌, take}
use Rattle.std.specs.Prelude.{filter}
use Rattle.collected_outputs.specs.HeadsWanted.{is_short}
use Rattle.collected_outputs.proofs.heads.push_short.Given as goal

abbrev pub invariant-loop-name : goal.invariant-loop-name
invariant-loop-name l = l.wanted ≡ l.initial.wanted ++ filter (is_short l.listing) (take l.name-index l.names)
