use Rattle.std.proofs.Common.{◌≡◌, false, take}
use Rattle.staging.specs.inner.Named.{any_holds}
use Rattle.staging.proofs.spots.FolderNames.has_any.Given as goal

abbrev pub invariant-loop-member : goal.invariant-loop-member
invariant-loop-member l = any_holds l.self (take l.member-index l.group) l.folder ≡ false
