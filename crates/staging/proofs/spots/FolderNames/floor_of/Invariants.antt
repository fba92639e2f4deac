use Rattle.std.proofs.Common.{◌≡◌, ℕ, ◌<◌, true, take}
use Rattle.staging.specs.inner.Named.{any_holds, IsFloored}
use Rattle.staging.proofs.spots.FolderNames.floor_of.Given as goal

abbrev pub invariant-loop-member : goal.invariant-loop-member
invariant-loop-member l = IsFloored l.self → (j : ℕ) → j < l.most → any_holds l.self (take l.member-index l.group) j ≡ true
