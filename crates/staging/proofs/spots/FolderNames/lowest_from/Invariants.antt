use Rattle.std.proofs.Common.{◌≡◌, ℕ, ◌<◌, ◌≤◌, true}
use Rattle.staging.specs.inner.Named.{any_holds}
use Rattle.staging.proofs.spots.FolderNames.lowest_from.Given as goal

abbrev pub invariant-loop-folder : goal.invariant-loop-folder
invariant-loop-folder l = (j : ℕ) → l.from ≤ j → j < l.folder → any_holds l.self l.group j ≡ true
