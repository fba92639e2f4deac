use Rattle.std.proofs.Common.{◌≡◌, ℕ, ◌<◌, ◌≤◌, true}
use Rattle.staging.specs.inner.Named.{holds}
use Rattle.staging.proofs.spots.FolderNames.end_of_run.Given as goal

abbrev pub invariant-loop-folder : goal.invariant-loop-folder
invariant-loop-folder l = (j : ℕ) → l.from ≤ j → j < l.folder → holds l.self l.name j ≡ true
