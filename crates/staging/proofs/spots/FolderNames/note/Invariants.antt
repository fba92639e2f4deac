use Rattle.std.proofs.Common.{◌≡◌, ℕ, List, ◌||◌, ◌&&◌, ◌==◌, take}
use Rattle.std.specs.Prelude.{bytes_eq}
use Rattle.std.specs.List.{list_any}
use Rattle.staging.specs.inner.Named.{holds, IsFloored}
use Rattle.staging.specs.declared.group.Member.{Member}
use Rattle.staging.proofs.spots.FolderNames.note.Given as goal

abbrev pub invariant-loop-member : goal.invariant-loop-member
invariant-loop-member l =
    ((q : List ℕ) (k : ℕ) → holds l.self q k ≡ (holds l.initial.self q k || (l.folder == k && list_any (λ (n : Member). bytes_eq q n.name) (take l.member-index l.group)))) × (IsFloored l.initial.self → IsFloored l.self)
