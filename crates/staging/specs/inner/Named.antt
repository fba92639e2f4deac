-- Which folders hold which names. No public contract cites this.
use Rattle.std.specs.Prelude.{◌≡◌, ℕ, ◌<◌, ◌≤◌, Bool, true, false, ◌&&◌, ◌==◌, List, unwrap_or, bytes_eq}
use Rattle.std.specs.declared.cmp.Ordering.{Ordering}
use Rattle.std.specs.List.{list_any}
use Rattle.std.specs.Ordering.{nat_cmp, ordering_then}
use Rattle.std.specs.BTreeMap as tree
use Rattle.std.specs.BTreeSet as sorted
use Rattle.plain_data.specs.ByName.{name_cmp}
use Rattle.staging.specs.declared.group.Member.{Member}
use Rattle.staging.specs.declared.group.Placed.{Placed}
use Rattle.staging.specs.declared.spots.FolderNames.{FolderNames}

abbrev pub spot_cmp : ℕ × List ℕ → ℕ × List ℕ → Ordering
spot_cmp x y = ordering_then (nat_cmp x.0 y.0) (name_cmp x.1 y.1)

abbrev pub holds : FolderNames → List ℕ → ℕ → Bool
holds names name k = sorted.contains spot_cmp names.held (k, name)

abbrev pub floor : FolderNames → List ℕ → ℕ
floor names name = unwrap_or (tree.get name_cmp names.floors name) 0

-- the folder holds a name of the group
abbrev pub any_holds : FolderNames → List Member → ℕ → Bool
any_holds names group k = list_any (λ m. holds names m.name k) group

-- a file of that name was put into the folder
abbrev pub stands : List Placed → List ℕ → ℕ → Bool
stands placed name k = list_any (λ p. p.folder == k && list_any (λ n. bytes_eq name n.name) p.members) placed

abbrev pub IsFloored : FolderNames → Type 0
IsFloored names = (name : List ℕ) (j : ℕ) → j < floor names name → holds names name j ≡ true

pub record IsNamed (names : FolderNames) (placed : List Placed) : Type 0 where
  pub each : (name : List ℕ) (k : ℕ) → holds names name k ≡ stands placed name k
  pub floored : IsFloored names

-- the lowest folder from a number on that holds no name of the group, or else the top
pub record IsFound (names : FolderNames) (group : List Member) (from top k : ℕ) : Type 0 where
  pub within : k ≤ top
  pub from_on : k < top → from ≤ k
  pub free : k < top → any_holds names group k ≡ false
  pub below : (j : ℕ) → from ≤ j → j < k → any_holds names group j ≡ true
