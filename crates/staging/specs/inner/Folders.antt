-- What the search for a folder finds. No public contract cites this.
use Rattle.std.specs.Prelude.{◌≡◌, ◌≢◌, ℕ, ◌<◌, Bool, true, false, List, Contains}
use Rattle.staging.specs.Placing.{is_taken}
use Rattle.staging.specs.declared.group.Member.{Member}
use Rattle.staging.specs.declared.group.Placed.{Placed}

abbrev pub NoneIs : List Placed → List Member → Type 0
NoneIs placed group = (p : Placed) → Contains placed p → p.members ≢ group

-- all groups stand in folders below it
abbrev pub IsAbove : List Placed → ℕ → Type 0
IsAbove placed top = (p : Placed) → Contains placed p → p.folder < top

abbrev pub IsLowest : Bool → List Placed → List Member → ℕ → Type 0
IsLowest holds_others placed group k = (is_taken holds_others placed group k ≡ false) × ((j : ℕ) → j < k → is_taken holds_others placed group j ≡ true)
