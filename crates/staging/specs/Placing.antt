-- Which numbered folder each group of files goes to, so that no two of one folder share a name.
use Rattle.std.specs.Prelude.{◌≡◌, ◌≢◌, ℕ, ◌<◌, Bool, true, false, ◌&&◌, ◌||◌, ◌==◌, List, [], ◌∷◌, ◌++◌, Contains, bytes_eq}
use Rattle.std.specs.Char.{is_ascii_digit}
use Rattle.std.specs.List.{list_all, list_any}
use Rattle.staging.specs.declared.group.Member.{Member}
use Rattle.staging.specs.declared.group.Placed.{Placed}

-- a name that the second stands under too
abbrev pub share_a_name : List Member → List Member → Bool
share_a_name group other = list_any (λ m. list_any (λ n. bytes_eq m.name n.name) other) group

abbrev pub are_digits : List ℕ → Bool
are_digits [] = false
are_digits (b ∷ bs) = is_ascii_digit b && list_all is_ascii_digit bs

-- `_` and digits: the names of numbered folders
abbrev pub is_reserved : List ℕ → Bool
is_reserved [] = false
is_reserved (b ∷ bs) = b == 95 && are_digits bs

abbrev pub has_reserved : List Member → Bool
has_reserved group = list_any (λ m. is_reserved m.name) group

abbrev pub is_in_the_way : List Member → ℕ → Placed → Bool
is_in_the_way group k p = p.folder == k && share_a_name group p.members

-- the group may not go to the folder: one of its names stands there; or, where folder 0 holds the others, it has one of their names
abbrev pub is_taken : Bool → List Placed → List Member → ℕ → Bool
is_taken holds_others placed group k = list_any (is_in_the_way group k) placed || (holds_others && (k == 0 && has_reserved group))

-- the folder of a group, where others were placed before it
pub data IsFolder (holds_others : Bool) (placed : List Placed) (group : List Member) : ℕ → Type 0 where
  -- that of an earlier group with the same places and names
  shared : (k : ℕ) → Contains placed (record { members = group; folder = k }) → IsFolder holds_others placed group k
  -- else the lowest one that is free
  lowest : (k : ℕ) → ((p : Placed) → Contains placed p → p.members ≢ group) → is_taken holds_others placed group k ≡ false
      → ((j : ℕ) → j < k → is_taken holds_others placed group j ≡ true) → IsFolder holds_others placed group k

-- each group with its folder, one after another
pub data ArePlaced (holds_others : Bool) : List (List Member) → List Placed → Type 0 where
  none : ArePlaced holds_others [] []
  one_more : (groups : List (List Member)) (placed : List Placed) (group : List Member) (k : ℕ) → ArePlaced holds_others groups placed → IsFolder holds_others placed group k
      → ArePlaced holds_others (groups ++ group ∷ []) (placed ++ record { members = group; folder = k } ∷ [])
