-- Groups looked up by their names and places. No public contract cites this.
use Rattle.std.specs.Prelude.{◌≡◌, ℕ, Bool, true, false, ◌&&◌, List, [], ◌∷◌, Option, option_map, unwrap_or, find, bytes_eq}
use Rattle.std.specs.List.{flat_map}
use Rattle.std.specs.BTreeMap.{get_by}
use Rattle.std.specs.Cmp.Lexicographic.{slice_cmp}
use Rattle.plain_data.specs.ByName.{name_cmp}
use Rattle.staging.specs.declared.group.Member.{Member}
use Rattle.staging.specs.declared.group.Placed.{Placed}
use Rattle.staging.specs.declared.index.FolderIndex.{FolderIndex}

abbrev pub same_members : List Member → List Member → Bool
same_members [] [] = true
same_members (m ∷ ms) (n ∷ ns) = bytes_eq m.name n.name && (bytes_eq m.source n.source && same_members ms ns)
same_members _ _ = false

-- the first that holds the same
abbrev pub place_in : List Placed → List Member → Option Placed
place_in placed group = find (λ p. same_members p.members group) placed

-- the name and the place of a file
abbrev pub own_texts : Member → List (List ℕ)
own_texts m = m.name ∷ m.source ∷ []

-- those of a group's files, one after another
abbrev pub texts_of : List Member → List (List ℕ)
texts_of group = flat_map own_texts group

-- the number under these texts
abbrev pub number_at : FolderIndex → List (List ℕ) → Option ℕ
number_at index texts = get_by (λ k. slice_cmp name_cmp texts k.items) index.folders

abbrev pub number_of : FolderIndex → List Member → Option ℕ
number_of index group = number_at index (texts_of group)

-- the number of the folder that a group was put into
abbrev pub number_in : FolderIndex → List Member → ℕ
number_in index group = unwrap_or (number_of index group) 0

-- each group's number is that of the first placed one that is the same
abbrev pub IsIndex : FolderIndex → List Placed → Type 0
IsIndex index placed = (group : List Member) → number_of index group ≡ option_map (λ (p : Placed). p.folder) (place_in placed group)
