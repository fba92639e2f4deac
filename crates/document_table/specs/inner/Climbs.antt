-- For private clauses: names of which each is above the one before it.
use Rattle.std.specs.Prelude.{ℕ, Bool, true, ◌&&◌, List, [], ◌∷◌}
use Rattle.std.specs.Cmp.Lexicographic.{slice_cmp}
use Rattle.std.specs.Ordering.{is_lt, nat_cmp}

-- the first of them is above this one
abbrev pub climb_from : List ℕ → List (List ℕ) → Bool
climb_from last [] = true
climb_from last (name ∷ names) = is_lt (slice_cmp nat_cmp last name) && climb_from name names

abbrev pub climb : List (List ℕ) → Bool
climb [] = true
climb (name ∷ names) = climb_from name names
