-- Entries under names.
use Rattle.std.specs.Prelude.{ℕ, List, [], ◌∷◌, Option, Some, None, bytes_eq, if◌then◌else◌}

-- the first one of this name
abbrev pub entry_of : {T : Type 0} → List ℕ → List (List ℕ × T) → Option T
entry_of name [] = None
entry_of name (e ∷ es) = if bytes_eq e.0 name then Some e.1 else entry_of name es
