-- The two parts of a file's name (CWL v1.2, "File": nameroot and nameext).
use Rattle.std.specs.Prelude.{ℕ, Bool, not, ◌==◌, if◌then◌else◌, List, length, drop}
use Rattle.std.specs.List.{before_last, list_any}

abbrev pub is_period : ℕ → Bool
is_period c = c == 46

-- some character isn't a period
abbrev pub has_other : List ℕ → Bool
has_other = list_any (λ c. not (is_period c))

-- what is before the last period, where that has more than periods, else the whole name
abbrev pub nameroot : List ℕ → List ℕ
nameroot name = if has_other (before_last is_period name) then before_last is_period name else name

-- the rest of the name: the last period and what follows it, or nothing
abbrev pub nameext : List ℕ → List ℕ
nameext name = drop (length (nameroot name)) name
