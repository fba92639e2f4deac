-- What is said of a signal that ended a command.
use Rattle.std.specs.Prelude.{ℕ, ℤ, List, ◌++◌, codes}
use Rattle.std.specs.Fmt.{signed_decimal}

-- a signal by its number and name, and what it may come from
abbrev pub killed_for : (name why : List ℕ) → List ℕ
killed_for name why = codes "killed by signal " ++ name ++ codes ": " ++ why

-- one of which no more is said
abbrev pub killed_by : (signal : ℤ) → List ℕ
killed_by signal = codes "killed by signal " ++ signed_decimal signal
