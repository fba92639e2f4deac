-- What a command that reads may leave to a crash.
use Rattle.std.specs.Prelude.{◌⊎◌, IsTrue}
use Rattle.sqlite.specs.Tree.{Trees}
use Rattle.sqlite.specs.State.{State}

-- a call that runs no statement
pub record IsIdle (old new : State) : Type 0 where
  pub was_open : IsTrue new.is_open → IsTrue old.is_open
  pub crash : (trees : Trees) → new.may_leave trees → old.may_leave trees

-- a statement runs only on an open connection
abbrev pub RunsOpen : State → State → Type 0
RunsOpen old new = IsTrue old.is_open ⊎ IsIdle old new
