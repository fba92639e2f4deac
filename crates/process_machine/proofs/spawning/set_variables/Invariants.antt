use Rattle.std.proofs.Common.{◌≡◌, ℕ, List, take}
use Rattle.std.specs.Process.{SameProgramAndArgs, clears_env, command_var}
use Rattle.process_machine.specs.Launched.{text_behind}
use Rattle.process_machine.proofs.spawning.set_variables.Given as goal

-- the variables so far are set
abbrev pub invariant-loop-variable : goal.invariant-loop-variable
invariant-loop-variable l =
    SameProgramAndArgs l.fn.command l.command × (clears_env l.command ≡ clears_env l.fn.command)
    × ((name : List ℕ) → command_var l.command name ≡ text_behind (command_var l.fn.command name) name (take l.variable-index l.variables))
