use Rattle.std.proofs.Common.{◌≡◌, ◌++◌, ◌∷◌, [], codes, flat_map, take}
use Rattle.std.specs.Process.{SameEnv, command_args, command_program}
use Rattle.process_machine.proofs.spawning.hide.Given as goal

-- the words that hide the variables so far are the last arguments
abbrev pub invariant-loop-variable : goal.invariant-loop-variable
invariant-loop-variable l =
    (command_args l.command ≡ command_args l.fn.command ++ codes "env" ∷ flat_map (λ variable. codes "-u" ∷ variable.name ∷ []) (take l.variable-index l.told))
    × (command_program l.command ≡ command_program l.fn.command) × SameEnv l.fn.command l.command
