use Rattle.std.proofs.Common.{◌≡◌, ◌++◌, take}
use Rattle.std.specs.Process.{SameEnv, command_args, command_program}
use Rattle.process_machine.proofs.spawning.add_words.Given as goal

-- the words so far are the last arguments
abbrev pub invariant-loop-word : goal.invariant-loop-word
invariant-loop-word l =
    (command_args l.command ≡ command_args l.fn.command ++ take l.word-index l.words) × (command_program l.command ≡ command_program l.fn.command)
    × SameEnv l.fn.command l.command
