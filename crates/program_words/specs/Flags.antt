-- The options without a value, in the terms of `clap`, and those that each command takes.
use Rattle.std.specs.Prelude.{◌≡◌, List, Some, Bool, false, codes, unwrap_or, if◌then◌else◌}
use Rattle.std.specs.Str.{bytes_eq}
use Rattle.clap.specs.Words.{App, Row, Rule, Text, first_of, new_rule, with_rule}
use Rattle.clap.specs.declared.builder.ArgAction.TheVariants.{SetTrue}
use Rattle.clap.specs.declared.builder.command.Command.{Command}
use Rattle.clap.specs.declared.builder.command.Command.TheViews.{out-Command}

-- an option without a value, as `--explain`
abbrev pub flag_rule : Text → Rule
flag_rule id = record (new_rule id) { long = Some id; action = Some SetTrue }

-- a command with the two options that each command takes
abbrev pub with_flags : App → App
with_flags command = with_rule (with_rule command (flag_rule (codes "explain"))) (flag_rule (codes "quiet"))

-- none of its arguments is one of its subcommands' too
abbrev pub IsLocal : Command → Type 0
IsLocal command = (out-Command command).has_globals ≡ false

-- the option is there
abbrev pub is_given : Text → List Row → Bool
is_given id rows = bytes_eq (unwrap_or (first_of id rows) (codes "")) (codes "true")

-- the option is there, and `--quiet` does not take it back
abbrev pub is_wanted : Text → List Row → Bool
is_wanted id rows = if is_given (codes "quiet") rows then false else is_given id rows
