-- The words that the program takes, in the terms of `clap`, and what they ask for.
use Rattle.std.specs.Prelude.{◌≡◌, List, [], Option, Some, None, Bool, true, false, codes, unwrap_or, if◌then◌else◌}
use Rattle.std.specs.Str.{bytes_eq}
use Rattle.clap.specs.Words.{App, Row, Rule, Text, fault_of, first_of, new_app, new_rule, subcommand_of, with_rule, with_subcommand}
use Rattle.clap.specs.declared.builder.ArgAction.TheVariants.{Set}
use Rattle.program_words.specs.declared.command.Choice.{Choice}
use Rattle.program_words.specs.declared.command.Choice.TheVariants.{Demo, Check, Run, Plan, Record}
use Rattle.program_words.specs.Flags.{is_wanted, with_flags}
use Rattle.program_words.specs.PlanWords.{PlanWish, plan_command, plan_wish, wish_of_plan}
use Rattle.program_words.specs.RecordWords.{RecordWish, record_command, record_wish, wish_of_record}
use Rattle.program_words.specs.RunWords.{RunWish, run_command, run_wish, wish_of_run}

abbrev pub file_rule : Rule
file_rule = record (new_rule (codes "CERTIFICATE")) { required = true; action = Some Set }

abbrev pub check_command : App
check_command = with_flags (with_rule (new_app (codes "check")) file_rule)

abbrev pub demo_command : App
demo_command = with_flags (new_app (codes "demo"))

abbrev pub needing_subcommand : App → App
needing_subcommand command = record command { top = record command.top { subcommand_required = true } }

abbrev pub versioned : App → App
versioned command = record command { top = record command.top { has_version = true } }

-- the program's command with `demo` alone
abbrev pub with_demo : App
with_demo = with_subcommand (needing_subcommand (versioned (new_app (codes "deparohi")))) demo_command.top

-- and with its other subcommands
abbrev pub with_check : App
with_check = with_subcommand with_demo check_command.top

abbrev pub with_run : App
with_run = with_subcommand with_check run_command.top

abbrev pub with_plan : App
with_plan = with_subcommand with_run plan_command.top

abbrev pub command_line : App
command_line = with_subcommand with_plan record_command.top

-- what words can ask for: the demo, a certificate's file to be checked, a run, a plan of one, or a record to be shown; and whether to say in
-- words what went wrong
pub data Wish : Type 0 where
  demo : Bool → Wish
  check : Text → Bool → Wish
  run : RunWish → Wish
  planned : PlanWish → Wish
  shown : RecordWish → Wish

-- what the words of `check` ask for
abbrev pub check_wish : List Row → Wish
check_wish rows = check (unwrap_or (first_of (codes "CERTIFICATE") rows) (codes "")) (is_wanted (codes "explain") rows)

-- what a subcommand with these rows asks for
abbrev pub wish_in : Text × List Row → Wish
wish_in command =
    if bytes_eq command.0 (codes "check") then check_wish command.1
    else if bytes_eq command.0 (codes "run") then run (run_wish command.1)
    else if bytes_eq command.0 (codes "plan") then planned (plan_wish command.1)
    else if bytes_eq command.0 (codes "record") then shown (record_wish command.1)
    else demo (is_wanted (codes "explain") command.1)

abbrev pub wished : Option (Text × List Row) → Wish
wished None = demo false
wished (Some command) = wish_in command

-- words that are taken ask for what their subcommand asks for
pub data Asks (words : List Text) : Wish → Type 0 where
  asks : fault_of command_line words ≡ [] → Asks words (wished (subcommand_of command_line words))

abbrev pub wish_of : Choice → Wish
wish_of (Demo explains) = demo explains
wish_of (Check file explains) = check file.now explains
wish_of (Run words) = run (wish_of_run words)
wish_of (Plan words) = planned (wish_of_plan words)
wish_of (Record words) = shown (wish_of_record words)
