-- The words of `plan`, in the terms of `clap`, and what they name.
use Rattle.std.specs.Prelude.{List, Bool, codes}
use Rattle.std.specs.List.{fold}
use Rattle.clap.specs.Words.{App, Row, new_app, with_rule}
use Rattle.program_words.specs.Flags.{flag_rule, is_given, with_flags}
use Rattle.program_words.specs.RunWords.{RunWish, input_rules, run_wish, shared_rules, wish_of_run}
use Rattle.program_words.specs.declared.planning.PlanWords.{PlanWords}

abbrev pub plan_command : App
plan_command = fold with_rule (with_flags (with_rule (fold with_rule (new_app (codes "plan")) shared_rules) (flag_rule (codes "dot")))) input_rules

-- what a run with these words would name, and whether a picture of the plan is wanted
pub record PlanWish : Type 0 where
  pub run : RunWish
  pub dot : Bool

-- what the words of `plan` name
abbrev pub plan_wish : List Row → PlanWish
plan_wish rows = record { run = run_wish rows; dot = is_given (codes "dot") rows }

abbrev pub wish_of_plan : PlanWords → PlanWish
wish_of_plan words = record { run = wish_of_run words.run; dot = words.dot }
