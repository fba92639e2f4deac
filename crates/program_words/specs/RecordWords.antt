-- The words of `record`, in the terms of `clap`, and what they name.
use Rattle.std.specs.Prelude.{List, [], ◌∷◌, ◌++◌, Option, Bool, true, codes, unwrap_or, option_map}
use Rattle.std.specs.List.{fold}
use Rattle.clap.specs.Words.{App, Row, Rule, Text, first_of, new_app, with_rule}
use Rattle.program_words.specs.Flags.{flag_rule, is_given, is_wanted, with_flags}
use Rattle.program_words.specs.RunWords.{named_rule, numbered_rule, placed_rule}
use Rattle.program_words.specs.declared.record_words.RecordWords.{RecordWords}

-- the options of `record` alone: those that change a record, and those that look at it
abbrev pub changing_rules : List Rule
changing_rules = named_rule (codes "forget") ∷ (numbered_rule (codes "budget") 0 9223372036854775807 ∷ [])

abbrev pub looking_rules : List Rule
looking_rules = flag_rule (codes "long") ∷ (flag_rule (codes "check") ∷ (flag_rule (codes "remove") ∷ []))

abbrev pub record_rules : List Rule
record_rules = changing_rules ++ looking_rules

abbrev pub record_command : App
record_command = with_rule (with_flags (fold with_rule (new_app (codes "record")) record_rules)) (placed_rule (codes "FILE") true)

-- the record's file, the SHA-1 of the keys whose rows are to be forgotten, where one is given, the text of how many bytes of files are to be
-- left, where one is given, whether to show what the rows are of, whether to compare a cache's files with its record, whether to remove the
-- folders that no row knows, and whether to say in words what went wrong
pub record RecordWish : Type 0 where
  pub file : Text
  pub forget : Option Text
  pub budget : Option Text
  pub long : Bool
  pub check : Bool
  pub remove : Bool
  pub explain : Bool

-- what the words of `record` name
abbrev pub record_wish : List Row → RecordWish
record_wish rows = record {
  file = unwrap_or (first_of (codes "FILE") rows) (codes "");
  forget = first_of (codes "forget") rows;
  budget = first_of (codes "budget") rows;
  long = is_given (codes "long") rows;
  check = is_given (codes "check") rows;
  remove = is_given (codes "remove") rows;
  explain = is_wanted (codes "explain") rows;
}

abbrev pub wish_of_record : RecordWords → RecordWish
wish_of_record words = record {
  file = words.file.now;
  forget = option_map (λ s. s.now) words.forget;
  budget = option_map (λ s. s.now) words.budget;
  long = words.long;
  check = words.check;
  remove = words.remove;
  explain = words.explain;
}
