-- The words of `run`, in the terms of `clap`, and what they name.
use Rattle.std.specs.Prelude.{◌≡◌, ◌≤◌, ◌++◌, ◌∷◌, [], ℕ, List, Option, Some, None, Bool, true, false, codes, unwrap_or, option_map, if◌then◌else◌}
use Rattle.std.specs.List.{fold}
use Rattle.std.specs.Str.Parse.{IsNumeral, digits_value, without_leading_plus}
use Rattle.clap.specs.Words.{App, Row, Rule, Text, first_of, new_app, new_rule, with_rule}
use Rattle.clap.specs.declared.builder.ArgAction.TheVariants.{Set}
use Rattle.clap.specs.declared.builder.value_parser.ValueParser.TheVariants.{NonEmptyString, Unsigned}
use Rattle.program_words.specs.Flags.{flag_rule, is_given, is_wanted, with_flags}
use Rattle.program_words.specs.Shows.{shows_in}
use Rattle.program_words.specs.declared.run_words.RunWords.{RunWords}
use Rattle.program_words.specs.declared.shows.Shows.{Shows}
use Rattle.program_words.specs.declared.telling.Telling.{Telling}
use Rattle.program_words.specs.declared.telling.Telling.TheVariants.{Nothing, Lines, OneLine, Objects}

-- an argument by its place, and one by its name, as `--work DIR`, whose text is not empty
abbrev pub placed_rule : Text → Bool → Rule
placed_rule id is_required = record (new_rule id) { required = is_required; action = Some Set }

abbrev pub named_rule : Text → Rule
named_rule id = record (new_rule id) { long = Some id; action = Some Set; value_names = 1; parser = Some NonEmptyString }

-- an option with a number within limits, as `--slots N`
abbrev pub numbered_rule : Text → ℕ → ℕ → Rule
numbered_rule id least most = record (named_rule id) { parser = Some (Unsigned least most) }

-- the options of each run, and of each plan of one: its folders, how many jobs run side by side, how often one is started again and what stands before
-- its command, what is kept, how many bytes of it, and what is not read again, and what a load costs
abbrev pub folder_rules : List Rule
folder_rules = named_rule (codes "work") ∷ (named_rule (codes "outdir") ∷ [])

abbrev pub number_rules : List Rule
number_rules = numbered_rule (codes "slots") 1 64 ∷ (numbered_rule (codes "retries") 0 10 ∷ [])

abbrev pub job_rules : List Rule
job_rules = number_rules ++ named_rule (codes "launcher") ∷ []

abbrev pub cache_rules : List Rule
cache_rules = named_rule (codes "record") ∷ (named_rule (codes "archive") ∷ (named_rule (codes "cache") ∷ (numbered_rule (codes "budget") 0 9223372036854775807 ∷ [])))

abbrev pub store_rules : List Rule
store_rules = cache_rules ++ flag_rule (codes "trust-times") ∷ []

abbrev pub cost_rules : List Rule
cost_rules = numbered_rule (codes "base") 0 1000000000000 ∷ (numbered_rule (codes "rate") 1 1000000000000 ∷ [])

abbrev pub shared_rules : List Rule
shared_rules = folder_rules ++ job_rules ++ store_rules ++ cost_rules

-- those of `run` alone: what it tells of its jobs, whether its work folder stays, and what it shows in place of a run's outputs
abbrev pub telling_rules : List Rule
telling_rules = flag_rule (codes "verbose") ∷ (flag_rule (codes "progress") ∷ (flag_rule (codes "progress-json") ∷ []))

abbrev pub keeping_rules : List Rule
keeping_rules = flag_rule (codes "keep") ∷ (flag_rule (codes "keep-failed") ∷ [])

abbrev pub showing_rules : List Rule
showing_rules = flag_rule (codes "validate") ∷ (flag_rule (codes "template") ∷ (flag_rule (codes "print-command") ∷ []))

abbrev pub run_rules : List Rule
run_rules = telling_rules ++ keeping_rules ++ showing_rules

-- the document and the input object
abbrev pub input_rules : List Rule
input_rules = placed_rule (codes "DOCUMENT") true ∷ (placed_rule (codes "INPUTS") false ∷ [])

abbrev pub run_command : App
run_command = fold with_rule (with_flags (fold with_rule (new_app (codes "run")) (shared_rules ++ run_rules))) input_rules

-- how it tells of its jobs: lines of JSON come first, `--verbose` comes before `--progress`, and `--quiet` before all of them
abbrev pub telling_in : List Row → Telling
telling_in rows =
    if is_wanted (codes "progress-json") rows then Objects
    else if is_wanted (codes "verbose") rows then Lines
    else if is_wanted (codes "progress") rows then OneLine
    else Nothing

-- the document, the input object's file where one is named, the two folders, the texts of the two numbers and of the launcher that are given, the
-- record's file, the archive's folder and a cache's where they are named, the text of how many bytes are kept where it is given, whether times are
-- trusted, the texts of what a load costs where they are given, whether the work folder is to stay, and whether it is to stay after a failure, how to tell of the jobs, what to show, and whether to say in
-- words what went wrong
pub record RunWish : Type 0 where
  pub document : Text
  pub inputs : Option Text
  pub work : Text
  pub outdir : Text
  pub slots : Option Text
  pub retries : Option Text
  pub launcher : Option Text
  pub record_file : Option Text
  pub archive : Option Text
  pub cache : Option Text
  pub budget : Option Text
  pub trust_times : Bool
  pub base : Option Text
  pub rate : Option Text
  pub keep : Bool
  pub keep_failed : Bool
  pub telling : Telling
  pub shows : Shows
  pub explain : Bool

-- what the words of `run` name
abbrev pub run_wish : List Row → RunWish
run_wish rows = record {
  document = unwrap_or (first_of (codes "DOCUMENT") rows) (codes "");
  inputs = first_of (codes "INPUTS") rows;
  work = unwrap_or (first_of (codes "work") rows) (codes "cwl-work");
  outdir = unwrap_or (first_of (codes "outdir") rows) (codes ".");
  slots = first_of (codes "slots") rows;
  retries = first_of (codes "retries") rows;
  launcher = first_of (codes "launcher") rows;
  record_file = first_of (codes "record") rows;
  archive = first_of (codes "archive") rows;
  cache = first_of (codes "cache") rows;
  budget = first_of (codes "budget") rows;
  trust_times = is_given (codes "trust-times") rows;
  base = first_of (codes "base") rows;
  rate = first_of (codes "rate") rows;
  keep = is_given (codes "keep") rows;
  keep_failed = is_given (codes "keep-failed") rows;
  telling = telling_in rows;
  shows = shows_in rows;
  explain = is_wanted (codes "explain") rows;
}

abbrev pub wish_of_run : RunWords → RunWish
wish_of_run words = record {
  document = words.document.now;
  inputs = option_map (λ s. s.now) words.inputs;
  work = words.work.now;
  outdir = words.outdir.now;
  slots = option_map (λ s. s.now) words.slots;
  retries = option_map (λ s. s.now) words.retries;
  launcher = option_map (λ s. s.now) words.launcher;
  record_file = option_map (λ s. s.now) words.record_file;
  archive = option_map (λ s. s.now) words.archive;
  cache = option_map (λ s. s.now) words.cache;
  budget = option_map (λ s. s.now) words.budget;
  trust_times = words.trust_times;
  base = option_map (λ s. s.now) words.base;
  rate = option_map (λ s. s.now) words.rate;
  keep = words.keep;
  keep_failed = words.keep_failed;
  telling = words.telling;
  shows = words.shows;
  explain = words.explain;
}

-- ---- the numbers

-- the text is a decimal of this number, which is within the limits
pub record IsDecimal (least most : ℕ) (text : Text) (number : ℕ) : Type 0 where
  pub numeral : IsNumeral 10 (without_leading_plus text)
  pub value : number ≡ digits_value 10 (without_leading_plus text)
  pub is_enough : least ≤ number
  pub is_within : number ≤ most

-- the number that an option gives
pub data IsChosen (least most other : ℕ) : Option Text → ℕ → Type 0 where
  -- its text's
  written : (text : Text) (number : ℕ) → IsDecimal least most text number → IsChosen least most other (Some text) number
  -- another, where it has no text
  absent : IsChosen least most other None other
  -- or none that is such a decimal, which `clap` refuses
  unread : (text : Text) → ((number : ℕ) → IsDecimal least most text number → ⊥) → IsChosen least most other (Some text) other

-- how many bytes are kept at most, where an option says so
pub data IsBudget : Option Text → Option ℕ → Type 0 where
  unlimited : IsBudget None None
  limited : (text : Text) (number : ℕ) → IsChosen 0 9223372036854775807 9223372036854775807 (Some text) number → IsBudget (Some text) (Some number)
