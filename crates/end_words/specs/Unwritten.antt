-- What is said of a run whose record could be read and not written: it came to the end of its jobs, and kept nothing of them.
use Rattle.std.specs.Prelude.{ℕ, List, [], ◌∷◌, ◌++◌, Bool, true, false, Option, Some, codes, option_map, if◌then◌else◌}
use Rattle.program_words.specs.declared.savings.Savings.{Savings}
use Rattle.end_words.specs.Told.{unkept_words}
use Rattle.end_words.specs.declared.exit.Exit.{Exit}
use Rattle.end_words.specs.declared.exit.Exit.TheVariants.{Output, Permanent, Temporary}

-- the jobs of a run led to this end
abbrev pub is_of_jobs : Exit → Bool
is_of_jobs (Output line) = true
is_of_jobs (Permanent place cause) = true
is_of_jobs (Temporary place) = true
is_of_jobs exit = false

-- what was not kept, with the file of the record
abbrev pub unwritten_words : (file : List ℕ) → List ℕ
unwritten_words file = codes "the jobs of this run, since " ++ file ++ codes " may not be written"

abbrev pub none_kept : Savings → Savings
none_kept savings = record savings { kept = Some 0 }

module _ (exit : Exit) (file : List ℕ) where
  abbrev pub unkept_of : Option (List ℕ) → Option (List ℕ)
  unkept_of unkept = if is_of_jobs exit then Some (unwritten_words file) else unkept

  -- it is the last line on what failed, too
  abbrev pub notes_of : List (List ℕ) → List (List ℕ)
  notes_of notes = if is_of_jobs exit then notes ++ (unkept_words (unwritten_words file) ∷ []) else notes

-- of the jobs that were computed none was kept
abbrev pub savings_of : Exit → Option Savings → Option Savings
savings_of exit savings = if is_of_jobs exit then option_map none_kept savings else savings
