-- What is said of the jobs of a run that failed, in numbers: each with its words, and none that is 0.
use Rattle.std.specs.Prelude.{ℕ, ◌+◌, ◌-◌, ◌==◌, List, ◌++◌, length, Option, Some, None, codes, decimal, if◌then◌else◌}
use Rattle.std.specs.List.{list_any}
use Rattle.end_words.specs.declared.tally.Counted.{Counted}
use Rattle.end_words.specs.declared.tally.Named.{Named}
use Rattle.end_words.specs.declared.tally.Named.TheVariants.{Child, Job, Step}
use Rattle.end_words.specs.declared.tally.Tally.{Tally}

-- 1 for a job whose command has not failed
abbrev pub undone_child : (failed : List ℕ) → (ticket : ℕ) → ℕ
undone_child failed ticket = if list_any (λ one. one == ticket) failed then 0 else 1

-- how many jobs failed whose command didn't: the one that the end names, at most
abbrev pub unsaid_of : (failed : List ℕ) → Named → ℕ
unsaid_of failed (Child ticket) = undone_child failed ticket
unsaid_of failed Job = 1
unsaid_of failed Step = 0

-- those of them whose command was started
abbrev pub undone_of : (failed : List ℕ) → Named → ℕ
undone_of failed (Child ticket) = undone_child failed ticket
undone_of failed Job = 0
undone_of failed Step = 0

-- A job is done if its command was started and has not failed, and the end doesn't name it; it failed if its command did or the end names it.
abbrev pub tally_of : Counted → (failed : List ℕ) → Named → Tally
tally_of counted failed named = record {
  known = counted.known;
  before = counted.before;
  done = counted.started - length failed - undone_of failed named;
  kept = counted.kept;
  failed = length failed + unsaid_of failed named;
}

-- `, WORDS: NUMBER` behind a line
abbrev pub longer : (line words : List ℕ) → ℕ → List ℕ
longer line words number = line ++ codes ", " ++ words ++ codes ": " ++ decimal number

abbrev pub with_part : (line words : List ℕ) → ℕ → List ℕ
with_part line words number = if number == 0 then line else longer line words number

abbrev pub with_done : (line : List ℕ) → (done : ℕ) → (kept : Option ℕ) → List ℕ
with_done line done None = with_part line (codes "done") done
with_done line done (Some kept) = with_part (with_part line (codes "done and kept") kept) (codes "done and not kept") (done - kept)

-- those of which no command was started
abbrev pub left_of : Tally → ℕ
left_of tally = tally.known - tally.before - tally.done - tally.failed

-- the jobs that are known, those that were kept before, and those that were done
abbrev pub with_jobs : Tally → List ℕ
with_jobs tally = with_done (with_part (codes "known jobs: " ++ decimal tally.known) (codes "kept before") tally.before) tally.done tally.kept

-- `known jobs: N, kept before: N, done and kept: N, done and not kept: N, failed: N, not started: N`; without a cache `done: N`
abbrev pub tally_line : Tally → List ℕ
tally_line tally = with_part (with_part (with_jobs tally) (codes "failed") tally.failed) (codes "not started") (left_of tally)

-- what a cache would have kept
abbrev pub cache_line : (done : ℕ) → List ℕ
cache_line done =
    if done == 1 then codes "`--cache DIR` would have kept the job that was done: the next run would not do it again"
    else codes "`--cache DIR` would have kept the " ++ decimal done ++ codes " jobs that were done: the next run would not do them again"
