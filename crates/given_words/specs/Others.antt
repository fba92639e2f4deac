-- What is answered to the options of another runner, `cwltool`, that are none of this program.
use Rattle.std.specs.Prelude.{ℕ, List, [], ◌∷◌, Option, option_map, codes, bytes_eq, find, map}
use Rattle.std.specs.List.{list_any}
use Rattle.given_words.specs.declared.other_words.Other.{Other}

-- options, and what does the same here
pub record Entry : Type 0 where
  pub options : List (List ℕ)
  pub answer : List ℕ

-- an entry of the program's table
abbrev pub entry_of : Other → Entry
entry_of other = record { options = map (λ name. name.now) other.options.now; answer = other.answer.now }

unfoldable pub entries : List Entry
entries =
    record { options = codes "--no-container" ∷ codes "--singularity" ∷ codes "--podman" ∷ codes "--udocker" ∷ codes "--docker" ∷ codes "--default-container" ∷ codes "--force-docker-pull" ∷ codes "--disable-pull" ∷ codes "--no-match-user" ∷ codes "--no-read-only" ∷ codes "--user-space-docker-cmd" ∷ []; answer = codes "no containers are run: tools are taken from PATH, so leave it out" } ∷
    record { options = codes "--cachedir" ∷ []; answer = codes "`--cache DIR` keeps what jobs give" } ∷
    record { options = codes "--debug" ∷ codes "--timestamps" ∷ []; answer = codes "`--verbose` says when each job starts and ends, and shows its messages" } ∷
    record { options = codes "--tmpdir-prefix" ∷ codes "--tmp-outdir-prefix" ∷ codes "--basedir" ∷ []; answer = codes "`--work DIR` is the folder for the jobs" } ∷
    record { options = codes "--leave-tmpdir" ∷ codes "--leave-outputs" ∷ codes "--leave-container" ∷ []; answer = codes "`--keep` leaves the work folder, `--keep-failed` after a failure alone" } ∷
    record { options = codes "--rm-tmpdir" ∷ codes "--rm-container" ∷ codes "--move-outputs" ∷ []; answer = codes "the work folder is removed at the end, and outputs are moved: leave it out" } ∷
    record { options = codes "--make-template" ∷ []; answer = codes "`--template` prints an input object to fill in" } ∷
    record { options = codes "--print-dot" ∷ []; answer = codes "`deparohi plan --dot` prints a picture of the plan" } ∷
    record { options = codes "--no-warnings" ∷ []; answer = codes "`--quiet` says no more than what came of it" } ∷
    record { options = codes "--enable-dev" ∷ codes "--enable-ext" ∷ codes "--strict" ∷ codes "--non-strict" ∷ codes "--relax-path-checks" ∷ []; answer = codes "a document is read by CWL v1.2 alone: leave it out" } ∷
    record { options = codes "--js-console" ∷ codes "--eval-timeout" ∷ codes "--js" ∷ []; answer = codes "JavaScript is not evaluated" } ∷
    record { options = codes "--preserve-environment" ∷ codes "--preserve-entire-environment" ∷ []; answer = codes "a tool gets HOME, TMPDIR, PATH and what its EnvVarRequirement names" } ∷
    record { options = codes "--on-error" ∷ []; answer = codes "a run ends at the first job that fails, as with `stop`" } ∷ []

-- what is answered to an option, if it is among them
abbrev pub answer_to : List ℕ → Option (List ℕ)
answer_to option = option_map (λ entry. entry.answer) (find (λ entry. list_any (bytes_eq option) entry.options) entries)
