-- What bounds a run and what it blames on its host, as what has happened goes on.
use Rattle.std.specs.Prelude.{slice_get}
use Rattle.std.proofs.Common.{◌≡◌, ℕ, true, false, ◌+◌, ◌<◌, ◌≤◌, List, Option, Some, None, Result, sym, subst, arith}
use Rattle.plan_checker.specs.declared.graph.TheConstants.{MOST_VERTICES}
use Rattle.proc_host.specs.declared.call.Entry.{Entry}
use Rattle.job_graph.specs.Unfold.{or_else}
use Rattle.run_rules.specs.declared.outcome.Outcome.{Outcome}
use Rattle.run_rules.specs.declared.outcome.RunFault.{RunFault}
use Rattle.run_rules.specs.declared.setting.Options.{Options}
use Rattle.plan_keeper.specs.declared.planned.Planned.{Planned}
use Rattle.run_core.specs.declared.state.Flight.{Flight}
use Rattle.run_core.specs.declared.job_states.JobState.{JobState}
use Rattle.run_core.specs.declared.state.Kept.{Kept}
use Rattle.run_core.specs.inner.Attempts.{IsBounded}
use Rattle.run_core.specs.inner.Course.{Past, TakesOut, with_answer, with_end, with_giving_up, with_staging, with_start, with_note, with_hand, with_load, with_loss, with_plan}
use Rattle.run_core.specs.inner.Standing.{BlamesSoFar, SettlesRightly}
use Rattle.run_core.proofs.standing.Tries.{gave_up_before, gave_up_once_more, gave_up_staged, length_before, tries_before, tries_given_up, tries_staged, gave_up_brought, tries_brought, gave_up_before_missing, gave_up_loaded, gave_up_missed, length_before_missing, length_loaded, tries_before_missing, tries_loaded, tries_missed}
use Rattle.run_core.specs.inner.JobStates.{state_at, waits_in}
use Rattle.run_core.proofs.States.{brought_length, given_up_length, missed_few, staged_few}
use Rattle.run_rules.specs.declared.request.RecordAnswer.{RecordAnswer}
use Rattle.run_rules.specs.declared.outcome.Note.{Note}

pub record Books (options : Options) (entries : List Entry) (past : Past) : Type 0 where
  pub bounded : IsBounded options past
  pub blames : BlamesSoFar entries past

-- where the job of a number is to be staged
pub record BooksAt (options : Options) (entries : List Entry) (past : Past) (number : ℕ) : Type 0 where
  pub bounded : IsBounded options (with_staging number past)
  pub blames : BlamesSoFar entries past

-- where its files are to be fetched
pub record BooksFetching (options : Options) (entries : List Entry) (past : Past) (number : ℕ) : Type 0 where
  pub bounded : IsBounded options (with_loss number past)
  pub blames : BlamesSoFar entries past

settled_with : (entries : List Entry) (first : Option (Result Outcome RunFault)) (end its : Result Outcome RunFault) →
    ((one : Result Outcome RunFault) → first ≡ Some one → SettlesRightly entries one) → SettlesRightly entries end → or_else first (Some end) ≡ Some its →
    SettlesRightly entries its
settled_with entries None end its before now is = let same : end ≡ its = cc in subst (λ (e : Result Outcome RunFault). SettlesRightly entries e) same now
settled_with entries (Some one) end its before now is = before its is

module _ (options : Options) (entries : List Entry) (past : Past) where
  pub books_end : (end : Result Outcome RunFault) → SettlesRightly entries end → Books options entries past → Books options entries (with_end end past)
  books_end end now books = record {
    bounded = record { jobs = books.bounded.jobs; retries = books.bounded.retries; folders = books.bounded.folders };
    blames = record { settled = λ its is. settled_with entries past.end end its books.blames.settled now is };
  }

  pub books_start : (number : ℕ) (kept : Kept) (ticket : ℕ) → Books options entries past → Books options entries (with_start number kept ticket past)
  books_start number kept ticket books = record {
    bounded = record { jobs = books.bounded.jobs; retries = books.bounded.retries; folders = books.bounded.folders };
    blames = record { settled = books.blames.settled };
  }

  pub books_landed : (ticket : ℕ) (flight : Flight) (new : Past) → TakesOut ticket flight past new → Books options entries past → Books options entries new
  books_landed ticket flight new taken books =
      subst (λ (p : Past). Books options entries p) (sym taken.is) (record {
        bounded = record { jobs = books.bounded.jobs; retries = books.bounded.retries; folders = books.bounded.folders };
        blames = record { settled = books.blames.settled };
      })

  -- the row of a job was looked for
  pub books_looked : (number : ℕ) (answer : RecordAnswer) → Books options entries past → Books options entries (with_answer number answer None past)
  books_looked number answer books = record {
    bounded = record { jobs = books.bounded.jobs; retries = books.bounded.retries; folders = books.bounded.folders };
    blames = record { settled = books.blames.settled };
  }

  -- something was noted
  pub books_noted : (note : Note) → Books options entries past → Books options entries (with_note note past)
  books_noted note books = record {
    bounded = record { jobs = books.bounded.jobs; retries = books.bounded.retries; folders = books.bounded.folders };
    blames = record { settled = books.blames.settled };
  }

  -- a plan was made
  pub books_planned : (after : ℕ) (made : Planned) → Books options entries past → Books options entries (with_plan after made past)
  books_planned after made books = record {
    bounded = record { jobs = books.bounded.jobs; retries = books.bounded.retries; folders = books.bounded.folders };
    blames = record { settled = books.blames.settled };
  }

  -- A job is staged

  pub books_staged : (number : ℕ) → BooksAt options entries past number → Books options entries (with_staging number past)
  books_staged number books = record {
    bounded = books.bounded;
    blames = record { settled = books.blames.settled };
  }

  -- it is not, since the call failed
  pub books_unstaged : (number : ℕ) → BooksAt options entries past number → Books options entries past
  books_unstaged number books =
      let b : IsBounded options (with_staging number past) = books.bounded in
      record {
        bounded = record {
          jobs = omega (arith, length_before past.jobs number (past.folders + 1), b.jobs);
          retries = gave_up_before options.retries past.jobs number (past.folders + 1) b.retries;
          folders = omega (arith, tries_before past.jobs number (past.folders + 1), b.folders);
        };
        blames = books.blames;
      }

  -- one that waits may be
  pub books_waiting : (number known : ℕ) → number < known → known ≤ MOST_VERTICES → waits_in past.jobs number ≡ true → Books options entries past →
      BooksAt options entries past number
  books_waiting number known within few waits books = record {
    bounded = record {
      jobs = staged_few past.jobs number (past.folders + 1) MOST_VERTICES (omega (arith, within, few)) books.bounded.jobs;
      retries = gave_up_staged options.retries past.jobs number (past.folders + 1) books.bounded.retries;
      folders = omega (arith, tries_staged past.jobs number (past.folders + 1) waits, books.bounded.folders);
    };
    blames = books.blames;
  }

  -- The files of one are fetched

  pub books_missed : (number : ℕ) → BooksFetching options entries past number → Books options entries (with_loss number past)
  books_missed number books = record { bounded = books.bounded; blames = record { settled = books.blames.settled } }

  pub books_loaded : (number : ℕ) → BooksFetching options entries past number → Books options entries (with_load number past)
  books_loaded number books =
      let b : IsBounded options (with_loss number past) = books.bounded in
      record {
        bounded = record {
          jobs = omega (arith, length_loaded past.jobs number (past.folders + 1), b.jobs);
          retries = gave_up_loaded options.retries past.jobs number (past.folders + 1) b.retries;
          folders = omega (arith, tries_loaded past.jobs number (past.folders + 1), b.folders);
        };
        blames = record { settled = books.blames.settled };
      }

  -- they are not, since the call failed
  pub books_unfetched : (number : ℕ) → BooksFetching options entries past number → Books options entries past
  books_unfetched number books =
      let b : IsBounded options (with_loss number past) = books.bounded in
      record {
        bounded = record {
          jobs = omega (arith, length_before_missing past.jobs number, b.jobs);
          retries = gave_up_before_missing options.retries past.jobs number b.retries;
          folders = omega (arith, tries_before_missing past.jobs number, b.folders);
        };
        blames = books.blames;
      }

  -- those that were not asked for before may be
  pub books_untried : (number known : ℕ) → number < known → known ≤ MOST_VERTICES → (state_at past.jobs number).tried ≡ false → Books options entries past →
      BooksFetching options entries past number
  books_untried number known within few untried books = record {
    bounded = record {
      jobs = missed_few past.jobs number MOST_VERTICES (omega (arith, within, few)) books.bounded.jobs;
      retries = gave_up_missed options.retries past.jobs number books.bounded.retries;
      folders = omega (arith, tries_missed past.jobs number untried, books.bounded.folders);
    };
    blames = books.blames;
  }

  -- The outputs of one are at hand
  pub books_brought : (number : ℕ) → Books options entries past → Books options entries (with_hand number past)
  books_brought number books = record {
    bounded = record {
      jobs = omega (arith, brought_length past.jobs number, books.bounded.jobs);
      retries = gave_up_brought options.retries past.jobs number books.bounded.retries;
      folders = omega (arith, tries_brought past.jobs number, books.bounded.folders);
    };
    blames = record { settled = books.blames.settled };
  }

  -- A job gave up
  bounded_given_up : (number : ℕ) (state : JobState) → slice_get past.jobs number ≡ Some state → state.gave_up < options.retries → IsBounded options past →
      IsBounded options (with_giving_up number past)
  bounded_given_up number state there few bounded = record {
    jobs = omega (arith, given_up_length past.jobs number, bounded.jobs);
    retries = gave_up_once_more options.retries past.jobs number state there few bounded.retries;
    folders = omega (arith, tries_given_up past.jobs number, bounded.folders);
  }

  pub books_given_up : (number : ℕ) (state : JobState) → slice_get past.jobs number ≡ Some state → state.gave_up < options.retries → Books options entries past →
      Books options entries (with_giving_up number past)
  books_given_up number state there few books = record {
    bounded = bounded_given_up number state there few books.bounded;
    blames = record { settled = books.blames.settled };
  }
