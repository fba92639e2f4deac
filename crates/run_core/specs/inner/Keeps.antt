-- What the machine keeps of the events of its run.
use Rattle.std.specs.Prelude.{◌≡◌, ◌≤◌, ◌+◌, ◌||◌, ℕ, true, false, List, Option, Some, None, Contains, is_some, length, map, option_map}
use Rattle.std.specs.List.{list_any}
use Rattle.job_graph.specs.Jobs.{Job}
use Rattle.run_rules.specs.End.{is_lost_collect, settled}
use Rattle.run_rules.specs.Events.{Event, Started, are_measured, delivered_at, is_lost, measures, resolved, started_at, unfolding_at, row_at}
use Rattle.run_rules.specs.Reports.{outcome_of, notes_of}
use Rattle.run_rules.specs.Scene.{Scene}
use Rattle.run_rules.proofs.events.Course.{Course as Books, Keeps as AreKept}
use Rattle.run_rules.proofs.events.Known.{IsFront}
use Rattle.run_rules.proofs.events.Lookups.{LooksUp}
use Rattle.run_rules.proofs.events.Places.{IsJob}
use Rattle.run_rules.proofs.events.Tally.{readings}
use Rattle.run_core.specs.declared.state.Course.{Course}
use Rattle.run_core.specs.declared.state.Flight.{Flight}
use Rattle.run_core.specs.inner.Course.{Past, is_lost_in, known_in, past_of}
use Rattle.run_core.specs.inner.Due.{IsKept}
use Rattle.run_core.specs.inner.JobStates.{is_there, state_at, waits_in}
use Rattle.run_core.specs.inner.Knows.{IsKnown}
use Rattle.job_rows.specs.declared.row.Row.{Row}
use Rattle.run_core.specs.inner.FoundRows.{row_in}

abbrev pub numbers_of : List Flight → List ℕ
numbers_of flights = map (λ flight. flight.job) flights

-- the books of jobs by their numbers, with the number of the job that is worked on, and how often each failed for now
abbrev pub course_of : Past → Option ℕ → (ℕ → ℕ) → Books
course_of past at_work gave_up = record {
  tickets = past.tickets;
  numbers = numbers_of past.flights;
  waits = waits_in past.jobs;
  at_hand = is_there past.jobs;
  folder = λ n. (state_at past.jobs n).folder;
  fetched = λ n. (state_at past.jobs n).fetched;
  gave_up = gave_up;
  folders = past.folders;
  at_work = at_work;
  over = is_some past.end;
}

-- how many slots the job that is worked on takes
abbrev pub worked : Option ℕ → ℕ
worked None = 0
worked (Some number) = 1

-- a child in flight was started by what is kept of it
pub record KeepsFlight (es : List Event) (jobs : List Job) (flight : Flight) : Type 0 where
  pub job : Job
  pub it : IsJob jobs flight.job job
  pub started : Started
  pub at : started_at es job.place ≡ Some started
  pub kept : IsKept flight.kept started

-- the jobs that are known are the first of those of the rules, and no others were touched; how often each failed for now is counted until the
-- end is settled
pub record Keeps (s : Scene) (es : List Event) (jobs : List Job) (past : Past) (at_work : Option ℕ) : Type 0 where
  pub gave_up : ℕ → ℕ
  pub books : AreKept jobs (readings es) (course_of past at_work gave_up)
  pub few : length past.jobs ≤ length jobs
  pub counts : past.end ≡ None → (number : ℕ) → gave_up number ≡ (state_at past.jobs number).gave_up
  pub retries : (number : ℕ) → (state_at past.jobs number).gave_up ≤ s.options.retries
  pub slots : length past.tickets + worked at_work ≤ s.options.slots
  pub flights : (flight : Flight) → Contains past.flights flight → KeepsFlight es jobs flight
  pub front : IsFront jobs (unfolding_at s es).jobs
  pub end : past.end ≡ option_map outcome_of (settled s es)

-- the rows that were found are kept by the numbers of their jobs, which were looked for
pub record AreFound (jobs : List Job) (es : List Event) (rows : List (Option Row)) (looked_up : ℕ) : Type 0 where
  pub few : length rows ≤ looked_up
  pub each : (n : ℕ) (job : Job) → IsJob jobs n job → row_at es job.place ≡ row_in rows n

-- the files of a job were asked for: they are at hand, or the archive of its row is lost
pub record IsTriedOnce (past : Past) (number : ℕ) : Type 0 where
  pub row : Row
  pub found : row_in past.rows number ≡ Some row
  pub gone : (is_there past.jobs number || is_lost_in past.lost row.key) ≡ true

pub record AreTriedOnce (past : Past) : Type 0 where
  pub each : (number : ℕ) → (state_at past.jobs number).tried ≡ true → IsTriedOnce past number
  -- and where files are of a fetch, the job's outputs are at hand
  pub there : (number : ℕ) → (state_at past.jobs number).fetched ≡ true → is_there past.jobs number ≡ true

-- a course is what has happened, with the number of the job that is worked on: no collect has failed, nothing was delivered, and unless
-- the end is settled each input file is measured and all is known by the rules
pub record Reflects (s : Scene) (es : List Event) (course : Course) (at_work : Option ℕ) : Type 0 where
  pub keeps : Keeps s es (known_in course.known) (past_of course) at_work
  pub measured : course.end ≡ None → are_measured s es ≡ true
  pub knows : course.end ≡ None → IsKnown (s.walker (measures es)) (resolved es) course.known
  pub collects : list_any is_lost_collect es ≡ false
  pub undelivered : delivered_at es ≡ None
  pub looks : LooksUp (known_in course.known) es course.looked_up
  pub rows : AreFound (known_in course.known) es course.rows course.looked_up
  pub notes : course.notes.items ≡ notes_of es
  pub lost : (key : List ℕ) → is_lost es key ≡ is_lost_in course.lost.items key
  pub tried : AreTriedOnce (past_of course)
