-- How many answers a run takes at most: each staging is one of so many, and each phase and each child in flight takes so many at most.
use Rattle.std.specs.Prelude.{ℕ, Bool, true, false, ◌+◌, ◌*◌, ◌-◌, ◌^◌, ◌≤◌, List, [], ◌∷◌, length}
use Rattle.std.specs.List.{AllByRecursion}
use Rattle.plan_checker.specs.declared.graph.TheConstants.{MOST_VERTICES}
use Rattle.run_rules.specs.declared.setting.Options.{Options}
use Rattle.run_core.specs.declared.state.JobPhase.{JobPhase}
use Rattle.run_core.specs.declared.job_states.JobState.{JobState}
use Rattle.run_core.specs.declared.state.Phase.{Phase}
use Rattle.run_core.specs.inner.Course.{Past, with_loss, with_staging}

-- how many times jobs can be staged, and fetched
abbrev pub most_stagings : Options → ℕ
most_stagings options = MOST_VERTICES * (options.retries + 2)

-- how often a job was staged beside the times that it gave up: once where it waits for nothing
abbrev pub last_try : Bool → ℕ
last_try true = 0
last_try false = 1

-- once where a fetch was asked for
abbrev pub one_fetch : Bool → ℕ
one_fetch true = 1
one_fetch false = 0

-- how often these jobs were staged or fetched, at most: once for each time that one gave up, once more where it waits for nothing, and once
-- where a fetch was asked for
abbrev pub tries_of : List JobState → ℕ
tries_of [] = 0
tries_of (job ∷ jobs) = job.gave_up + last_try job.waits + one_fetch job.tried + tries_of jobs

-- the jobs that were touched are jobs of a graph, and each was staged no oftener than it may be
pub record IsBounded (options : Options) (past : Past) : Type 0 where
  pub jobs : length past.jobs ≤ MOST_VERTICES
  pub retries : AllByRecursion (λ (job : JobState). job.gave_up ≤ options.retries) past.jobs
  pub folders : past.folders ≤ tries_of past.jobs

-- while it goes on; where a job is to be staged, or its files to be fetched, with that job
abbrev pub StaysBounded : Options → Past → Phase → Type 0
StaysBounded options past (Phase.Ended outcome) = Unit {0}
StaysBounded options past Phase.Draining = Unit {0}
StaysBounded options past (Phase.Staging number) = IsBounded options (with_staging number past)
StaysBounded options past (Phase.Fetching number) = IsBounded options (with_loss number past)
StaysBounded options past phase = IsBounded options past

-- a phase looks at fewer files, and a put brings fewer keys
abbrev pub many_items : ℕ
many_items = 2 ^ 64

abbrev pub weight_of_job : JobPhase → ℕ
weight_of_job (JobPhase.Filling filling) = 2 * many_items + 7 + length filling.left
weight_of_job (JobPhase.Starting kept) = 2 * many_items + 7
weight_of_job (JobPhase.Scanning kept millis) = 2 * many_items + 4
weight_of_job (JobPhase.Reading kept reading) = many_items + 4 + length reading.left

abbrev pub weight_of : Phase → ℕ
weight_of (Phase.Measuring measuring) = 2 + length measuring.left
weight_of (Phase.Finding job) = 2
weight_of (Phase.Putting job) = many_items + 3
weight_of (Phase.Fetching job) = 2
weight_of (Phase.Touching job) = 3
weight_of (Phase.Dropping job) = 4
weight_of (Phase.Discarding job left) = 3 + length left
weight_of (Phase.Staging job) = 2
weight_of (Phase.Working job phase) = weight_of_job phase
weight_of (Phase.Storing job row) = many_items + 4
weight_of phase = 1

-- each row is looked for once; each child in flight ends, is scanned, read, archived and put, and what that takes away is discarded
abbrev pub weight_of_past : Options → Past → ℕ
weight_of_past options past =
    (MOST_VERTICES - past.looked_up) * 2 + ((most_stagings options - past.folders) * (3 * many_items + 8) + length past.tickets * (2 * many_items + 4))

-- how many answers come at most; after memory ran out, the end of each child in flight
abbrev pub answers_left : Options → Past → Phase → ℕ
answers_left options past (Phase.Ended outcome) = 0
answers_left options past Phase.Draining = length past.tickets
answers_left options past phase = weight_of_past options past + weight_of phase
