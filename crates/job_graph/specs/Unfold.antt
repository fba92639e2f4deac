-- The jobs that are known once the outputs of some places are, from scratch.
use Rattle.std.specs.Prelude.{ℕ, suc, ◌+◌, nat_le, ◌&&◌, Bool, cond, length, List, [], ◌∷◌, ◌++◌, Option, Some, None, filter_map, find, fold, option_map, reverse}
use Rattle.std.specs.List.{list_any}
use Rattle.plan_checker.specs.declared.graph.TheConstants.{MOST_VERTICES, MOST_ENTRIES}
use Rattle.job_graph.specs.declared.cause.Cause.{Cause}
use Rattle.job_graph.specs.Words.{Fields, JobPlace, is_same_place}
use Rattle.job_graph.specs.Jobs.{Job, Met, met_job, met_fault, Made, Walker, result, those_named}
use Rattle.job_graph.specs.Made.{any_made, fields_made}

-- a resolved place with its named outputs
pub record Resolved : Type 0 where
  pub place : JobPlace
  pub outputs : Fields

-- why a process has no result
pub data Fault : Type 0 where
  -- the equation at this place fails
  fault_at : (place : JobPlace) (cause : Cause) → Fault
  -- there are more jobs, or more parents of jobs, than the limits allow
  too_many_jobs : Fault

-- whether a job is at a place
abbrev pub is_at : JobPlace → Job → Bool
is_at place job = is_same_place job.place place

-- the named outputs of the job at a place, by the resolved places
abbrev pub outputs_at : List Resolved → JobPlace → Option Fields
outputs_at resolved place = option_map (λ r. r.outputs) (find (λ r. is_same_place r.place place) resolved)

-- those, as the rest of the process sees them
abbrev pub made_at : List Resolved → JobPlace → Option Fields
made_at resolved place = option_map (fields_made place) (outputs_at resolved place)

-- a job's outputs by the resolved places
abbrev pub made_by : List Resolved → Made
made_by resolved job = made_at resolved job.place

-- the job that is met, or none where it is a fault
abbrev pub job_met : Met → Option Job
job_met (met_job job) = Some job
job_met (met_fault place cause) = None

-- whether one of these jobs is at the job's place
abbrev pub is_known : List Job → Job → Bool
is_known jobs job = list_any (is_at job.place) jobs

-- these jobs with one more, where none of them is at its place
abbrev pub with_job : List Job → Job → List Job
with_job jobs job = cond (is_known jobs job) jobs (jobs ++ job ∷ [])

-- these jobs with those that are met
abbrev pub with_met : List Job → List Met → List Job
with_met jobs met = fold with_job jobs (filter_map job_met met)

-- what is met where these places are resolved, the one learned last first
abbrev pub met_after : Walker → List Resolved → List Met
met_after walks latest_first = (walks (made_by (reverse latest_first))).met

-- the jobs in the order in which they came to be known; of the places, the one learned last comes first
abbrev pub jobs_after : Walker → List Resolved → List Job
jobs_after walks [] = with_met [] (met_after walks [])
jobs_after walks (r ∷ earlier) = with_met (jobs_after walks earlier) (met_after walks (r ∷ earlier))

-- the numbers of those of the jobs, the first of which has this number, that made a File or Directory in the inputs
abbrev pub parents_from : ℕ → List Job → Fields → List ℕ
parents_from n [] inputs = []
parents_from n (maker ∷ makers) inputs = cond (any_made maker.place inputs) (n ∷ parents_from (suc n) makers inputs) (parents_from (suc n) makers inputs)

-- a job's parents, by their numbers: the jobs known before it that made a File or Directory in its inputs
abbrev pub parents_among : List Job → Job → List ℕ
parents_among earlier job = parents_from 0 earlier job.inputs

-- a job that is known, with its parents
pub record Known : Type 0 where
  pub job : Job
  pub parents : List ℕ

-- jobs in the order in which they came to be known, after the earlier ones, each with its parents
abbrev pub known_from : List Job → List Job → List Known
known_from earlier [] = []
known_from earlier (job ∷ jobs) = record { job = job; parents = parents_among earlier job } ∷ known_from (earlier ++ job ∷ []) jobs

-- how many parents these jobs have in all, where those before them have n
abbrev pub entries_from : ℕ → List Job → List Job → ℕ
entries_from n earlier [] = n
entries_from n earlier (job ∷ jobs) = entries_from (n + length (parents_among earlier job)) (earlier ++ job ∷ []) jobs

-- whether so many jobs, with so many parents, are allowed: what a graph may have
abbrev pub is_within_limits : List Job → Bool
is_within_limits jobs = nat_le (length jobs) MOST_VERTICES && nat_le (entries_from 0 [] jobs) MOST_ENTRIES

-- the first fault in the order of the walk, where these jobs are known: an equation that fails, or a job beyond a limit
abbrev pub first_fault : List Job → List Met → Option Fault
first_fault jobs [] = None
first_fault jobs (met_fault place cause ∷ met) = Some (fault_at place cause)
first_fault jobs (met_job job ∷ met) =
    cond (is_known jobs job) (first_fault jobs met)
    (cond (is_within_limits (jobs ++ job ∷ [])) (first_fault (jobs ++ job ∷ []) met) (Some too_many_jobs))

abbrev pub or_else : {T : Type 0} → Option T → Option T → Option T
or_else (Some x) later = Some x
or_else None later = later

-- the first fault: by the shortest front of what was learned, and then in the order of the walk
abbrev pub fault_after : Walker → List Resolved → Option Fault
fault_after walks [] = first_fault [] (met_after walks [])
fault_after walks (r ∷ earlier) =
    or_else (fault_after walks earlier) (first_fault (jobs_after walks earlier) (met_after walks (r ∷ earlier)))

-- the jobs that are known, the first fault, the outputs of the process once all jobs have ended, and those of its outputs that have a
-- value
pub record Unfolded : Type 0 where
  pub jobs : List Job
  pub fault : Option Fault
  pub result : Option Fields
  pub outs : Fields

-- what is known before the input files are measured
abbrev pub nothing_known : Unfolded
nothing_known = record { jobs = []; fault = None; result = None; outs = [] }

-- what is known, for resolved places in the order learned
abbrev pub unfolded : Walker → List Resolved → Unfolded
unfolded walks resolved = record {
  jobs = jobs_after walks (reverse resolved);
  fault = fault_after walks (reverse resolved);
  result = result walks (made_by resolved);
  outs = those_named (walks (made_by resolved)).outs;
}
