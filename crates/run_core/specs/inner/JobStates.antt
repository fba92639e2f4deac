-- What has become of the jobs, by number, and what staging one, its outputs and its failing for now make of it.
use Rattle.std.specs.Prelude.{◌≡◌, ◌&&◌, ◌<◌, ◌+◌, ℕ, zero, suc, Bool, true, false, List, [], ◌∷◌, length, slice_get, slice_index_or}
use Rattle.std.specs.List.{list_all}
use Rattle.std.specs.Option.{option_map_or}
use Rattle.job_graph.specs.Unfold.{Known}
use Rattle.plan_checker.specs.Plan.{mark}
use Rattle.plan_checker.specs.declared.plan.Mark.{Mark}
use Rattle.run_core.specs.declared.job_states.JobState.{JobState}
use Rattle.run_core.specs.inner.Marks.{is_compute}

-- of a job that was never touched
abbrev pub untouched : JobState
untouched = record { waits = true; at_hand = false; tried = false; folder = 0; fetched = false; gave_up = 0 }

abbrev pub state_at : List JobState → ℕ → JobState
state_at states n = slice_index_or states n untouched

abbrev pub waits_in : List JobState → ℕ → Bool
waits_in states n = (state_at states n).waits

-- the job of a number has these folders, and waits no more
abbrev pub staged_in : ℕ → ℕ → List JobState → List JobState
staged_in zero folder [] = record { waits = false; at_hand = false; tried = false; folder = folder; fetched = false; gave_up = 0 } ∷ []
staged_in zero folder (job ∷ jobs) = record job { waits = false; folder = folder; fetched = false } ∷ jobs
staged_in (suc number) folder [] = untouched ∷ staged_in number folder []
staged_in (suc number) folder (job ∷ jobs) = job ∷ staged_in number folder jobs

-- the job of a number failed for now once more, and waits again
abbrev pub given_up_in : ℕ → List JobState → List JobState
given_up_in number [] = []
given_up_in zero (job ∷ jobs) = record job { waits = true; gave_up = job.gave_up + 1 } ∷ jobs
given_up_in (suc number) (job ∷ jobs) = job ∷ given_up_in number jobs

-- the files of the job of a number were fetched to this folder: it waits no more, and they are at hand
abbrev pub load_state : ℕ → JobState → JobState
load_state folder job = record job { waits = false; at_hand = true; tried = true; folder = folder; fetched = true }

abbrev pub loaded_in : ℕ → ℕ → List JobState → List JobState
loaded_in zero folder [] = load_state folder untouched ∷ []
loaded_in zero folder (job ∷ jobs) = load_state folder job ∷ jobs
loaded_in (suc number) folder [] = untouched ∷ loaded_in number folder []
loaded_in (suc number) folder (job ∷ jobs) = job ∷ loaded_in number folder jobs

-- what was fetched for the job of a number was not what its row has
abbrev pub missed_in : ℕ → List JobState → List JobState
missed_in zero [] = record untouched { tried = true } ∷ []
missed_in zero (job ∷ jobs) = record job { tried = true } ∷ jobs
missed_in (suc number) [] = untouched ∷ missed_in number []
missed_in (suc number) (job ∷ jobs) = job ∷ missed_in number jobs

-- the outputs of the job of a number are at hand
abbrev pub brought_in : ℕ → List JobState → List JobState
brought_in number [] = []
brought_in zero (job ∷ jobs) = record job { at_hand = true } ∷ jobs
brought_in (suc number) (job ∷ jobs) = job ∷ brought_in number jobs

abbrev pub is_there : List JobState → ℕ → Bool
is_there states n = (state_at states n).at_hand

-- none of the first so many jobs waits
abbrev pub NoneWaits : List JobState → ℕ → Type 0
NoneWaits states count = (n : ℕ) → n < count → waits_in states n ≡ false

-- the parents of the known job of a number, by their numbers
abbrev pub parents_in : List Known → ℕ → List ℕ
parents_in known n = option_map_or (λ k. k.parents) (slice_get known n) []

-- whether a known job may be staged: it waits, the plan computes it, and its parents are at hand
abbrev pub is_ready : List Mark → List Known → List JobState → ℕ → Bool
is_ready marks known states n = waits_in states n && (is_compute (mark marks n) && list_all (is_there states) (parents_in known n))

-- none of the first so many is ready
abbrev pub NoneReady : List Mark → List Known → List JobState → ℕ → Type 0
NoneReady marks known states count = (n : ℕ) → n < count → is_ready marks known states n ≡ false

-- this known job is ready, and none below it
pub record IsLowest (marks : List Mark) (known : List Known) (states : List JobState) (number : ℕ) : Type 0 where
  pub within : number < length known
  pub ready : is_ready marks known states number ≡ true
  pub lowest : NoneReady marks known states number
