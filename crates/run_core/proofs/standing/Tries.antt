-- How often jobs were to be staged.
use Rattle.std.specs.Prelude.{slice_get}
use Rattle.std.specs.List.{AllByRecursion}
use Rattle.std.proofs.Common.{◌≡◌, ℕ, zero, suc, Bool, true, false, ◌+◌, ◌*◌, ◌<◌, ◌≤◌, List, [], ◌∷◌, length, Some, refl, sym, ap, subst, arith}
use Rattle.run_core.specs.declared.job_states.JobState.{JobState}
use Rattle.run_core.specs.inner.Attempts.{last_try, one_fetch, tries_of}
use Rattle.run_core.specs.inner.JobStates.{brought_in, given_up_in, loaded_in, missed_in, staged_in, state_at, waits_in}

-- no job gave up more often than so
abbrev pub GaveUpAtMost : ℕ → List JobState → Type 0
GaveUpAtMost retries jobs = AllByRecursion (λ (job : JobState). job.gave_up ≤ retries) jobs

last_few : (waits : Bool) → last_try waits ≤ 1
last_few true = omega arith
last_few false = omega arith

one_few : (tried : Bool) → one_fetch tried ≤ 1
one_few true = omega arith
one_few false = omega arith

-- each job is tried once, and once more after each time that it gave up, and fetched once
pub tries_at_most : (retries : ℕ) (jobs : List JobState) → GaveUpAtMost retries jobs → tries_of jobs ≤ length jobs * (retries + 2)
tries_at_most retries [] all = omega arith
tries_at_most retries (job ∷ jobs) all = omega (arith, all.0, last_few job.waits, one_few job.tried, tries_at_most retries jobs all.1)

-- A job is staged

-- one that waits is tried once more
pub tries_staged : (jobs : List JobState) (number folder : ℕ) → waits_in jobs number ≡ true → tries_of (staged_in number folder jobs) ≡ tries_of jobs + 1
tries_staged [] zero folder waits = omega arith
tries_staged [] (suc number) folder waits = omega (arith, tries_staged [] number folder refl)
tries_staged (job ∷ jobs) zero folder waits =
    let last : last_try job.waits ≡ 0 = ap last_try waits in omega (arith, last)
tries_staged (job ∷ jobs) (suc number) folder waits = omega (arith, tries_staged jobs number folder waits)

pub gave_up_staged : (retries : ℕ) (jobs : List JobState) (number folder : ℕ) → GaveUpAtMost retries jobs → GaveUpAtMost retries (staged_in number folder jobs)
gave_up_staged retries [] zero folder all = (omega arith, tt)
gave_up_staged retries [] (suc number) folder all = (omega arith, gave_up_staged retries [] number folder tt)
gave_up_staged retries (job ∷ jobs) zero folder all = all
gave_up_staged retries (job ∷ jobs) (suc number) folder all = (all.0, gave_up_staged retries jobs number folder all.1)

-- what holds with a job that is staged holds without it

pub tries_before : (jobs : List JobState) (number folder : ℕ) → tries_of (staged_in number folder jobs) ≤ tries_of jobs + 1
tries_before [] zero folder = omega arith
tries_before [] (suc number) folder = omega (arith, tries_before [] number folder)
tries_before (job ∷ jobs) zero folder = omega arith
tries_before (job ∷ jobs) (suc number) folder = omega (arith, tries_before jobs number folder)

pub length_before : (jobs : List JobState) (number folder : ℕ) → length jobs ≤ length (staged_in number folder jobs)
length_before [] number folder = omega arith
length_before (job ∷ jobs) zero folder = omega arith
length_before (job ∷ jobs) (suc number) folder = omega (arith, length_before jobs number folder)

pub gave_up_before : (retries : ℕ) (jobs : List JobState) (number folder : ℕ) → GaveUpAtMost retries (staged_in number folder jobs) → GaveUpAtMost retries jobs
gave_up_before retries [] number folder all = tt
gave_up_before retries (job ∷ jobs) zero folder all = all
gave_up_before retries (job ∷ jobs) (suc number) folder all = (all.0, gave_up_before retries jobs number folder all.1)

-- The files of one are fetched, which were not asked for before

pub tries_missed : (jobs : List JobState) (number : ℕ) → (state_at jobs number).tried ≡ false → tries_of (missed_in number jobs) ≡ tries_of jobs + 1
tries_missed [] zero untried = omega arith
tries_missed [] (suc number) untried = omega (arith, tries_missed [] number refl)
tries_missed (job ∷ jobs) zero untried =
    let none : one_fetch job.tried ≡ 0 = ap one_fetch untried in omega (arith, none)
tries_missed (job ∷ jobs) (suc number) untried = omega (arith, tries_missed jobs number untried)

pub gave_up_missed : (retries : ℕ) (jobs : List JobState) (number : ℕ) → GaveUpAtMost retries jobs → GaveUpAtMost retries (missed_in number jobs)
gave_up_missed retries [] zero all = (omega arith, tt)
gave_up_missed retries [] (suc number) all = (omega arith, gave_up_missed retries [] number tt)
gave_up_missed retries (job ∷ jobs) zero all = all
gave_up_missed retries (job ∷ jobs) (suc number) all = (all.0, gave_up_missed retries jobs number all.1)

-- what holds with one whose fetch missed holds where they are loaded

pub tries_loaded : (jobs : List JobState) (number folder : ℕ) → tries_of (missed_in number jobs) ≤ tries_of (loaded_in number folder jobs)
tries_loaded [] zero folder = omega arith
tries_loaded [] (suc number) folder = omega (arith, tries_loaded [] number folder)
tries_loaded (job ∷ jobs) zero folder = omega (arith, last_few job.waits)
tries_loaded (job ∷ jobs) (suc number) folder = omega (arith, tries_loaded jobs number folder)

pub length_loaded : (jobs : List JobState) (number folder : ℕ) → length (loaded_in number folder jobs) ≡ length (missed_in number jobs)
length_loaded [] zero folder = refl
length_loaded [] (suc number) folder = ap suc (length_loaded [] number folder)
length_loaded (job ∷ jobs) zero folder = refl
length_loaded (job ∷ jobs) (suc number) folder = ap suc (length_loaded jobs number folder)

pub gave_up_loaded : (retries : ℕ) (jobs : List JobState) (number folder : ℕ) → GaveUpAtMost retries (missed_in number jobs) → GaveUpAtMost retries (loaded_in number folder jobs)
gave_up_loaded retries [] zero folder all = all
gave_up_loaded retries [] (suc number) folder all = (all.0, gave_up_loaded retries [] number folder all.1)
gave_up_loaded retries (job ∷ jobs) zero folder all = all
gave_up_loaded retries (job ∷ jobs) (suc number) folder all = (all.0, gave_up_loaded retries jobs number folder all.1)

-- and without it

pub tries_before_missing : (jobs : List JobState) (number : ℕ) → tries_of (missed_in number jobs) ≤ tries_of jobs + 1
tries_before_missing [] zero = omega arith
tries_before_missing [] (suc number) = omega (arith, tries_before_missing [] number)
tries_before_missing (job ∷ jobs) zero = omega (arith, one_few job.tried)
tries_before_missing (job ∷ jobs) (suc number) = omega (arith, tries_before_missing jobs number)

pub length_before_missing : (jobs : List JobState) (number : ℕ) → length jobs ≤ length (missed_in number jobs)
length_before_missing [] number = omega arith
length_before_missing (job ∷ jobs) zero = omega arith
length_before_missing (job ∷ jobs) (suc number) = omega (arith, length_before_missing jobs number)

pub gave_up_before_missing : (retries : ℕ) (jobs : List JobState) (number : ℕ) → GaveUpAtMost retries (missed_in number jobs) → GaveUpAtMost retries jobs
gave_up_before_missing retries [] number all = tt
gave_up_before_missing retries (job ∷ jobs) zero all = all
gave_up_before_missing retries (job ∷ jobs) (suc number) all = (all.0, gave_up_before_missing retries jobs number all.1)

-- The outputs of one are at hand

pub tries_brought : (jobs : List JobState) (number : ℕ) → tries_of (brought_in number jobs) ≡ tries_of jobs
tries_brought [] zero = refl
tries_brought [] (suc number) = refl
tries_brought (job ∷ jobs) zero = refl
tries_brought (job ∷ jobs) (suc number) = omega (arith, tries_brought jobs number)

pub gave_up_brought : (retries : ℕ) (jobs : List JobState) (number : ℕ) → GaveUpAtMost retries jobs → GaveUpAtMost retries (brought_in number jobs)
gave_up_brought retries [] number all = tt
gave_up_brought retries (job ∷ jobs) zero all = all
gave_up_brought retries (job ∷ jobs) (suc number) all = (all.0, gave_up_brought retries jobs number all.1)

-- A job gave up

pub tries_given_up : (jobs : List JobState) (number : ℕ) → tries_of jobs ≤ tries_of (given_up_in number jobs)
tries_given_up [] zero = omega arith
tries_given_up [] (suc number) = omega arith
tries_given_up (job ∷ jobs) zero = omega (arith, last_few job.waits)
tries_given_up (job ∷ jobs) (suc number) = omega (arith, tries_given_up jobs number)

pub gave_up_once_more : (retries : ℕ) (jobs : List JobState) (number : ℕ) (state : JobState) → slice_get jobs number ≡ Some state → state.gave_up < retries →
    GaveUpAtMost retries jobs → GaveUpAtMost retries (given_up_in number jobs)
gave_up_once_more retries [] number state there few all = tt
gave_up_once_more retries (job ∷ jobs) zero state there few all =
    let same : job ≡ state = cc in
    let fewer : job.gave_up < retries = subst (λ (s : JobState). s.gave_up < retries) (sym same) few in
    (omega (arith, fewer), all.1)
gave_up_once_more retries (job ∷ jobs) (suc number) state there few all = (all.0, gave_up_once_more retries jobs number state there few all.1)
