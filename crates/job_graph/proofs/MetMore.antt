-- How the known jobs, their parents and the first fault grow by what is met.
use Rattle.std.proofs.Common.{◌≡◌, ◌∙◌, ℕ, ◌+◌, ◌<◌, ◌≤◌, ◌⊎◌, inl, inr, List, [], ◌∷◌, ◌++◌, length, Bool, true, false, cond, Option, Some, None, refl, sym, ap, append_assoc, append-nil, arith}
use Rattle.std.specs.Prelude.{filter_map, fold, ◌&&◌}
use Rattle.std.proofs.lemmas.Bool.{le-leb, lt-leb}
use Rattle.std.proofs.lemmas.List.{length_push}
use Rattle.std.proofs.lemmas.List.Elements.{filter_map-append}
use Rattle.std.proofs.lemmas.List.Sums.{fold-append}
use Rattle.plan_checker.specs.declared.graph.TheConstants.{MOST_VERTICES, MOST_ENTRIES}
use Rattle.job_graph.specs.Jobs.{Job, Met, met_job, met_fault}
use Rattle.job_graph.specs.Unfold.{Fault, Known, too_many_jobs, is_known, is_within_limits, job_met, with_job, with_met, first_fault, known_from, entries_from, parents_among, parents_from}

-- ---- the first fault, and the jobs, of what is met in two parts

pub with_met_append : (jobs : List Job) (a b : List Met) → with_met jobs (a ++ b) ≡ with_met (with_met jobs a) b
with_met_append jobs a b =
    ap (fold with_job jobs) (filter_map-append job_met a b) ∙ fold-append with_job jobs (filter_map job_met a) (filter_map job_met b)

abbrev fault_by : Bool → Bool → List Job → Job → List Met → Option Fault
fault_by known within jobs job met = cond known (first_fault jobs met) (cond within (first_fault (jobs ++ job ∷ []) met) (Some too_many_jobs))

goes_by : (known within : Bool) (jobs : List Job) (job : Job) (a b : List Met) →
    ((now : List Job) → first_fault now a ≡ None → first_fault now (a ++ b) ≡ first_fault (with_met now a) b) →
    fault_by known within jobs job a ≡ None →
    fault_by known within jobs job (a ++ b) ≡ first_fault (with_met (cond known jobs (jobs ++ job ∷ [])) a) b
goes_by true within jobs job a b rest is = rest jobs is
goes_by false true jobs job a b rest is = rest (jobs ++ job ∷ []) is
goes_by false false jobs job a b rest is = absurd cc

-- past a part without a fault
pub fault_past : (a b : List Met) (jobs : List Job) → first_fault jobs a ≡ None → first_fault jobs (a ++ b) ≡ first_fault (with_met jobs a) b
fault_past [] b jobs is = refl
fault_past (met_fault place cause ∷ a) b jobs is = absurd cc
fault_past (met_job job ∷ a) b jobs is =
    goes_by (is_known jobs job) (is_within_limits (jobs ++ job ∷ [])) jobs job a b (λ (now : List Job). fault_past a b now) is

fails_by : (known within : Bool) (jobs : List Job) (job : Job) (a b : List Met) (fault : Fault) →
    ((now : List Job) → first_fault now a ≡ Some fault → first_fault now (a ++ b) ≡ Some fault) →
    fault_by known within jobs job a ≡ Some fault → fault_by known within jobs job (a ++ b) ≡ Some fault
fails_by true within jobs job a b fault rest is = rest jobs is
fails_by false true jobs job a b fault rest is = rest (jobs ++ job ∷ []) is
fails_by false false jobs job a b fault rest is = is

-- a fault in the first part
pub fault_front : (a b : List Met) (jobs : List Job) (fault : Fault) → first_fault jobs a ≡ Some fault → first_fault jobs (a ++ b) ≡ Some fault
fault_front [] b jobs fault is = absurd cc
fault_front (met_fault place cause ∷ a) b jobs fault is = is
fault_front (met_job job ∷ a) b jobs fault is =
    fails_by (is_known jobs job) (is_within_limits (jobs ++ job ∷ [])) jobs job a b fault (λ (now : List Job). fault_front a b now fault) is

-- ---- one more job

pub known_push : (earlier jobs : List Job) (job : Job) →
    known_from earlier (jobs ++ job ∷ []) ≡ known_from earlier jobs ++ record { job = job; parents = parents_among (earlier ++ jobs) job } ∷ []
known_push earlier [] job = ap (λ (before : List Job). record { job = job; parents = parents_among before job } ∷ []) (sym (append-nil earlier))
known_push earlier (first ∷ jobs) job =
    ap (λ (rest : List Known). record { job = first; parents = parents_among earlier first } ∷ rest)
    (known_push (earlier ++ first ∷ []) jobs job
    ∙ ap (λ (before : List Job). known_from (earlier ++ first ∷ []) jobs ++ record { job = job; parents = parents_among before job } ∷ []) (append_assoc earlier (first ∷ []) jobs))

pub entries_push : (n : ℕ) (earlier jobs : List Job) (job : Job) →
    entries_from n earlier (jobs ++ job ∷ []) ≡ entries_from n earlier jobs + length (parents_among (earlier ++ jobs) job)
entries_push n earlier [] job = ap (λ (before : List Job). n + length (parents_among before job)) (sym (append-nil earlier))
entries_push n earlier (first ∷ jobs) job =
    entries_push (n + length (parents_among earlier first)) (earlier ++ first ∷ []) jobs job
    ∙ ap (λ (before : List Job). entries_from (n + length (parents_among earlier first)) (earlier ++ first ∷ []) jobs + length (parents_among before job))
    (append_assoc earlier (first ∷ []) jobs)

-- ---- the limits

fits_by : (a b : Bool) → a ≡ true → b ≡ true → (a && b) ≡ true
fits_by true b one other = other
fits_by false b one other = absurd cc

past_one : (a b : Bool) → a ≡ false → (a && b) ≡ false
past_one false b one = refl
past_one true b one = absurd cc

past_other : (a b : Bool) → b ≡ false → (a && b) ≡ false
past_other false b other = refl
past_other true b other = other

pub is_within : (jobs : List Job) (job : Job) → length jobs < MOST_VERTICES →
    entries_from 0 [] jobs + length (parents_from 0 jobs job.inputs) ≤ MOST_ENTRIES → is_within_limits (jobs ++ job ∷ []) ≡ true
is_within jobs job few small =
    let longer : length (jobs ++ job ∷ []) ≤ MOST_VERTICES = omega (arith, length_push jobs job) in
    let more : entries_from 0 [] (jobs ++ job ∷ []) ≤ MOST_ENTRIES = omega (arith, entries_push 0 [] jobs job) in
    fits_by _ _ (le-leb _ _ longer) (le-leb _ _ more)

pub is_past : (jobs : List Job) (job : Job) →
    (MOST_VERTICES ≤ length jobs) ⊎ (MOST_ENTRIES < entries_from 0 [] jobs + length (parents_from 0 jobs job.inputs)) → is_within_limits (jobs ++ job ∷ []) ≡ false
is_past jobs job (inl many) =
    let longer : MOST_VERTICES < length (jobs ++ job ∷ []) = omega (arith, length_push jobs job) in past_one _ _ (lt-leb _ _ longer)
is_past jobs job (inr large) =
    let more : MOST_ENTRIES < entries_from 0 [] (jobs ++ job ∷ []) = omega (arith, entries_push 0 [] jobs job) in past_other _ _ (lt-leb _ _ more)
