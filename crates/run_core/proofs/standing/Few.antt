-- Where no equation fails, no more jobs are known than a graph may have.
use Rattle.std.specs.Prelude.{◌&&◌}
use Rattle.std.proofs.Common.{◌≡◌, ◌≤◌, Bool, true, false, cond, List, [], ◌∷◌, ◌++◌, length, reverse, Option, Some, None, refl, arith}
use Rattle.std.proofs.lemmas.Bool.{leb-true}
use Rattle.plan_checker.specs.declared.graph.TheConstants.{MOST_VERTICES}
use Rattle.job_graph.specs.Jobs.{Job, Met, Walker, met_fault, met_job}
use Rattle.job_graph.specs.Unfold.{Fault, Resolved, fault_after, first_fault, is_known, is_within_limits, jobs_after, met_after, or_else, too_many_jobs, unfolded, with_met}

first_true : (a b : Bool) → (a && b) ≡ true → a ≡ true
first_true true b is = refl
first_true false b is = cc

within_few : (jobs : List Job) → is_within_limits jobs ≡ true → length jobs ≤ MOST_VERTICES
within_few jobs within = leb-true (length jobs) MOST_VERTICES (first_true _ _ within)

neither : (one other : Option Fault) → or_else one other ≡ None → (one ≡ None) × (other ≡ None)
neither None other none = (refl, none)
neither (Some fault) other none = absurd cc

one_met : (known within : Bool) (jobs : List Job) (job : Job) (met : List Met) → (within ≡ true → length (jobs ++ job ∷ []) ≤ MOST_VERTICES) → length jobs ≤ MOST_VERTICES →
    ((all : List Job) → length all ≤ MOST_VERTICES → first_fault all met ≡ None → length (with_met all met) ≤ MOST_VERTICES) →
    cond known (first_fault jobs met) (cond within (first_fault (jobs ++ job ∷ []) met) (Some too_many_jobs)) ≡ None →
    length (with_met (cond known jobs (jobs ++ job ∷ [])) met) ≤ MOST_VERTICES
one_met true within jobs job met one few later none = later jobs few none
one_met false true jobs job met one few later none = later (jobs ++ job ∷ []) (one refl) none
one_met false false jobs job met one few later none = absurd cc

met_few : (met : List Met) (jobs : List Job) → length jobs ≤ MOST_VERTICES → first_fault jobs met ≡ None → length (with_met jobs met) ≤ MOST_VERTICES
met_few [] jobs few none = few
met_few (met_fault place cause ∷ met) jobs few none = absurd cc
met_few (met_job job ∷ met) jobs few none =
    one_met (is_known jobs job) (is_within_limits (jobs ++ job ∷ [])) jobs job met (within_few (jobs ++ job ∷ [])) few (met_few met) none

after_few : (walks : Walker) (latest_first : List Resolved) → fault_after walks latest_first ≡ None → length (jobs_after walks latest_first) ≤ MOST_VERTICES
after_few walks [] none = met_few (met_after walks []) [] (omega arith) none
after_few walks (one ∷ earlier) none =
    let both : (fault_after walks earlier ≡ None) × (first_fault (jobs_after walks earlier) (met_after walks (one ∷ earlier)) ≡ None) =
    neither (fault_after walks earlier) (first_fault (jobs_after walks earlier) (met_after walks (one ∷ earlier))) none in
    met_few (met_after walks (one ∷ earlier)) (jobs_after walks earlier) (after_few walks earlier both.0) both.1

pub few_unfolded : (walks : Walker) (learned : List Resolved) → (unfolded walks learned).fault ≡ None → length (unfolded walks learned).jobs ≤ MOST_VERTICES
few_unfolded walks learned none = after_few walks (reverse learned) none
