-- Where no equation fails, the known jobs are no more than a graph may have, and neither are their parents.
use Rattle.std.specs.Prelude.{nat_le}
use Rattle.std.proofs.Common.{◌≡◌, ◌≤◌, Bool, true, false, cond, List, [], ◌∷◌, ◌++◌, length, reverse, Option, Some, None, refl}
use Rattle.std.proofs.lemmas.Bool.{leb-true}
use Rattle.plan_checker.specs.declared.graph.TheConstants.{MOST_VERTICES, MOST_ENTRIES}
use Rattle.job_graph.specs.Jobs.{Job, Met, Walker, met_fault, met_job}
use Rattle.job_graph.specs.Unfold.{Fault, Resolved, entries_from, fault_after, first_fault, is_known, is_within_limits, jobs_after, met_after, or_else, too_many_jobs, unfolded, with_met}
use Rattle.job_graph.proofs.laws_of_walks.Part.{and_left, and_right}

pub few_jobs : (jobs : List Job) → is_within_limits jobs ≡ true → length jobs ≤ MOST_VERTICES
few_jobs jobs within = leb-true (length jobs) MOST_VERTICES (and_left (nat_le (length jobs) MOST_VERTICES) (nat_le (entries_from 0 [] jobs) MOST_ENTRIES) within)

pub few_parents : (jobs : List Job) → is_within_limits jobs ≡ true → entries_from 0 [] jobs ≤ MOST_ENTRIES
few_parents jobs within =
    leb-true (entries_from 0 [] jobs) MOST_ENTRIES (and_right (nat_le (length jobs) MOST_VERTICES) (nat_le (entries_from 0 [] jobs) MOST_ENTRIES) within)

neither : (one other : Option Fault) → or_else one other ≡ None → (one ≡ None) × (other ≡ None)
neither None other none = (refl, none)
neither (Some fault) other none = absurd cc

one_met : (known within : Bool) (jobs : List Job) (job : Job) (met : List Met) → is_within_limits (jobs ++ job ∷ []) ≡ within → is_within_limits jobs ≡ true →
    ((all : List Job) → is_within_limits all ≡ true → first_fault all met ≡ None → is_within_limits (with_met all met) ≡ true) →
    cond known (first_fault jobs met) (cond within (first_fault (jobs ++ job ∷ []) met) (Some too_many_jobs)) ≡ None →
    is_within_limits (with_met (cond known jobs (jobs ++ job ∷ [])) met) ≡ true
one_met true within jobs job met is few later none = later jobs few none
one_met false true jobs job met is few later none = later (jobs ++ job ∷ []) is none
one_met false false jobs job met is few later none = absurd cc

met_within : (met : List Met) (jobs : List Job) → is_within_limits jobs ≡ true → first_fault jobs met ≡ None → is_within_limits (with_met jobs met) ≡ true
met_within [] jobs few none = few
met_within (met_fault place cause ∷ met) jobs few none = absurd cc
met_within (met_job job ∷ met) jobs few none =
    one_met (is_known jobs job) (is_within_limits (jobs ++ job ∷ [])) jobs job met refl few (met_within met) none

after_within : (walks : Walker) (latest_first : List Resolved) → fault_after walks latest_first ≡ None → is_within_limits (jobs_after walks latest_first) ≡ true
after_within walks [] none = met_within (met_after walks []) [] refl none
after_within walks (one ∷ earlier) none =
    let both : (fault_after walks earlier ≡ None) × (first_fault (jobs_after walks earlier) (met_after walks (one ∷ earlier)) ≡ None) =
    neither (fault_after walks earlier) (first_fault (jobs_after walks earlier) (met_after walks (one ∷ earlier))) none in
    met_within (met_after walks (one ∷ earlier)) (jobs_after walks earlier) (after_within walks earlier both.0) both.1

pub within_limits : (walks : Walker) (learned : List Resolved) → (unfolded walks learned).fault ≡ None → is_within_limits (unfolded walks learned).jobs ≡ true
within_limits walks learned none = after_within walks (reverse learned) none
