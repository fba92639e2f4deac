-- Where no fault is told none is met, and all that is met is well.
use Rattle.std.proofs.Common.{◌≡◌, ◌⊎◌, inl, inr, ⊎_elim, List, [], ◌∷◌, ◌++◌, Bool, true, false, cond, Option, Some, None, refl, ap₂}
use Rattle.std.specs.Prelude.{◌&&◌, is_some}
use Rattle.job_graph.specs.declared.cause.Cause.{Cause}
use Rattle.job_graph.specs.Words.{JobPlace}
use Rattle.job_graph.specs.Jobs.{Job, Met, met_job, met_fault, Made, Walker}
use Rattle.job_graph.specs.Unfold.{Resolved, Fault, too_many_jobs, is_known, is_within_limits, met_after, jobs_after, first_fault, or_else, fault_after}
use Rattle.job_graph.specs.inner.Elements.{IsIn}
use Rattle.job_graph.proofs.laws_of_walks.Gives.{AllWell}

-- ---- where no fault is told, none is met

no_either : (known within : Bool) (seen later : Option Fault) → cond known seen (cond within later (Some too_many_jobs)) ≡ None → (seen ≡ None) ⊎ (later ≡ None)
no_either true within seen later none = inl none
no_either false true seen later none = inr none
no_either false false seen later none = absurd cc

pub none_first : (place : JobPlace) (cause : Cause) (jobs : List Job) (met : List Met) → first_fault jobs met ≡ None → IsIn (met_fault place cause) met → ⊥
none_first place cause jobs [] none at = at
none_first place cause jobs (met_fault there why ∷ met) none at = cc
none_first place cause jobs (met_job job ∷ met) none (inl here) = cc
none_first place cause jobs (met_job job ∷ met) none (inr later) =
    ⊎_elim (λ seen. none_first place cause jobs met seen later) (λ more. none_first place cause (jobs ++ job ∷ []) met more later)
    (no_either (is_known jobs job) (is_within_limits (jobs ++ job ∷ [])) (first_fault jobs met) (first_fault (jobs ++ job ∷ []) met) none)

none_later : (a b : Option Fault) → or_else a b ≡ None → b ≡ None
none_later None b none = none
none_later (Some fault) b none = absurd cc

pub none_met : (walks : Walker) (place : JobPlace) (cause : Cause) (latest : List Resolved) → fault_after walks latest ≡ None → IsIn (met_fault place cause) (met_after walks latest) → ⊥
none_met walks place cause [] none at = none_first place cause [] (met_after walks []) none at
none_met walks place cause (r ∷ earlier) none at =
    none_first place cause (jobs_after walks earlier) (met_after walks (r ∷ earlier))
    (none_later (fault_after walks earlier) (first_fault (jobs_after walks earlier) (met_after walks (r ∷ earlier))) none) at

-- ---- all that is met is well

pub each_well : (made : Made) (met : List Met) → ((job : Job) → IsIn (met_job job) met → is_some (made job) ≡ true) → ((place : JobPlace) (cause : Cause) → IsIn (met_fault place cause) met → ⊥) → AllWell made met
each_well made [] jobs faults = refl
each_well made (met_job job ∷ met) jobs faults =
    ap₂ (λ (a b : Bool). a && b) (jobs job (inl refl)) (each_well made met (λ job at. jobs job (inr at)) (λ place cause at. faults place cause (inr at)))
each_well made (met_fault place cause ∷ met) jobs faults = absurd (faults place cause (inl refl))
