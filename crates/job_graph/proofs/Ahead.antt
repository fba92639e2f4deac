-- What was met before may be left out of what a walk meets, and the known jobs say whether all that is met has ended.
use Rattle.std.proofs.Common.{◌≡◌, ◌∙◌, inl, inr, List, [], ◌∷◌, ◌++◌, Bool, true, false, cond, Option, Some, None, refl, sym, ap, ap₂, subst}
use Rattle.std.specs.Prelude.{◌&&◌, filter_map, is_some}
use Rattle.std.specs.List.{AllByRecursion, list_all}
use Rattle.job_graph.specs.inner.Elements.{IsIn}
use Rattle.job_graph.specs.Words.{JobPlace}
use Rattle.job_graph.specs.Made.{fields_made}
use Rattle.job_graph.specs.Jobs.{Job, Met, met_job, met_fault, is_well}
use Rattle.job_graph.specs.Unfold.{Fault, Resolved, is_known, is_within_limits, job_met, made_by, outputs_at, too_many_jobs, with_job, with_met, first_fault}
use Rattle.job_graph.specs.inner.Going.{LeavesOut, leaves_nothing, leaves_in, leaves_out}
use Rattle.job_graph.specs.inner.Growth.{IsKnownMet}
use Rattle.job_graph.specs.inner.Outputs.{are_learned}
use Rattle.job_graph.proofs.laws_of_walks.Ended.{each_well, none_first}
use Rattle.job_graph.proofs.laws_of_walks.Gives.{some_map}
use Rattle.job_graph.proofs.laws_of_walks.Known.{Found, all_means, all_put, found_in, known_some, listed, met_known, same_place, still_known, well_in}
use Rattle.job_graph.specs.inner.Elements.{IsIn as IsAmong}
use Rattle.job_graph.proofs.laws_of_walks.Part.{and_left, and_right}

-- ---- known jobs grow the same

abbrev StaysKnown : List Job → List Job → Type 0
StaysKnown known jobs = (job : Job) → is_known known job ≡ true → is_known jobs job ≡ true

with_known : (known jobs : List Job) (new : Job) → StaysKnown known jobs → StaysKnown known (with_job jobs new)
with_known known jobs new stays = λ job at. still_known (is_known jobs new) jobs new job (stays job at)

push_known : (known jobs : List Job) (new : Job) → StaysKnown known jobs → StaysKnown known (jobs ++ new ∷ [])
push_known known jobs new stays = λ job at. still_known false jobs new job (stays job at)

abbrev fault_by : Bool → Bool → Option Fault → Option Fault → Option Fault
fault_by known within one other = cond known one (cond within other (Some too_many_jobs))

module _ (known : List Job) (old : List Met) (seen : (m : Met) → IsIn m old → IsKnownMet known m) where
  pub same_jobs : (jobs : List Job) (xs ys : List Met) → StaysKnown known jobs → LeavesOut old xs ys → with_met jobs xs ≡ with_met jobs ys
  same_jobs jobs xs ys stays leaves_nothing = refl
  same_jobs jobs xs ys stays (leaves_in (met_job job) us vs leaves) = same_jobs (with_job jobs job) us vs (with_known known jobs job stays) leaves
  same_jobs jobs xs ys stays (leaves_in (met_fault place cause) us vs leaves) = same_jobs jobs us vs stays leaves
  same_jobs jobs xs ys stays (leaves_out (met_job job) us vs at leaves) =
      same_jobs jobs us vs stays leaves
      ∙ ap (λ (now : List Job). with_met now vs) (sym (ap (λ (b : Bool). cond b jobs (jobs ++ job ∷ [])) (stays job (seen (met_job job) at))))
  same_jobs jobs xs ys stays (leaves_out (met_fault place cause) us vs at leaves) = absurd (seen (met_fault place cause) at)

  pub same_fault : (jobs : List Job) (xs ys : List Met) → StaysKnown known jobs → LeavesOut old xs ys → first_fault jobs xs ≡ first_fault jobs ys
  same_fault jobs xs ys stays leaves_nothing = refl
  same_fault jobs xs ys stays (leaves_in (met_job job) us vs leaves) =
      ap₂ (fault_by (is_known jobs job) (is_within_limits (jobs ++ job ∷ [])))
      (same_fault jobs us vs stays leaves) (same_fault (jobs ++ job ∷ []) us vs (push_known known jobs job stays) leaves)
  same_fault jobs xs ys stays (leaves_in (met_fault place cause) us vs leaves) = refl
  same_fault jobs xs ys stays (leaves_out (met_job job) us vs at leaves) =
      same_fault jobs us vs stays leaves
      ∙ sym (ap (λ (b : Bool). fault_by b (is_within_limits (jobs ++ job ∷ [])) (first_fault jobs vs) (first_fault (jobs ++ job ∷ []) vs)) (stays job (seen (met_job job) at)))
  same_fault jobs xs ys stays (leaves_out (met_fault place cause) us vs at leaves) = absurd (seen (met_fault place cause) at)

-- ---- elements of lists

pub among : (m : Met) (met : List Met) → IsIn m met → IsAmong m met
among m [] at = at
among m (x ∷ xs) (inl here) = inl here
among m (x ∷ xs) (inr later) = inr (among m xs later)

pub amidst : (m : Met) (met : List Met) → IsAmong m met → IsIn m met
amidst m [] at = at
amidst m (x ∷ xs) (inl here) = inl here
amidst m (x ∷ xs) (inr later) = inr (amidst m xs later)

pub each : (P : Job → Type 0) (jobs : List Job) → ((job : Job) → IsIn job jobs → P job) → AllByRecursion P jobs
each P [] all = tt
each P (job ∷ jobs) all = (all job (inl refl), each P jobs (λ k at. all k (inr at)))

pub one_of : (P : Job → Type 0) (jobs : List Job) → AllByRecursion P jobs → (job : Job) → IsIn job jobs → P job
one_of P [] all job at = absurd at
one_of P (k ∷ ks) all job (inl here) = subst P (sym here) all.0
one_of P (k ∷ ks) all job (inr later) = one_of P ks all.1 job later

-- ---- whether all that is met has ended

abbrev IsEnded : List Resolved → Job → Type 0
IsEnded learned job = is_some (outputs_at learned job.place) ≡ true

all_ended : (learned : List Resolved) (jobs : List Job) → are_learned learned jobs ≡ true → AllByRecursion (IsEnded learned) jobs
all_ended learned [] all = tt
all_ended learned (job ∷ jobs) all =
    (and_left (is_some (outputs_at learned job.place)) (are_learned learned jobs) all, all_ended learned jobs (and_right (is_some (outputs_at learned job.place)) (are_learned learned jobs) all))

ended_all : (learned : List Resolved) (jobs : List Job) → AllByRecursion (IsEnded learned) jobs → are_learned learned jobs ≡ true
ended_all learned [] all = refl
ended_all learned (job ∷ jobs) all = ap₂ (λ (a b : Bool). a && b) all.0 (ended_all learned jobs all.1)

same_truth : (a b : Bool) → (a ≡ true → b ≡ true) → (b ≡ true → a ≡ true) → a ≡ b
same_truth true b one other = sym (one refl)
same_truth false true one other = other refl
same_truth false false one other = refl

module _ (learned : List Resolved) (known : List Job) (met : List Met) (none : first_fault known met ≡ None) (before : (job : Job) → IsIn job known → IsIn (met_job job) met) where
  abbrev more : List Job
  more = with_met known met

  more_met : AllByRecursion (λ (job : Job). IsAmong (met_job job) met) more
  more_met =
      all_put (λ (job : Job). IsAmong (met_job job) met) (filter_map job_met met) known (each (λ (job : Job). IsAmong (met_job job) met) known (λ job at. among (met_job job) met (before job at)))
      (listed met met (λ m at. at))

  well_ended : list_all (is_well (made_by learned)) met ≡ true → are_learned learned more ≡ true
  well_ended well =
      ended_all learned more
      (all_means (λ (job : Job). IsAmong (met_job job) met) (IsEnded learned)
      (λ job at. known_some (outputs_at learned job.place) (fields_made job.place) (well_in (made_by learned) met well job at)) more more_met)

  ended_well : are_learned learned more ≡ true → list_all (is_well (made_by learned)) met ≡ true
  ended_well all =
      each_well (made_by learned) met
      (λ job at.
      let found : Found (IsEnded learned) job.place _ = found_in (IsEnded learned) job.place more (all_ended learned more all) (met_known met known job at) in
      some_map (fields_made job.place) (outputs_at learned job.place)
      (subst (λ (place : JobPlace). is_some (outputs_at learned place) ≡ true) (same_place found.0.place job.place found.3) found.2))
      (λ place cause at. none_first place cause known met none at)

  -- it has where each known job has
  pub same_end : list_all (is_well (made_by learned)) met ≡ are_learned learned more
  same_end = same_truth (list_all (is_well (made_by learned)) met) (are_learned learned more) well_ended ended_well
