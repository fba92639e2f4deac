-- Where a job is learned while one beside it is open, nothing more is known.
use Rattle.std.proofs.Common.{◌≡◌, ◌∙◌, ◌≢◌, inl, inr, ℕ, List, [], ◌∷◌, ◌++◌, find, reverse, Bool, true, false, cond, not, Option, Some, None, option_map, bytes_eq, refl, sym, ap, ap₂, subst}
use Rattle.std.specs.Prelude.{◌||◌, is_some}
use Rattle.std.specs.List.{AllByRecursion, list_any}
use Rattle.std.specs.Option.{option_or}
use Rattle.std.proofs.lemmas.List.{reverse-append, reverse-reverse}
use Rattle.std.proofs.lemmas.List.Folds.{find-append}
use Rattle.std.proofs.lemmas.Slice.Eq.{bytes_eq-Decides}
use Rattle.cwl_value.specs.declared.place.Segment.{Segment}
use Rattle.document_links.specs.declared.process.Process.{Process}
use Rattle.input_files.specs.Measured.{Measures}
use Rattle.job_graph.specs.declared.cause.Cause.{Cause}
use Rattle.job_graph.specs.Apart.{ids_differ}
use Rattle.job_graph.specs.Words.{Fields, JobPlace, is_same_place}
use Rattle.job_graph.specs.Made.{fields_made}
use Rattle.job_graph.specs.Jobs.{Job, Met, met_job, met_fault, Walk, Walker, all_named, result, those_named}
use Rattle.job_graph.specs.Unfold.{Resolved, Fault, too_many_jobs, jobs_after, fault_after, met_after, or_else, outputs_at, made_by, is_known, is_within_limits, with_met, first_fault, unfolded}
use Rattle.job_graph.specs.Beside.{are_at_end, is_beside, is_open_beside, is_one_open}
use Rattle.job_graph.proofs.laws_of_walks.Part.{and_left, and_right}
use Rattle.job_graph.specs.inner.Elements.{IsIn}
use Rattle.job_graph.proofs.laws_of_walks.Learned.{walks_through}
use Rattle.job_graph.proofs.laws_of_walks.Known.{same_place, known_met, after_known, in_order, not_there}
use Rattle.job_graph.proofs.laws_of_walks.Ended.{none_met}
use Rattle.job_graph.proofs.laws_of_walks.Beside.{Beside, at_end, below, HasAt}
use Rattle.job_graph.proofs.laws_of_walks.BesideSteps.{all_still}

-- ---- places beside one another

ends_apart : (s t : Segment) → s.step ≡ t.step → s.index ≢ t.index → (p q : JobPlace) → are_at_end p q ≡ true → Beside (s ∷ p) (t ∷ q)
ends_apart s t step differ [] [] end =
    subst (λ (x : Segment). Beside (s ∷ []) (x ∷ [])) (ap (λ (id : List ℕ). record { step = id; index = t.index }) step) (at_end s.step s.index t.index differ)
ends_apart s t step differ [] (u ∷ q) end = absurd cc
ends_apart s t step differ (u ∷ p) [] end = absurd cc
ends_apart s t step differ (u ∷ p) (v ∷ q) end = absurd cc

false_differs : (a b : List ℕ) → bytes_eq a b ≡ false → a ≢ b
false_differs a b is same = let other : bytes_eq a b ≡ true = (bytes_eq-Decides a b).1 same in cc

pub beside_of : (p q : JobPlace) → is_beside p q ≡ true → Beside p q
beside_of [] q is = absurd cc
beside_of (s ∷ p) [] is = absurd cc
beside_of (s ∷ p) (t ∷ q) is =
    by (λ rest. beside_of p q rest) (bytes_eq s.index t.index) refl (and_right (bytes_eq s.step t.step) (cond (bytes_eq s.index t.index) (is_beside p q) (are_at_end p q)) is)
  where
    step : s.step ≡ t.step
    step = (bytes_eq-Decides s.step t.step).0 (and_left (bytes_eq s.step t.step) (cond (bytes_eq s.index t.index) (is_beside p q) (are_at_end p q)) is)

    by : (is_beside p q ≡ true → Beside p q) → (b : Bool) → bytes_eq s.index t.index ≡ b → cond b (is_beside p q) (are_at_end p q) ≡ true → Beside (s ∷ p) (t ∷ q)
    by later true same rest =
        subst (λ (x : Segment). Beside (s ∷ p) (x ∷ q))
        (ap₂ (λ (id index : List ℕ). record { step = id; index = index }) step ((bytes_eq-Decides s.index t.index).0 same))
        (below s p q (later rest))
    by later false same rest = ends_apart s t step (false_differs s.index t.index same) p q rest

tails_alike : (s : Segment) (p q : JobPlace) → s ∷ p ≡ s ∷ q → p ≡ q
tails_alike s p q is = cc

beside_differ : (p q : JobPlace) → Beside p q → p ≢ q
beside_differ p q (at_end id t u differ) same = differ (ap index_of same)
  where
    index_of : JobPlace → List ℕ
    index_of [] = []
    index_of (s ∷ place) = s.index
beside_differ p q (below s p1 q1 beside) same = beside_differ p1 q1 beside (tails_alike s p1 q1 same)

-- ---- what is learned at one place says nothing of another

not_same : (p q : JobPlace) → p ≢ q → (b : Bool) → is_same_place p q ≡ b → b ≡ false
not_same p q differ true is = absurd (differ (same_place p q is))
not_same p q differ false is = refl

or_none : {T : Type 0} (o : Option T) → option_or o None ≡ o
or_none None = refl
or_none (Some v) = refl

pub outputs_elsewhere : (learned : List Resolved) (one : Resolved) (place : JobPlace) → one.place ≢ place → outputs_at (learned ++ one ∷ []) place ≡ outputs_at learned place
outputs_elsewhere learned one place differ =
    ap (option_map (λ r. r.outputs))
    (find-append (λ r. is_same_place r.place place) learned (one ∷ [])
    ∙ ap (λ (b : Bool). option_or (find (λ r. is_same_place r.place place) learned) (cond b (Some one) None)) (not_same one.place place differ (is_same_place one.place place) refl)
    ∙ or_none (find (λ r. is_same_place r.place place) learned))

-- ---- one of the known jobs

pub in_at : (met : List Met) (job : Job) → IsIn (met_job job) met → HasAt job.place met
in_at [] job there = there
in_at (met_job k ∷ met) job (inl here) = inl (ap place_of (sym here))
  where
    place_of : Met → JobPlace
    place_of (met_job j) = j.place
    place_of (met_fault place cause) = place
in_at (met_job k ∷ met) job (inr later) = inr (in_at met job later)
in_at (met_fault place cause ∷ met) job (inl here) = absurd cc
in_at (met_fault place cause ∷ met) job (inr later) = in_at met job later

one_of : (P : Job → Type 0) (f : Job → Bool) (jobs : List Job) → AllByRecursion P jobs → list_any f jobs ≡ true → (job : Job) × P job × (f job ≡ true)
one_of P f [] all some = absurd cc
one_of P f (job ∷ jobs) all some = by (λ rest. one_of P f jobs all.1 rest) (f job) refl some
  where
    by : (list_any f jobs ≡ true → (k : Job) × P k × (f k ≡ true)) → (b : Bool) → f job ≡ b → (b || list_any f jobs) ≡ true → (k : Job) × P k × (f k ≡ true)
    by later true is rest = (job, all.0, is)
    by later false is rest = later rest

none_of : {T : Type 0} (o : Option T) → not (is_some o) ≡ true → o ≡ None
none_of None is = refl
none_of (Some v) is = absurd cc

-- ---- what is met again

met_again : (met : List Met) (jobs : List Job) → ((job : Job) → IsIn (met_job job) met → is_known jobs job ≡ true) → with_met jobs met ≡ jobs
met_again [] jobs known = refl
met_again (met_job job ∷ met) jobs known =
    let here : cond (is_known jobs job) jobs (jobs ++ job ∷ []) ≡ jobs = ap (λ (b : Bool). cond b jobs (jobs ++ job ∷ [])) (known job (inl refl)) in
    ap (λ (now : List Job). with_met now met) here ∙ met_again met jobs (λ k at. known k (inr at))
met_again (met_fault place cause ∷ met) jobs known = met_again met jobs (λ k at. known k (inr at))

no_fault_again : (met : List Met) (jobs : List Job) → ((job : Job) → IsIn (met_job job) met → is_known jobs job ≡ true) → ((place : JobPlace) (cause : Cause) → IsIn (met_fault place cause) met → ⊥)
    → first_fault jobs met ≡ None
no_fault_again [] jobs known none = refl
no_fault_again (met_job job ∷ met) jobs known none =
    ap (λ (b : Bool). cond b (first_fault jobs met) (cond (is_within_limits (jobs ++ job ∷ [])) (first_fault (jobs ++ job ∷ []) met) (Some too_many_jobs))) (known job (inl refl))
    ∙ no_fault_again met jobs (λ k at. known k (inr at)) (λ place cause at. none place cause (inr at))
no_fault_again (met_fault place cause ∷ met) jobs known none = absurd (none place cause (inl refl))

-- ---- one more place is learned

-- the one learned last comes first
last_first : (learned : List Resolved) (one : Resolved) → reverse (learned ++ one ∷ []) ≡ one ∷ reverse learned
last_first learned one = reverse-append learned (one ∷ [])

first_again : (learned : List Resolved) (one : Resolved) → reverse (one ∷ reverse learned) ≡ learned ++ one ∷ []
first_again learned one = ap reverse (sym (last_first learned one)) ∙ reverse-reverse (learned ++ one ∷ [])

met_last : (walks : Walker) (learned : List Resolved) (one : Resolved) → met_after walks (one ∷ reverse learned) ≡ (walks (made_by (learned ++ one ∷ []))).met
met_last walks learned one = ap (λ (places : List Resolved). (walks (made_by places)).met) (first_again learned one)

pub more_jobs : (walks : Walker) (learned : List Resolved) (one : Resolved) →
    (unfolded walks (learned ++ one ∷ [])).jobs ≡ with_met (unfolded walks learned).jobs (walks (made_by (learned ++ one ∷ []))).met
more_jobs walks learned one =
    ap (jobs_after walks) (last_first learned one) ∙ ap (with_met (jobs_after walks (reverse learned))) (met_last walks learned one)

pub more_fault : (walks : Walker) (learned : List Resolved) (one : Resolved) → (unfolded walks learned).fault ≡ None →
    (unfolded walks (learned ++ one ∷ [])).fault ≡ first_fault (unfolded walks learned).jobs (walks (made_by (learned ++ one ∷ []))).met
more_fault walks learned one none =
    ap (fault_after walks) (last_first learned one)
    ∙ ap (λ (found : Option Fault). or_else found (first_fault (jobs_after walks (reverse learned)) (met_after walks (one ∷ reverse learned)))) none
    ∙ ap (first_fault (jobs_after walks (reverse learned))) (met_last walks learned one)

module _ (process : Process) (fields : Fields) (measures : Measures) (apart : ids_differ process ≡ true) (learned : List Resolved) (one : Resolved) where
  abbrev walks : Walker
  walks = walks_through process fields measures

  abbrev known : List Job
  known = (unfolded walks learned).jobs

  abbrev more : List Resolved
  more = learned ++ one ∷ []

  -- a known job beside it, which is open
  pub record HasOpen : Type 0 where
    pub job : Job
    pub met : IsIn (met_job job) (walks (made_by learned)).met
    pub beside : Beside one.place job.place
    pub none : outputs_at learned job.place ≡ None

  pub has_open : is_one_open learned one.place known ≡ true → HasOpen
  has_open is =
      let found : (job : Job) × IsIn (met_job job) (walks (made_by learned)).met × (is_open_beside learned one.place job.place ≡ true) =
      one_of (λ job. IsIn (met_job job) (walks (made_by learned)).met) (λ job. is_open_beside learned one.place job.place) known (known_met process fields measures learned) is in
      record {
        job = found.0;
        met = found.1;
        beside = beside_of one.place found.0.place (and_left (is_beside one.place found.0.place) (not (is_some (outputs_at learned found.0.place))) found.2);
        none = none_of (outputs_at learned found.0.place) (and_right (is_beside one.place found.0.place) (not (is_some (outputs_at learned found.0.place))) found.2);
      }

  module _ (waits : HasOpen) where
    pub none_more : outputs_at more waits.job.place ≡ None
    none_more = outputs_elsewhere learned one waits.job.place (beside_differ one.place waits.job.place waits.beside) ∙ waits.none

    pub made_none : (outputs : List Resolved) → outputs_at outputs waits.job.place ≡ None → (job : Job) → job.place ≡ waits.job.place → made_by outputs job ≡ None
    made_none outputs none job is = ap (option_map (fields_made job.place)) (ap (outputs_at outputs) is ∙ none)

    walk_same : walks (made_by learned) ≡ walks (made_by more)
    walk_same =
        (all_still measures (made_by learned) (made_by more) one.place waits.job.place
        (λ job elsewhere. ap (option_map (fields_made job.place)) (sym (outputs_elsewhere learned one job.place (λ is. elsewhere (sym is)))))
        (made_none learned waits.none) (made_none more none_more) process apart).still
        [] fields one.place waits.job.place waits.beside refl refl (in_at (walks (made_by learned)).met waits.job waits.met)

    no_result : (made : List Resolved) → outputs_at made waits.job.place ≡ None → walks (made_by learned) ≡ walks (made_by made) → result walks (made_by made) ≡ None
    no_result made none same =
        not_there (made_by made) (walks (made_by made)).met (all_named (walks (made_by made)).outs) waits.job
        (subst (λ (walk : Walk). IsIn (met_job waits.job) walk.met) same waits.met) (made_none made none waits.job refl)

    results_same : result walks (made_by learned) ≡ result walks (made_by more)
    results_same = no_result learned waits.none refl ∙ sym (no_result more none_more walk_same)

  pub met_known : (job : Job) → IsIn (met_job job) (walks (made_by learned)).met → is_known known job ≡ true
  met_known job at = after_known process fields measures (reverse learned) job (subst (IsIn (met_job job)) (sym (in_order process fields measures learned)) at)

  -- nothing new is met, no fault is told, there is no result, and the known outputs stay
  pub unfolded_same : is_one_open learned one.place known ≡ true → (unfolded walks learned).fault ≡ None → unfolded walks more ≡ unfolded walks learned
  unfolded_same is none =
      let waits : HasOpen = has_open is in
      let same : walks (made_by more) ≡ walks (made_by learned) = sym (walk_same waits) in
      let jobs : (unfolded walks more).jobs ≡ known =
      more_jobs walks learned one ∙ ap (λ (walk : Walk). with_met known walk.met) same ∙ met_again (walks (made_by learned)).met known met_known in
      let fault : (unfolded walks more).fault ≡ (unfolded walks learned).fault =
      more_fault walks learned one none ∙ ap (λ (walk : Walk). first_fault known walk.met) same
      ∙ no_fault_again (walks (made_by learned)).met known met_known
      (λ place cause at. none_met walks place cause (reverse learned) none (subst (IsIn (met_fault place cause)) (sym (in_order process fields measures learned)) at))
      ∙ sym none in
      let outs : (unfolded walks more).outs ≡ (unfolded walks learned).outs = ap (λ (walk : Walk). those_named walk.outs) same in
      ap₂ (λ (found : List Job × Option Fault) (given : Option Fields × Fields). record { jobs = found.0; fault = found.1; result = given.0; outs = given.1 })
      (ap₂ (λ (found : List Job) (told : Option Fault). (found, told)) jobs fault)
      (ap₂ (λ (outputs : Option Fields) (named : Fields). (outputs, named)) (sym (results_same waits)) outs)
