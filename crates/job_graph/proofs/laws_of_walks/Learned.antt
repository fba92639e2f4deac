-- What stays where one more place is learned, and what it is worth in a world.
use Rattle.std.proofs.Common.{◌≡◌, ◌∙◌, ◌⊎◌, ◌≢◌, inl, inr, ⊎_elim, List, [], ◌∷◌, ◌++◌, reverse, find, Bool, true, false, cond, Option, Some, None, option_map, refl, sym, ap, ap₂, subst, append_assoc, append-nil}
use Rattle.std.specs.Prelude.{filter_map, fold, Contains, is_some, ◌&&◌}
use Rattle.std.specs.List.{AllByRecursion, list_all}
use Rattle.std.specs.Option.{option_or}
use Rattle.std.proofs.lemmas.List.{reverse-append, reverse-reverse}
use Rattle.std.proofs.lemmas.List.Elements.{All-contains_itself, recursion_from_All}
use Rattle.std.proofs.lemmas.List.Folds.{find-append}
use Rattle.cwl_value.specs.Erased.{fields_erased}
use Rattle.cwl_process.specs.declared.tool.Tool.{Tool}
use Rattle.document_links.specs.declared.process.Process.{Process}
use Rattle.input_files.specs.Measured.{Measures}
use Rattle.job_graph.specs.inner.Elements.{IsIn}
use Rattle.job_graph.specs.declared.cause.Cause.{Cause}
use Rattle.job_graph.specs.Words.{Fields, JobPlace, is_same_place}
use Rattle.job_graph.specs.Made.{fields_made}
use Rattle.job_graph.specs.Jobs.{Job, Met, met_job, met_fault, Made, Walker, is_well, all_named, result_in, result}
use Rattle.job_graph.specs.Inputs.{root_fields}
use Rattle.job_graph.specs.Equations.{meaning_of, walker}
use Rattle.job_graph.specs.Unfold.{Resolved, Fault, fault_at, too_many_jobs, outputs_at, made_by, is_known, is_within_limits, job_met, with_job, met_after, jobs_after, first_fault, or_else, fault_after, unfolded}
use Rattle.job_graph.specs.Eval.{Key, World, made_in, eval}
use Rattle.job_graph.specs.Agrees.{Agrees}
use Rattle.job_graph.specs.More.{Stays, IsPart, nothing, kept, left_out, StaysOn, IsGrown}
use Rattle.job_graph.proofs.laws_of_walks.Part.{and_left, and_right, each_part, is_there, stays_map, stays_on, weaker}
use Rattle.job_graph.proofs.laws_of_walks.Part.{AllIn}
use Rattle.job_graph.proofs.laws_of_walks.Grown.{goes}
use Rattle.job_graph.proofs.laws_of_walks.Same.{agrees}

-- ---- of each job that is met

each_met : (G : Job → Type 0) (whole : List Met) → ((job : Job) → Contains whole (met_job job) → G job) → (met : List Met) → AllByRecursion (Contains whole) met → AllIn G met
each_met G whole holds [] all = tt
each_met G whole holds (met_job job ∷ met) all = (holds job all.0, each_met G whole holds met all.1)
each_met G whole holds (met_fault place cause ∷ met) all = (tt, each_met G whole holds met all.1)

pub all_met : (G : Job → Type 0) (met : List Met) → ((job : Job) → Contains met (met_job job) → G job) → AllIn G met
all_met G met holds = each_met G met holds met (recursion_from_All (Contains met) met (All-contains_itself met))

-- ---- walks, where more is known

abbrev pub Later : Made → Made → Job → Type 0
Later made more job = Stays (made job) (more job)

abbrev pub Alike : Made → Made → Job → Type 0
Alike made more job = made job ≡ more job

pub all_well : (made more : Made) (met : List Met) → list_all (is_well made) met ≡ true → AllIn (Later made more) met → AllIn (Alike made more) met × (list_all (is_well more) met ≡ true)
all_well made more [] well stay = (tt, refl)
all_well made more (met_job job ∷ met) well stay =
    let here : (made job ≡ more job) × (is_some (more job) ≡ true) = is_there (made job) (more job) (and_left (is_some (made job)) (list_all (is_well made) met) well) stay.0 in
    let rest : AllIn (Alike made more) met × (list_all (is_well more) met ≡ true) = all_well made more met (and_right (is_some (made job)) (list_all (is_well made) met) well) stay.1 in
    ((here.0, rest.0), ap₂ (λ (a b : Bool). a && b) here.1 rest.1)
all_well made more (met_fault place cause ∷ met) well stay = absurd cc

pub well_of : (well : Bool) (outs : Option Fields) (outputs : Fields) → cond well outs None ≡ Some outputs → (well ≡ true) × (outs ≡ Some outputs)
well_of true outs outputs is = (refl, is)
well_of false outs outputs is = absurd cc

-- the walk through a process that is handed these fields
abbrev pub walks_through : Process → Fields → Measures → Walker
walks_through process fields measures made = meaning_of measures made process [] fields

module _ (process : Process) (fields : Fields) (measures : Measures) where
  abbrev by_made : Walker
  by_made = walks_through process fields measures

  pub grows_in : (made more : Made) → AllIn (Later made more) (by_made made).met → IsGrown (by_made made) (by_made more)
  grows_in made more stays = goes measures made more (Later made more) (λ job later. later) process [] fields stays

  pub walk_grows : (made more : Made) → StaysOn made more (by_made made).met → IsGrown (by_made made) (by_made more)
  walk_grows made more stays = grows_in made more (all_met (Later made more) (by_made made).met stays)

  pub result_stays : (made more : Made) (outputs : Fields) → StaysOn made more (by_made made).met → result by_made made ≡ Some outputs → result by_made more ≡ Some outputs
  result_stays made more outputs stays is =
      let well : (list_all (is_well made) (by_made made).met ≡ true) × (all_named (by_made made).outs ≡ Some outputs) = well_of (list_all (is_well made) (by_made made).met) (all_named (by_made made).outs) outputs is in
      let both : AllIn (Alike made more) (by_made made).met × (list_all (is_well more) (by_made made).met ≡ true) = all_well made more (by_made made).met well.0 (all_met (Later made more) (by_made made).met stays) in
      let one : by_made made ≡ by_made more = agrees measures made more (Alike made more) (λ job same. same) process [] fields both.0 in
      ap (result_in more) (sym one) ∙ ap (λ (b : Bool). cond b (all_named (by_made made).outs) None) both.1 ∙ well.1

-- ---- what was learned, and more

found_stays : {T : Type 0} (a b : Option T) → Stays a (option_or a b)
found_stays None b = tt
found_stays (Some v) b = refl

pub outputs_stay : (learned later : List Resolved) (place : JobPlace) → Stays (outputs_at learned place) (outputs_at (learned ++ later) place)
outputs_stay learned later place =
    stays_map (λ r. r.outputs) (find (λ r. is_same_place r.place place) learned) (find (λ r. is_same_place r.place place) (learned ++ later))
    (subst (λ (found : Option Resolved). Stays (find (λ r. is_same_place r.place place) learned) found) (sym (find-append (λ r. is_same_place r.place place) learned later))
    (found_stays (find (λ r. is_same_place r.place place) learned) (find (λ r. is_same_place r.place place) later)))

pub made_stays : (learned later : List Resolved) (job : Job) → Stays (made_by learned job) (made_by (learned ++ later) job)
made_stays learned later job = stays_map (fields_made job.place) (outputs_at learned job.place) (outputs_at (learned ++ later) job.place) (outputs_stay learned later job.place)

-- the jobs that become known by more, of any walker
one_more : (b : Bool) (jobs : List Job) (job : Job) → (more : List Job) × (cond b jobs (jobs ++ job ∷ []) ≡ jobs ++ more)
one_more true jobs job = ([], sym (append-nil jobs))
one_more false jobs job = (job ∷ [], refl)

jobs_put : (new jobs : List Job) → (more : List Job) × (fold with_job jobs new ≡ jobs ++ more)
jobs_put [] jobs = ([], sym (append-nil jobs))
jobs_put (job ∷ new) jobs =
    let first : (more : List Job) × (with_job jobs job ≡ jobs ++ more) = one_more (is_known jobs job) jobs job in
    let rest : (more : List Job) × (fold with_job (with_job jobs job) new ≡ with_job jobs job ++ more) = jobs_put new (with_job jobs job) in
    (first.0 ++ rest.0, rest.1 ∙ ap (λ (known : List Job). known ++ rest.0) first.1 ∙ append_assoc jobs first.0 rest.0)

jobs_by : (walks : Walker) (latest before : List Resolved) → (more : List Job) × (jobs_after walks (latest ++ before) ≡ jobs_after walks before ++ more)
jobs_by walks [] before = ([], sym (append-nil (jobs_after walks before)))
jobs_by walks (r ∷ latest) before =
    let known : (more : List Job) × (jobs_after walks (latest ++ before) ≡ jobs_after walks before ++ more) = jobs_by walks latest before in
    let new : (more : List Job) × (jobs_after walks (r ∷ (latest ++ before)) ≡ jobs_after walks (latest ++ before) ++ more) =
    jobs_put (filter_map job_met (met_after walks (r ∷ (latest ++ before)))) (jobs_after walks (latest ++ before)) in
    (known.0 ++ new.0, new.1 ∙ ap (λ (jobs : List Job). jobs ++ new.0) known.1 ∙ append_assoc (jobs_after walks before) known.0 new.0)

pub jobs_stay : (walks : Walker) (learned later : List Resolved) → (more : List Job) × ((unfolded walks (learned ++ later)).jobs ≡ (unfolded walks learned).jobs ++ more)
jobs_stay walks learned later =
    let known : (more : List Job) × (jobs_after walks (reverse later ++ reverse learned) ≡ jobs_after walks (reverse learned) ++ more) = jobs_by walks (reverse later) (reverse learned) in
    (known.0, ap (jobs_after walks) (reverse-append learned later) ∙ known.1)

fault_by : (walks : Walker) (latest before : List Resolved) (fault : Fault) → fault_after walks before ≡ Some fault → fault_after walks (latest ++ before) ≡ Some fault
fault_by walks [] before fault is = is
fault_by walks (r ∷ latest) before fault is =
    ap (λ (found : Option Fault). or_else found (first_fault (jobs_after walks (latest ++ before)) (met_after walks (r ∷ (latest ++ before))))) (fault_by walks latest before fault is)

pub fault_stays : (walks : Walker) (learned later : List Resolved) (fault : Fault) → (unfolded walks learned).fault ≡ Some fault → (unfolded walks (learned ++ later)).fault ≡ Some fault
fault_stays walks learned later fault is = ap (fault_after walks) (reverse-append learned later) ∙ fault_by walks (reverse later) (reverse learned) fault is

-- ---- faults are met

pub in_part : (m : Met) (xs ys : List Met) → IsPart xs ys → IsIn m xs → IsIn m ys
in_part m xs ys nothing at = at
in_part m xs ys (kept x us vs part) (inl here) = inl here
in_part m xs ys (kept x us vs part) (inr later) = inr (in_part m us vs part later)
in_part m xs ys (left_out y us vs part) at = inr (in_part m us vs part at)

same_fault : (at place : JobPlace) (why cause : Cause) → Some (fault_at at why) ≡ Some (fault_at place cause) → met_fault place cause ≡ met_fault at why
same_fault at place why cause is = cc

either : (known within : Bool) (seen later : Option Fault) (fault : Fault) → fault ≢ too_many_jobs → cond known seen (cond within later (Some too_many_jobs)) ≡ Some fault → (seen ≡ Some fault) ⊎ (later ≡ Some fault)
either true within seen later fault other is = inl is
either false true seen later fault other is = inr is
either false false seen later fault other is = let many : Some too_many_jobs ≡ Some fault = is in absurd (other cc)

of_place : (place : JobPlace) (cause : Cause) → fault_at place cause ≢ too_many_jobs
of_place place cause is = cc

fault_in : (jobs : List Job) (met : List Met) (place : JobPlace) (cause : Cause) → first_fault jobs met ≡ Some (fault_at place cause) → IsIn (met_fault place cause) met
fault_in jobs [] place cause is = absurd cc
fault_in jobs (met_fault at why ∷ met) place cause is = let one : Some (fault_at at why) ≡ Some (fault_at place cause) = is in inl (same_fault at place why cause one)
fault_in jobs (met_job job ∷ met) place cause is =
    inr (⊎_elim (λ seen. fault_in jobs met place cause seen) (λ later. fault_in (jobs ++ job ∷ []) met place cause later)
    (either (is_known jobs job) (is_within_limits (jobs ++ job ∷ [])) (first_fault jobs met) (first_fault (jobs ++ job ∷ []) met) (fault_at place cause) (of_place place cause) is))

pub not_well : (made : Made) (met : List Met) (place : JobPlace) (cause : Cause) → IsIn (met_fault place cause) met → list_all (is_well made) met ≡ false
not_well made [] place cause at = absurd at
not_well made (x ∷ xs) place cause (inl here) = ap (λ (m : Met). is_well made m && list_all (is_well made) xs) (sym here)
not_well made (x ∷ xs) place cause (inr later) = ap (λ (b : Bool). is_well made x && b) (not_well made xs place cause later) ∙ and_false (is_well made x)
  where
    and_false : (b : Bool) → (b && false) ≡ false
    and_false true = refl
    and_false false = refl

or_cases : (a b : Option Fault) (fault : Fault) → or_else a b ≡ Some fault → (a ≡ Some fault) ⊎ (b ≡ Some fault)
or_cases (Some f) b fault is = inl is
or_cases None b fault is = inr is

-- ---- in a world

-- one more place learned, the one learned last first
made_more : (r : Resolved) (earlier : List Resolved) (job : Job) → Stays (made_by (reverse earlier) job) (made_by (reverse (r ∷ earlier)) job)
made_more r earlier job =
    subst (λ (learned : List Resolved). Stays (made_by (reverse earlier) job) (made_by learned job)) (sym (reverse-append (r ∷ []) earlier)) (made_stays (reverse earlier) (reverse (r ∷ [])) job)

module _ (process : Process) (fields : Fields) (measures : Measures) (more : Made) where
  abbrev the_walks : Walker
  the_walks = walks_through process fields measures

  abbrev IsLater : List Resolved → Type 0
  IsLater latest = AllIn (Later (made_by (reverse latest)) more) (met_after the_walks latest)

  pub earlier_met : (r : Resolved) (earlier : List Resolved) → IsPart (met_after the_walks earlier) (met_after the_walks (r ∷ earlier))
  earlier_met r earlier =
      (grows_in process fields measures (made_by (reverse earlier)) (made_by (reverse (r ∷ earlier)))
      (all_met (Later (made_by (reverse earlier)) (made_by (reverse (r ∷ earlier)))) (met_after the_walks earlier) (λ job at. made_more r earlier job))).met

  -- what was learned before the last place stays where all does
  earlier_stays : (r : Resolved) (earlier : List Resolved) → IsLater (r ∷ earlier) → IsLater earlier
  earlier_stays r earlier stays =
      weaker (Later (made_by (reverse (r ∷ earlier))) more) (Later (made_by (reverse earlier)) more)
      (λ job later. stays_on (made_by (reverse earlier) job) (made_by (reverse (r ∷ earlier)) job) (more job) (made_more r earlier job) later) (met_after the_walks earlier)
      (each_part (Later (made_by (reverse (r ∷ earlier))) more) (met_after the_walks earlier) (met_after the_walks (r ∷ earlier)) (earlier_met r earlier) stays)

  now_met : (latest : List Resolved) (jobs : List Job) (place : JobPlace) (cause : Cause) → IsLater latest → first_fault jobs (met_after the_walks latest) ≡ Some (fault_at place cause)
      → IsIn (met_fault place cause) (the_walks more).met
  now_met latest jobs place cause stays is =
      in_part (met_fault place cause) (met_after the_walks latest) (the_walks more).met (grows_in process fields measures (made_by (reverse latest)) more stays).met
      (fault_in jobs (met_after the_walks latest) place cause is)

  fault_met : (latest : List Resolved) (place : JobPlace) (cause : Cause) → IsLater latest → fault_after the_walks latest ≡ Some (fault_at place cause) → IsIn (met_fault place cause) (the_walks more).met
  fault_met [] place cause stays is = now_met [] [] place cause stays is
  fault_met (r ∷ earlier) place cause stays is =
      elim (or_cases (fault_after the_walks earlier) (first_fault (jobs_after the_walks earlier) (met_after the_walks (r ∷ earlier))) (fault_at place cause) is) [
        | inl before ↦ fault_met earlier place cause (earlier_stays r earlier stays) before
        | inr now ↦ now_met (r ∷ earlier) (jobs_after the_walks earlier) place cause stays now
      ]

  -- where a fault is told, nothing is known in the end
  pub no_result : (learned : List Resolved) (place : JobPlace) (cause : Cause) → StaysOn (made_by learned) more (the_walks (made_by learned)).met → (unfolded the_walks learned).fault ≡ Some (fault_at place cause)
      → result the_walks more ≡ None
  no_result learned place cause stays is =
      let there : made_by learned ≡ made_by (reverse (reverse learned)) = ap made_by (sym (reverse-reverse learned)) in
      let later : IsLater (reverse learned) = subst (λ (made : Made). AllIn (Later made more) (the_walks made).met) there (all_met (Later (made_by learned) more) (the_walks (made_by learned)).met stays) in
      ap (λ (b : Bool). cond b (all_named (the_walks more).outs) None) (not_well more (the_walks more).met place cause (fault_met (reverse learned) place cause later is))

-- ---- in a world where the outputs are those learned

module _ (key : Tool → Fields → Key) (world : World) (process : Process) (given : Fields) (measures : Measures) (learned : List Resolved) where
  abbrev known : Walker
  known = walker process given measures

  pub agrees_on : Agrees key world known learned → StaysOn (made_by learned) (made_in key world) (known (made_by learned)).met
  agrees_on rightly job at = stays_map (fields_made job.place) (outputs_at learned job.place) (world (key job.tool job.inputs)) (rightly job at)

  pub result_is_eval : Agrees key world known learned → (outputs : Fields) → (unfolded known learned).result ≡ Some outputs → eval key world process given measures ≡ Some (fields_erased outputs)
  result_is_eval rightly outputs is = ap (option_map fields_erased) (result_stays process (root_fields process given measures) measures (made_by learned) (made_in key world) outputs (agrees_on rightly) is)

  pub fault_is_eval : Agrees key world known learned → (place : JobPlace) (cause : Cause) → (unfolded known learned).fault ≡ Some (fault_at place cause) → eval key world process given measures ≡ None
  fault_is_eval rightly place cause is = ap (option_map fields_erased) (no_result process (root_fields process given measures) measures (made_in key world) learned place cause (agrees_on rightly) is)

-- ---- a result, when more is learned

pub learned_result : (process : Process) (given : Fields) (measures : Measures) (learned later : List Resolved) (outputs : Fields) → (unfolded (walker process given measures) learned).result ≡ Some outputs
    → (unfolded (walker process given measures) (learned ++ later)).result ≡ Some outputs
learned_result process given measures learned later outputs is =
    result_stays process (root_fields process given measures) measures (made_by learned) (made_by (learned ++ later)) outputs (λ job at. made_stays learned later job) is
