-- Where one more place is learned, the steps that it does not go through are as they were, and rounds know no less.
use Rattle.std.proofs.Common.{◌≡◌, ◌∙◌, ℕ, List, [], ◌∷◌, ◌++◌, map, true, false, option_map, bytes_eq, sym, ap, subst, subst₂, append-nil}
use Rattle.std.specs.List.{AllByRecursion}
use Rattle.std.proofs.lemmas.List.{map-append}
use Rattle.std.proofs.lemmas.Slice.Eq.{bytes_eq-Decides}
use Rattle.document_links.specs.declared.process.Process.TheViews.{roll-out-Step}
use Rattle.document_links.specs.declared.process.Step.{Step, out-Step}
use Rattle.input_files.specs.Measured.{Measures}
use Rattle.job_graph.specs.Apart.{ids_differ, step_ids_differ}
use Rattle.job_graph.specs.Words.{Name, Fields, JobPlace}
use Rattle.job_graph.specs.Made.{fields_made}
use Rattle.job_graph.specs.Jobs.{Job, Made, Met, met_job, met_fault}
use Rattle.job_graph.specs.Links.{Env}
use Rattle.job_graph.specs.Unfold.{Resolved, made_by}
use Rattle.job_graph.specs.Equations.{Meaning, meaning_of, step_meaning_of, env_after}
use Rattle.job_graph.specs.More.{Stays, IsGrown}
use Rattle.job_graph.specs.declared.made.Facts.{Facts}
use Rattle.job_graph.specs.inner.Going.{EndedBelow, earlier, facts_before, goes_through}
use Rattle.job_graph.specs.inner.Levels.{steps_of}
use Rattle.job_graph.specs.inner.Rounds.{EnvGrows, walk_at}
use Rattle.job_graph.specs.inner.Views.{made_from, resolved_of}
use Rattle.job_graph.proofs.laws_of_walks.Processes.{StepLevel, step_level}
use Rattle.job_graph.proofs.laws_of_walks.Part.{AllIn, weaker}
use Rattle.job_graph.proofs.laws_of_walks.Places.{IsBeyond, Fans, OfStep, StepFans, step_fan, step_is, walk_places}
use Rattle.job_graph.proofs.laws_of_walks.Same.{StepAgrees, agrees, step_agrees}
use Rattle.job_graph.proofs.laws_of_walks.Steps.{StepGoes, step_goes}
use Rattle.job_graph.proofs.laws_of_walks.Rounds.{round_goes}
use Rattle.job_graph.proofs.laws_of_walks.Grown.{goes, steps_rise}
use Rattle.job_graph.proofs.laws_of_walks.Beside.{Elsewhere, elsewhere_by, not_longer}
use Rattle.job_graph.proofs.laws_of_walks.Learned.{made_stays}
use Rattle.job_graph.proofs.laws_of_walks.Open.{outputs_elsewhere}

abbrev any_job : Job → Type 0
any_job job = Unit {0}

all_any : (met : List Met) → AllIn any_job met
all_any [] = tt
all_any (met_job job ∷ met) = (tt, all_any met)
all_any (met_fault place cause ∷ met) = (tt, all_any met)

-- the jobs of a step go on from its id
step_fans : (measures : Measures) (made : Made) (s : Step) → step_ids_differ s ≡ true → StepFans (step_meaning_of measures made s)
step_fans measures made s apart =
    let inside : ids_differ (out-Step s).process ≡ true = sym (step_is s) ∙ apart in
    let one : Meaning = meaning_of measures made (out-Step s).process in
    subst (λ (x : Step). StepFans (step_meaning_of measures made x)) (roll-out-Step s)
    (subst StepFans (sym (step_level measures made (out-Step s))) (step_fan (out-Step s) one (walk_places measures made (out-Step s).process inside) measures))

module _ (measures : Measures) (made more : Made) where
  -- where both give the same outputs of the jobs that are met, a step's walks are one
  step_same : (G : Job → Type 0) → ((job : Job) → G job → made job ≡ more job) → (s : Step) → StepAgrees G (step_meaning_of measures made s) (step_meaning_of measures more s)
  step_same G same s =
      let level : StepLevel = out-Step s in
      subst (λ (x : Step). StepAgrees G (step_meaning_of measures made x) (step_meaning_of measures more x)) (roll-out-Step s)
      (subst₂ (StepAgrees G) (sym (step_level measures made level)) (sym (step_level measures more level))
      (step_agrees G level (meaning_of measures made level.process) (meaning_of measures more level.process) (agrees measures made more G same level.process) measures))

  step_later : ((job : Job) → Stays (made job) (more job)) → (s : Step) → StepGoes any_job (step_meaning_of measures made s) (step_meaning_of measures more s)
  step_later stays s =
      let level : StepLevel = out-Step s in
      subst (λ (x : Step). StepGoes any_job (step_meaning_of measures made x) (step_meaning_of measures more x)) (roll-out-Step s)
      (subst₂ (StepGoes any_job) (sym (step_level measures made level)) (sym (step_level measures more level))
      (step_goes any_job level (meaning_of measures made level.process) (meaning_of measures more level.process) (goes measures made more any_job (λ job any. stays job) level.process) measures))

  steps_later : ((job : Job) → Stays (made job) (more job)) → (steps : List (Name × Step))
      → AllByRecursion (λ (e : Name × Step). StepGoes any_job (step_meaning_of measures made e.1) (step_meaning_of measures more e.1)) steps
  steps_later stays [] = tt
  steps_later stays (e ∷ es) = (step_later stays e.1, steps_later stays es)

module _ (facts : Facts) (place ended : JobPlace) (below : EndedBelow facts place ended) where
  abbrev before : Facts
  before = facts_before facts

  abbrev r : JobPlace
  r = below.last.at.place

  abbrev was : List Resolved
  was = map resolved_of (earlier facts.learned)

  abbrev one : Resolved
  one = resolved_of below.last

  learned_is : map resolved_of facts.learned ≡ was ++ one ∷ []
  learned_is = ap (map resolved_of) below.is ∙ map-append resolved_of (earlier facts.learned) (below.last ∷ [])

  pub made_alike : (job : Job) → Elsewhere r r job → made_from before job ≡ made_from facts job
  made_alike job elsewhere =
      ap (option_map (fields_made job.place)) (sym (outputs_elsewhere was one job.place (λ is. elsewhere (sym is))))
      ∙ ap (λ (learned : List Resolved). made_by learned job) (sym learned_is)

  pub made_later : (job : Job) → Stays (made_from before job) (made_from facts job)
  made_later job = subst (λ (learned : List Resolved). Stays (made_by was job) (made_by learned job)) (sym learned_is) (made_stays was (one ∷ []) job)

  -- a step gives no less
  pub step_grows : (s : Name × Step) (inputs : Fields) (env later : Env) → EnvGrows env later → IsGrown (walk_at before place inputs env s) (walk_at facts place inputs later s)
  step_grows s inputs env later grows =
      step_later facts.measures (made_from before) (made_from facts) made_later s.1 s.0 place inputs env later grows (all_any (walk_at before place inputs env s).met)

  no_step : (met : List Met) → Fans place (λ s. Unit {0}) met → r ≡ place ++ [] → AllIn (Elsewhere r r) met
  no_step met fans at =
      weaker (IsBeyond place (λ s. Unit {0})) (Elsewhere r r)
      (λ job beyond is. not_longer place beyond.0 beyond.1 (sym (append-nil place) ∙ sym at ∙ sym is ∙ beyond.3)) met fans.0

  fans_any : (id : Name) (met : List Met) → Fans place (OfStep id) met → Fans place (λ s. Unit {0}) met
  fans_any id met fans = (weaker (IsBeyond place (OfStep id)) (IsBeyond place (λ s. Unit {0})) (λ job at. (at.0, at.1, tt, at.3)) met fans.0, fans.1)

  elsewhere : (rest : JobPlace) → r ≡ place ++ rest → (id : Name) → goes_through rest id ≡ false → (met : List Met) → Fans place (OfStep id) met → AllIn (Elsewhere r r) met
  elsewhere [] at id past met fans = no_step met (fans_any id met fans) at
  elsewhere (g ∷ rest) at id past met fans =
      elsewhere_by r r place g rest at (OfStep id) (λ is. not_id ((bytes_eq-Decides g.step id).1 is)) met fans
    where
      not_id : bytes_eq g.step id ≡ true → ⊥
      not_id is = let both : false ≡ true = sym past ∙ is in absurd cc

  -- a step that it does not go through is as it was
  pub step_alike : (s : Name × Step) → step_ids_differ s.1 ≡ true → goes_through ended s.0 ≡ false → (inputs : Fields) (env : Env)
      → walk_at before place inputs env s ≡ walk_at facts place inputs env s
  step_alike s apart past inputs env =
      step_same facts.measures (made_from before) (made_from facts) (Elsewhere r r) made_alike s.1 s.0 place inputs env
      (elsewhere ended below.at s.0 past (walk_at before place inputs env s).met (step_fans facts.measures (made_from before) s.1 apart s.0 place inputs env))

  -- a round knows no less
  pub rounds_grow : (inputs : Fields) (steps : List (Name × Step)) (n : ℕ) → EnvGrows (env_after n (steps_of before steps) place inputs) (env_after n (steps_of facts steps) place inputs)
  rounds_grow inputs steps n =
      round_goes any_job (step_meaning_of facts.measures (made_from before)) (step_meaning_of facts.measures (made_from facts)) place inputs steps
      (steps_rise facts.measures (made_from before) steps) (steps_later facts.measures (made_from before) (made_from facts) made_later steps) n (all_any _)
