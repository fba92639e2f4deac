-- A step where more is known: of the outputs of other steps, and of what its process gives.
use Rattle.std.proofs.Common.{◌≡◌, ◌∙◌, ℕ, List, [], ◌∷◌, map, Bool, true, false, cond, Option, Some, None, Result, Ok, Err, unwrap_or, bytes_eq, fold, refl, sym, ap, ap₂, subst}
use Rattle.std.specs.List.{flat_map}
use Rattle.cwl_process.specs.declared.links.Links.{Links}
use Rattle.cwl_process.specs.declared.links.Source.{Source}
use Rattle.cwl_process.specs.declared.workflow.StepInput.{StepInput}
use Rattle.cwl_value.specs.declared.value.Value.{Value}
use Rattle.input_files.specs.Measured.{Measures}
use Rattle.link_values.specs.StepInputs.{value_froms}
use Rattle.plain_data.specs.ByName.{value_at}
use Rattle.scatter_shape.specs.Gathered.{gathered}
use Rattle.job_graph.specs.declared.cause.Cause.{Cause}
use Rattle.job_graph.specs.declared.partly.Partly.{Partly}
use Rattle.job_graph.specs.declared.partly.Partly.TheVariants.{Waits, Gives, Fails}
use Rattle.job_graph.specs.Words.{Name, Fields, JobPlace}
use Rattle.job_graph.specs.Jobs.{Job, Met, met_fault, Walk, unknown, failed, all_there}
use Rattle.job_graph.specs.Links.{Env, by_link, out_under, value_from, source_value, linked_values, partly, once_known, entry_value, output_from, output_value, given, with_entry, all_given}
use Rattle.job_graph.specs.Scatter.{lengths_under, tuples_for, method_of, at_tuple}
use Rattle.job_graph.specs.Equations.{Meaning, StepMeaning, StepOf, fault_at, skipped, goes_on, run_where, instance_from, instance, step_place, out_gathered, over_tuples, over_lengths, scattered, entered, step_meaning}
use Rattle.job_graph.specs.More.{Stays, IsPart, nothing, IsGrown}
use Rattle.job_graph.specs.inner.Rounds.{EnvGrows}
use Rattle.job_graph.proofs.laws_of_walks.Processes.{StepLevel, step_of}
use Rattle.job_graph.proofs.laws_of_walks.Part.{AllIn, each_left, each_right, part_itself, part_none, part_append, part_of_none, stays_itself, stays_map, stays_first, stays_all, stays_under, grown_itself}

-- ---- what an equation gives, where more is known

-- what waits may come to be anything, all else is the same later
abbrev pub Settles : Partly → Partly → Type 0
Settles Waits later = Unit {0}
Settles (Gives value) later = later ≡ Gives value
Settles (Fails cause) later = later ≡ Fails cause

settles_itself : (p : Partly) → Settles p p
settles_itself Waits = tt
settles_itself (Gives value) = refl
settles_itself (Fails cause) = refl

pub settles_once : (made : List Value → Result Value Cause) (o later : Option (List Value)) → Stays o later → Settles (once_known made o) (once_known made later)
settles_once made None later stays = tt
settles_once made (Some values) later stays = subst (λ (o : Option (List Value)). Settles (partly (made values)) (once_known made o)) (sym stays) (settles_itself (partly (made values)))

pub given_stays : (p later : Partly) → Settles p later → Stays (given p) (given later)
given_stays Waits later settles = tt
given_stays (Gives value) later settles = ap given settles
given_stays (Fails cause) later settles = tt

fault_part : (place : JobPlace) (p later : Partly) → Settles p later → IsPart (fault_at place p) (fault_at place later)
fault_part place Waits later settles = part_none (fault_at place later)
fault_part place (Gives value) later settles = part_none (fault_at place later)
fault_part place (Fails cause) later settles = subst (λ (q : Partly). IsPart (met_fault place cause ∷ []) (fault_at place q)) (sym settles) (part_itself (met_fault place cause ∷ []))

pub faults_along : {X : Type 0} (place : JobPlace) (f g : X → Partly) → ((x : X) → Settles (f x) (g x)) → (xs : List X)
    → IsPart (flat_map (λ x. fault_at place (f x)) xs) (flat_map (λ x. fault_at place (g x)) xs)
faults_along place f g settles [] = nothing
faults_along place f g settles (x ∷ xs) =
    part_append (fault_at place (f x)) (fault_at place (g x)) (flat_map (λ x. fault_at place (f x)) xs) (flat_map (λ x. fault_at place (g x)) xs)
    (fault_part place (f x) (g x) (settles x)) (faults_along place f g settles xs)

-- the faults of these values
abbrev pub faults_in : JobPlace → List (Name × Partly) → List Met
faults_in place entries = flat_map (λ e. fault_at place e.1) entries

pub faults_part : {X : Type 0} (place : JobPlace) (named : X → Name) (f g : X → Partly) → ((x : X) → Settles (f x) (g x)) → (xs : List X)
    → IsPart (faults_in place (map (λ x. (named x, f x)) xs)) (faults_in place (map (λ x. (named x, g x)) xs))
faults_part place named f g settles [] = nothing
faults_part place named f g settles (x ∷ xs) =
    part_append (fault_at place (f x)) (fault_at place (g x)) (faults_in place (map (λ x. (named x, f x)) xs)) (faults_in place (map (λ x. (named x, g x)) xs))
    (fault_part place (f x) (g x) (settles x)) (faults_part place named f g settles xs)

-- ---- the outputs of other steps, where more is known

module _ (inputs : Fields) (env later : Env) (grows : EnvGrows env later) where
  from_stays : (step : Option Name) (name : Name) → Stays (value_from step name inputs env) (value_from step name inputs later)
  from_stays None name = refl
  from_stays (Some step) name = grows step name

  pub linked_stays : (sources : List Source) → Stays (linked_values inputs env sources) (linked_values inputs later sources)
  linked_stays sources = stays_all (source_value inputs env) (source_value inputs later) (λ source. from_stays source.step source.name) sources

  pub entry_settles : (measures : Measures) (input : StepInput) → Settles (entry_value measures inputs env input) (entry_value measures inputs later input)
  entry_settles measures input = settles_once _ (linked_values inputs env (unwrap_or input.links.sources [])) (linked_values inputs later (unwrap_or input.links.sources [])) (linked_stays (unwrap_or input.links.sources []))

  output_settles : (links : Links) (sources : Option (List Source)) → Settles (output_from inputs env links sources) (output_from inputs later links sources)
  output_settles links None = refl
  output_settles links (Some sources) = settles_once _ (linked_values inputs env sources) (linked_values inputs later sources) (linked_stays sources)

pub outputs_settle : (inputs : Fields) (env later : Env) → EnvGrows env later → (links : Links) → Settles (output_value inputs env links) (output_value inputs later links)
outputs_settle inputs env later grows links = output_settles inputs env later grows links links.sources

-- ---- the inputs of a step together

with_stays : (o later : Option Fields) (name : Name) (p q : Partly) → Stays o later → Settles p q → Stays (with_entry o (name, p)) (with_entry later (name, q))
with_stays None later name p q stays settles = tt
with_stays (Some fields) later name Waits q stays settles = tt
with_stays (Some fields) later name (Gives value) q stays settles = ap₂ (λ (o : Option Fields) (r : Partly). with_entry o (name, r)) stays settles
with_stays (Some fields) later name (Fails cause) q stays settles = tt

pub all_stay : {X : Type 0} (named : X → Name) (f g : X → Partly) → ((x : X) → Settles (f x) (g x)) → (o later : Option Fields) → Stays o later → (xs : List X)
    → Stays (fold with_entry o (map (λ x. (named x, f x)) xs)) (fold with_entry later (map (λ x. (named x, g x)) xs))
all_stay named f g settles o later stays [] = stays
all_stay named f g settles o later stays (x ∷ xs) =
    all_stay named f g settles (with_entry o (named x, f x)) (with_entry later (named x, g x)) (with_stays o later (named x) (f x) (g x) stays (settles x)) xs

pub none_given : (entries : List (Name × Partly)) → fold with_entry None entries ≡ None
none_given [] = refl
none_given (e ∷ es) = none_given es

-- where all are given, none fails
pub no_fault : (place : JobPlace) (entries : List (Name × Partly)) (o : Option Fields) (fields : Fields) → fold with_entry o entries ≡ Some fields
    → faults_in place entries ≡ []
no_fault place [] o fields is = refl
no_fault place ((name, Waits) ∷ es) o fields is = no_fault place es (with_entry o (name, Waits)) fields is
no_fault place ((name, Gives value) ∷ es) o fields is = no_fault place es (with_entry o (name, Gives value)) fields is
no_fault place ((name, Fails cause) ∷ es) None fields is = let none : None ≡ Some fields = sym (none_given es) ∙ is in absurd cc
no_fault place ((name, Fails cause) ∷ es) (Some there) fields is = let none : None ≡ Some fields = sym (none_given es) ∙ is in absurd cc

cond_none : (b : Bool) (rest : Option (Option Value)) → unwrap_or rest None ≡ None → unwrap_or (cond b (Some None) rest) None ≡ None
cond_none true rest none = refl
cond_none false rest none = none

pub unknown_under : (name : Name) (names : List Name) → out_under name (Some (unknown names)) ≡ None
unknown_under name [] = refl
unknown_under name (n ∷ ns) = cond_none (bytes_eq name n) (value_at name (unknown ns)) (unknown_under name ns)

-- the inputs of a step, where the outputs of steps are known so
abbrev pub entries_of : Measures → List (Name × StepInput) → Fields → Env → List (Name × Partly)
entries_of measures step_inputs inputs env = map (λ i. (i.0, entry_value measures inputs env i.1)) step_inputs

-- ---- for jobs of which G holds

module _ (G : Job → Type 0) where
  -- where G holds of each job that is met, the other meaning gives no less
  abbrev pub Goes : Meaning → Meaning → Type 0
  Goes one other = (place : JobPlace) (fields : Fields) → AllIn G (one place fields).met → IsGrown (one place fields) (other place fields)

  abbrev pub StepGoes : StepMeaning → StepMeaning → Type 0
  StepGoes one other = (id : Name) (place : JobPlace) (inputs : Fields) (env later : Env) → EnvGrows env later → AllIn G (one id place inputs env).met
      → IsGrown (one id place inputs env) (other id place inputs later)

  module _ (step : StepLevel) (one other : Meaning) (goes : Goes one other) where
    abbrev s : StepOf
    s = step_of step one

    abbrev t : StepOf
    t = step_of step other

    run_goes : (place : JobPlace) (fields : Fields) (is_run : Result Bool Cause) → AllIn G (run_where s place fields is_run).met → IsGrown (run_where s place fields is_run) (run_where t place fields is_run)
    run_goes place fields (Ok true) all = goes place fields all
    run_goes place fields (Ok false) all = grown_itself (skipped step.outputs)
    run_goes place fields (Err cause) all = grown_itself (failed place cause step.outputs)

    from_goes : (place : JobPlace) (found : Result Fields Cause) → AllIn G (instance_from s place found).met → IsGrown (instance_from s place found) (instance_from t place found)
    from_goes place (Err cause) all = grown_itself (failed place cause step.outputs)
    from_goes place (Ok fields) all = run_goes place fields (goes_on step.when fields) all

    instance_goes : (place : JobPlace) (fields : Fields) → AllIn G (instance s place fields).met → IsGrown (instance s place fields) (instance t place fields)
    instance_goes place fields all = from_goes place (by_link (value_froms step.inputs fields)) all

    module _ (id : Name) (place : JobPlace) (fields : Fields) where
      abbrev of_s : List ℕ → Walk
      of_s tuple = instance s (step_place place id tuple) (at_tuple step.scatter tuple fields)

      abbrev of_t : List ℕ → Walk
      of_t tuple = instance t (step_place place id tuple) (at_tuple step.scatter tuple fields)

      at_goes : (tuple : List ℕ) → AllIn G (of_s tuple).met → IsGrown (of_s tuple) (of_t tuple)
      at_goes tuple all = instance_goes (step_place place id tuple) (at_tuple step.scatter tuple fields) all

      abbrev mets : (List ℕ → Walk) → List (List ℕ) → List Met
      mets of tuples = flat_map (λ w. w.met) (map of tuples)

      met_goes : (tuples : List (List ℕ)) → AllIn G (mets of_s tuples) → IsPart (mets of_s tuples) (mets of_t tuples)
      met_goes [] all = nothing
      met_goes (x ∷ xs) all =
          part_append (of_s x).met (of_t x).met (mets of_s xs) (mets of_t xs) (at_goes x (each_left G (of_s x).met (mets of_s xs) all)).met (met_goes xs (each_right G (of_s x).met (mets of_s xs) all))

      abbrev found : (List ℕ → Walk) → Name → List (List ℕ) → Option (List Value)
      found of name tuples = all_there (map (λ w. out_under name (Some w.outs)) (map of tuples))

      found_goes : (name : Name) (tuples : List (List ℕ)) → AllIn G (mets of_s tuples) → Stays (found of_s name tuples) (found of_t name tuples)
      found_goes name [] all = refl
      found_goes name (x ∷ xs) all =
          stays_first (out_under name (Some (of_s x).outs)) (out_under name (Some (of_t x).outs)) (found of_s name xs) (found of_t name xs)
          ((at_goes x (each_left G (of_s x).met (mets of_s xs) all)).outs name) (found_goes name xs (each_right G (of_s x).met (mets of_s xs) all))

      tuples_go : (lengths : List ℕ) (tuples : Result (List (List ℕ)) Cause) → AllIn G (over_tuples s id place fields lengths tuples).met
          → IsGrown (over_tuples s id place fields lengths tuples) (over_tuples t id place fields lengths tuples)
      tuples_go lengths (Err cause) all = grown_itself (failed (step_place place id []) cause step.outputs)
      tuples_go lengths (Ok tuples) all = record {
        met = met_goes tuples all;
        outs = λ name. stays_under (λ n. n) (out_gathered (method_of step.method) lengths (map of_s tuples)) (out_gathered (method_of step.method) lengths (map of_t tuples))
            (λ n. stays_map (gathered (method_of step.method) lengths) (found of_s n tuples) (found of_t n tuples) (found_goes n tuples all)) name step.outputs;
      }

      lengths_go : (lengths : Result (List ℕ) Cause) → AllIn G (over_lengths s id place fields lengths).met → IsGrown (over_lengths s id place fields lengths) (over_lengths t id place fields lengths)
      lengths_go (Err cause) all = grown_itself (failed (step_place place id []) cause step.outputs)
      lengths_go (Ok lengths) all = tuples_go lengths (tuples_for (method_of step.method) lengths) all

      scatter_goes : (names : List Name) → AllIn G (scattered s id place fields names).met → IsGrown (scattered s id place fields names) (scattered t id place fields names)
      scatter_goes [] all = instance_goes (step_place place id []) fields all
      scatter_goes (n ∷ ns) all = lengths_go (lengths_under (n ∷ ns) fields) all

    enters : (id : Name) (place : JobPlace) (faults later : List Met) (o there : Option Fields) → IsPart faults later → Stays o there → ((fields : Fields) → there ≡ Some fields → later ≡ [])
        → AllIn G (entered s id place faults o).met → IsGrown (entered s id place faults o) (entered t id place later there)
    enters id place faults later None None part stays none all = record { met = part; outs = λ name. stays_itself (out_under name (Some (unknown step.outputs))) }
    enters id place faults later None (Some fields) part stays none all =
        let walk : Walk = scattered t id place fields step.scatter in
        record {
          met = subst (λ (met : List Met). IsPart met walk.met) (sym (part_of_none faults later part (none fields refl))) (part_none walk.met);
          outs = λ name. subst (λ (o : Option Value). Stays o (out_under name (Some walk.outs))) (sym (unknown_under name step.outputs)) tt;
        }
    enters id place faults later (Some fields) None part stays none all = let gone : None ≡ Some fields = stays in absurd cc
    enters id place faults later (Some fields) (Some others) part stays none all =
        let one : Some others ≡ Some fields = stays in
        let same : fields ≡ others = cc in
        subst (λ (others : Fields). IsGrown (scattered s id place fields step.scatter) (scattered t id place others step.scatter)) same (scatter_goes id place fields step.scatter all)

    pub step_goes : (measures : Measures) → StepGoes (step_meaning measures s) (step_meaning measures t)
    step_goes measures id place inputs env later grows all =
        enters id place (faults_in (step_place place id []) (entries_of measures step.inputs inputs env)) (faults_in (step_place place id []) (entries_of measures step.inputs inputs later))
        (all_given (entries_of measures step.inputs inputs env)) (all_given (entries_of measures step.inputs inputs later))
        (faults_part (step_place place id []) (λ (i : Name × StepInput). i.0) (λ i. entry_value measures inputs env i.1) (λ i. entry_value measures inputs later i.1) (λ i. entry_settles inputs env later grows measures i.1) step.inputs)
        (all_stay (λ (i : Name × StepInput). i.0) (λ i. entry_value measures inputs env i.1) (λ i. entry_value measures inputs later i.1) (λ i. entry_settles inputs env later grows measures i.1) (Some []) (Some []) refl step.inputs)
        (λ fields is. no_fault (step_place place id []) (entries_of measures step.inputs inputs later) (Some []) fields is) all
