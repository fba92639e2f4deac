-- What a step gives where all that it meets is well: each output that it lists.
use Rattle.std.proofs.Common.{◌≡◌, ◌∙◌, inl, inr, ℕ, List, [], ◌∷◌, ◌++◌, map, Bool, true, false, cond, Option, Some, None, Result, Ok, Err, option_map, unwrap_or, fold, bytes_eq, refl, sym, ap, subst}
use Rattle.std.specs.Prelude.{is_some}
use Rattle.std.specs.List.{AllByRecursion, flat_map, list_all}
use Rattle.std.proofs.lemmas.List.Folds.{list_all-append}
use Rattle.std.proofs.lemmas.Slice.Eq.{bytes_eq-Decides}
use Rattle.cwl_value.specs.declared.value.Value.{Value}
use Rattle.link_values.specs.StepInputs.{null, value_froms}
use Rattle.plain_data.specs.ByName.{value_at, with_value}
use Rattle.scatter_shape.specs.Gathered.{gathered}
use Rattle.job_graph.specs.declared.cause.Cause.{Cause}
use Rattle.job_graph.specs.declared.partly.Partly.{Partly}
use Rattle.job_graph.specs.declared.partly.Partly.TheVariants.{Waits, Gives, Fails}
use Rattle.job_graph.specs.Words.{Name, Fields, JobPlace}
use Rattle.job_graph.specs.Jobs.{Met, Made, Outs, Walk, is_well, with_first, all_there}
use Rattle.job_graph.specs.Links.{by_link, out_under, with_entry, all_given}
use Rattle.job_graph.specs.Scatter.{lengths_under, tuples_for, method_of, at_tuple}
use Rattle.job_graph.specs.Equations.{Meaning, StepOf, goes_on, run_where, instance_from, instance, step_place, out_gathered, over_tuples, over_lengths, scattered, entered}
use Rattle.job_graph.proofs.laws_of_walks.Processes.{StepLevel, step_of}
use Rattle.job_graph.proofs.laws_of_walks.Part.{and_left, and_right}
use Rattle.job_graph.proofs.laws_of_walks.Places.{IsAmong}
use Rattle.job_graph.proofs.laws_of_walks.Steps.{faults_in}

-- a value is known, or it fails
abbrev pub Settled : Partly → Type 0
Settled Waits = ⊥
Settled (Gives value) = Unit {0}
Settled (Fails cause) = Unit {0}

abbrev pub AllSettled : List (Name × Partly) → Type 0
AllSettled entries = AllByRecursion (λ (e : Name × Partly). Settled e.1) entries

pub first_some : {T : Type 0} (one : Option T) (rest : Option (List T)) → is_some one ≡ true → is_some rest ≡ true → is_some (with_first one rest) ≡ true
first_some (Some v) (Some vs) one rest = refl
first_some (Some v) None one rest = absurd cc
first_some None (Some vs) one rest = absurd cc
first_some None None one rest = absurd cc

pub some_map : {S T : Type 0} (f : S → T) (o : Option S) → is_some o ≡ true → is_some (option_map f o) ≡ true
some_map f (Some v) some = refl
some_map f None some = absurd cc

-- ---- outputs under names

-- each of the names has an output whose value is known
abbrev pub AreGiven : List Name → Outs → Type 0
AreGiven names outs = (name : Name) → IsAmong name names → is_some (out_under name (Some outs)) ≡ true

under_some : (name other : Name) (b : Bool) → bytes_eq name other ≡ b → (here : Option Value) (rest : Option (Option Value)) (names : List Name) → is_some here ≡ true
    → (IsAmong name names → is_some (unwrap_or rest None) ≡ true) → IsAmong name (other ∷ names) → is_some (unwrap_or (cond b (Some here) rest) None) ≡ true
under_some name other true is here rest names some later among = some
under_some name other false is here rest names some later (inl same) = let equal : bytes_eq name other ≡ true = (bytes_eq-Decides name other).1 same in absurd cc
under_some name other false is here rest names some later (inr among) = later among

pub given_under : {X : Type 0} (named : X → Name) (f : X → Option Value) (xs : List X) → AllByRecursion (λ x. is_some (f x) ≡ true) xs → AreGiven (map named xs) (map (λ x. (named x, f x)) xs)
given_under named f [] all name among = absurd among
given_under named f (x ∷ xs) all name among =
    under_some name (named x) (bytes_eq name (named x)) refl (f x) (value_at name (map (λ x. (named x, f x)) xs)) (map named xs) all.0 (λ later. given_under named f xs all.1 name later) among

-- ---- what is met is well

module _ (made : Made) where
  abbrev pub AllWell : List Met → Type 0
  AllWell met = list_all (is_well made) met ≡ true

  pub well_left : (xs ys : List Met) → AllWell (xs ++ ys) → AllWell xs
  well_left xs ys well = and_left (list_all (is_well made) xs) (list_all (is_well made) ys) (sym (list_all-append (is_well made) xs ys) ∙ well)

  pub well_right : (xs ys : List Met) → AllWell (xs ++ ys) → AllWell ys
  well_right xs ys well = and_right (list_all (is_well made) xs) (list_all (is_well made) ys) (sym (list_all-append (is_well made) xs ys) ∙ well)

  names_same : (names : List Name) → map (λ n. n) names ≡ names
  names_same [] = refl
  names_same (n ∷ ns) = ap (λ (rest : List Name). n ∷ rest) (names_same ns)

  all_some : {X : Type 0} (f : X → Option Value) (xs : List X) → ((x : X) → is_some (f x) ≡ true) → AllByRecursion (λ x. is_some (f x) ≡ true) xs
  all_some f [] some = tt
  all_some f (x ∷ xs) some = (some x, all_some f xs some)

  pub by_names : (f : Name → Option Value) (names : List Name) → AllByRecursion (λ n. is_some (f n) ≡ true) names → AreGiven names (map (λ n. (n, f n)) names)
  by_names f names all = subst (λ (given_names : List Name). AreGiven given_names (map (λ n. (n, f n)) names)) (names_same names) (given_under (λ n. n) f names all)

  -- ---- a step, whose process gives these outputs

  module _ (step : StepLevel) (meaning : Meaning) (ids : List Name) (gives : (place : JobPlace) (fields : Fields) → AllWell (meaning place fields).met → AreGiven ids (meaning place fields).outs)
      (listed : (name : Name) → IsAmong name step.outputs → IsAmong name ids) where
    abbrev s : StepOf
    s = step_of step meaning

    run_gives : (place : JobPlace) (fields : Fields) (is_run : Result Bool Cause) → AllWell (run_where s place fields is_run).met → AreGiven step.outputs (run_where s place fields is_run).outs
    run_gives place fields (Ok true) well = λ name among. gives place fields well name (listed name among)
    run_gives place fields (Ok false) well = by_names (λ n. Some null) step.outputs (all_some (λ n. Some null) step.outputs (λ n. refl))
    run_gives place fields (Err cause) well = absurd cc

    from_gives : (place : JobPlace) (found : Result Fields Cause) → AllWell (instance_from s place found).met → AreGiven step.outputs (instance_from s place found).outs
    from_gives place (Err cause) well = absurd cc
    from_gives place (Ok fields) well = run_gives place fields (goes_on step.when fields) well

    instance_gives : (place : JobPlace) (fields : Fields) → AllWell (instance s place fields).met → AreGiven step.outputs (instance s place fields).outs
    instance_gives place fields well = from_gives place (by_link (value_froms step.inputs fields)) well

    module _ (id : Name) (place : JobPlace) (fields : Fields) where
      abbrev of : List ℕ → Walk
      of tuple = instance s (step_place place id tuple) (at_tuple step.scatter tuple fields)

      abbrev mets : List (List ℕ) → List Met
      mets tuples = flat_map (λ w. w.met) (map of tuples)

      all_found : (name : Name) → IsAmong name step.outputs → (tuples : List (List ℕ)) → AllWell (mets tuples) → is_some (all_there (map (λ w. out_under name (Some w.outs)) (map of tuples))) ≡ true
      all_found name among [] well = refl
      all_found name among (t ∷ ts) well =
          first_some (out_under name (Some (of t).outs)) (all_there (map (λ w. out_under name (Some w.outs)) (map of ts)))
          (instance_gives (step_place place id t) (at_tuple step.scatter t fields) (well_left (of t).met (mets ts) well) name among) (all_found name among ts (well_right (of t).met (mets ts) well))

      each_gathered : (lengths : List ℕ) (tuples : List (List ℕ)) → AllWell (mets tuples) → (names : List Name) → ((name : Name) → IsAmong name names → IsAmong name step.outputs)
          → AllByRecursion (λ n. is_some (out_gathered (method_of step.method) lengths (map of tuples) n) ≡ true) names
      each_gathered lengths tuples well [] among = tt
      each_gathered lengths tuples well (n ∷ ns) among = (
        some_map (gathered (method_of step.method) lengths) (all_there (map (λ w. out_under n (Some w.outs)) (map of tuples))) (all_found n (among n (inl refl)) tuples well),
        each_gathered lengths tuples well ns (λ name later. among name (inr later)),
      )

      tuples_give : (lengths : List ℕ) (tuples : Result (List (List ℕ)) Cause) → AllWell (over_tuples s id place fields lengths tuples).met → AreGiven step.outputs (over_tuples s id place fields lengths tuples).outs
      tuples_give lengths (Err cause) well = absurd cc
      tuples_give lengths (Ok tuples) well =
          by_names (out_gathered (method_of step.method) lengths (map of tuples)) step.outputs (each_gathered lengths tuples well step.outputs (λ name among. among))

      lengths_give : (lengths : Result (List ℕ) Cause) → AllWell (over_lengths s id place fields lengths).met → AreGiven step.outputs (over_lengths s id place fields lengths).outs
      lengths_give (Err cause) well = absurd cc
      lengths_give (Ok lengths) well = tuples_give lengths (tuples_for (method_of step.method) lengths) well

      scatter_gives : (names : List Name) → AllWell (scattered s id place fields names).met → AreGiven step.outputs (scattered s id place fields names).outs
      scatter_gives [] well = instance_gives (step_place place id []) fields well
      scatter_gives (n ∷ ns) well = lengths_give (lengths_under (n ∷ ns) fields) well

    -- ---- once each of its inputs has a value or fails

    all_settled : (place : JobPlace) (entries : List (Name × Partly)) (there : Fields) → AllSettled entries → AllWell (faults_in place entries)
        → is_some (fold with_entry (Some there) entries) ≡ true
    all_settled place [] there settled well = refl
    all_settled place ((name, Waits) ∷ es) there settled well = absurd settled.0
    all_settled place ((name, Gives value) ∷ es) there settled well = all_settled place es (with_value name value there) settled.1 well
    all_settled place ((name, Fails cause) ∷ es) there settled well = absurd cc

    -- a step gives each output that it lists, where each of its inputs has a value or fails, and all that it meets is well
    pub enter_gives : (id : Name) (place : JobPlace) (entries : List (Name × Partly)) → AllSettled entries
        → AllWell (entered s id place (faults_in (step_place place id []) entries) (all_given entries)).met
        → AreGiven step.outputs (entered s id place (faults_in (step_place place id []) entries) (all_given entries)).outs
    enter_gives id place entries settled well = by (all_given entries) (λ faults. all_settled (step_place place id []) entries [] settled faults) well
      where
        by : (o : Option Fields) → (AllWell (faults_in (step_place place id []) entries) → is_some o ≡ true) → AllWell (entered s id place (faults_in (step_place place id []) entries) o).met
            → AreGiven step.outputs (entered s id place (faults_in (step_place place id []) entries) o).outs
        by None some well = let there : false ≡ true = some well in absurd cc
        by (Some fields) some well = scatter_gives id place fields step.scatter well
