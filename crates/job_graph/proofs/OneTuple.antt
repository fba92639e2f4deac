-- What a step meets and gives, where a place inside one of its tuples was learned, and whether its outputs stay.
use Rattle.std.proofs.Common.{◌≡◌, ◌∙◌, ◌≢◌, ◌⊎◌, inl, inr, ℕ, zero, suc, ◌+◌, ◌<◌, List, [], ◌∷◌, ◌++◌, get_or, length, map, Bool, true, false, cond, not, Option, Some, None, Result, Ok, Err, bytes_eq, option_map, unwrap_or, refl, sym, ap, ap₂, subst, subst₂, append-nil, arith}
use Rattle.std.specs.Prelude.{◌||◌, IfOk, is_some}
use Rattle.std.specs.List.{flat_map, list_all}
use Rattle.std.proofs.lemmas.Slice.Eq.{bytes_eq-Decides}
use Rattle.cwl_process.specs.declared.workflow.WorkflowOutput.{WorkflowOutput}
use Rattle.cwl_value.specs.declared.place.Segment.{Segment}
use Rattle.cwl_value.specs.declared.value.Value.{Value}
use Rattle.document_links.specs.declared.process.Process.TheViews.{roll-out-Step}
use Rattle.document_links.specs.declared.process.Step.{Step, out-Step}
use Rattle.plain_data.specs.ByName.{value_at}
use Rattle.scatter_shape.specs.Gathered.{gathered}
use Rattle.job_graph.specs.inner.Elements.{IsIn}
use Rattle.job_graph.specs.Apart.{ids_differ, step_ids_differ}
use Rattle.job_graph.specs.Words.{Name, Fields, JobPlace}
use Rattle.job_graph.specs.Jobs.{Met, Outs, Walk, all_there, with_first}
use Rattle.job_graph.specs.Links.{Env, all_given, given, out_under, output_value}
use Rattle.job_graph.specs.Scatter.{at_tuple, method_of, tuples_for}
use Rattle.job_graph.specs.Equations.{Meaning, StepMeaning, StepOf, all_instances, entered, fault_at, instance, meaning_of, out_gathered, over_lengths, over_tuples, scattered, step_meaning_of, step_place, step_walk}
use Rattle.job_graph.specs.More.{IsGrown, Stays}
use Rattle.job_graph.specs.declared.made.Facts.{Facts}
use Rattle.job_graph.specs.inner.Going.{EndedBelow, LeavesOut, facts_before, goes_through}
use Rattle.job_graph.specs.inner.Levels.{step_of, steps_of, steps_walk}
use Rattle.job_graph.specs.inner.OneTuple.{GoesAt, HasAll, HoldsBack, OutsStay, StaysBy, StaysWith, StepMeets, StepsMeet, count_known, lacks, lacks_one, mets_for, one_if, times, walk_for, walks_for}
use Rattle.job_graph.specs.inner.Rounds.{IsSettled, StandsBy, walk_at}
use Rattle.job_graph.specs.inner.Views.{made_from}
use Rattle.job_graph.proofs.Going.{keeps_where}
use Rattle.job_graph.proofs.Gone.{in_left, in_one, in_right, leaves_all, leaves_append, leaves_itself}
use Rattle.job_graph.proofs.Loops.{not_some}
use Rattle.job_graph.proofs.SettledWalk.{settled_walk}
use Rattle.job_graph.proofs.laws_of_walks.Beside.{Elsewhere, elsewhere_by, none_first, none_later}
use Rattle.job_graph.proofs.laws_of_walks.GoesOn.{made_alike, step_alike}
use Rattle.job_graph.proofs.laws_of_walks.Places.{beyond, instance_at, segment, step_is, walk_places}
use Rattle.job_graph.proofs.laws_of_walks.Processes.{StepLevel, step_level}
use Rattle.job_graph.proofs.laws_of_walks.Same.{agrees, instance_agrees}
use Rattle.job_graph.proofs.laws_of_walks.Settled.{each_of}
use Rattle.job_graph.proofs.laws_of_walks.Steps.{entries_of, faults_in}

-- ---- lists

in_map : {X Y : Type 0} (f : X → Y) (x : X) (xs : List X) → IsIn x xs → IsIn (f x) (map f xs)
in_map f x [] among = absurd among
in_map f x (y ∷ ys) (inl here) = inl (ap f here)
in_map f x (y ∷ ys) (inr later) = inr (in_map f x ys later)

-- where one is not there, all are not
none_of_all : {X : Type 0} (f : X → Option Value) (x : X) (xs : List X) → IsIn x xs → f x ≡ None → all_there (map f xs) ≡ None
none_of_all f x [] among none = absurd among
none_of_all f x (y ∷ ys) (inl here) none =
    ap (λ (o : Option Value). with_first o (all_there (map f ys))) (ap f (sym here) ∙ none) ∙ none_first (all_there (map f ys))
none_of_all f x (y ∷ ys) (inr later) none = ap (with_first (f y)) (none_of_all f x ys later none) ∙ none_later (f y)

abbrev named : (Name → Option Value) → List Name → Outs
named f names = map (λ n. (n, f n)) names

under_names : (f : Name → Option Value) (name : Name) (names : List Name) → IsIn name names → out_under name (Some (named f names)) ≡ f name
under_names f name [] among = absurd among
under_names f name (n ∷ ns) among = by (bytes_eq name n) refl among (under_names f name ns)
  where
    by : (b : Bool) → bytes_eq name n ≡ b → IsIn name (n ∷ ns) → (IsIn name ns → out_under name (Some (named f ns)) ≡ f name) → out_under name (Some (named f (n ∷ ns))) ≡ f name
    by true is among there = ap (λ (b : Bool). unwrap_or (cond b (Some (f n)) (value_at name (named f ns))) None) is ∙ ap f (sym ((bytes_eq-Decides name n).0 is))
    by false is (inl here) there = let both : true ≡ false = sym ((bytes_eq-Decides name n).1 here) ∙ is in absurd cc
    by false is (inr later) there = ap (λ (b : Bool). unwrap_or (cond b (Some (f n)) (value_at name (named f ns))) None) is ∙ there later

named_alike : (f g : Name → Option Value) (names : List Name) → ((name : Name) → IsIn name names → f name ≡ g name) → named f names ≡ named g names
named_alike f g [] alike = refl
named_alike f g (n ∷ ns) alike = ap₂ (λ (v : Option Value) (rest : Outs). (n, v) ∷ rest) (alike n (inl refl)) (named_alike f g ns (λ name later. alike name (inr later)))

pub element : {X : Type 0} (xs : List X) (i : ℕ) (x : X) → i < length xs → x ≡ get_or xs i x → IsIn x xs
element [] i x below is = absurd (omega (arith, below))
element (y ∷ ys) zero x below is = inl is
element (y ∷ ys) (suc i) x below is = let less : i < length ys = omega (arith, below) in inr (element ys i x less is)

none_there : (a b : Option Value) → (is_some a || not (is_some b)) ≡ true → is_some a ≡ false → b ≡ None
none_there (Some x) b either none = absurd cc
none_there None (Some v) either none = absurd cc
none_there None None either none = refl

known_stays : (a b : Option Value) → is_some a ≡ true → Stays a b → b ≡ a
known_stays None b some stays = absurd cc
known_stays (Some v) b some stays = stays

-- ---- the tuples of the step that the place goes through

module _ (facts : Facts) (step : Step) (id : Name) (place : JobPlace) (values : Fields) (tuple : List ℕ) (at : GoesAt facts place id tuple) (apart : step_ids_differ step ≡ true) where
  abbrev before : Facts
  before = facts_before facts

  abbrev r : JobPlace
  r = at.below.last.at.place

  abbrev level : StepLevel
  level = out-Step step

  abbrev meaning : Facts → Meaning
  meaning of = meaning_of of.measures (made_from of) level.process

  abbrev walk : Facts → List ℕ → Walk
  walk of one = walk_for of step id place values one

  inside : ids_differ level.process ≡ true
  inside = sym (step_is step) ∙ apart

  -- what another tuple meets and gives is as it was
  tuple_alike : (one : List ℕ) → one ≢ tuple → walk before one ≡ walk facts one
  tuple_alike one other =
      instance_agrees (Elsewhere r r) level (meaning before) (meaning facts)
      (agrees facts.measures (made_from before) (made_from facts) (Elsewhere r r) (made_alike facts place (segment id tuple ∷ at.rest) at.below) level.process)
      (step_place place id one) (at_tuple level.scatter one values)
      (elsewhere_by r r place (segment id tuple) at.rest at.below.at (λ s. s ≡ segment id one) (λ is. other (ap (λ (s : Segment). s.index) (sym is))) (walk before one).met
      (beyond place id one (walk before one).met
      (instance_at level (meaning before) (walk_places facts.measures (made_from before) level.process inside) (step_place place id one) (at_tuple level.scatter one values))))

  not_same : (one : List ℕ) → bytes_eq one tuple ≡ false → one ≢ tuple
  not_same one is same = let both : true ≡ false = sym ((bytes_eq-Decides one tuple).1 same) ∙ is in absurd cc

  others_met : (one : List ℕ) → one ≢ tuple → (old : List Met) → HasAll old (walk before one).met → LeavesOut old [] (walk facts one).met
  others_met one other old all =
      leaves_all old (walk facts one).met (λ m among. all m (subst (λ (w : Walk). IsIn m w.met) (sym (tuple_alike one other)) among))

  -- what all tuples meet, where this one is not there, and where it is there once
  none_meets : (old : List Met) (some : List (List ℕ)) → times tuple some ≡ 0 → HasAll old (mets_for before step id place values some) → LeavesOut old [] (mets_for facts step id place values some)
  none_meets old [] none all = leaves_itself old []
  none_meets old (one ∷ some) none all =
      by (bytes_eq one tuple) refl (λ rest. none_meets old some rest (λ m at. all m (in_right m (walk before one).met (mets_for before step id place values some) at)))
    where
      sum : one_if (bytes_eq one tuple) + times tuple some ≡ 0
      sum = none

      by : (b : Bool) → bytes_eq one tuple ≡ b → (times tuple some ≡ 0 → LeavesOut old [] (mets_for facts step id place values some)) → LeavesOut old [] (mets_for facts step id place values (one ∷ some))
      by true is later = let here : one_if (bytes_eq one tuple) ≡ 1 = ap one_if is in absurd (omega (arith, sum, here))
      by false is later =
          let rest : times tuple some ≡ 0 = omega (arith, sum) in
          leaves_append old [] (walk facts one).met [] (mets_for facts step id place values some)
          (others_met one (not_same one is) old (λ m at. all m (in_left m (walk before one).met (mets_for before step id place values some) at)))
          (later rest)

  pub once_meets : (met old : List Met) (some : List (List ℕ)) → times tuple some ≡ 1 → HasAll old (mets_for before step id place values some) → LeavesOut old met (walk facts tuple).met
      → LeavesOut old met (mets_for facts step id place values some)
  once_meets met old [] once all last = let no : 0 ≡ 1 = once in absurd (omega (arith, no))
  once_meets met old (one ∷ some) once all last =
      by (bytes_eq one tuple) refl (λ rest. once_meets met old some rest (λ m at. all m (in_right m (walk before one).met (mets_for before step id place values some) at)) last)
    where
      sum : one_if (bytes_eq one tuple) + times tuple some ≡ 1
      sum = once

      by : (b : Bool) → bytes_eq one tuple ≡ b → (times tuple some ≡ 1 → LeavesOut old met (mets_for facts step id place values some)) → LeavesOut old met (mets_for facts step id place values (one ∷ some))
      by true is later =
          let here : one_if (bytes_eq one tuple) ≡ 1 = ap one_if is in
          let rest : times tuple some ≡ 0 = omega (arith, sum, here) in
          subst (λ (xs : List Met). LeavesOut old xs (mets_for facts step id place values (one ∷ some))) (append-nil met)
          (leaves_append old met (walk facts one).met [] (mets_for facts step id place values some)
          (subst (λ (t : List ℕ). LeavesOut old met (walk facts t).met) (sym ((bytes_eq-Decides one tuple).0 is)) last)
          (none_meets old some rest (λ m at. all m (in_right m (walk before one).met (mets_for before step id place values some) at))))
      by false is later =
          let here : one_if (bytes_eq one tuple) ≡ 0 = ap one_if is in
          let rest : times tuple some ≡ 1 = omega (arith, sum, here) in
          leaves_append old [] (walk facts one).met met (mets_for facts step id place values some)
          (others_met one (not_same one is) old (λ m at. all m (in_left m (walk before one).met (mets_for before step id place values some) at)))
          (later rest)

-- ---- where one tuple holds the outputs of the step back

module _ (facts : Facts) (step : Step) (id : Name) (place : JobPlace) (values : Fields) (outs : Outs) (tuples : List (List ℕ))
    (held : HoldsBack facts step id place values outs tuples) (lengths : List ℕ) where
  abbrev whole : Facts → Walk
  whole of = all_instances (step_of of step) lengths (walks_for of step id place values tuples)

  abbrev out : Facts → Name → Option Value
  out of name = out_gathered (method_of (out-Step step).method) lengths (walks_for of step id place values tuples) name

  abbrev held_walk : Walk
  held_walk = walk_for facts step id place values held.one

  none_out : (name : Name) → out_under name (Some held_walk.outs) ≡ None → out facts name ≡ None
  none_out name none =
      ap (option_map (gathered (method_of (out-Step step).method) lengths))
      (none_of_all (λ (w : Walk). out_under name (Some w.outs)) held_walk (walks_for facts step id place values tuples) (in_map (walk_for facts step id place values) held.one tuples held.among) none)

  module _ (gave : outs ≡ (whole (facts_before facts)).outs) (grown : IsGrown (whole (facts_before facts)) (whole facts)) where
    out_alike : (name : Name) → IsIn name (out-Step step).outputs → out facts name ≡ out (facts_before facts) name
    out_alike name among = by (is_some (out_under name (Some outs))) refl
      where
        there : (of : Facts) → out_under name (Some (whole of).outs) ≡ out of name
        there of = under_names (out of) name (out-Step step).outputs among

        stays : Stays (out (facts_before facts) name) (out facts name)
        stays = subst₂ (λ (a b : Option Value). Stays a b) (there (facts_before facts)) (there facts) (grown.outs name)

        known : out_under name (Some outs) ≡ out (facts_before facts) name
        known = ap (λ (os : Outs). out_under name (Some os)) gave ∙ there (facts_before facts)

        by : (b : Bool) → is_some (out_under name (Some outs)) ≡ b → out facts name ≡ out (facts_before facts) name
        by true is = known_stays (out (facts_before facts) name) (out facts name) (sym (ap is_some known) ∙ is) stays
        by false is =
            none_out name (none_there (out_under name (Some outs)) (out_under name (Some held_walk.outs)) (each_of (lacks_one outs held_walk.outs) (out-Step step).outputs held.none name among) is)
            ∙ sym (not_some (out_under name (Some outs)) is) ∙ known

    outs_same : (whole facts).outs ≡ (whole (facts_before facts)).outs
    outs_same = named_alike (out facts) (out (facts_before facts)) (out-Step step).outputs out_alike

  pub outs_stay : OutsStay outs (whole (facts_before facts)) (whole facts)
  outs_stay gave grown = outs_same gave grown

-- ---- a step whose inputs are known

-- by its tuples
pub over_these : (s : StepOf) (id : Name) (place : JobPlace) (fields : Fields) (lengths : List ℕ) (tuples : List (List ℕ)) → Ok tuples ≡ tuples_for (method_of s.method) lengths
    → all_instances s lengths (map (λ t. instance s (step_place place id t) (at_tuple s.scatter t fields)) tuples) ≡ over_lengths s id place fields (Ok lengths)
over_these s id place fields lengths tuples is = ap (over_tuples s id place fields lengths) is

pub where_held : {E P Q : Type 0} → (P → Q) → (result : Result Bool E) → IfOk result (λ held. held ≡ true → P) → IfOk result (λ held. held ≡ true → Q)
where_held weaker (Ok held) holds = λ is. weaker (holds is)
where_held weaker (Err error) holds = tt

module _ (facts : Facts) (place : JobPlace) (inputs : Fields) (env : Env) (s : Name × Step) where
  abbrev earlier : Facts
  earlier = facts_before facts

  pub walk_is : (of : Facts) (values : Fields) → all_given (entries_of of.measures (out-Step s.1).inputs inputs env) ≡ Some values
      → walk_at of place inputs env s ≡ scattered (step_of of s.1) s.0 place values (out-Step s.1).scatter
  walk_is of values is =
      ap (λ (x : Step). step_meaning_of of.measures (made_from of) x s.0 place inputs env) (sym (roll-out-Step s.1))
      ∙ ap (λ (m : StepMeaning). m s.0 place inputs env) (step_level of.measures (made_from of) (out-Step s.1))
      ∙ ap (entered (step_of of s.1) s.0 place (faults_in (step_place place s.0 []) (entries_of of.measures (out-Step s.1).inputs inputs env))) is

  pub step_stays : (values : Fields) → Some values ≡ all_given (entries_of facts.measures (out-Step s.1).inputs inputs env) → (outs : Outs)
      → OutsStay outs (scattered (step_of earlier s.1) s.0 place values (out-Step s.1).scatter) (scattered (step_of facts s.1) s.0 place values (out-Step s.1).scatter)
      → OutsStay outs (walk_at earlier place inputs env s) (walk_at facts place inputs env s)
  step_stays values is outs = subst₂ (OutsStay outs) (sym (walk_is earlier values (sym is))) (sym (walk_is facts values (sym is)))

  -- a step that the place does not go through
  pub step_past : (ended : JobPlace) → EndedBelow facts place ended → step_ids_differ s.1 ≡ true → goes_through ended s.0 ≡ false → StepMeets facts place inputs env s []
  step_past ended below apart past =
      let same : walk_at earlier place inputs env s ≡ walk_at facts place inputs env s = step_alike facts place ended below s apart past inputs env in
      record {
        outs = sym (ap (λ (w : Walk). w.outs) same);
        leaves = λ old all. leaves_all old (walk_at facts place inputs env s).met (λ m among. all m (subst (λ (w : Walk). IsIn m w.met) (sym same) among));
      }

-- ---- all steps

module _ (facts : Facts) (place ended : JobPlace) (below : EndedBelow facts place ended) (inputs : Fields) (steps : List (Name × Step))
    (inside : list_all (λ s. step_ids_differ s.1) steps ≡ true)
    (env : Env) (was : IsSettled (facts_before facts) place inputs steps env) (met : List Met) (meets : StepsMeet facts place inputs env steps met) where
  abbrev old : Facts
  old = facts_before facts

  stands : (s : Name × Step) → IsIn s steps → (found : Option Outs) → StandsBy old place inputs env s found → StandsBy facts place inputs env s found
  stands s among None by = tt
  stands s among (Some outs) by = (by.0, by.1 ∙ sym (meets.outs s among))

  pub settled_still : IsSettled facts place inputs steps env
  settled_still = record {
    keeps = keeps_where facts place ended below inputs steps meets.apart inside env was (λ s among. stands s among (value_at s.0 env) (was.keeps.stands s among));
    stuck = was.stuck;
  }

  module _ (outputs : List (Name × WorkflowOutput)) where
    abbrev faults : List Met
    faults = flat_map (λ (o : Name × WorkflowOutput). fault_at place (output_value inputs env o.1.links)) outputs

    abbrev whole_before : List Met
    whole_before = (steps_walk outputs (steps_of old steps) place inputs).met

    met_before : (s : Name × Step) → IsIn s steps → HasAll whole_before (walk_at old place inputs env s).met
    met_before s among m at =
        subst (λ (w : Walk). IsIn m w.met) (settled_walk old place inputs steps env was outputs)
        (in_left m (flat_map (λ (s : Name × StepMeaning). (step_walk place inputs env s).met) (steps_of old steps)) faults
        (in_one (λ (s : Name × StepMeaning). (step_walk place inputs env s).met) (λ (s : Name × Step). (s.0, step_meaning_of facts.measures (made_from old) s.1)) m s steps among at))

    pub leaves_further : (walk_met : List Met) → walk_met ≡ met ++ faults → LeavesOut whole_before walk_met (steps_walk outputs (steps_of facts steps) place inputs).met
    leaves_further walk_met is =
        subst₂ (LeavesOut whole_before) (sym is) (ap (λ (w : Walk). w.met) (settled_walk facts place inputs steps env settled_still outputs))
        (leaves_append whole_before met (flat_map (λ (s : Name × StepMeaning). (step_walk place inputs env s).met) (steps_of facts steps)) faults faults
        (meets.leaves whole_before met_before) (leaves_itself whole_before faults))

    pub outs_further : (outs : Outs) → outs ≡ map (λ o. (o.0, given (output_value inputs env o.1.links))) outputs → outs ≡ (steps_walk outputs (steps_of facts steps) place inputs).outs
    outs_further outs is = is ∙ ap (λ (w : Walk). w.outs) (settled_walk facts place inputs steps env settled_still outputs)

-- ---- by the code's own words

module _ (facts : Facts) (place : JobPlace) (inputs : Fields) (env : Env) (s : Name × Step) (outs others : Outs) where
  stays_some : (names : List Name) → names ≢ [] → (lacks (out-Step s.1).outputs outs others ≡ true) ⊎ OutsStay outs (walk_at (facts_before facts) place inputs env s) (walk_at facts place inputs env s)
      → StaysBy facts place inputs env s outs others names
  stays_some [] some either = absurd (some refl)
  stays_some (name ∷ names) some either = either

  module _ (found : Option Outs) (is : found ≡ Some outs) where
    pub stays_alone : (out-Step s.1).scatter ≡ [] → count_known outs ≡ count_known others → StaysWith facts place inputs env s others found
    stays_alone none many =
        subst (StaysWith facts place inputs env s others) (sym is) (subst (StaysBy facts place inputs env s outs others) (sym none) many)

    pub stays_among : (out-Step s.1).scatter ≢ [] → (lacks (out-Step s.1).outputs outs others ≡ true) ⊎ OutsStay outs (walk_at (facts_before facts) place inputs env s) (walk_at facts place inputs env s)
        → StaysWith facts place inputs env s others found
    stays_among some either = subst (StaysWith facts place inputs env s others) (sym is) (stays_some (out-Step s.1).scatter some either)
