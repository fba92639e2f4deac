-- How workflows inside steps go on, and what the steps meet and give by it.
use Rattle.std.proofs.Common.{◌≡◌, ◌∙◌, inl, inr, ℕ, ◌+◌, ◌<◌, ◌≤◌, List, [], ◌∷◌, get_or, length, map, Bool, true, false, not, Option, Some, None, Ok, bytes_eq, refl, sym, ap, ap₂, subst, subst₂, append-nil, arith}
use Rattle.std.specs.Prelude.{is_some, reverse}
use Rattle.std.specs.List.{flat_map, list_all, list_any}
use Rattle.std.specs.Map.{keys_of}
use Rattle.std.proofs.lemmas.List.{length_push}
use Rattle.std.proofs.lemmas.Slice.Eq.{bytes_eq-Decides}
use Rattle.cwl_process.specs.declared.workflow.WorkflowOutput.{WorkflowOutput}
use Rattle.cwl_value.specs.declared.value.Value.{Value}
use Rattle.document_links.specs.declared.process.Process.{Process, out-Process}
use Rattle.document_links.specs.declared.process.Process.TheOpen.{Process-F}
use Rattle.document_links.specs.declared.process.Step.{Step, out-Step}
use Rattle.document_links.specs.declared.process.Workflow.{Workflow, out-Workflow}
use Rattle.input_files.specs.Measured.{Measures}
use Rattle.plain_data.specs.ByName.{value_at}
use Rattle.job_graph.specs.inner.Elements.{IsIn}
use Rattle.job_graph.specs.Apart.{differ, step_ids_differ}
use Rattle.job_graph.specs.Words.{Name, Fields, JobPlace}
use Rattle.job_graph.specs.Inputs.{workflow_inputs_for}
use Rattle.job_graph.specs.Jobs.{Met, Outs, Walk}
use Rattle.job_graph.specs.Links.{Env, all_given, given, output_value}
use Rattle.job_graph.specs.Scatter.{lengths_under}
use Rattle.job_graph.specs.Equations.{env_after, instance, instance_from, meaning_of, over_lengths, over_tuples, run_where, scattered, step_place, step_walk}
use Rattle.job_graph.specs.More.{IsGrown, Stays}
use Rattle.job_graph.specs.declared.made.Facts.{Facts}
use Rattle.job_graph.specs.declared.made.Resolved.{Resolved as KeptResolved}
use Rattle.job_graph.specs.declared.nested.Found.{Found}
use Rattle.job_graph.specs.declared.nested.Inner.{Inner}
use Rattle.job_graph.specs.declared.nested.Nested.{Nested}
use Rattle.job_graph.specs.inner.Going.{EndedBelow, LeavesOut, leaves_nothing, leaves_in, leaves_out, earlier, facts_before, goes_through}
use Rattle.job_graph.specs.inner.Levels.{step_of, steps_of}
use Rattle.job_graph.specs.inner.Nested.{GoesOnIn, Hands, HandsBy, HasBegun, HasGone, HasInner, IsBegun, IsFound, IsInner, IsInside, KeepsAlong, KeepsOne, MayKeep, NestedMeet, OfWorkflow, SettledIn, facts_with, inner_walk}
use Rattle.job_graph.specs.inner.OneTuple.{GoesAt, HasAll, HoldsBack, StaysBy, StaysWith, StepMeets, StepsMeet, count_known, lacks, mets_for, one_if, times, walk_for}
use Rattle.job_graph.specs.inner.Counts.{IsCounted}
use Rattle.job_graph.specs.inner.Readers.{IsTableOf}
use Rattle.job_graph.specs.inner.Rounds.{EnvGrows, IsSettled, StandsBy, is_ready, walk_at}
use Rattle.job_graph.specs.inner.Views.{made_from, met_of}
use Rattle.job_graph.proofs.Gone.{in_one, leaves_append, leaves_itself}
use Rattle.job_graph.proofs.GoingOn.{same_at, turned}
use Rattle.job_graph.proofs.Loops.{steps_length}
use Rattle.job_graph.proofs.OneTuple.{once_meets, outs_stay, step_past, walk_is}
use Rattle.job_graph.proofs.RootWalk.{of_root, of_workflow}
use Rattle.job_graph.proofs.laws_of_walks.Beside.{after_step}
use Rattle.job_graph.proofs.laws_of_walks.GoesOn.{rounds_grow, step_grows}
use Rattle.job_graph.proofs.laws_of_walks.Part.{and_left, and_right, neither_one, neither_other, stays_itself}
use Rattle.job_graph.proofs.laws_of_walks.Places.{segment}
use Rattle.job_graph.proofs.laws_of_walks.Settled.{each_of, is_element, one_step, walk_stays}
use Rattle.job_graph.proofs.laws_of_walks.Steps.{entries_of, given_stays, outputs_settle}
use Rattle.job_graph.proofs.laws_of_walks.PutOuts.{not_true}

-- ---- processes that are workflows

also_of : (P Q : Workflow → Type 0) → ((w : Workflow) → P w → Q w) → (p : Process-F Process Step Workflow) → OfWorkflow P p → OfWorkflow Q p
also_of P Q weaker (Process-F.Tool tool) holds = absurd holds
also_of P Q weaker (Process-F.Workflow w) holds = weaker w holds

both_of : (P Q R : Workflow → Type 0) → ((w : Workflow) → P w → Q w → R w) → (p : Process-F Process Step Workflow) → OfWorkflow P p → OfWorkflow Q p → OfWorkflow R p
both_of P Q R give (Process-F.Tool tool) one other = absurd one
both_of P Q R give (Process-F.Workflow w) one other = give w one other

-- ---- as many outputs are known as before

one_below : (o p : Option Value) → Stays o p → one_if (is_some o) ≤ one_if (is_some p)
one_below None p stays = omega arith
one_below (Some v) p stays = let same : one_if true ≤ one_if true = omega arith in subst (λ (q : Option Value). one_if true ≤ one_if (is_some q)) (sym stays) same

same_one : (o p : Option Value) → Stays o p → one_if (is_some o) ≡ one_if (is_some p) → o ≡ p
same_one None None stays is = refl
same_one None (Some v) stays is = let no : 0 ≡ 1 = is in absurd (omega (arith, no))
same_one (Some v) p stays is = sym stays

module _ {X : Type 0} (named : X → Name) (f g : X → Option Value) (stays : (x : X) → Stays (f x) (g x)) where
  abbrev outs_by : (X → Option Value) → List X → Outs
  outs_by h xs = map (λ x. (named x, h x)) xs

  no_fewer : (xs : List X) → count_known (outs_by f xs) ≤ count_known (outs_by g xs)
  no_fewer [] = omega arith
  no_fewer (x ∷ xs) =
      let all : one_if (is_some (f x)) + count_known (outs_by f xs) ≤ one_if (is_some (g x)) + count_known (outs_by g xs) =
      omega (arith, one_below (f x) (g x) (stays x), no_fewer xs) in
      all

  same_where : (xs : List X) → count_known (outs_by f xs) ≡ count_known (outs_by g xs) → outs_by f xs ≡ outs_by g xs
  same_where [] is = refl
  same_where (x ∷ xs) is =
      let sum : one_if (is_some (f x)) + count_known (outs_by f xs) ≡ one_if (is_some (g x)) + count_known (outs_by g xs) = is in
      let first : one_if (is_some (f x)) ≡ one_if (is_some (g x)) = omega (arith, sum, one_below (f x) (g x) (stays x), no_fewer xs) in
      let rest : count_known (outs_by f xs) ≡ count_known (outs_by g xs) = omega (arith, sum, one_below (f x) (g x) (stays x), no_fewer xs) in
      ap₂ (λ (v : Option Value) (outs : Outs). (named x, v) ∷ outs) (same_one (f x) (g x) (stays x) first) (same_where xs rest)

module _ (facts : Facts) (own rest : JobPlace) (below : EndedBelow facts own rest) (w : Workflow) (inputs : Fields) where
  abbrev inner_steps : List (Name × Step)
  inner_steps = (out-Workflow w).steps

  abbrev last_env : Facts → Env
  last_env of = env_after (length (steps_of of inner_steps)) (steps_of of inner_steps) own inputs

  env_grows : EnvGrows (last_env (facts_before facts)) (last_env facts)
  env_grows =
      subst₂ (λ (n m : ℕ). EnvGrows (env_after n (steps_of (facts_before facts) inner_steps) own inputs) (env_after m (steps_of facts inner_steps) own inputs))
      (sym (steps_length (facts_before facts) inner_steps)) (sym (steps_length facts inner_steps)) (rounds_grow facts own rest below inputs inner_steps (length inner_steps))

  inner_same : count_known (inner_walk w own inputs (facts_before facts)).outs ≡ count_known (inner_walk w own inputs facts).outs
      → (inner_walk w own inputs (facts_before facts)).outs ≡ (inner_walk w own inputs facts).outs
  inner_same =
      same_where (λ (o : Name × WorkflowOutput). o.0) (λ o. given (output_value inputs (last_env (facts_before facts)) o.1.links)) (λ o. given (output_value inputs (last_env facts) o.1.links))
      (λ o. given_stays (output_value inputs (last_env (facts_before facts)) o.1.links) (output_value inputs (last_env facts) o.1.links)
      (outputs_settle inputs (last_env (facts_before facts)) (last_env facts) env_grows o.1.links)) (out-Workflow w).outputs

-- ---- places

pub below_step : (facts : Facts) (place rest : JobPlace) (id : Name) (tuple : List ℕ) → EndedBelow facts place (segment id tuple ∷ rest) → EndedBelow facts (step_place place id tuple) rest
below_step facts place rest id tuple below = record { last = below.last; is = below.is; at = below.at ∙ sym (after_step place id tuple rest) }

goes_below : (facts : Facts) (place rest : JobPlace) (id : Name) (tuple : List ℕ) → EndedBelow facts (step_place place id tuple) rest → GoesAt facts place id tuple
goes_below facts place rest id tuple below = record { rest = rest; below = record { last = below.last; is = below.is; at = below.at ∙ after_step place id tuple rest } }

-- what was learned before the place
pub one_fewer : (facts : Facts) (place ended : JobPlace) → EndedBelow facts place ended → length (facts_before facts).learned + 1 ≡ length facts.learned
one_fewer facts place ended below = sym (ap length below.is ∙ length_push (earlier facts.learned) below.last)

-- ---- what the step meets and gives

leaves_more : (old most : List Met) → HasAll most old → (xs ys : List Met) → LeavesOut old xs ys → LeavesOut most xs ys
leaves_more old most all xs ys leaves_nothing = leaves_nothing
leaves_more old most all xs ys (leaves_in m xs1 ys1 leaves) = leaves_in m xs1 ys1 (leaves_more old most all xs1 ys1 leaves)
leaves_more old most all xs ys (leaves_out m xs1 ys1 at leaves) = leaves_out m xs1 ys1 (all m at) (leaves_more old most all xs1 ys1 leaves)

pub once_there : (tuple : List ℕ) (some : List (List ℕ)) → times tuple some ≡ 1 → IsIn tuple some
once_there tuple [] once = let no : 0 ≡ 1 = once in absurd (omega (arith, no))
once_there tuple (one ∷ some) once = by (bytes_eq one tuple) refl (once_there tuple some)
  where
    sum : one_if (bytes_eq one tuple) + times tuple some ≡ 1
    sum = once

    by : (b : Bool) → bytes_eq one tuple ≡ b → (times tuple some ≡ 1 → IsIn tuple some) → IsIn tuple (one ∷ some)
    by true is later = inl (sym ((bytes_eq-Decides one tuple).0 is))
    by false is later =
        let here : one_if (bytes_eq one tuple) ≡ 0 = ap one_if is in
        let rest : times tuple some ≡ 1 = omega (arith, sum, here) in
        inr (later rest)

module _ (facts : Facts) (place : JobPlace) (inputs : Fields) (env : Env) (s : Name × Step) (apart : step_ids_differ s.1 ≡ true) (tuple : List ℕ) (rest : JobPlace)
    (below : EndedBelow facts (step_place place s.0 tuple) rest) (w : Workflow) (own : Fields) where
  abbrev before : Facts
  before = facts_before facts

  abbrev of_step : Facts → Walk
  of_step of = walk_at of place inputs env s

  abbrev of_inner : Facts → Walk
  of_inner of = inner_walk w (step_place place s.0 tuple) own of

  goes_in : GoesAt facts place s.0 tuple
  goes_in = goes_below facts place rest s.0 tuple below

  -- what it meets
  inside_meets : (names : List Name) → IsInside facts place inputs env s w tuple own names → (met : List Met) → LeavesOut (of_inner before).met met (of_inner facts).met
      → (old : List Met) → HasAll old (of_step before).met → LeavesOut old met (of_step facts).met
  inside_meets [] is_alone met leaves old all =
      subst (λ (walk : Walk). LeavesOut old met walk.met) (sym (is_alone facts.learned))
      (leaves_more (of_inner before).met old (λ m among. all m (subst (λ (walk : Walk). IsIn m walk.met) (sym (is_alone (earlier facts.learned))) among)) met (of_inner facts).met leaves)
  inside_meets (name ∷ names) among met leaves old all =
      let met_before : HasAll old (mets_for before s.1 s.0 place among.values among.tuples) =
      λ m there. all m (subst (λ (walk : Walk). IsIn m walk.met) (sym (among.whole (earlier facts.learned))) there) in
      let met_inside : HasAll old (of_inner before).met =
      λ m there. met_before m (in_one (λ (walk : Walk). walk.met) (walk_for before s.1 s.0 place among.values) m tuple among.tuples (once_there tuple among.tuples among.once)
      (subst (λ (walk : Walk). IsIn m walk.met) (sym (among.goes (earlier facts.learned))) there)) in
      subst (λ (walk : Walk). LeavesOut old met walk.met) (sym (among.whole facts.learned))
      (once_meets facts s.1 s.0 place among.values tuple goes_in apart met old among.tuples among.once met_before
      (subst (λ (walk : Walk). LeavesOut old met walk.met) (sym (among.goes facts.learned)) (leaves_more (of_inner before).met old met_inside met (of_inner facts).met leaves)))

  step_grown : IsGrown (of_step before) (of_step facts)
  step_grown = step_grows facts place (segment s.0 tuple ∷ goes_in.rest) goes_in.below s inputs env env (λ step name. stays_itself _)

  -- what it gives
  inside_gives : (names : List Name) → IsInside facts place inputs env s w tuple own names → (outs others : Outs) → StaysBy facts place inputs env s outs others names
      → outs ≡ (of_step before).outs → others ≡ (of_inner facts).outs → (of_step facts).outs ≡ (of_step before).outs
  inside_gives [] is_alone outs others many gave now =
      let was_alone : (of_step before).outs ≡ (of_inner before).outs = ap (λ (walk : Walk). walk.outs) (is_alone (earlier facts.learned)) in
      let now_alone : (of_step facts).outs ≡ (of_inner facts).outs = ap (λ (walk : Walk). walk.outs) (is_alone facts.learned) in
      now_alone
      ∙ sym (inner_same facts (step_place place s.0 tuple) rest below w own (ap count_known (sym (gave ∙ was_alone)) ∙ many ∙ ap count_known now))
      ∙ sym was_alone
  inside_gives (name ∷ names) among outs others (inl lacking) gave now =
      let held : HoldsBack facts s.1 s.0 place among.values outs among.tuples =
      record {
        one = tuple;
        among = once_there tuple among.tuples among.once;
        none = subst (λ (these : Outs). lacks (out-Step s.1).outputs outs these ≡ true) (now ∙ sym (ap (λ (walk : Walk). walk.outs) (among.goes facts.learned))) lacking;
      } in
      ap (λ (walk : Walk). walk.outs) (among.whole facts.learned)
      ∙ outs_stay facts s.1 s.0 place among.values outs among.tuples held among.lengths
      (gave ∙ ap (λ (walk : Walk). walk.outs) (among.whole (earlier facts.learned)))
      (subst₂ IsGrown (among.whole (earlier facts.learned)) (among.whole facts.learned) step_grown)
      ∙ sym (ap (λ (walk : Walk). walk.outs) (among.whole (earlier facts.learned)))
  inside_gives (name ∷ names) among outs others (inr stay) gave now = stay gave step_grown

  gives_where : IsInside facts place inputs env s w tuple own (out-Step s.1).scatter → (others : Outs) → others ≡ (of_inner facts).outs
      → (found : Option Outs) → StandsBy before place inputs env s found → StaysWith facts place inputs env s others found → (of_step facts).outs ≡ (of_step before).outs
  gives_where inside others now None stands stays = absurd stays
  gives_where inside others now (Some outs) stands stays = inside_gives (out-Step s.1).scatter inside outs others stays stands.1 now

-- by its inner walk
module _ (facts : Facts) (place : JobPlace) (inputs : Fields) (env : Env) (s : Name × Step) (apart : step_ids_differ s.1 ≡ true) (tuple : List ℕ) (rest : JobPlace)
    (below : EndedBelow facts (step_place place s.0 tuple) rest) (number : ℕ) (inner : Inner) (has : HasInner facts place inputs env s number tuple inner) where
  step_meets : StandsBy (facts_before facts) place inputs env s (value_at s.0 env) → StaysWith facts place inputs env s inner.walk.outs (value_at s.0 env)
      → StepMeets facts place inputs env s (map met_of inner.walk.met)
  step_meets stands stays = by (out-Process (out-Step s.1).process) has.holds
    where
      by : (p : Process-F Process Step Workflow) → OfWorkflow (λ w. IsInner facts place inputs env s w tuple has.own has.readers has.own_env has.counts has.deeper inner.walk) p
          → StepMeets facts place inputs env s (map met_of inner.walk.met)
      by (Process-F.Tool tool) holds = absurd holds
      by (Process-F.Workflow w) holds = record {
        outs = gives_where facts place inputs env s apart tuple rest below w has.own holds.inside inner.walk.outs holds.outs (value_at s.0 env) stands stays;
        leaves = inside_meets facts place inputs env s apart tuple rest below w has.own (out-Step s.1).scatter holds.inside (map met_of inner.walk.met) holds.leaves;
      }

-- ---- what all steps meet

alone : (id : Name) (some : List (Name × Step)) → list_any (bytes_eq id) (keys_of some) ≡ false → (t : Name × Step) → IsIn t some → bytes_eq id t.0 ≡ false
alone id [] none t among = absurd among
alone id (s ∷ ss) none t (inl here) = ap (λ (u : Name × Step). bytes_eq id u.0) here ∙ neither_one (bytes_eq id s.0) (list_any (bytes_eq id) (keys_of ss)) none
alone id (s ∷ ss) none t (inr later) = alone id ss (neither_other (bytes_eq id s.0) (list_any (bytes_eq id) (keys_of ss)) none) t later

module _ (facts : Facts) (place : JobPlace) (inputs : Fields) (env : Env) (k : Name × Step) (met : List Met) where
  abbrev met_at : Name × Step → List Met
  met_at s = (walk_at facts place inputs env s).met

  abbrev all_met : List (Name × Step) → List Met
  all_met some = flat_map (λ s. (step_walk place inputs env s).met) (steps_of facts some)

  none_of : (old : List Met) (some : List (Name × Step)) → ((s : Name × Step) → IsIn s some → LeavesOut old [] (met_at s)) → LeavesOut old [] (all_met some)
  none_of old [] each = leaves_itself old []
  none_of old (s ∷ ss) each = leaves_append old [] (met_at s) [] (all_met ss) (each s (inl refl)) (none_of old ss (λ t later. each t (inr later)))

  first_differs : (s : Name × Step) (ss : List (Name × Step)) → differ (keys_of (s ∷ ss)) ≡ true → list_any (bytes_eq s.0) (keys_of ss) ≡ false
  first_differs s ss apart = not_true (list_any (bytes_eq s.0) (keys_of ss)) (and_left (not (list_any (bytes_eq s.0) (keys_of ss))) (differ (keys_of ss)) apart)

  one_of : (old : List Met) (some : List (Name × Step)) → differ (keys_of some) ≡ true → IsIn k some
      → ((s : Name × Step) → IsIn s some → bytes_eq s.0 k.0 ≡ false → LeavesOut old [] (met_at s)) → LeavesOut old met (met_at k) → LeavesOut old met (all_met some)
  one_of old [] apart among others last = absurd among
  one_of old (s ∷ ss) apart (inl here) others last =
      subst (λ (xs : List Met). LeavesOut old xs (all_met (s ∷ ss))) (append-nil met)
      (leaves_append old met (met_at s) [] (all_met ss) (subst (λ (t : Name × Step). LeavesOut old met (met_at t)) here last)
      (none_of old ss (λ t later. others t (inr later)
      (turned k.0 t.0 (ap (λ (u : Name × Step). bytes_eq u.0 t.0) here ∙ alone s.0 ss (first_differs s ss apart) t later)))))
  one_of old (s ∷ ss) apart (inr later) others last =
      leaves_append old [] (met_at s) met (all_met ss) (others s (inl refl) (alone s.0 ss (first_differs s ss apart) k later))
      (one_of old ss (and_right (not (list_any (bytes_eq s.0) (keys_of ss))) (differ (keys_of ss)) apart) later (λ t among. others t (inr among)) last)

  steps_meet : (steps : List (Name × Step)) → differ (keys_of steps) ≡ true → IsIn k steps
      → ((s : Name × Step) → IsIn s steps → bytes_eq s.0 k.0 ≡ false → StepMeets facts place inputs env s []) → StepMeets facts place inputs env k met
      → StepsMeet facts place inputs env steps met
  steps_meet steps apart among others one = record {
    apart = apart;
    outs = λ s here. by s here (bytes_eq s.0 k.0) refl;
    leaves = λ old all. one_of old steps apart among (λ s here other. (others s here other).leaves old (all s here)) (one.leaves old (all k among));
  }
    where
      by : (s : Name × Step) → IsIn s steps → (b : Bool) → bytes_eq s.0 k.0 ≡ b → (walk_at facts place inputs env s).outs ≡ (walk_at (facts_before facts) place inputs env s).outs
      by s here true is =
          subst (λ (t : Name × Step). (walk_at facts place inputs env t).outs ≡ (walk_at (facts_before facts) place inputs env t).outs) (sym (one_step s k steps apart here among is)) one.outs
      by s here false is = (others s here is).outs

-- a step beside the one that a place goes through
goes_past : (ended : JobPlace) (k s : Name) → goes_through ended k ≡ true → bytes_eq s k ≡ false → goes_through ended s ≡ false
goes_past [] k s through apart = absurd cc
goes_past (g ∷ rest) k s through apart = ap (λ (id : Name). bytes_eq id s) ((bytes_eq-Decides g.step k).0 through) ∙ turned s k apart

-- ---- what is kept of a step

-- where more outputs of steps are known
module _ (facts : Facts) (place : JobPlace) (inputs : Fields) (env later : Env) (grown : EnvGrows env later) (s : Name × Step) (ready : is_ready env s.1 ≡ true) where
  walk_later : (learned : List KeptResolved) → walk_at (facts_with facts learned) place inputs later s ≡ walk_at (facts_with facts learned) place inputs env s
  walk_later learned = sym (walk_stays facts.measures (made_from (facts_with facts learned)) place inputs env later grown s ready)

  inside_later : (w : Workflow) (tuple : List ℕ) (own : Fields) (names : List Name) → IsInside facts place inputs env s w tuple own names → IsInside facts place inputs later s w tuple own names
  inside_later w tuple own [] is_alone = λ learned. walk_later learned ∙ is_alone learned
  inside_later w tuple own (name ∷ names) among = record {
    values = among.values;
    lengths = among.lengths;
    tuples = among.tuples;
    once = among.once;
    whole = λ learned. walk_later learned ∙ among.whole learned;
    goes = among.goes;
  }

module _ (facts : Facts) (place : JobPlace) (inputs : Fields) (steps : List (Name × Step)) (env : Env) (n : ℕ) (k : Name × Step) (below : n < length steps) (is : k ≡ get_or steps n k) where
  -- inside it
  module _ (tuple : List ℕ) (inner : Inner) (has : HasInner facts place inputs env k n tuple inner) (later : Env) where
    abbrev this : Nested
    this = record { number = n; tuple = tuple; inputs = has.own; readers = has.readers; env = has.own_env; counts = has.counts }

    abbrev KeepsThis : Name × Step → Workflow → Type 0
    KeepsThis s w = KeepsOne facts place inputs later s w this (KeepsAlong facts (step_place place s.0 tuple) has.own (out-Workflow w).steps has.own_env has.deeper)

    kept_inner : is_ready env k.1 ≡ true → EnvGrows env later → KeepsAlong facts place inputs steps later (reverse inner.nested)
    kept_inner ready grown =
        subst (KeepsAlong facts place inputs steps later) (sym has.is)
        (λ s within here. subst (λ (t : Name × Step). OfWorkflow (KeepsThis t) (out-Process (out-Step t.1).process)) (same_at steps n k s below is here)
        (also_of (λ w. IsInner facts place inputs env k w tuple has.own has.readers has.own_env has.counts has.deeper inner.walk) (KeepsThis k)
        (λ w holds. record {
          inside = inside_later facts place inputs env later grown k ready w tuple has.own (out-Step k.1).scatter holds.inside;
          settled = holds.settled;
          table = holds.table;
          counted = holds.counted;
          along = holds.along;
        }) (out-Process (out-Step k.1).process) has.holds))

  pub may_keep : (nested : List Nested) → KeepsAlong facts place inputs steps env nested → MayKeep facts place inputs env k n nested
  may_keep [] keeps = tt
  may_keep (one ∷ deeper) keeps = λ number. keeps k (subst (λ (m : ℕ). m < length steps) (sym number) below) (subst (λ (m : ℕ). k ≡ get_or steps m k) (sym number) is)

-- ---- the inner walk

module _ (facts : Facts) (place : JobPlace) (inputs : Fields) (env : Env) (s : Name × Step) where
  abbrev form : Process-F Process Step Workflow
  form = out-Process (out-Step s.1).process

  -- whatever was learned
  inside_now : (w : Workflow) (tuple : List ℕ) (own : Fields) (names : List Name) → IsInside (facts_before facts) place inputs env s w tuple own names → IsInside facts place inputs env s w tuple own names
  inside_now w tuple own [] is_alone = is_alone
  inside_now w tuple own (name ∷ names) among =
      record { values = among.values; lengths = among.lengths; tuples = among.tuples; once = among.once; whole = among.whole; goes = among.goes }

  -- where it goes on
  module _ (one : Nested) (deeper : List Nested) where
    abbrev Kept : Workflow → Type 0
    Kept w = KeepsOne (facts_before facts) place inputs env s w one (KeepsAlong (facts_before facts) (step_place place s.0 one.tuple) one.inputs (out-Workflow w).steps one.env deeper)

    pub settled_in : OfWorkflow Kept form → SettledIn (facts_before facts) (step_place place s.0 one.tuple) form one deeper
    settled_in =
        also_of Kept (λ w. IsSettled (facts_before facts) (step_place place s.0 one.tuple) one.inputs (out-Workflow w).steps one.env
        × KeepsAlong (facts_before facts) (step_place place s.0 one.tuple) one.inputs (out-Workflow w).steps one.env deeper × IsTableOf one.readers (out-Workflow w).steps
        × IsCounted one.env (out-Workflow w).steps one.counts.items)
        (λ w keeps. (keeps.settled, keeps.along, keeps.table, keeps.counted)) form

    pub gone_inner : (number : ℕ) (tuple : List ℕ) (inner : Inner) → one.number ≡ number → one.tuple ≡ tuple → OfWorkflow Kept form
        → GoesOnIn facts (step_place place s.0 one.tuple) form one inner → HasInner facts place inputs env s number tuple inner
    gone_inner number tuple inner numbered at keeps goes =
        subst₂ (λ (n : ℕ) (t : List ℕ). HasInner facts place inputs env s n t inner) numbered at (record {
          own = one.inputs;
          readers = one.readers;
          own_env = goes.env;
          counts = goes.counts;
          deeper = goes.deeper;
          is = goes.is;
          holds = both_of Kept (λ w. HasGone facts (step_place place s.0 one.tuple) w one goes.env goes.counts goes.deeper inner.walk)
              (λ w. IsInner facts place inputs env s w one.tuple one.inputs one.readers goes.env goes.counts goes.deeper inner.walk)
              (λ w keeps gone. record { inside = inside_now w one.tuple one.inputs (out-Step s.1).scatter keeps.inside; outs = gone.outs; leaves = gone.leaves; settled = gone.settled; table = keeps.table; counted = gone.counted; along = gone.along }) form keeps goes.gone;
        })

  -- where it begins
  module _ (tuple : List ℕ) (given : Fields) (hands : Hands facts inputs env s.1 tuple given) where
    instance_is : (of : Facts) (here : JobPlace) → instance (step_of of s.1) here hands.fields ≡ meaning_of of.measures (made_from of) (out-Step s.1).process here given
    instance_is of here = ap (instance_from (step_of of s.1) here) hands.made ∙ ap (run_where (step_of of s.1) here given) hands.run

    scattered_is : (of : Facts) → of.measures ≡ facts.measures → walk_at of place inputs env s ≡ scattered (step_of of s.1) s.0 place hands.values (out-Step s.1).scatter
    scattered_is of measures =
        walk_is facts place inputs env s of hands.values (ap (λ (m : Measures). all_given (entries_of m (out-Step s.1).inputs inputs env)) measures ∙ hands.known)

    module _ (w : Workflow) (is : form ≡ Process-F.Workflow w) (own : Fields) (inputs_are : workflow_inputs_for facts.measures (out-Workflow w).inputs given ≡ Ok own) where
      inner_is : (of : Facts) → of.measures ≡ facts.measures → (here : JobPlace) → instance (step_of of s.1) here hands.fields ≡ inner_walk w here own of
      inner_is of measures here =
          instance_is of here
          ∙ of_root of.measures (made_from of) w (out-Step s.1).process is here given
          ∙ of_workflow of.measures (made_from of) w here given own (ap (λ (m : Measures). workflow_inputs_for m (out-Workflow w).inputs given) measures ∙ inputs_are)

      inside_by : (names : List Name) → (out-Step s.1).scatter ≡ names → HandsBy s.1 hands.values tuple hands.fields names → IsInside facts place inputs env s w tuple own names
      inside_by [] none by = λ learned.
          scattered_is (facts_with facts learned) refl
          ∙ ap (scattered (step_of (facts_with facts learned) s.1) s.0 place hands.values) none
          ∙ ap (instance (step_of (facts_with facts learned) s.1) (step_place place s.0 [])) (sym by.1)
          ∙ inner_is (facts_with facts learned) refl (step_place place s.0 [])
          ∙ ap (λ (t : List ℕ). inner_walk w (step_place place s.0 t) own (facts_with facts learned)) (sym by.0)
      inside_by (name ∷ names) some by = record {
        values = hands.values;
        lengths = by.lengths;
        tuples = by.has.tuples;
        once = by.has.once;
        whole = λ learned.
            scattered_is (facts_with facts learned) refl
            ∙ ap (scattered (step_of (facts_with facts learned) s.1) s.0 place hands.values) some
            ∙ ap (over_lengths (step_of (facts_with facts learned) s.1) s.0 place hands.values) (ap (λ (these : List Name). lengths_under these hands.values) (sym some) ∙ by.long)
            ∙ ap (over_tuples (step_of (facts_with facts learned) s.1) s.0 place hands.values by.lengths) by.has.made;
        goes = λ learned.
            ap (instance (step_of (facts_with facts learned) s.1) (step_place place s.0 tuple)) (sym by.is)
            ∙ inner_is (facts_with facts learned) refl (step_place place s.0 tuple);
      }

    module _ (number : ℕ) (inner : Inner) (begins : HasBegun facts (step_place place s.0 tuple) form given number tuple inner) where
      holds_by : (p : Process-F Process Step Workflow) → form ≡ p → OfWorkflow (λ w. IsBegun facts (step_place place s.0 tuple) w given begins.inputs begins.readers begins.env begins.counts inner.walk) p
          → OfWorkflow (λ w. IsInner facts place inputs env s w tuple begins.inputs begins.readers begins.env begins.counts [] inner.walk) p
      holds_by (Process-F.Tool tool) is begun = absurd begun
      holds_by (Process-F.Workflow w) is begun = record {
        inside = inside_by w is begins.inputs begun.hands (out-Step s.1).scatter refl hands.by;
        outs = ap (λ (walk : Walk). walk.outs) begun.whole;
        leaves = subst (λ (walk : Walk). LeavesOut (inner_walk w (step_place place s.0 tuple) begins.inputs (facts_before facts)).met (map met_of inner.walk.met) walk.met) begun.whole
            (leaves_itself (inner_walk w (step_place place s.0 tuple) begins.inputs (facts_before facts)).met (map met_of inner.walk.met));
        settled = begun.settled;
        table = begun.table;
        counted = begun.counted;
        along = tt;
      }

      pub begun_inner : HasInner facts place inputs env s number tuple inner
      begun_inner = record { own = begins.inputs; readers = begins.readers; own_env = begins.env; counts = begins.counts; deeper = []; is = begins.is; holds = holds_by form refl begins.begun }

-- ---- what all steps meet, where the place goes through one that has an inner walk

module _ (facts : Facts) (place ended : JobPlace) (below : EndedBelow facts place ended) (inputs : Fields) (steps : List (Name × Step))
    (apart : differ (keys_of steps) ≡ true) (inside : list_all (λ s. step_ids_differ s.1) steps ≡ true) (env : Env) (was : IsSettled (facts_before facts) place inputs steps env)
    (n : ℕ) (k : Name × Step) (within : n < length steps) (here_is : k ≡ get_or steps n k) (through : goes_through ended k.0 ≡ true)
    (tuple : List ℕ) (rest : JobPlace) (below_k : EndedBelow facts (step_place place k.0 tuple) rest) where
  among_steps : IsIn k steps
  among_steps = is_element steps n k within here_is

  differs : (s : Name × Step) → IsIn s steps → step_ids_differ s.1 ≡ true
  differs = each_of (λ (s : Name × Step). step_ids_differ s.1) steps inside

  is_ready_now : is_some (value_at k.0 env) ≡ true → is_ready env k.1 ≡ true
  is_ready_now = by (value_at k.0 env) (was.keeps.stands k among_steps)
    where
      by : (there : Option Outs) → StandsBy (facts_before facts) place inputs env k there → is_some there ≡ true → is_ready env k.1 ≡ true
      by None stands some = absurd cc
      by (Some outs) stands some = stands.0

  module _ (walked : is_some (value_at k.0 env) ≡ true) where
    pub nested_meet : (inner : Inner) → HasInner facts place inputs env k n tuple inner → (found : Found) → IsFound facts place inputs env k (Some inner) found
        → NestedMeet facts place inputs steps env found
    nested_meet inner has found is = record {
      meets = λ stays.
          steps_meet facts place inputs env k (map met_of found.inner.walk.met) steps apart among_steps
          (λ s there other. step_past facts place inputs env s ended below (differs s there) (goes_past ended k.0 s.0 through other))
          (step_meets facts place inputs env k (differs k among_steps) tuple rest below_k n found.inner has_found (was.keeps.stands k among_steps) (is.stays stays));
      along = λ later. kept_inner facts place inputs steps env n k within here_is tuple found.inner has_found later (is_ready_now walked);
    }
      where
        same_inner : (one other : Inner) → Some one ≡ Some other → one ≡ other
        same_inner one other same = cc

        has_found : HasInner facts place inputs env k n tuple found.inner
        has_found = subst (HasInner facts place inputs env k n tuple) (same_inner inner found.inner is.is) has
