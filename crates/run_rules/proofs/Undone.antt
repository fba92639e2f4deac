-- Where a run may end well nothing is left undone: each known job is resolved, and what made a file of the result is at hand.
use Rattle.std.specs.Prelude.{◌≤◌, Contains, is_some}
use Rattle.std.proofs.Common.{◌≡◌, ◌≢◌, ◌∙◌, ℕ, Bool, true, false, cond, List, [], ◌∷◌, Option, Some, None, refl, sym, ap, subst, arith, option_map}
use Rattle.std.specs.List.{cons_option, list_all}
use Rattle.input_files.specs.Measured.{Measures}
use Rattle.cwl_value.specs.declared.value.Value.{Value}
use Rattle.plan_checker.specs.Graph.{vertex}
use Rattle.plan_checker.specs.declared.plan.Mark.TheVariants.{Compute}
use Rattle.job_rows.specs.declared.row.Row.{Row}
use Rattle.job_graph.specs.Jobs.{Job, Made, Outs, Walker, all_named, is_well, those_named, with_first}
use Rattle.job_graph.specs.Made.{any_made}
use Rattle.job_graph.specs.Unfold.{Resolved, Unfolded, made_by, outputs_at, unfolded}
use Rattle.job_graph.specs.Words.{Name, Fields}
use Rattle.run_rules.specs.declared.request.Pair.{Pair}
use Rattle.run_rules.specs.Allowed.{IsBusy}
use Rattle.run_rules.specs.Costs.{cost_to_compute, graph_at}
use Rattle.run_rules.specs.End.{succeeds_with}
use Rattle.run_rules.specs.EndsSo.{EndsSo, fails, succeeds}
use Rattle.run_rules.specs.Events.{Event, Progress, are_measured, can_load, in_flight, is_at_hand, is_held, measures, resolved, row_at, unfolding_at}
use Rattle.run_rules.specs.Plans.{InForce, PlansSoFar, is_planning, mark_at}
use Rattle.run_rules.specs.Run.{Goes}
use Rattle.run_rules.specs.Scene.{Scene}
use Rattle.run_rules.proofs.Apart.{apart_at}
use Rattle.run_rules.proofs.Free.{free_is_not_computed}
use Rattle.run_rules.proofs.SuccessCollects.{IsNoSuccess, settled_failure}
use Rattle.run_rules.proofs.Staying.{has_result, unfolding_if}
use Rattle.run_rules.proofs.events.Kept.{all_resolved, made_there}
use Rattle.run_rules.proofs.events.Places.{AreApart, IsJob}
use Rattle.run_rules.proofs.events.Planned.{PlansAt, jobs_in, mark_by_number, planned_now}
use Rattle.run_rules.proofs.events.Vertices.{its_compute, its_load, one_each}

-- ---- the known outputs are the result, where there is one

named_by : (name : Name) (value : Option Value) (rest : Option Fields) (those outputs : Fields) → with_first (option_map (λ v. (name, v)) value) rest ≡ Some outputs →
    ((more : Fields) → rest ≡ Some more → those ≡ more) → cons_option (option_map (λ v. (name, v)) value) those ≡ outputs
named_by name (Some value) (Some more) those outputs is later =
    let all : (name, value) ∷ more ≡ outputs = cc in
    ap (λ (fields : Fields). (name, value) ∷ fields) (later more refl) ∙ all
named_by name (Some value) None those outputs is later = absurd cc
named_by name None (Some more) those outputs is later = absurd cc
named_by name None None those outputs is later = absurd cc

named_are_all : (outs : Outs) (outputs : Fields) → all_named outs ≡ Some outputs → those_named outs ≡ outputs
named_are_all [] outputs is = cc
named_are_all (e ∷ outs) outputs is = named_by e.0 e.1 (all_named outs) (those_named outs) outputs is (named_are_all outs)

if_well : (well : Bool) (named : Option Fields) (outputs : Fields) → cond well named None ≡ Some outputs → named ≡ Some outputs
if_well true named outputs is = is
if_well false named outputs is = absurd cc

outs_are : (s : Scene) (es : List Event) (outputs : Fields) → (unfolding_at s es).result ≡ Some outputs → (unfolding_at s es).outs ≡ outputs
outs_are s es outputs is =
    let walks : Walker = s.walker (measures es) in
    let made : Made = made_by (resolved es) in
    let all : are_measured s es ≡ true = has_result (are_measured s es) (unfolded walks (resolved es)) outputs is in
    let known_so : unfolding_at s es ≡ unfolded walks (resolved es) = unfolding_if s es all in
    ap (λ (u : Unfolded). u.outs) known_so
    ∙ named_are_all (walks made).outs outputs
    (if_well (list_all (is_well made) (walks made).met) (all_named (walks made).outs) outputs (sym (ap (λ (u : Unfolded). u.result) known_so) ∙ is))

-- ---- no held job is computed

loads_for_nothing : (held can : Bool) (load : Option ℕ) → held ≡ true → cond held (Some 0) (cond can load None) ≡ Some 0
loads_for_nothing true can load is = refl
loads_for_nothing false can load is = absurd cc

costs_one : (row : Option Row) → 1 ≤ cost_to_compute row
costs_one None = omega arith
costs_one (Some row) = omega arith

module _ (s : Scene) (differ : (all : Measures) (learned : List Resolved) → AreApart (unfolded (s.walker all) learned).jobs) {t : List Pair} {f : Progress} {plans : PlansSoFar}
    (goes : Goes s (InForce s) t f plans) where
  pub held_is_not_computed : is_planning s f ≡ true → (job : Job) → Contains (unfolding_at s f.events).jobs job → is_held f.events job.place ≡ true →
      mark_at s plans.marks f.events job.place ≢ Compute
  held_is_not_computed planning job there is computed =
      let it : IsJob (jobs_in s f) there.0 job = record { within = there.1; is = there.2 } in
      let now : PlansAt s f plans = planned_now s goes planning in
      let some : 1 ≤ (vertex (graph_at s f.events) there.0).compute =
      subst (λ n. 1 ≤ n) (sym (its_compute s f.events there.0 job it)) (costs_one (row_at f.events job.place)) in
      free_is_not_computed (graph_at s f.events) plans.marks now.least.cheapest there.0 (omega (arith, it.within, one_each s f.events))
      (its_load s f.events there.0 job it ∙ loads_for_nothing (is_held f.events job.place) (can_load s f.events job.place) _ is)
      some
      (sym (mark_by_number s f plans.marks there.0 job (apart_at s differ f.events) it) ∙ computed)

  -- ---- where nothing more can be done

  module _ (slots : 1 ≤ s.options.slots) (busy : IsBusy s f plans.marks) (landed : in_flight f.events ≡ []) (job : Job) (there : Contains (unfolding_at s f.events).jobs job) where
    it : IsJob (jobs_in s f) there.0 job
    it = record { within = there.1; is = there.2 }

    pub is_resolved : is_some (outputs_at (resolved f.events) job.place) ≡ true
    is_resolved = all_resolved s goes slots (apart_at s differ f.events) busy landed there.0 job it

    pub is_there : any_made job.place (unfolding_at s f.events).outs ≡ true → is_at_hand f.events job.place ≡ true
    is_there made = made_there s goes slots (apart_at s differ f.events) busy landed there.0 job it made

  -- so it is in a success
  pub delivered_is_there : (outputs delivered : Fields) → 1 ≤ s.options.slots → EndsSo s f plans.marks (succeeds_with outputs delivered) → (job : Job) →
      Contains (unfolding_at s f.events).jobs job → any_made job.place outputs ≡ true → is_at_hand f.events job.place ≡ true
  delivered_is_there outputs delivered slots (fails end idle collects landed settles) job there made = absurd (subst IsNoSuccess settles (settled_failure s f.events))
  delivered_is_there outputs delivered slots (succeeds its_outputs its_delivered busy landed result is) job there made =
      is_there slots busy landed job there (ap (any_made job.place) (outs_are s f.events outputs result) ∙ made)
