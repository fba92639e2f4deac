-- A run so far grows by one pair, and then by the plan that is made after it, where one is.
use Rattle.std.proofs.Common.{◌≡◌, Bool, true, false, List, [], ◌∷◌, ◌++◌, length, None, refl}
use Rattle.plan_checker.specs.Graph.{IsGraph}
use Rattle.plan_checker.specs.Laws.{EachHasLeast, HasLeast}
use Rattle.run_rules.specs.declared.request.Pair.{Pair}
use Rattle.run_rules.specs.Costs.{graph_at}
use Rattle.run_rules.specs.End.{settled}
use Rattle.run_rules.specs.Scene.{Scene}
use Rattle.run_rules.specs.Events.{Event, Work, Progress, at_first}
use Rattle.run_rules.specs.Allowed.{Allowed}
use Rattle.run_rules.specs.Plans.{InForce, PlansSoFar, is_planning, no_plans, plan_note}
use Rattle.run_rules.specs.Steps.{Steps, progress_with}
use Rattle.run_rules.specs.Run.{Goes, Replans, asks, begins}
use Rattle.run_rules.proofs.events.Planned.{is_made, stays_in_force, unsettled_there}

module _ (s : Scene) where
  -- a run so far but for the plan that is made after its last pair, where these were planned before
  abbrev pub Comes : List Pair → Progress → PlansSoFar → Type 0
  Comes t f old = (plans : PlansSoFar) → Replans s (InForce s) (length t) f old plans → Goes s (InForce s) t f plans

  pub first_comes : Comes [] at_first no_plans
  first_comes plans its = begins plans its

  pub comes_on : {t : List Pair} {f : Progress} {old : PlansSoFar} (p : Pair) (work : Work) (new : List Event) → Goes s (InForce s) t f old →
      Allowed s f old.marks p.request → Steps s f p work new → Comes (t ++ p ∷ []) (progress_with f work new) old
  comes_on {t = t} {f = f} {old = old} p work new goes allowed steps plans its = asks t f old p work new plans goes allowed steps its

  -- the present job graph is one, where nothing is settled
  abbrev pub AreGraphs : Type 0
  AreGraphs = (es : List Event) → settled s es ≡ None → IsGraph (graph_at s es)

  -- a run so far, with some plan after its last pair
  pub record GoesSo (t : List Pair) (f : Progress) : Type 0 where
    pub plans : PlansSoFar
    pub goes : Goes s (InForce s) t f plans

  -- there is a plan to make
  pub goes_anyway : EachHasLeast → AreGraphs → (t : List Pair) (f : Progress) (old : PlansSoFar) → Comes t f old → GoesSo t f
  goes_anyway each graphs t f old comes = by (is_planning s f) refl
    where
      by : (planning : Bool) → is_planning s f ≡ planning → GoesSo t f
      by true planning =
          let least : HasLeast (graph_at s f.events) = each (graph_at s f.events) (graphs f.events (unsettled_there s f planning)) in
          let plans : PlansSoFar = record {
            graph = graph_at s f.events;
            marks = least.marks;
            notes = old.notes ++ plan_note (length t) (graph_at s f.events) least.marks ∷ [];
          } in
          record { plans = plans; goes = comes plans (is_made s f (length t) old plans planning (record { graph = refl; marks = least.least; notes = refl })) }
      by false none = record { plans = old; goes = comes old (stays_in_force s f (length t) old none) }
