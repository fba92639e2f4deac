-- Which transcripts are runs, and how a run ends.
use Rattle.std.specs.Prelude.{◌≡◌, ℕ, MatchBool, List, [], ◌∷◌, ◌++◌, length}
use Rattle.run_rules.specs.declared.request.Pair.{Pair}
use Rattle.run_rules.specs.declared.setting.Setting.{Setting}
use Rattle.run_rules.specs.Costs.{graph_at}
use Rattle.run_rules.specs.Events.{Event, Work, Progress, at_first}
use Rattle.run_rules.specs.End.{End}
use Rattle.run_rules.specs.EndsSo.{EndsSo}
use Rattle.plan_checker.specs.declared.plan.Mark.{Mark}
use Rattle.run_rules.specs.Plans.{InForce, PlansSoFar, is_planning, no_plans, plan_note}
use Rattle.run_rules.specs.Allowed.{Allowed}
use Rattle.run_rules.specs.Steps.{Steps, progress_with}
use Rattle.run_rules.specs.Scene.{Scene, scene_of}

module _ (s : Scene) (Plans : Progress → List Mark → Type 0) where
  -- a plan is made of the present job graph, after so many answers, and noted
  pub record MakesPlan (after : ℕ) (f : Progress) (old new : PlansSoFar) : Type 0 where
    pub graph : new.graph ≡ graph_at s f.events
    pub marks : Plans f new.marks
    pub notes : new.notes ≡ old.notes ++ plan_note after new.graph new.marks ∷ []

  -- so at a planning point; else the old plan stays in force
  abbrev pub Replans : ℕ → Progress → PlansSoFar → PlansSoFar → Type 0
  Replans after f old new = MatchBool (is_planning s f) (MakesPlan after f old new) (new ≡ old)

  -- a run so far: its pairs, what they have brought about, and what was planned
  pub data Goes : List Pair → Progress → PlansSoFar → Type 0 where
    begins : (plans : PlansSoFar) → Replans 0 at_first no_plans plans → Goes [] at_first plans
    asks : (t : List Pair) (f : Progress) (old : PlansSoFar) (p : Pair) (work : Work) (new : List Event) (plans : PlansSoFar) → Goes t f old →
        Allowed s f old.marks p.request → Steps s f p work new → Replans (length (t ++ p ∷ [])) (progress_with f work new) old plans →
        Goes (t ++ p ∷ []) (progress_with f work new) plans

  -- a whole run that ends so
  pub record Ends (t : List Pair) (end : End) : Type 0 where
    pub happened : Progress
    pub plans : PlansSoFar
    pub goes : Goes t happened plans
    pub ended : EndsSo s happened plans.marks end

-- a run of a process so far, under the plans that runs have in force
abbrev pub IsRunSoFar : Setting → List Pair → Progress → PlansSoFar → Type 0
IsRunSoFar setting = Goes (scene_of setting) (InForce (scene_of setting))

-- a whole run of a process that ends so
abbrev pub IsRun : Setting → List Pair → End → Type 0
IsRun setting = Ends (scene_of setting) (InForce (scene_of setting))
