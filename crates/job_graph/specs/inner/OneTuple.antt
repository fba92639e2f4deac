-- What a step meets and gives, where a place inside one of its tuples was learned.
use Rattle.std.specs.Prelude.{◌≡◌, ◌⊎◌, ◌||◌, ◌+◌, ℕ, zero, suc, Bool, true, cond, not, List, [], ◌∷◌, Option, Some, None, Ok, bytes_eq, is_some, map}
use Rattle.std.specs.List.{flat_map, list_all}
use Rattle.std.specs.Map.{keys_of}
use Rattle.document_links.specs.declared.process.Step.{Step, out-Step}
use Rattle.job_graph.specs.inner.Elements.{IsIn}
use Rattle.job_graph.specs.Apart.{differ}
use Rattle.job_graph.specs.Words.{Name, Fields, JobPlace}
use Rattle.job_graph.specs.Jobs.{Met, Outs, Walk}
use Rattle.job_graph.specs.Links.{Env, out_under}
use Rattle.scatter_shape.specs.Tuples.{tuples_of}
use Rattle.scatter_shape.specs.declared.shape.Method.{Method}
use Rattle.job_graph.specs.Scatter.{at_tuple, method_of, tuples_for}
use Rattle.job_graph.specs.Equations.{instance, step_place, step_walk}
use Rattle.job_graph.specs.More.{IsGrown}
use Rattle.job_graph.specs.declared.made.Facts.{Facts}
use Rattle.job_graph.specs.inner.Going.{EndedBelow, LeavesOut, facts_before}
use Rattle.job_graph.specs.inner.Levels.{step_of, steps_of}
use Rattle.job_graph.specs.inner.Rounds.{walk_at}

-- the place that was learned last goes through the step of this id, at this tuple
pub record GoesAt (facts : Facts) (place : JobPlace) (id : Name) (tuple : List ℕ) : Type 0 where
  pub rest : JobPlace
  pub below : EndedBelow facts place (record { step = id; index = tuple } ∷ rest)

-- all of this was met before
abbrev pub HasAll : List Met → List Met → Type 0
HasAll old met = (m : Met) → IsIn m met → IsIn m old

-- ---- the tuples of a step whose inputs have these values

module _ (facts : Facts) (step : Step) (id : Name) (place : JobPlace) (values : Fields) where
  abbrev pub walk_for : List ℕ → Walk
  walk_for tuple = instance (step_of facts step) (step_place place id tuple) (at_tuple (step_of facts step).scatter tuple values)

  abbrev pub walks_for : List (List ℕ) → List Walk
  walks_for tuples = map walk_for tuples

  abbrev pub mets_for : List (List ℕ) → List Met
  mets_for tuples = flat_map (λ w. w.met) (walks_for tuples)

abbrev pub one_if : Bool → ℕ
one_if found = cond found (suc zero) zero

-- how often a tuple is among others
abbrev pub times : List ℕ → List (List ℕ) → ℕ
times tuple [] = zero
times tuple (one ∷ tuples) = one_if (bytes_eq one tuple) + times tuple tuples

-- the lengths have the tuple once, among not too many
pub record HasTuple (method : Method) (lengths tuple : List ℕ) : Type 0 where
  pub made : tuples_for method lengths ≡ Ok (tuples_of method lengths)
  pub once : times tuple (tuples_of method lengths) ≡ 1

-- ---- whether outputs stay

-- how many of the outputs are known
abbrev pub count_known : Outs → ℕ
count_known [] = zero
count_known (out ∷ outs) = one_if (is_some out.1) + count_known outs

-- whether a name has a value in the first outputs, or none in the others
abbrev pub lacks_one : Outs → Outs → Name → Bool
lacks_one outs others name = is_some (out_under name (Some outs)) || not (is_some (out_under name (Some others)))

abbrev pub lacks : List Name → Outs → Outs → Bool
lacks names outs others = list_all (lacks_one outs others) names

-- one of the tuples has no value for each output that the step has none for
pub record HoldsBack (facts : Facts) (step : Step) (id : Name) (place : JobPlace) (values : Fields) (outs : Outs) (tuples : List (List ℕ)) : Type 0 where
  pub one : List ℕ
  pub among : IsIn one tuples
  pub none : lacks (out-Step step).outputs outs (walk_for facts step id place values one).outs ≡ true

-- the tuples of these lengths have such a one
pub record HoldsByOne (facts : Facts) (step : Step) (id : Name) (place : JobPlace) (values : Fields) (outs : Outs) (lengths : List ℕ) : Type 0 where
  pub made : tuples_for (method_of (out-Step step).method) lengths ≡ Ok (tuples_of (method_of (out-Step step).method) lengths)
  pub holds : HoldsBack facts step id place values outs (tuples_of (method_of (out-Step step).method) lengths)

-- what a walk gave before it gives now, where what is known stays
abbrev pub OutsStay : Outs → Walk → Walk → Type 0
OutsStay given was now = given ≡ was.outs → IsGrown was now → now.outs ≡ was.outs

module _ (facts : Facts) (place : JobPlace) (inputs : Fields) (env : Env) (s : Name × Step) where
  -- of a step that gave these outputs, where the process of one tuple gives others now: as many, of a step that is not scattered; or none that
  -- the step lacks; or another tuple holds the step's back
  abbrev pub StaysBy : Outs → Outs → List Name → Type 0
  StaysBy outs others [] = count_known outs ≡ count_known others
  StaysBy outs others (name ∷ names) =
      (lacks (out-Step s.1).outputs outs others ≡ true) ⊎ OutsStay outs (walk_at (facts_before facts) place inputs env s) (walk_at facts place inputs env s)

  abbrev pub StaysWith : Outs → Option Outs → Type 0
  StaysWith others None = ⊥
  StaysWith others (Some outs) = StaysBy outs others (out-Step s.1).scatter

-- ---- what is met anew

module _ (facts : Facts) (place : JobPlace) (inputs : Fields) (env : Env) where
  -- by a step
  pub record StepMeets (s : Name × Step) (met : List Met) : Type 0 where
    pub outs : (walk_at facts place inputs env s).outs ≡ (walk_at (facts_before facts) place inputs env s).outs
    pub leaves : (old : List Met) → HasAll old (walk_at (facts_before facts) place inputs env s).met → LeavesOut old met (walk_at facts place inputs env s).met

  -- by all steps, no two of which have one id
  pub record StepsMeet (steps : List (Name × Step)) (met : List Met) : Type 0 where
    pub apart : differ (keys_of steps) ≡ true
    pub outs : (s : Name × Step) → IsIn s steps → (walk_at facts place inputs env s).outs ≡ (walk_at (facts_before facts) place inputs env s).outs
    pub leaves : (old : List Met) → ((s : Name × Step) → IsIn s steps → HasAll old (walk_at (facts_before facts) place inputs env s).met)
        → LeavesOut old met (flat_map (λ s. (step_walk place inputs env s).met) (steps_of facts steps))
