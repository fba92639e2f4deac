-- The outputs of the steps of a workflow, where each step is walked once none of its inputs waits.
use Rattle.std.specs.Prelude.{◌≡◌, ℕ, zero, suc, ◌+◌, ◌<◌, Bool, true, false, not, ◌||◌, List, [], ◌∷◌, map, Option, Some, None, is_some, unwrap_or}
use Rattle.std.specs.List.{list_all}
use Rattle.cwl_process.specs.declared.links.Source.{Source}
use Rattle.document_links.specs.declared.process.Step.{Step, out-Step}
use Rattle.plain_data.specs.ByName.{value_at}
use Rattle.job_graph.specs.inner.Elements.{IsIn}
use Rattle.job_graph.specs.Words.{Name, Fields, JobPlace}
use Rattle.job_graph.specs.Jobs.{Outs, Walk}
use Rattle.job_graph.specs.Links.{Env, out_under}
use Rattle.job_graph.specs.Equations.{env_after, step_meaning_of}
use Rattle.job_graph.specs.More.{Stays}
use Rattle.job_graph.specs.declared.made.Facts.{Facts}
use Rattle.job_graph.specs.inner.Levels.{steps_of}
use Rattle.job_graph.specs.declared.walk.Met.{Met as KeptMet}
use Rattle.job_graph.specs.inner.Views.{made_from, met_of}

-- each output that is known stays
abbrev pub EnvGrows : Env → Env → Type 0
EnvGrows env later = (step name : Name) → Stays (out_under name (value_at step env)) (out_under name (value_at step later))

-- the same is known of each output
abbrev pub SaysSame : Env → Env → Type 0
SaysSame one other = (step name : Name) → out_under name (value_at step other) ≡ out_under name (value_at step one)

-- whether a value is known: an input of the workflow, or an output of a step
abbrev pub is_there : Env → Option Name → Name → Bool
is_there env None name = true
is_there env (Some step) name = is_some (out_under name (value_at step env))

abbrev pub is_known : Env → Source → Bool
is_known env source = is_there env source.step source.name

abbrev pub are_known : Env → List Source → Bool
are_known env sources = list_all (is_known env) sources

-- whether none of a step's inputs waits
abbrev pub is_ready : Env → Step → Bool
is_ready env step = list_all (λ i. are_known env (unwrap_or i.1.links.sources [])) (out-Step step).inputs

-- whether a step's outputs are there already, or one of its inputs waits
abbrev pub is_stuck : Env → Name × Step → Bool
is_stuck env s = is_some (value_at s.0 env) || not (is_ready env s.1)

abbrev pub one_if : Option Outs → ℕ
one_if None = zero
one_if (Some outs) = suc zero

-- how many of the steps have their outputs there
abbrev pub count : Env → List (Name × Step) → ℕ
count env [] = zero
count env (s ∷ steps) = one_if (value_at s.0 env) + count env steps

module _ (facts : Facts) (place : JobPlace) (inputs : Fields) where
  -- the walk through a step
  abbrev pub walk_at : Env → Name × Step → Walk
  walk_at env s = step_meaning_of facts.measures (made_from facts) s.1 s.0 place inputs env

  -- outputs of a step that are there are its walk's, and none of its inputs waits
  abbrev pub StandsBy : Env → Name × Step → Option Outs → Type 0
  StandsBy env s None = Unit {0}
  StandsBy env s (Some outs) = (is_ready env s.1 ≡ true) × (outs ≡ (walk_at env s).outs)

  -- what a step met that was walked
  abbrev pub MeetsBy : Env → Name × Step → Option (List KeptMet) → Type 0
  MeetsBy env s None = Unit {0}
  MeetsBy env s (Some met) = (is_ready env s.1 ≡ true) × (map met_of met ≡ (walk_at env s).met)

  -- each of the steps, in their order
  abbrev pub AllMeet : Env → List (Name × Step) → List (Option (List KeptMet)) → Type 0
  AllMeet env [] [] = Unit {0}
  AllMeet env [] (met ∷ kept) = ⊥
  AllMeet env (s ∷ steps) [] = ⊥
  AllMeet env (s ∷ steps) (met ∷ kept) = MeetsBy env s met × AllMeet env steps kept

  module _ (steps : List (Name × Step)) where
    -- the inputs of a step that was walked were known after fewer rounds than there are steps that were walked
    abbrev pub WasReady : Env → Name × Step → Option Outs → Type 0
    WasReady env s None = Unit {0}
    WasReady env s (Some outs) = (n : ℕ) × (n < count env steps) × (is_ready (env_after n (steps_of facts steps) place inputs) s.1 ≡ true)

    -- what is there is of steps that were walked, and no more is known than after as many rounds as there are of them
    pub record Keeps (env : Env) : Type 0 where
      pub stands : (s : Name × Step) → IsIn s steps → StandsBy env s (value_at s.0 env)
      pub below : EnvGrows env (env_after (count env steps) (steps_of facts steps) place inputs)
      pub early : (s : Name × Step) → IsIn s steps → WasReady env s (value_at s.0 env)

    pub record Holds (env : Env) (kept : List (Option (List KeptMet))) : Type 0 where
      pub keeps : Keeps env
      pub met : AllMeet env steps kept

    -- no other step can be walked
    pub record IsSettled (env : Env) : Type 0 where
      pub keeps : Keeps env
      pub stuck : list_all (is_stuck env) steps ≡ true

    abbrev pub GoesOn : Env → Bool → Env → Type 0
    GoesOn old false new = (list_all (is_stuck new) steps ≡ true)
    GoesOn old true new = count old steps < count new steps

    -- either one more step was walked, or each is stuck
    pub record SettlesMore (old : Env) (more : Bool) (new : Env) (kept : List (Option (List KeptMet))) : Type 0 where
      pub holds : Holds new kept
      pub goes_on : GoesOn old more new
