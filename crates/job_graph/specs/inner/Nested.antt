-- What is kept of the workflows inside steps, one inside another along a place, and how they go on.
use Rattle.std.specs.Prelude.{◌≡◌, ◌<◌, ℕ, get_or, length, reverse, List, [], ◌∷◌, map, Option, Some, true, Ok}
use Rattle.std.specs.Global.{Vec}
use Rattle.cwl_process.specs.declared.workflow.WorkflowOutput.{WorkflowOutput}
use Rattle.document_links.specs.declared.process.Process.{Process, out-Process}
use Rattle.document_links.specs.declared.process.Process.TheOpen.{Process-F}
use Rattle.document_links.specs.declared.process.Step.{Step, out-Step}
use Rattle.document_links.specs.declared.process.Workflow.{Workflow, out-Workflow}
use Rattle.link_values.specs.StepInputs.{value_froms}
use Rattle.plain_data.specs.ByName.{value_at}
use Rattle.job_graph.specs.Words.{Name, Fields, JobPlace}
use Rattle.job_graph.specs.Inputs.{workflow_inputs_for}
use Rattle.job_graph.specs.Jobs.{Walk}
use Rattle.job_graph.specs.Links.{Env, all_given, by_link, entry_value}
use Rattle.job_graph.specs.Scatter.{at_tuple, lengths_under, method_of, tuples_for}
use Rattle.job_graph.specs.Equations.{all_instances, goes_on, step_place}
use Rattle.job_graph.specs.declared.made.Facts.{Facts}
use Rattle.job_graph.specs.declared.made.Resolved.{Resolved as KeptResolved}
use Rattle.job_graph.specs.declared.nested.Deeper.{Deeper}
use Rattle.job_graph.specs.declared.nested.Found.{Found}
use Rattle.job_graph.specs.declared.nested.Inner.{Inner}
use Rattle.job_graph.specs.declared.nested.Nested.{Nested}
use Rattle.job_graph.specs.declared.readers.Readers.{Readers}
use Rattle.job_graph.specs.declared.walk.Walk.{Walk as KeptWalk}
use Rattle.job_graph.specs.inner.Counts.{IsCounted}
use Rattle.job_graph.specs.inner.Going.{LeavesOut, facts_before}
use Rattle.job_graph.specs.inner.Levels.{step_of, steps_of, steps_walk}
use Rattle.job_graph.specs.inner.OneTuple.{StaysWith, StepsMeet, times, walk_for, walks_for}
use Rattle.job_graph.specs.inner.Readers.{IsTableOf}
use Rattle.job_graph.specs.inner.Rounds.{EnvGrows, IsSettled, walk_at}
use Rattle.job_graph.specs.inner.Views.{met_of, walk_of}

-- the facts, where these places were learned
abbrev pub facts_with : Facts → List KeptResolved → Facts
facts_with facts learned = record facts { learned = learned }

-- the walk of an inner workflow at its place, on its inputs
abbrev pub inner_walk : Workflow → JobPlace → Fields → Facts → Walk
inner_walk w own inputs facts = steps_walk (out-Workflow w).outputs (steps_of facts (out-Workflow w).steps) own inputs

-- a process is a workflow of which this holds
abbrev pub OfWorkflow : (Workflow → Type 0) → Process-F Process Step Workflow → Type 0
OfWorkflow Holds (Process-F.Tool tool) = ⊥
OfWorkflow Holds (Process-F.Workflow w) = Holds w

-- ---- what is kept

-- a workflow is inside the step of these values at a tuple, with these inputs, whatever is learned
module _ (facts : Facts) (place : JobPlace) (inputs : Fields) (env : Env) (s : Name × Step) (w : Workflow) (tuple : List ℕ) (own : Fields) where
  -- the step's walk is the workflow's
  abbrev pub IsAlone : Type 0
  IsAlone = (learned : List KeptResolved) → walk_at (facts_with facts learned) place inputs env s ≡ inner_walk w (step_place place s.0 tuple) own (facts_with facts learned)

  -- it is made of those of its tuples, and this tuple's is the workflow's
  pub record IsAmong : Type 0 where
    pub values : Fields
    pub lengths : List ℕ
    pub tuples : List (List ℕ)
    pub once : times tuple tuples ≡ 1
    pub whole : (learned : List KeptResolved) → walk_at (facts_with facts learned) place inputs env s
        ≡ all_instances (step_of (facts_with facts learned) s.1) lengths (walks_for (facts_with facts learned) s.1 s.0 place values tuples)
    pub goes : (learned : List KeptResolved) → walk_for (facts_with facts learned) s.1 s.0 place values tuple ≡ inner_walk w (step_place place s.0 tuple) own (facts_with facts learned)

  abbrev pub IsInside : List Name → Type 0
  IsInside [] = IsAlone
  IsInside (name ∷ names) = IsAmong

-- of the workflow inside a step, and inside it
pub record KeepsOne (facts : Facts) (place : JobPlace) (inputs : Fields) (env : Env) (s : Name × Step) (w : Workflow) (one : Nested) (More : Type 0) : Type 0 where
  pub inside : IsInside facts place inputs env s w one.tuple one.inputs (out-Step s.1).scatter
  pub settled : IsSettled facts (step_place place s.0 one.tuple) one.inputs (out-Workflow w).steps one.env
  pub table : IsTableOf one.readers (out-Workflow w).steps
  pub counted : IsCounted one.env (out-Workflow w).steps one.counts.items
  pub along : More

-- one inside another, the outermost first
abbrev pub KeepsAlong : Facts → JobPlace → Fields → List (Name × Step) → Env → List Nested → Type 0
KeepsAlong facts place inputs steps env [] = Unit {0}
KeepsAlong facts place inputs steps env (one ∷ deeper) = (s : Name × Step) → one.number < length steps → s ≡ get_or steps one.number s
    → OfWorkflow (λ w. KeepsOne facts place inputs env s w one (KeepsAlong facts (step_place place s.0 one.tuple) one.inputs (out-Workflow w).steps one.env deeper))
    (out-Process (out-Step s.1).process)

-- of this step, if the outermost is of its number
abbrev pub MayKeep : Facts → JobPlace → Fields → Env → Name × Step → ℕ → List Nested → Type 0
MayKeep facts place inputs env s number [] = Unit {0}
MayKeep facts place inputs env s number (one ∷ deeper) = one.number ≡ number
    → OfWorkflow (λ w. KeepsOne facts place inputs env s w one (KeepsAlong facts (step_place place s.0 one.tuple) one.inputs (out-Workflow w).steps one.env deeper))
    (out-Process (out-Step s.1).process)

-- ---- the inner walk goes on

abbrev pub SettledIn : Facts → JobPlace → Process-F Process Step Workflow → Nested → List Nested → Type 0
SettledIn facts own process one deeper =
    OfWorkflow (λ w. IsSettled facts own one.inputs (out-Workflow w).steps one.env × KeepsAlong facts own one.inputs (out-Workflow w).steps one.env deeper
    × IsTableOf one.readers (out-Workflow w).steps × IsCounted one.env (out-Workflow w).steps one.counts.items) process

pub record HasGone (facts : Facts) (own : JobPlace) (w : Workflow) (kept : Nested) (env : Env) (counts : Vec ℕ) (deeper : List Nested) (walk : KeptWalk) : Type 0 where
  pub outs : walk.outs ≡ (inner_walk w own kept.inputs facts).outs
  pub leaves : LeavesOut (inner_walk w own kept.inputs (facts_before facts)).met (map met_of walk.met) (inner_walk w own kept.inputs facts).met
  pub settled : IsSettled facts own kept.inputs (out-Workflow w).steps env
  pub counted : IsCounted env (out-Workflow w).steps counts.items
  pub along : KeepsAlong facts own kept.inputs (out-Workflow w).steps env deeper

pub record GoesOnIn (facts : Facts) (own : JobPlace) (process : Process-F Process Step Workflow) (kept : Nested) (inner : Inner) : Type 0 where
  pub env : Env
  pub counts : Vec ℕ
  pub deeper : List Nested
  pub is : reverse inner.nested ≡ record { number = kept.number; tuple = kept.tuple; inputs = kept.inputs; readers = kept.readers; env = env; counts = counts } ∷ deeper
  pub gone : OfWorkflow (λ w. HasGone facts own w kept env counts deeper inner.walk) process

-- ---- the inner walk begins

-- a step has the tuple once, for these lengths
pub record HasOnce (step : Step) (lengths tuple : List ℕ) : Type 0 where
  pub tuples : List (List ℕ)
  pub made : tuples_for (method_of (out-Step step).method) lengths ≡ Ok tuples
  pub once : times tuple tuples ≡ 1

-- the values of its inputs at the tuple
pub record HasAtOne (step : Step) (values : Fields) (tuple : List ℕ) (fields : Fields) : Type 0 where
  pub lengths : List ℕ
  pub long : lengths_under (out-Step step).scatter values ≡ Ok lengths
  pub has : HasOnce step lengths tuple
  pub is : fields ≡ at_tuple (out-Step step).scatter tuple values

abbrev pub HandsBy : Step → Fields → List ℕ → Fields → List Name → Type 0
HandsBy step values tuple fields [] = (tuple ≡ []) × (fields ≡ values)
HandsBy step values tuple fields (name ∷ names) = HasAtOne step values tuple fields

-- what is handed to the process at a tuple
pub record Hands (facts : Facts) (inputs : Fields) (env : Env) (step : Step) (tuple : List ℕ) (given : Fields) : Type 0 where
  pub values : Fields
  pub known : all_given (map (λ i. (i.0, entry_value facts.measures inputs env i.1)) (out-Step step).inputs) ≡ Some values
  pub fields : Fields
  pub by : HandsBy step values tuple fields (out-Step step).scatter
  pub made : by_link (value_froms (out-Step step).inputs fields) ≡ Ok given
  pub run : goes_on (out-Step step).when given ≡ Ok true

pub record IsBegun (facts : Facts) (own : JobPlace) (w : Workflow) (given inputs : Fields) (readers : Readers) (env : Env) (counts : Vec ℕ) (walk : KeptWalk) : Type 0 where
  pub hands : workflow_inputs_for facts.measures (out-Workflow w).inputs given ≡ Ok inputs
  pub whole : walk_of walk ≡ inner_walk w own inputs facts
  pub settled : IsSettled facts own inputs (out-Workflow w).steps env
  pub table : IsTableOf readers (out-Workflow w).steps
  pub counted : IsCounted env (out-Workflow w).steps counts.items

pub record HasBegun (facts : Facts) (own : JobPlace) (process : Process-F Process Step Workflow) (given : Fields) (number : ℕ) (tuple : List ℕ) (inner : Inner) : Type 0 where
  pub inputs : Fields
  pub readers : Readers
  pub env : Env
  pub counts : Vec ℕ
  pub is : reverse inner.nested ≡ record { number = number; tuple = tuple; inputs = inputs; readers = readers; env = env; counts = counts } ∷ []
  pub begun : OfWorkflow (λ w. IsBegun facts own w given inputs readers env counts inner.walk) process

abbrev pub BeginsAs : Facts → JobPlace → Workflow → Fields → ℕ → List ℕ → Inner → Type 0
BeginsAs facts own w given number tuple inner = HasBegun facts own (Process-F.Workflow w) given number tuple inner

-- ---- what the step meets by it

module _ (facts : Facts) (place : JobPlace) (inputs : Fields) (env : Env) (s : Name × Step) where
  pub record IsInner (w : Workflow) (tuple : List ℕ) (own : Fields) (readers : Readers) (own_env : Env) (counts : Vec ℕ) (deeper : List Nested) (walk : KeptWalk) : Type 0 where
    pub inside : IsInside facts place inputs env s w tuple own (out-Step s.1).scatter
    pub outs : walk.outs ≡ (inner_walk w (step_place place s.0 tuple) own facts).outs
    pub leaves : LeavesOut (inner_walk w (step_place place s.0 tuple) own (facts_before facts)).met (map met_of walk.met) (inner_walk w (step_place place s.0 tuple) own facts).met
    pub settled : IsSettled facts (step_place place s.0 tuple) own (out-Workflow w).steps own_env
    pub table : IsTableOf readers (out-Workflow w).steps
    pub counted : IsCounted own_env (out-Workflow w).steps counts.items
    pub along : KeepsAlong facts (step_place place s.0 tuple) own (out-Workflow w).steps own_env deeper

  pub record HasInner (number : ℕ) (tuple : List ℕ) (inner : Inner) : Type 0 where
    pub own : Fields
    pub readers : Readers
    pub own_env : Env
    pub counts : Vec ℕ
    pub deeper : List Nested
    pub is : reverse inner.nested ≡ record { number = number; tuple = tuple; inputs = own; readers = readers; env = own_env; counts = counts } ∷ deeper
    pub holds : OfWorkflow (λ w. IsInner w tuple own readers own_env counts deeper inner.walk) (out-Process (out-Step s.1).process)

  -- the inner walk, and whether the outputs of the step stay
  pub record IsFound (inner : Option Inner) (found : Found) : Type 0 where
    pub is : inner ≡ Some found.inner
    pub stays : found.stays ≡ true → StaysWith facts place inputs env s found.inner.walk.outs (value_at s.0 env)

-- what all steps meet by it where the outputs of the step stay; what is kept, also where more outputs of steps are known
pub record NestedMeet (facts : Facts) (place : JobPlace) (inputs : Fields) (steps : List (Name × Step)) (env : Env) (found : Found) : Type 0 where
  pub meets : found.stays ≡ true → StepsMeet facts place inputs env steps (map met_of found.inner.walk.met)
  pub along : (later : Env) → EnvGrows env later → KeepsAlong facts place inputs steps later (reverse found.inner.nested)

-- ---- the walk through a workflow's steps and outputs

pub record GoesDeeper (facts : Facts) (place : JobPlace) (inputs : Fields) (outputs : List (Name × WorkflowOutput)) (steps : List (Name × Step)) (deeper : Deeper) : Type 0 where
  pub met : LeavesOut (steps_walk outputs (steps_of (facts_before facts) steps) place inputs).met (map met_of deeper.walk.met) (steps_walk outputs (steps_of facts steps) place inputs).met
  pub outs : deeper.walk.outs ≡ (steps_walk outputs (steps_of facts steps) place inputs).outs
  pub env : IsSettled facts place inputs steps deeper.env
  pub counted : IsCounted deeper.env steps deeper.counts.items
  pub along : KeepsAlong facts place inputs steps deeper.env (reverse deeper.nested)
