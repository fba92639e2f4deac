-- What is known of accepted workflows, and an order of their steps (CWL v1.2, Workflow Description, "Workflow").
use Rattle.std.specs.Prelude.{◌≡◌, ◌<◌, ◌⊎◌, ◌&&◌, ℕ, nat_lt, not, is_some, length, List, [], ◌∷◌, Bool, true, false, Option, Some, None}
use Rattle.std.specs.List.{list_any}
use Rattle.std.specs.Str.{bytes_eq}
use Rattle.cwl_process.specs.declared.links.Source.{Source}
use Rattle.document_links.specs.declared.process.Step.{Step, out-Step}
use Rattle.workflow_check.specs.Order.{is_of}
use Rattle.workflow_check.specs.Checked.{Level, fault_in}
use Rattle.workflow_check.specs.Scope.{Named, gives, has, is_there}

-- one of the elements
abbrev pub IsIn : {X : Type 0} → X → List X → Type 0
IsIn x [] = ⊥
IsIn x (y ∷ ys) = (x ≡ y) ⊎ IsIn x ys

abbrev pub is_named : List ℕ → Option (List ℕ) → Bool
is_named id None = false
is_named id (Some step) = bytes_eq id step

abbrev pub one_named : List ℕ → Option (List Source) → Bool
one_named id None = false
one_named id (Some sources) = list_any (λ source. is_named id source.step) sources

-- a source of the step names the step of that id
abbrev pub is_fed_by : List ℕ → List ℕ × Step → Bool
is_fed_by id e = list_any (λ input. one_named id input.1.links.sources) (out-Step e.1).inputs

-- each step comes after those that its sources name
abbrev pub HasOrder : Named Step → Type 0
HasOrder steps = (rank : List ℕ → ℕ) × ((e : List ℕ × Step) (id : List ℕ) → IsIn e steps → is_of steps id ≡ true → is_fed_by id e ≡ true → rank id < rank e.0)

-- a link of the steps: a source of the one names the other
pub record IsLink (steps : Named Step) (e f : List ℕ × Step) : Type 0 where
  pub waits : IsIn e steps
  pub named : IsIn f steps
  pub source : is_fed_by f.0 e ≡ true

-- a way along links, from a step to one that it waits for
pub data IsWay (steps : Named Step) : List ℕ × Step → List ℕ × Step → Type 0 where
  link : (e f : List ℕ × Step) → IsLink steps e f → IsWay steps e f
  further : (e f g : List ℕ × Step) → IsLink steps e f → IsWay steps f g → IsWay steps e g

-- A step waits for itself: a way along links leads from it back to it.
abbrev pub HasCircle : Named Step → Type 0
HasCircle steps = (e : List ℕ × Step) × IsWay steps e e

-- each of the elements
abbrev pub Each : {X : Type 0} → (X → Type 0) → List X → Type 0
Each P [] = Unit {0}
Each P (x ∷ xs) = P x × Each P xs

-- each of the sources leads to what is there
abbrev pub AreThere : Level → Option (List Source) → Type 0
AreThere workflow None = Unit {0}
AreThere workflow (Some sources) = Each (λ source. is_there workflow.inputs workflow.steps source ≡ true) sources

-- what is known of a step of an accepted workflow
pub record IsSoundStep (workflow : Level) (step : Step) : Type 0 where
  pub inner : fault_in (out-Step step).process ≡ None
  pub scattered : Each (λ name. has name (out-Step step).inputs ≡ true) (out-Step step).scatter
  pub method : (nat_lt 1 (length (out-Step step).scatter) && not (is_some (out-Step step).method)) ≡ false
  pub outputs : Each (λ name. has name (gives (out-Step step).process) ≡ true) (out-Step step).outputs
  pub sources : Each (λ e. AreThere workflow e.1.links.sources) (out-Step step).inputs

-- what is known of an accepted workflow
pub record IsSound (workflow : Level) : Type 0 where
  pub steps : Each (λ e. IsSoundStep workflow e.1) workflow.steps
  pub outputs : Each (λ e. AreThere workflow e.1.links.sources) workflow.outputs
  pub order : HasOrder workflow.steps
