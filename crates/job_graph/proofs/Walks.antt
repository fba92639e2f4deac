-- What loops over steps and tuples have gathered, and the walk of a workflow from its parts.
use Rattle.std.proofs.Common.{◌≡◌, ◌∙◌, ℕ, ◌+◌, ◌<◌, List, [], ◌∷◌, ◌++◌, length, map, take, get_or, Result, Ok, Err, sym, ap, ap₂, append-nil}
use Rattle.std.specs.Prelude.{IfOk}
use Rattle.std.specs.List.{flat_map}
use Rattle.std.proofs.lemmas.Grind.{flat_map-append}
use Rattle.std.proofs.lemmas.List.{map-append, take_more}
use Rattle.cwl_process.specs.declared.workflow.WorkflowOutput.{WorkflowOutput}
use Rattle.job_graph.specs.declared.walk.Met.{Met as KeptMet}
use Rattle.job_graph.specs.declared.walk.Walk.{Walk as KeptWalk}
use Rattle.job_graph.specs.Words.{Name, Fields, JobPlace}
use Rattle.job_graph.specs.Jobs.{Met, Outs}
use Rattle.job_graph.specs.Links.{Env, given, output_value}
use Rattle.job_graph.specs.Equations.{StepsOf, fault_at, step_walk, workflow_walk}
use Rattle.job_graph.specs.inner.Levels.{steps_walk}
use Rattle.job_graph.specs.inner.Views.{met_of, walk_of}

front_more : {X : Type 0} (xs : List X) (i : ℕ) (x : X) → i < length xs → x ≡ get_or xs i x → take (i + 1) xs ≡ take i xs ++ x ∷ []
front_more xs i x below is = take_more xs i x below ∙ ap (λ y. take i xs ++ y ∷ []) (sym is)

-- one more of what was made of each
pub each_push : {X Y Z : Type 0} (f : X → Z) (g : Y → Z) (old new : List X) (one : X) (ys : List Y) (i : ℕ) (y : Y) → new ≡ old ++ one ∷ [] →
    map f old ≡ map g (take i ys) → f one ≡ g y → i < length ys → y ≡ get_or ys i y → map f new ≡ map g (take (i + 1) ys)
each_push f g old new one ys i y is before last below at =
    ap (map f) is ∙ map-append f old (one ∷ []) ∙ ap₂ (λ front z. front ++ z ∷ []) before last
    ∙ sym (map-append g (take i ys) (y ∷ [])) ∙ ap (map g) (sym (front_more ys i y below at))

-- what one more met
pub met_push : {X Y Z : Type 0} (f : Y → List Z) (g : X → Y) (met now more : List Z) (xs : List X) (i : ℕ) (x : X) → now ≡ met ++ more →
    met ≡ flat_map f (map g (take i xs)) → more ≡ f (g x) → i < length xs → x ≡ get_or xs i x → now ≡ flat_map f (map g (take (i + 1) xs))
met_push f g met now more xs i x is before last below at =
    is ∙ ap₂ (λ front back. front ++ back) before (last ∙ sym (append-nil (f (g x))))
    ∙ sym (flat_map-append f (map g (take i xs)) (g x ∷ [])) ∙ ap (flat_map f) (sym (map-append g (take i xs) (x ∷ []))) ∙ ap (λ front. flat_map f (map g front)) (sym (front_more xs i x below at))

pub whole_walk : {E : Type 0} (outputs : List (Name × WorkflowOutput)) (steps : StepsOf) (place : JobPlace) (inputs : Fields) (env : Env) (met : List KeptMet) (result : Result KeptWalk E) →
    workflow_walk (record { inputs = []; outputs = outputs; steps = steps }) place inputs env ≡ steps_walk outputs steps place inputs → map met_of met ≡ flat_map (λ s. (step_walk place inputs env s).met) steps →
    IfOk result (λ walk. map met_of walk.met ≡ map met_of met ++ flat_map (λ o. fault_at place (output_value inputs env o.1.links)) outputs) →
    IfOk result (λ walk. walk.outs ≡ map (λ o. (o.0, given (output_value inputs env o.1.links))) outputs) →
    IfOk result (λ walk. walk_of walk ≡ steps_walk outputs steps place inputs)
whole_walk outputs steps place inputs env met (Err error) rounds seen all outs = tt
whole_walk outputs steps place inputs env met (Ok walk) rounds seen all outs =
    let parts : walk_of walk ≡ workflow_walk (record { inputs = []; outputs = outputs; steps = steps }) place inputs env =
    ap₂ (λ (m : List Met) (o : Outs). record { met = m; outs = o })
    (all ∙ ap (λ (front : List Met). front ++ flat_map (λ (o : Name × WorkflowOutput). fault_at place (output_value inputs env o.1.links)) outputs) seen) outs in
    parts ∙ rounds
