-- What no fault says.
use Rattle.std.proofs.Common.{◌≡◌, ◌∙◌, ℕ, Bool, true, false, List, [], ◌∷◌, sym, refl}
use Rattle.std.specs.Prelude.{Option, Some, None, not}
use Rattle.cwl_process.specs.declared.links.Source.{Source}
use Rattle.document_links.specs.declared.process.Process as process
use Rattle.document_links.specs.declared.process.Step.{Step, out-Step}
use Rattle.document_links.specs.declared.process.Workflow.{Workflow, out-Workflow}
use Rattle.workflow_check.specs.Checked.{Level, around, fault_in, fault_in_step, fault_in_workflow, own_fault}
use Rattle.workflow_check.specs.Faults.{Found, first_of, found_if, inside, or_next}
use Rattle.workflow_check.specs.Links.{each_source, entry_in, output_fault as output_links, outputs_fault, source_fault, sources_fault, step_fault, steps_fault}
use Rattle.workflow_check.specs.Order.{is_cyclic, order_fault}
use Rattle.workflow_check.specs.Shapes.{method_fault, output_fault, scatter_fault, shape_fault, shapes_fault}
use Rattle.workflow_check.specs.Sound.{AreThere, Each, IsSound, IsSoundStep}
use Rattle.workflow_check.specs.declared.fault.LinkRule.{LinkRule}
use Rattle.workflow_check.proofs.Nested.{of_workflow}
use Rattle.workflow_check.proofs.Ordered.{order}

no_first : (a b : Found) → or_next a b ≡ None → a ≡ None
no_first None b none = refl
no_first (Some fault) b none = cc

no_next : (a b : Found) → or_next a b ≡ None → b ≡ None
no_next None b none = none
no_next (Some fault) b none = cc

not_inside : (id : List ℕ) (a : Found) → inside id a ≡ None → a ≡ None
not_inside id None none = refl
not_inside id (Some fault) none = cc

not_so : (b : Bool) (rule : LinkRule) → found_if b rule ≡ None → b ≡ false
not_so true rule none = cc
not_so false rule none = refl

is_so : (b : Bool) (rule : LinkRule) → found_if (not b) rule ≡ None → b ≡ true
is_so true rule none = refl
is_so false rule none = cc

each : {X : Type 0} (f : X → Found) (P : X → Type 0) → ((x : X) → f x ≡ None → P x) → (xs : List X) → first_of f xs ≡ None → Each P xs
each f P means [] none = tt
each f P means (x ∷ xs) none = (means x (no_first (f x) (first_of f xs) none), each f P means xs (no_next (f x) (first_of f xs) none))

each_both : {X : Type 0} (P Q R : X → Type 0) → ((x : X) → P x → Q x → R x) → (xs : List X) → Each P xs → Each Q xs → Each R xs
each_both P Q R means [] ps qs = tt
each_both P Q R means (x ∷ xs) ps qs = (means x ps.0 qs.0, each_both P Q R means xs ps.1 qs.1)

module _ (w : Level) where
  there : (sources : Option (List Source)) → each_source (around w) sources ≡ None → AreThere w sources
  there None none = tt
  there (Some sources) none = each (source_fault (around w)) _ (λ s no_fault. is_so _ _ no_fault) sources none

  entries : (step : Step) → step_fault (around w) step ≡ None → Each (λ e. AreThere w e.1.links.sources) (out-Step step).inputs
  entries step none =
      each (entry_in (around w) step) (λ e. AreThere w e.1.links.sources)
      (λ e no_fault. there e.1.links.sources (no_first (sources_fault (around w) e.1.links) _ (not_inside e.0 _ no_fault)))
      (out-Step step).inputs (no_first (first_of (entry_in (around w) step) (out-Step step).inputs) _ none)

module _ (w : Level) (step : Step) (inner : fault_in (out-Step step).process ≡ None) (shape : shape_fault step ≡ None) (links : step_fault (around w) step ≡ None) where
  abbrev scatters : Found
  scatters = first_of (scatter_fault (out-Step step).inputs) (out-Step step).scatter

  sound_step : IsSoundStep w step
  sound_step =
      let rest : or_next (method_fault (out-Step step).scatter (out-Step step).method) (first_of (output_fault (out-Step step).process) (out-Step step).outputs) ≡ None = no_next scatters _ shape in
      record {
        inner = inner;
        scattered = each (scatter_fault (out-Step step).inputs) _ (λ name no_fault. is_so _ _ (not_inside name _ no_fault)) (out-Step step).scatter (no_first scatters _ shape);
        method = not_so _ _ (no_first (method_fault (out-Step step).scatter (out-Step step).method) _ rest);
        outputs = each (output_fault (out-Step step).process) _ (λ name no_fault. is_so _ _ (not_inside name _ no_fault)) (out-Step step).outputs
            (no_next (method_fault (out-Step step).scatter (out-Step step).method) _ rest);
        sources = entries w step links;
      }

pub sound : (w : Workflow) → fault_in (process.Workflow w) ≡ None → IsSound (out-Workflow w)
sound w none =
    let l : Level = out-Workflow w in
    let at : fault_in_workflow l ≡ None = sym (of_workflow w) ∙ none in
    let own : own_fault l ≡ None = no_next (first_of fault_in_step l.steps) (own_fault l) at in
    let shapes : shapes_fault l.steps ≡ None = no_first (shapes_fault l.steps) _ own in
    let after_shapes : or_next (steps_fault (around l) l.steps) (or_next (outputs_fault (around l) l.outputs) (order_fault l.steps)) ≡ None = no_next (shapes_fault l.steps) _ own in
    let links : steps_fault (around l) l.steps ≡ None = no_first (steps_fault (around l) l.steps) _ after_shapes in
    let after_links : or_next (outputs_fault (around l) l.outputs) (order_fault l.steps) ≡ None = no_next (steps_fault (around l) l.steps) _ after_shapes in
    let inner : Each (λ e. fault_in (out-Step e.1).process ≡ None) l.steps =
    each fault_in_step (λ e. fault_in (out-Step e.1).process ≡ None) (λ e no_fault. not_inside e.0 _ no_fault) l.steps (no_first (first_of fault_in_step l.steps) (own_fault l) at) in
    let shaped : Each (λ e. shape_fault e.1 ≡ None) l.steps = each (λ e. inside e.0 (shape_fault e.1)) (λ e. shape_fault e.1 ≡ None) (λ e no_fault. not_inside e.0 _ no_fault) l.steps shapes in
    let linked : Each (λ e. step_fault (around l) e.1 ≡ None) l.steps =
    each (λ e. inside e.0 (step_fault (around l) e.1)) (λ e. step_fault (around l) e.1 ≡ None) (λ e no_fault. not_inside e.0 _ no_fault) l.steps links in
    record {
      steps = each_both (λ e. (fault_in (out-Step e.1).process ≡ None) × (shape_fault e.1 ≡ None)) (λ e. step_fault (around l) e.1 ≡ None) (λ e. IsSoundStep l e.1)
          (λ e both linked. sound_step l e.1 both.0 both.1 linked) l.steps
          (each_both (λ e. fault_in (out-Step e.1).process ≡ None) (λ e. shape_fault e.1 ≡ None) (λ e. (fault_in (out-Step e.1).process ≡ None) × (shape_fault e.1 ≡ None)) (λ e a b. (a, b)) l.steps inner shaped) linked;
      outputs = each (λ e. inside e.0 (output_links (around l) e.1)) (λ e. AreThere l e.1.links.sources)
          (λ e no_fault. there l e.1.links.sources (no_first (sources_fault (around l) e.1.links) _ (not_inside e.0 _ no_fault))) l.outputs (no_first (outputs_fault (around l) l.outputs) _ after_links);
      order = order l.steps (not_so (is_cyclic l.steps) _ (no_next (outputs_fault (around l) l.outputs) _ after_links));
    }
