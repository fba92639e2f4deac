-- What is kept of a root workflow, by the code's own words.
use Rattle.std.proofs.Common.{◌≡◌, ◌∙◌, ℕ, List, [], length, map, Some, Ok, sym, ap, ap₂, subst, subst₂}
use Rattle.std.specs.Global.{Vec}
use Rattle.std.specs.Prelude.{reverse}
use Rattle.cwl_process.specs.declared.workflow.WorkflowOutput.{WorkflowOutput}
use Rattle.document_links.specs.declared.process.Workflow.{Workflow, out-Workflow}
use Rattle.job_graph.specs.Words.{Name, Fields, JobPlace}
use Rattle.job_graph.specs.Inputs.{workflow_inputs_for}
use Rattle.job_graph.specs.Jobs.{Made, Walk}
use Rattle.job_graph.specs.Links.{Env}
use Rattle.job_graph.specs.Equations.{workflow_meaning_of}
use Rattle.job_graph.specs.declared.kept.Kept.{Kept}
use Rattle.job_graph.specs.declared.kept.Rooted.{Rooted}
use Rattle.job_graph.specs.declared.made.Facts.{Facts}
use Rattle.job_graph.specs.declared.nested.Deeper.{Deeper}
use Rattle.job_graph.specs.declared.nested.Nested.{Nested}
use Rattle.job_graph.specs.declared.readers.Readers.{Readers}
use Rattle.job_graph.specs.declared.walk.Walk.{Walk as KeptWalk}
use Rattle.job_graph.specs.declared.waiting.Counted.{Counted}
use Rattle.job_graph.specs.inner.Going.{LeavesOut, facts_before}
use Rattle.job_graph.specs.inner.Kept.{HasRooted, KeepsWorkflow}
use Rattle.job_graph.specs.inner.Levels.{steps_of, steps_walk}
use Rattle.job_graph.specs.inner.Nested.{GoesDeeper, KeepsAlong}
use Rattle.job_graph.specs.inner.Counts.{IsCounted}
use Rattle.job_graph.specs.inner.Readers.{IsTableOf}
use Rattle.job_graph.specs.inner.Rounds.{IsSettled}
use Rattle.job_graph.specs.inner.Views.{made_from, met_of, walk_of}
use Rattle.job_graph.proofs.Inward.{none_along}
use Rattle.job_graph.proofs.RootWalk.{of_workflow}
use Rattle.job_graph.proofs.Rooted.{root_kept}
use Rattle.job_graph.proofs.laws_of_walks.Processes.{meanings}

abbrev kept_root : Fields → Readers → Env → Vec ℕ → List Nested → ℕ → Kept
kept_root inputs readers env counts nested since = record { inputs = inputs; readers = readers; env = env; counts = counts; nested = nested; since = since }

module _ (facts : Facts) (fields : Fields) (w : Workflow) (inputs : Fields) (hands : workflow_inputs_for facts.measures (out-Workflow w).inputs fields ≡ Ok inputs) (root : JobPlace) (at : root ≡ [])
    (since : ℕ) (now : since ≡ length facts.learned) (readers : Readers) (table : IsTableOf readers (out-Workflow w).steps) where
  -- where the walk went on
  pub kept_further : (outputs : List (Name × WorkflowOutput)) (deeper : Deeper) → GoesDeeper facts root inputs outputs (out-Workflow w).steps deeper → (found : Rooted)
      → found.kept ≡ Some (kept_root inputs readers deeper.env deeper.counts deeper.nested since) → KeepsWorkflow facts fields w found.kept
  kept_further outputs deeper goes found is =
      subst (KeepsWorkflow facts fields w) (sym is)
      (root_kept facts fields w inputs readers table deeper.env deeper.counts goes.counted deeper.nested since hands (subst (λ (place : JobPlace). IsSettled facts place inputs (out-Workflow w).steps deeper.env) at goes.env) now
      (subst (λ (place : JobPlace). KeepsAlong facts place inputs (out-Workflow w).steps deeper.env (reverse deeper.nested)) at goes.along))

  root_is : (made : Made) (outputs : List (Name × WorkflowOutput)) → outputs ≡ (out-Workflow w).outputs
      → steps_walk outputs (meanings facts.measures made (out-Workflow w).steps) root inputs ≡ workflow_meaning_of facts.measures made w [] fields
  root_is made outputs same =
      ap₂ (λ (these : List (Name × WorkflowOutput)) (place : JobPlace). steps_walk these (meanings facts.measures made (out-Workflow w).steps) place inputs) same at
      ∙ sym (of_workflow facts.measures made w [] fields inputs hands)

  module _ (outputs : List (Name × WorkflowOutput)) (same : outputs ≡ (out-Workflow w).outputs) (deeper : Deeper)
      (goes : GoesDeeper facts root inputs outputs (out-Workflow w).steps deeper) (walk : KeptWalk) (is : walk ≡ deeper.walk) where
    pub met_further : LeavesOut (workflow_meaning_of facts.measures (made_from (facts_before facts)) w [] fields).met (map met_of walk.met)
        (workflow_meaning_of facts.measures (made_from facts) w [] fields).met
    met_further =
        subst (λ (x : KeptWalk). LeavesOut (workflow_meaning_of facts.measures (made_from (facts_before facts)) w [] fields).met (map met_of x.met)
        (workflow_meaning_of facts.measures (made_from facts) w [] fields).met) (sym is)
        (subst₂ (λ (was now : Walk). LeavesOut was.met (map met_of deeper.walk.met) now.met)
        (root_is (made_from (facts_before facts)) outputs same) (root_is (made_from facts) outputs same) goes.met)

    pub outs_further : walk.outs ≡ (workflow_meaning_of facts.measures (made_from facts) w [] fields).outs
    outs_further = ap (λ (x : KeptWalk). x.outs) is ∙ goes.outs ∙ ap (λ (x : Walk). x.outs) (root_is (made_from facts) outputs same)

  -- where it began
  pub rooted_anew : (outputs : List (Name × WorkflowOutput)) → outputs ≡ (out-Workflow w).outputs → (walked : Counted) → walk_of walked.walk ≡ steps_walk outputs (steps_of facts (out-Workflow w).steps) root inputs
      → IsSettled facts root inputs (out-Workflow w).steps walked.env → IsCounted walked.env (out-Workflow w).steps walked.counts.items → (none : List Nested) → none ≡ []
      → (deeper : Deeper) → deeper ≡ record { walk = walked.walk; env = walked.env; counts = walked.counts; nested = none }
      → (found : Rooted) → found.walk ≡ deeper.walk → found.kept ≡ Some (kept_root inputs readers deeper.env deeper.counts deeper.nested since)
      → HasRooted facts fields w (workflow_meaning_of facts.measures (made_from facts) w [] fields) found
  rooted_anew outputs same walked whole settled counted none empty deeper is found walk kept = record {
    walk = ap walk_of (walk ∙ ap (λ (d : Deeper). d.walk) is) ∙ whole
        ∙ ap₂ (λ (these : List (Name × WorkflowOutput)) (place : JobPlace). steps_walk these (steps_of facts (out-Workflow w).steps) place inputs) same at
        ∙ sym (of_workflow facts.measures (made_from facts) w [] fields inputs hands);
    kept = subst (KeepsWorkflow facts fields w) (sym (kept ∙ ap (λ (d : Deeper). Some (kept_root inputs readers d.env d.counts d.nested since)) is))
        (root_kept facts fields w inputs readers table walked.env walked.counts counted none since hands (subst (λ (place : JobPlace). IsSettled facts place inputs (out-Workflow w).steps walked.env) at settled) now
        (none_along facts [] inputs (out-Workflow w).steps walked.env none empty));
  }
