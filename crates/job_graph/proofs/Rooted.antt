-- What is kept of the walk from the root, by the code's own words.
use Rattle.std.proofs.Common.{◌≡◌, ◌∙◌, ℕ, List, [], ◌∷◌, ◌++◌, length, map, Result, Ok, Err, refl, sym, ap, subst, arith}
use Rattle.std.specs.Global.{Vec}
use Rattle.std.specs.Prelude.{IfOk, reverse}
use Rattle.document_links.specs.declared.process.Workflow.{Workflow, out-Workflow}
use Rattle.cwl_process.specs.declared.tool.Tool.{Tool}
use Rattle.document_links.specs.declared.process.Process.{Process}
use Rattle.document_links.specs.declared.process.Process as process
use Rattle.input_files.specs.Measured.{Measures}
use Rattle.job_graph.specs.Equations.{Meaning, meaning_of, workflow_meaning_of}
use Rattle.job_graph.specs.Inputs.{tool_inputs_for, workflow_inputs_for}
use Rattle.job_graph.specs.Links.{Env}
use Rattle.job_graph.specs.Words.{Fields, JobPlace}
use Rattle.job_graph.specs.Jobs.{Made, Met, Walk, tool_walk}
use Rattle.job_graph.specs.declared.kept.Rooted.{Rooted}
use Rattle.job_graph.specs.declared.made.Facts.{Facts}
use Rattle.job_graph.specs.declared.made.Resolved.{Resolved as KeptResolved}
use Rattle.job_graph.specs.declared.nested.Nested.{Nested}
use Rattle.job_graph.specs.declared.readers.Readers.{Readers}
use Rattle.job_graph.specs.inner.Going.{EndedBelow, LeavesOut, earlier}
use Rattle.job_graph.specs.inner.Kept.{HasRooted, IsOfRoot, KeepsWorkflow}
use Rattle.job_graph.specs.inner.Nested.{KeepsAlong}
use Rattle.job_graph.specs.inner.Counts.{IsCounted}
use Rattle.job_graph.specs.inner.Readers.{IsTableOf}
use Rattle.job_graph.specs.inner.Rounds.{IsSettled}
use Rattle.job_graph.specs.inner.Views.{met_of}
use Rattle.job_graph.proofs.AheadOf.{earlier_push}
use Rattle.job_graph.proofs.Gone.{leaves_itself}
use Rattle.job_graph.proofs.laws_of_walks.Processes.{tool_level, workflow_in}

pub ended_below : (facts : Facts) (before : List KeptResolved) (last : KeptResolved) → facts.learned ≡ before ++ last ∷ [] → EndedBelow facts [] last.at.place
ended_below facts before last is = record { last = last; is = is ∙ ap (λ (front : List KeptResolved). front ++ last ∷ []) (sym (ap earlier is ∙ earlier_push before last)); at = refl }

module _ {E : Type 0} (facts : Facts) (fields : Fields) (w : Workflow) (walk : Walk) where
  pub rooted_leaves : (old : List Met) (result : Result Rooted E) → IfOk result (HasRooted facts fields w walk) → IfOk result (λ found. LeavesOut old (map met_of found.walk.met) walk.met)
  rooted_leaves old (Ok found) has = subst (λ (xs : List Met). LeavesOut old xs walk.met) (sym (ap (λ (w : Walk). w.met) has.walk)) (leaves_itself old walk.met)
  rooted_leaves old (Err error) has = tt

  pub rooted_outs : (result : Result Rooted E) → IfOk result (HasRooted facts fields w walk) → IfOk result (λ found. found.walk.outs ≡ walk.outs)
  rooted_outs (Ok found) has = ap (λ (w : Walk). w.outs) has.walk
  rooted_outs (Err error) has = tt

  pub rooted_kept : (result : Result Rooted E) → IfOk result (HasRooted facts fields w walk) → IfOk result (λ found. KeepsWorkflow facts fields w found.kept)
  rooted_kept (Ok found) has = has.kept
  rooted_kept (Err error) has = tt

-- what is kept of a root workflow whose steps are settled, and inside one of them
pub root_kept : (facts : Facts) (fields : Fields) (w : Workflow) (inputs : Fields) (readers : Readers) → IsTableOf readers (out-Workflow w).steps
    → (env : Env) (counts : Vec ℕ) → IsCounted env (out-Workflow w).steps counts.items → (nested : List Nested) (since : ℕ) → workflow_inputs_for facts.measures (out-Workflow w).inputs fields ≡ Ok inputs
    → IsSettled facts [] inputs (out-Workflow w).steps env → since ≡ length facts.learned → KeepsAlong facts [] inputs (out-Workflow w).steps env (reverse nested)
    → IsOfRoot facts fields w (record { inputs = inputs; readers = readers; env = env; counts = counts; nested = nested; since = since })
root_kept facts fields w inputs readers table env counts counted nested since is settled now along =
    record { inputs = is; settled = settled; table = table; counted = counted; since = omega (arith, now); along = λ same. along }

-- from a root that is a tool, and from one that is a workflow
module _ (measures : Measures) (made : Made) (p : Process) (place : JobPlace) (fields : Fields) where
  pub of_tool : (tool : Tool) → p ≡ process.Tool tool → meaning_of measures made p place fields ≡ tool_walk tool place (tool_inputs_for measures tool.inputs fields) made
  of_tool tool is =
      ap (λ (q : Process). meaning_of measures made q place fields) is ∙ ap (λ (m : Meaning). m place fields) (tool_level measures made tool)

  pub of_one : (w : Workflow) → p ≡ process.Workflow w → meaning_of measures made p place fields ≡ workflow_meaning_of measures made w place fields
  of_one w is =
      ap (λ (q : Process). meaning_of measures made q place fields) is ∙ ap (λ (m : Meaning). m place fields) (workflow_in measures made w)
