-- A lone tool is one job, so it is within the limits.
use Rattle.std.proofs.Common.{◌≡◌, ◌≢◌, ◌∙◌, List, [], ◌∷◌, reverse, Some, None, Result, Ok, Err, refl, sym, subst}
use Rattle.document_links.specs.declared.process.Process as process
use Rattle.cwl_process.specs.declared.tool.Tool.{Tool}
use Rattle.input_files.specs.Measured.{Measures}
use Rattle.job_graph.specs.declared.cause.Cause.{Cause}
use Rattle.job_graph.specs.Equations.{walker}
use Rattle.job_graph.specs.Jobs.{Walker, tool_walk}
use Rattle.job_graph.specs.Unfold.{fault_at, too_many_jobs, Resolved, fault_after, unfolded}
use Rattle.job_graph.specs.Words.{Fields}
use Rattle.run_rules.proofs.Lone.{inputs_of, walker_tool}
use Rattle.run_rules.proofs.OneJob.{one_job}

pub no_fault : (tool : Tool) (inputs : Fields) (known : List Resolved) → fault_after (tool_walk tool [] (Ok inputs)) known ≡ None
no_fault tool inputs [] = refl
no_fault tool inputs (r ∷ earlier) = rw (no_fault tool inputs earlier, one_job tool inputs earlier) refl

misfit_fault : (tool : Tool) (cause : Cause) (known : List Resolved) → fault_after (tool_walk tool [] (Err cause)) known ≡ Some (fault_at [] cause)
misfit_fault tool cause [] = refl
misfit_fault tool cause (r ∷ earlier) = rw (misfit_fault tool cause earlier) refl

few_by : (tool : Tool) (inputs : Result Fields Cause) (known : List Resolved) → fault_after (tool_walk tool [] inputs) known ≢ Some too_many_jobs
few_by tool (Ok inputs) known many = let never : None ≡ Some too_many_jobs = sym (no_fault tool inputs known) ∙ many in cc
few_by tool (Err cause) known many = let never : Some (fault_at [] cause) ≡ Some too_many_jobs = sym (misfit_fault tool cause known) ∙ many in cc

pub few : (tool : Tool) (given : Fields) (measures : Measures) (known : List Resolved) →
    (unfolded (walker (process.Tool tool) given measures) known).fault ≢ Some too_many_jobs
few tool given measures known =
    subst (λ (walks : Walker). (unfolded walks known).fault ≢ Some too_many_jobs) (sym (walker_tool tool given measures))
    (few_by tool (inputs_of tool given measures) (reverse known))
