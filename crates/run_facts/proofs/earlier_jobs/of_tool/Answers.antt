use Rattle.std.proofs.lemmas.Result.{IfOk-weaker}
use Rattle.std.specs.Prelude.{zip}
use Rattle.run_facts.proofs.EarlierJobs.{is_no_tool, is_of_tool}
use Rattle.run_facts.specs.EarlierJobs.{IsOfTool}
use Rattle.run_facts.proofs.earlier_jobs.of_tool.Goals as goal

pub returns-in-Some : goal.returns-in-Some
returns-in-Some c =
    let past = zip c.args.jobs.now c.args.costs.now in
    let step = c.args.step.now in
    let written = c.args.tool.now.written in
    let are = rw c.in-Some.is at c.in_ok-fields.ensures.some in
    IfOk-weaker c.with_fields.result _ (IsOfTool past step written) (is_of_tool past step written _ c.as_str.ensures.bytes _ are) c.with_fields.ensures

pub returns-in-None : goal.returns-in-None
returns-in-None c =
    let is_none = rw c.in-None.is at c.in_ok-fields.ensures.none in
    is_no_tool (zip c.args.jobs.now c.args.costs.now) c.args.step.now c.args.tool.now.written _ c.as_str.ensures.bytes is_none
