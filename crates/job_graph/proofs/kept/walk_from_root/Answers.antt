use Rattle.std.proofs.Common.{◌≡◌, ◌∙◌, List, [], ap, map, subst, sym}
use Rattle.std.specs.Prelude.{IfOk}
use Rattle.job_graph.specs.Equations.{workflow_meaning_of}
use Rattle.job_graph.specs.Inputs.{tool_inputs_for}
use Rattle.job_graph.specs.Jobs.{Met, Walk, tool_walk}
use Rattle.job_graph.specs.Words.{JobPlace}
use Rattle.job_graph.specs.inner.Going.{LeavesOut}
use Rattle.job_graph.specs.inner.Kept.{met_by, root_walk}
use Rattle.job_graph.specs.inner.Views.{made_from, met_of, walk_of}
use Rattle.job_graph.proofs.Gone.{leaves_itself}
use Rattle.job_graph.proofs.Rooted.{of_one, of_tool, rooted_leaves}
use Rattle.job_graph.proofs.kept.walk_from_root.Goals as goal

pub returns-in_ok-walk-in-Tool-clause-met : goal.returns-in_ok-walk-in-Tool-clause-met
returns-in_ok-walk-in-Tool-clause-met c =
    let old : List Met = met_by c.args.facts.now c.args.fields.now c.args.process.now c.args.kept in
    let whole : walk_of c.in_ok-walk-in-Tool.walk ≡ root_walk c.args.facts.now c.args.fields.now c.args.process.now =
    c.in_ok-walk-in-Tool.ensures
    ∙ ap (λ (place : JobPlace). tool_walk c.in-Tool.tool place (tool_inputs_for c.args.facts.now.measures c.in-Tool.tool.inputs c.args.fields.now) (made_from c.args.facts.now)) c.new.ensures
    ∙ sym (of_tool c.args.facts.now.measures (made_from c.args.facts.now) c.args.process.now [] c.args.fields.now c.in-Tool.tool c.in-Tool.is) in
    subst (LeavesOut old (map met_of c.in_ok-walk-in-Tool.walk.met)) (ap (λ (w : Walk). w.met) whole) (leaves_itself old (map met_of c.in_ok-walk-in-Tool.walk.met))

pub returns-in-None-clause-met : goal.returns-in-None-clause-met
returns-in-None-clause-met c =
    let old : List Met = met_by c.args.facts.now c.args.fields.now c.args.process.now c.args.kept in
    subst (λ (w : Walk). IfOk c.walk_whole.result (λ found. LeavesOut old (map met_of found.walk.met) w.met))
    (sym (of_one c.args.facts.now.measures (made_from c.args.facts.now) c.args.process.now [] c.args.fields.now c.in-Workflow.workflow c.in-Workflow.is))
    (rooted_leaves c.args.facts.now c.args.fields.now c.in-Workflow.workflow (workflow_meaning_of c.args.facts.now.measures (made_from c.args.facts.now) c.in-Workflow.workflow [] c.args.fields.now) old c.walk_whole.result c.walk_whole.ensures)
