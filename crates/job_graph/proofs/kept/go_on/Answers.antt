use Rattle.std.proofs.Common.{[], subst, subst₂, sym}
use Rattle.std.specs.Prelude.{reverse}
use Rattle.document_links.specs.declared.process.Workflow.{out-Workflow}
use Rattle.job_graph.specs.Equations.{workflow_meaning_of}
use Rattle.job_graph.specs.Words.{JobPlace}
use Rattle.job_graph.specs.inner.Going.{EndedBelow, facts_before}
use Rattle.job_graph.specs.inner.Nested.{KeepsAlong}
use Rattle.job_graph.specs.inner.Views.{made_from}
use Rattle.job_graph.proofs.Inward.{along_new}
use Rattle.job_graph.proofs.RootBegun.{kept_further, met_further, outs_further}
use Rattle.job_graph.proofs.RootWalk.{inside_workflow}
use Rattle.job_graph.proofs.Rooted.{ended_below, rooted_leaves}
use Rattle.job_graph.proofs.kept.go_on.Goals as goal

pub returns-in_default-clause-met : goal.returns-in_default-clause-met
returns-in_default-clause-met c =
    rooted_leaves c.args.facts.now c.args.fields.now c.args.workflow.now (workflow_meaning_of c.args.facts.now.measures (made_from c.args.facts.now) c.args.workflow.now [] c.args.fields.now)
    (workflow_meaning_of c.args.facts.now.measures (made_from (facts_before c.args.facts.now)) c.args.workflow.now [] c.args.fields.now).met c.walk_whole.result c.walk_whole.ensures

pub walk_deeper-requires-clause-ended : goal.walk_deeper-requires-clause-ended
walk_deeper-requires-clause-ended c =
    subst₂ (EndedBelow c.args.facts.now) (sym c.new-root.ensures) (sym c.as_slice-ended.ensures) (ended_below c.args.facts.now c.in-Some.ensures.0 c.in-Some.last.now c.in-Some.ensures.1)

pub walk_deeper-requires-clause-apart : goal.walk_deeper-requires-clause-apart
walk_deeper-requires-clause-apart c = inside_workflow c.args.workflow.now c.requires.apart

pub walk_deeper-requires-clause-along : goal.walk_deeper-requires-clause-along
walk_deeper-requires-clause-along c =
    let below : EndedBelow c.args.facts.now [] c.as_slice-ended.result.now =
    subst (EndedBelow c.args.facts.now []) (sym c.as_slice-ended.ensures) (ended_below c.args.facts.now c.in-Some.ensures.0 c.in-Some.last.now c.in-Some.ensures.1) in
    subst (λ (place : JobPlace). KeepsAlong (facts_before c.args.facts.now) place c.args.kept.inputs (out-Workflow c.args.workflow.now).steps c.args.kept.env (reverse c.where_new-nested.result)) (sym c.new-root.ensures)
    (along_new c.args.facts.now [] c.as_slice-ended.result.now below c.args.kept.inputs (out-Workflow c.args.workflow.now).steps c.args.kept.env c.args.kept.nested c.where_new-nested.result c.args.kept.since c.len.result
    c.len.ensures c.where_new-nested.ensures c.requires.kept.along)

pub returns-clause-kept : goal.returns-clause-kept
returns-clause-kept c =
    kept_further c.args.facts.now c.args.fields.now c.args.workflow.now c.args.kept.inputs c.requires.kept.inputs c.new-root.result c.new-root.ensures c.len-2.result c.len-2.ensures
    c.args.kept.readers c.requires.kept.table
    c.as_slice-outputs.result.now c.in_ok-deeper.deeper c.in_ok-deeper.ensures c.with_kept.result c.with_kept.ensures.kept

pub returns-clause-met : goal.returns-clause-met
returns-clause-met c =
    met_further c.args.facts.now c.args.fields.now c.args.workflow.now c.args.kept.inputs c.requires.kept.inputs c.new-root.result c.new-root.ensures c.len-2.result c.len-2.ensures
    c.args.kept.readers c.requires.kept.table
    c.as_slice-outputs.result.now c.as_slice-outputs.ensures.entries c.in_ok-deeper.deeper c.in_ok-deeper.ensures c.with_kept.result.walk c.with_kept.ensures.walk

pub returns-clause-outs : goal.returns-clause-outs
returns-clause-outs c =
    outs_further c.args.facts.now c.args.fields.now c.args.workflow.now c.args.kept.inputs c.requires.kept.inputs c.new-root.result c.new-root.ensures c.len-2.result c.len-2.ensures
    c.args.kept.readers c.requires.kept.table
    c.as_slice-outputs.result.now c.as_slice-outputs.ensures.entries c.in_ok-deeper.deeper c.in_ok-deeper.ensures c.with_kept.result.walk c.with_kept.ensures.walk
