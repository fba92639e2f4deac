use Rattle.std.proofs.Common.{IfOk, subst, sym}
use Rattle.plan_call.proofs.Plans.{and_leaves_nothing}
use Rattle.cwl_program.proofs.Ends.{bare_so, shows_so, untold}
use Rattle.plan_call.specs.Plans.{IsEndOfPlan}
use Rattle.program_words.specs.RunWords.{wish_of_run}
use Rattle.cwl_program.specs.Tells.{IsEndOf, IsEndOfWords, telling_of}
use Rattle.program_words.specs.declared.command.Choice.{Choice}
use Rattle.program_words.specs.declared.shows.Shows.{Shows}
use Rattle.cwl_program.proofs.entry.end_of_choice.Goals as goal

pub returns-in-Demo-clause-end : goal.returns-in-Demo-clause-end
returns-in-Demo-clause-end g c =
    subst (λ (choice : Choice). IfOk c.bare.result (λ end. IsEndOf g.R.Records g.R.Kept.Record c.args.rt.now c.args.path.now choice end.exit end.left)) (sym c.in-Demo.is)
    (bare_so _ c.exit_of_demo.result _ c.exit_of_demo.ensures c.bare.ensures.exit c.bare.ensures.left)

pub returns-in-Check-clause-end : goal.returns-in-Check-clause-end
returns-in-Check-clause-end g c =
    subst (λ (choice : Choice). IfOk c.bare-in-Check.result (λ end. IsEndOf g.R.Records g.R.Kept.Record c.args.rt.now c.args.path.now choice end.exit end.left)) (sym c.in-Check.is)
    (bare_so _ c.exit_of_check.result _ c.exit_of_check.ensures c.bare-in-Check.ensures.exit c.bare-in-Check.ensures.left)

pub returns-in-Outputs-clause-end : goal.returns-in-Outputs-clause-end
returns-in-Outputs-clause-end g c =
    subst (λ (choice : Choice). IfOk c.end_of_process.result (λ end. IsEndOf g.R.Records g.R.Kept.Record c.args.rt.now c.args.path.now choice end.exit end.left)) (sym c.in-Run.is)
    (subst (λ (shows : Shows). IfOk c.end_of_process.result (λ end. IsEndOfWords g.R.Records g.R.Kept.Record c.args.rt.now shows (wish_of_run c.in-Run.words) c.args.path.now end.exit end.left))
    (sym c.in-Outputs.is) c.end_of_process.ensures.end)

pub returns-in_default-clause-end : goal.returns-in_default-clause-end
returns-in_default-clause-end g c =
    subst (λ (choice : Choice). IfOk c.end_of_showing.result (λ end. IsEndOf g.R.Records g.R.Kept.Record c.args.rt.now c.args.path.now choice end.exit end.left)) (sym c.in-Run.is)
    (shows_so g.R.Records g.R.Kept.Record c.args.rt.now c.in-Run.words.shows (wish_of_run c.in-Run.words) c.args.path.now _ c.in_default.not-Outputs
    c.end_of_showing.ensures.end c.end_of_showing.ensures.left)

pub returns-in_default-clause-told : goal.returns-in_default-clause-told
returns-in_default-clause-told g c = untold (telling_of c.args.choice.now) _

pub returns-in-Plan-clause-end : goal.returns-in-Plan-clause-end
returns-in-Plan-clause-end g c =
    subst (λ (choice : Choice). IfOk c.end_of_plan.result (λ end. IsEndOf g.R.Records g.R.Kept.Record c.args.rt.now c.args.path.now choice end.exit end.left)) (sym c.in-Plan.is)
    (and_leaves_nothing (IsEndOfPlan (wish_of_run c.in-Plan.words.run) c.in-Plan.words.dot c.args.path.now) _
    c.end_of_plan.ensures.end c.end_of_plan.ensures.left)
