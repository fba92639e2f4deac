use Rattle.plan_words.specs.Lines.{cost_line, job_line}
use Rattle.plan_words.proofs.Texts.{text_more}
use Rattle.plan_words.proofs.lines.plan_lines.Goals as goal

pub loop-number-preserved : goal.loop-number-preserved
loop-number-preserved c =
    text_more (cost_line c.args.cost) _ _ (job_line c.args.plan.now.marks c.args.places.now) c.loop-number.number c.loop-number.invariant c.in_ok-push_line.ensures
