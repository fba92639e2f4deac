use Rattle.std.proofs.Common.{refl}
use Rattle.run_core.proofs.Fits.{same_course}
use Rattle.run_core.proofs.choice.next_to_stage.Goals as goal

pub returns-then-len-given-clause-same : goal.returns-then-len-given-clause-same
returns-then-len-given-clause-same c = same_course c.args.course.now c.args.course.now.jobs _ _ _ refl

pub returns-clause-same : goal.returns-clause-same
returns-clause-same c = same_course c.args.course.now c.first_ready.new.self _ _ _ c.first_ready.ensures.same
