use Rattle.job_graph.proofs.Flags.{flags_last, flags_none}
use Rattle.job_graph.proofs.ended.end_last.Goals as goal

pub returns-in-None : goal.returns-in-None
returns-in-None c = flags_none c.args.learned.now c.args.known.now c.args.ended.now.items c.args.ended.now.items c.in-None.ensures

pub returns-in-Some : goal.returns-in-Some
returns-in-Some c =
    flags_last c.args.learned.now c.args.known.now c.args.ended.now.items c.end_at.new.ended.items c.in-Some.ensures.0 c.in-Some.last.now c.in-Some.ensures.1
    c.end_at.ensures
