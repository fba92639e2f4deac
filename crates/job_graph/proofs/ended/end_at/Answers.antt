use Rattle.std.proofs.Common.{sym}
use Rattle.job_graph.proofs.Flags.{flag_left, flag_set}
use Rattle.job_graph.proofs.ended.end_at.Goals as goal

pub returns-in-Some : goal.returns-in-Some
returns-in-Some c = flag_set c.args.place.now c.args.ended.now.items c.args.known.now c.requires c.in-Some.number c.in-Some.ensures.one (sym c.in-Some.ensures.known)

pub returns-in_default : goal.returns-in_default
returns-in_default c = flag_left c.args.place.now c.args.ended.now.items c.args.known.now c.requires c.number_of.result c.in_default.not-Some c.number_of.ensures.one
