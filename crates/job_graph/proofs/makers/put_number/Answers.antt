use Rattle.job_graph.proofs.Gathering.{puts_nothing, puts_number}
use Rattle.job_graph.proofs.makers.put_number.Goals as goal

pub returns-in_ok-insert : goal.returns-in_ok-insert
returns-in_ok-insert c =
    puts_number c.args.known.now c.args.place.now c.in-Some.number c.args.numbers.now c.insert.new.self c.in-Some.ensures.within c.in-Some.ensures.one c.in_ok-insert.ensures.updates

pub returns-in_default : goal.returns-in_default
returns-in_default c = puts_nothing c.args.known.now c.args.place.now c.number_of.result c.args.numbers.now c.in_default.not-Some c.number_of.ensures.one
