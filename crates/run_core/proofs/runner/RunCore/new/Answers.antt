use Rattle.std.proofs.Common.{refl}
use Rattle.run_core.proofs.Counted.{none_counted}
use Rattle.run_core.proofs.standing.Beginning.{begins_at, stands_first}
use Rattle.run_core.proofs.runner.RunCore.new.Goals as goal

pub invariant_of-result : goal.invariant_of-result
invariant_of-result c =
    stands_first (record {
      alloc = c.args.alloc;
      given = record { process = c.args.process; inputs = c.args.inputs; options = c.args.options; rates = c.new-rates.result; answers = 0 };
      pairs = c.new-pairs.result;
      course = c.start.new.course;
      turn = c.start.new.turn;
    }) c.requires.limits c.new-rates.ensures refl c.requires.accepted c.see_ids.ensures c.new-pairs.ensures (none_counted c.new-pairs.result c.new-pairs.ensures) _
    c.at_first-course.ensures.past c.at_first-course.ensures.known c.in-Ok.ensures.begins c.in-Ok.ensures.one_more

pub returns-in-Ok-clause-ok : goal.returns-in-Ok-clause-ok
returns-in-Ok-clause-ok c =
    begins_at (record {
      alloc = c.args.alloc;
      given = record { process = c.args.process; inputs = c.args.inputs; options = c.args.options; rates = c.new-rates.result; answers = 0 };
      pairs = c.new-pairs.result;
      course = c.start.new.course;
      turn = c.start.new.turn;
    }) c.requires.limits c.new-rates.ensures refl c.requires.accepted c.see_ids.ensures c.new-pairs.ensures (none_counted c.new-pairs.result c.new-pairs.ensures) _
    c.at_first-course.ensures.past c.at_first-course.ensures.known c.in-Ok.ensures.begins c.in-Ok.ensures.one_more
