use Rattle.std.proofs.Common.{sym, subst}
use Rattle.job_graph.specs.KnownJobs.{job_of}
use Rattle.run_core.specs.declared.state.JobNext.{JobNext}
use Rattle.run_core.specs.inner.Picks.{Turns, badly, for_now, well}
use Rattle.run_core.proofs.Lists.{if_ok}
use Rattle.run_core.proofs.Noted.{lands}
use Rattle.run_core.proofs.steps.landed.Goals as goal

pub job_of-requires : goal.job_of-requires
job_of-requires c =
    (lands c.args.ending.now.ticket c.note_end-flight.result c.args.course.now c.note_end-flight.new.course c.note_end-flight.ensures.taken c.note_end-flight.ensures.known c.requires.ready).known

pub scanned-requires-clause-number : goal.scanned-requires-clause-number
scanned-requires-clause-number c =
    (lands c.args.ending.now.ticket c.note_end-flight.result c.args.course.now c.note_end-flight.new.course c.note_end-flight.ensures.taken c.note_end-flight.ensures.known c.requires.ready).number

pub scanned-requires-clause-known : goal.scanned-requires-clause-known
scanned-requires-clause-known c =
    (lands c.args.ending.now.ticket c.note_end-flight.result c.args.course.now c.note_end-flight.new.course c.note_end-flight.ensures.taken c.note_end-flight.ensures.known c.requires.ready).known

pub gave_up-requires-clause-number : goal.gave_up-requires-clause-number
gave_up-requires-clause-number c =
    (lands c.args.ending.now.ticket c.note_end-flight.result c.args.course.now c.note_end-flight.new.course c.note_end-flight.ensures.taken c.note_end-flight.ensures.known c.requires.ready).number

pub gave_up-requires-clause-known : goal.gave_up-requires-clause-known
gave_up-requires-clause-known c =
    (lands c.args.ending.now.ticket c.note_end-flight.result c.args.course.now c.note_end-flight.new.course c.note_end-flight.ensures.taken c.note_end-flight.ensures.known c.requires.ready).known

pub turn_of-requires-clause-number : goal.turn_of-requires-clause-number
turn_of-requires-clause-number c =
    (lands c.args.ending.now.ticket c.note_end-flight.result c.args.course.now c.note_end-flight.new.course c.note_end-flight.ensures.taken c.note_end-flight.ensures.known c.requires.ready).known

pub turn_of-requires-clause-staged : goal.turn_of-requires-clause-staged
turn_of-requires-clause-staged c =
    (lands c.args.ending.now.ticket c.note_end-flight.result c.args.course.now c.note_end-flight.new.course c.note_end-flight.ensures.taken c.note_end-flight.ensures.known c.requires.ready).number

pub returns-in-Success-clause-is : goal.returns-in-Success-clause-is
returns-in-Success-clause-is c =
    if_ok c.scanned.result (λ turn it. record {
      flight = c.note_end-flight.result;
      landed = c.note_end-flight.new.course;
      taken = c.note_end-flight.ensures.taken;
      known = c.note_end-flight.ensures.known;
      job = job_of c.job_of.result.now;
      is_job = c.job_of.ensures;
      ends = well it.site it.next (sym c.in-Success.ensures) it.is_site it.scans it.turns;
    }) c.scanned.ensures.is

pub returns-in-Temporary-clause-is : goal.returns-in-Temporary-clause-is
returns-in-Temporary-clause-is c =
    if_ok c.gave_up.result (λ turn temporary. record {
      flight = c.note_end-flight.result;
      landed = c.note_end-flight.new.course;
      taken = c.note_end-flight.ensures.taken;
      known = c.note_end-flight.ensures.known;
      job = job_of c.job_of.result.now;
      is_job = c.job_of.ensures;
      ends = for_now (sym c.in-Temporary.ensures) temporary;
    }) c.gave_up.ensures.is

pub returns-in-Permanent-clause-is : goal.returns-in-Permanent-clause-is
returns-in-Permanent-clause-is c =
    if_ok c.turn_of.result (λ turn turns. record {
      flight = c.note_end-flight.result;
      landed = c.note_end-flight.new.course;
      taken = c.note_end-flight.ensures.taken;
      known = c.note_end-flight.ensures.known;
      job = job_of c.job_of.result.now;
      is_job = c.job_of.ensures;
      ends = badly (sym c.in-Permanent.ensures)
          (subst (λ (next : JobNext). Turns c.args.given.now c.note_end-flight.new.course c.note_end-flight.result.job next turn c.turn_of.new.course) c.failing.ensures turns);
    }) c.turn_of.ensures.is
