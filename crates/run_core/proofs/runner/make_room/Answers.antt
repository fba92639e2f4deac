use Rattle.std.proofs.Common.{◌≡◌, ◌∙◌, ◌+◌, ◌≤◌, length, sym, ap, subst, arith}
use Rattle.run_core.specs.declared.state.Turn.{Turn}
use Rattle.run_core.specs.inner.Answered.{most_answers}
use Rattle.run_core.specs.inner.Course.{Past, past_of}
use Rattle.run_core.specs.inner.Follows.{has_room}
use Rattle.run_core.specs.inner.Standing.{HasRoom, pairs_ahead}
use Rattle.run_core.specs.inner.Turn.{lost_after}
use Rattle.run_core.proofs.Rooms.{ahead, lost_has_room, lost_takes_none, room_at_rest}
use Rattle.run_core.proofs.runner.make_room.Goals as goal

pub returns-in-Draining-clause-room : goal.returns-in-Draining-clause-room
returns-in-Draining-clause-room c =
    room_at_rest c.args.pairs.now.count most_answers (past_of c.args.course.now) c.args.turn.now c.in-Draining.is c.requires

pub returns-in-Ok : goal.returns-in-Ok
returns-in-Ok c =
    let more : pairs_ahead (past_of c.args.course.now) c.args.turn.now.phase ≡ length c.args.course.now.tickets.items + 2 =
    ahead (past_of c.args.course.now) c.args.turn.now.phase c.in_default.not-Draining c.in_default.not-Ended in
    let fits : c.args.pairs.now.count + pairs_ahead (past_of c.args.course.now) c.args.turn.now.phase ≤ most_answers = omega (arith, more, c.in-Ok.ensures.pairs) in
    record {
      past = c.reserve.ensures.past;
      known = c.reserve.ensures.known;
      room = has_room fits;
      one_more = record { tickets = λ takes. c.in-Ok.ensures.tickets; flights = λ takes. c.in-Ok.ensures.flights };
    }

pub returns-in-Err : goal.returns-in-Err
returns-in-Err c =
    let is : c.replace.new.dest ≡ lost_after (past_of c.args.course.now) =
    c.replace.ensures.after ∙ c.lost.ensures ∙ ap (λ (past : Past). lost_after past) c.reserve.ensures.past in
    record {
      past = c.reserve.ensures.past;
      known = c.reserve.ensures.known;
      room = lost_has_room c.args.pairs.now.count most_answers (past_of c.args.course.now) c.args.turn.now c.replace.new.dest c.requires is;
      one_more = subst (λ (t : Turn). HasRoom c.reserve.new.course t.phase) (sym is) (lost_takes_none c.reserve.new.course (past_of c.args.course.now));
    }
