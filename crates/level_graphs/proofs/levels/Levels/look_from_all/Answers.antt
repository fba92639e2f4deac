use Rattle.std.proofs.Common.{◌<◌, length, arith}
use Rattle.std.proofs.lemmas.List.{get_or_read}
use Rattle.level_graphs.proofs.Rounds.{all_seen_more}
use Rattle.level_graphs.proofs.levels.Levels.look_from_all.Goals as goal

pub loop-place-preserved : goal.loop-place-preserved
loop-place-preserved c =
    let network = c.args.network.now in
    let before = c.loop-place.self in
    let after = c.look_from.new.self in
    let inv = c.loop-place.invariant in
    let place = c.loop-place.place in
    let told = c.in_ok-look_from.ensures in
    let filled = inv.round.frontier.filled in
    let test = c.loop-place-test.true in
    let inside : place < length before.queue.items = omega arith in
    let is = get_or_read before.queue.items place c.index-node.result.now inside c.index-node.ensures 0 in
    let nodes = told.nodes in
    record {
      nodes = (let was = inv.nodes in omega (arith, before.of.ok.0, after.of.ok.0));
      round = told.round;
      seen = all_seen_more network before after c.args.round.start place c.index-node.result.now told.more inside inv.seen is told.seen;
    }

pub returns-clause-seen : goal.returns-clause-seen
returns-clause-seen c p from below =
    let ordered = c.requires.round.frontier.ordered in
    let test = c.loop-place-test.false in
    c.loop-place.invariant.seen p from (omega arith)
