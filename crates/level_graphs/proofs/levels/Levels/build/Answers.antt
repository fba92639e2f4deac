use Rattle.std.proofs.Common.{◌≡◌, ◌≢◌, ◌+◌, length, get_or, refl, arith}
use Rattle.std.proofs.lemmas.List.{get_or_read}
use Rattle.level_graphs.proofs.Rounds.{round_next}
use Rattle.level_graphs.proofs.Nearest.{ends_at_sink, ends_empty}
use Rattle.level_graphs.proofs.levels.Levels.build.Goals as goal

pub returns-then-index-ne0-clause-levels : goal.returns-then-index-ne0-clause-levels
returns-then-index-ne0-clause-levels c =
    let network = c.args.network.now in
    let levels = c.loop-round.self in
    let round = c.loop-round.round in
    let inv = c.loop-round.invariant in
    let nodes = inv.round.nodes in
    let inside = c.requires.network.sink in
    let is = get_or_read levels.of.items network.sink c.index.result.now (omega arith) c.index.ensures 0 in
    let test = c.if-index-ne0.true in
    let reached : get_or levels.of.items network.sink 0 ≢ 0 = λ e. absurd (omega arith) in
    ends_at_sink network.arcs.items network.source network.sink levels.of.items levels.queue.items round.level round.start round.end inv.round.frontier inv.last reached

pub loop-round-preserved : goal.loop-round-preserved
loop-round-preserved c =
    let network = c.args.network.now in
    let before = c.loop-round.self in
    let levels = c.look_from_all.new.self in
    let round = c.loop-round.round in
    let inv = c.loop-round.invariant in
    let told = c.in_ok-look_from_all.ensures in
    let nodes = told.nodes in
    let count = c.len.ensures in
    let end : c.len.result ≡ length levels.queue.items = omega (arith, levels.queue.ok.0) in
    record {
      nodes = (let was = inv.nodes in omega (arith, before.of.ok.0, levels.of.ok.0));
      round = round_next network levels round (round.level + 1) round.end c.len.result told.round c.loop-round-test.true told.seen refl refl end;
      last = end;
    }

pub returns-clause-levels : goal.returns-clause-levels
returns-clause-levels c =
    let network = c.args.network.now in
    let levels = c.loop-round.self in
    let round = c.loop-round.round in
    let inv = c.loop-round.invariant in
    ends_empty network.arcs.items network.source network.sink levels.of.items levels.queue.items round.level round.start round.end inv.round.frontier inv.last c.loop-round-test.false
