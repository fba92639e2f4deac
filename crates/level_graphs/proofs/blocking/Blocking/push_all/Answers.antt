use Rattle.std.proofs.Common.{◌≡◌, ◌+◌, ◌<◌, ◌≤◌, ℕ, List, length, get_or, sym, refl, ap, ◌∙◌, subst, ⊎_elim, arith}
use Rattle.std.proofs.lemmas.List.{get_or_read}
use Rattle.level_graphs.specs.declared.network.Arc.{Arc}
use Rattle.level_graphs.specs.Arcs.{pushed, room_at, reverse_of, tail_of, head_of}
use Rattle.level_graphs.specs.inner.Search.{AreSentAlong, IsFlowTo}
use Rattle.std.proofs.lemmas.Bool.{cases_lt}
use Rattle.level_graphs.proofs.Pushed.{room_apart}
use Rattle.level_graphs.proofs.Flows.{flow_starts, flow_next, flow_done}
use Rattle.level_graphs.proofs.Sent.{none_sent, sent_next, rooms_next}
use Rattle.level_graphs.proofs.blocking.Blocking.push_all.Goals as goal

pub loop-place-init : goal.loop-place-init
loop-place-init c =
    let arcs = c.args.network.now.arcs.items in
    record {
      network = c.requires.network;
      nodes = refl;
      source = refl;
      sink = refl;
      sent = none_sent arcs c.args.self.now.path.items 1;
      ahead = λ j from below. refl;
      flow = λ u here end. flow_starts arcs c.args.network.now.source u c.args.amount (sym c.requires.way.begins ∙ here c.requires.some);
      rooms = λ j from below. absurd (omega arith);
    }

pub loop-place-preserved : goal.loop-place-preserved
loop-place-preserved c =
    let before = c.args.network.now.arcs.items in
    let now = c.loop-place.network.arcs.items in
    let after = c.push.new.self.arcs.items in
    let path = c.args.self.now.path.items in
    let place = c.loop-place.place in
    let top = c.args.top in
    let inv = c.loop-place.invariant in
    let test = c.loop-place-test.true in
    let from = c.loop-place.auto.place in
    let most = c.requires.top in
    let ends = inv.sent.ends in
    let count = ends.count in
    let way = c.requires.way in
    let arc = way.inside place from test in
    let x = get_or path place 0 in
    let source = c.args.network.now.source in
    let amount = c.args.amount in
    let here = inv.ahead place (omega arith) test in
    let fits = c.requires.room place from test in
    let spot : IsFlowTo before now source (tail_of now x) amount = inv.flow (tail_of now x) (λ lt. sym (ends.head (reverse_of x))) (λ e. absurd (omega arith)) in
    let is = get_or_read path place c.index.result.now (omega (arith, c.args.self.now.path.ok.0)) c.index.ensures 0 in
    let told = c.push.ensures in
    let inside : get_or path place 0 < length now = omega (arith, c.args.network.now.arcs.ok.0) in
    let pushed_is = told.arcs ∙ ap (λ (k : ℕ). pushed now k c.args.amount) is in
    record {
      network = told.network;
      nodes = told.nodes ∙ inv.nodes;
      source = told.source ∙ inv.source;
      sink = told.sink ∙ inv.sink;
      sent = sent_next before now after path place c.args.amount inv.sent inv.network.listed.paired inv.network.bounded inside from pushed_is;
      ahead = λ j low below.
          let same = ap (λ (xs : List Arc). room_at xs (get_or path j 0)) pushed_is in
          let apart = room_apart now x (get_or path j 0) amount (λ e. way.once place j from (omega arith) below (sym e)) (way.apart j place (omega arith) below from test) in
          let was = inv.ahead j (omega arith) below in
          omega arith;
      flow = λ u before_it at_end.
          let head : head_of before x ≡ u = ⊎_elim (λ (lt : place + 1 < top). way.linked place from lt ∙ before_it lt) (λ (ge : top ≤ place + 1). let last : place + 1 ≡ top = omega arith in way.ends place from last ∙ at_end last) (cases_lt (place + 1) top) in
          flow_next before now after source x amount u inv.network.listed.paired inside inv.network.bounded (omega arith) pushed_is spot (ends.head x ∙ head);
      rooms = rooms_next before now after path place top c.args.amount inv.sent inside from test way.apart pushed_is inv.rooms;
    }

pub returns-clause-sent : goal.returns-clause-sent
returns-clause-sent c =
    let test = c.loop-place-test.false in
    let some = c.requires.some in
    let last : c.loop-place.place ≡ c.args.top = omega (arith, c.loop-place.auto.place-end) in
    let P : ℕ → Type 0 = AreSentAlong c.args.network.now.arcs.items c.loop-place.network.arcs.items c.args.self.now.path.items in
    subst P last c.loop-place.invariant.sent

pub returns-clause-flow : goal.returns-clause-flow
returns-clause-flow c =
    let test = c.loop-place-test.false in
    let some = c.requires.some in
    let inv = c.loop-place.invariant in
    let network = c.args.network.now in
    let last : c.loop-place.place ≡ c.args.top = omega (arith, c.loop-place.auto.place-end) in
    flow_done network.arcs.items c.loop-place.network.arcs.items network.source network.sink c.args.amount inv.sent.ends (inv.flow network.sink (λ lt. absurd (omega arith)) (λ e. refl))
