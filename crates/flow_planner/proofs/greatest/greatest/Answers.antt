use Rattle.flow_planner.proofs.Separated.{IsSent, sent_fair, sent_separates}
use Rattle.flow_planner.proofs.greatest.greatest.Goals as goal

pub returns-clause-made : goal.returns-clause-made
returns-clause-made c =
    let graph = c.args.vertices.now in
    let network = c.in_ok-network.network in
    let after = c.send_all.new.network in
    let built = c.in_ok-network.ensures in
    let marks = c.in_ok-plan.plan.marks in
    let all : IsSent graph c.args.start.now c.in_ok-charges_of.field-0 marks network.arcs.items after.arcs.items c.in_ok-levels.levels.of.items network.source network.sink = record {
      source_is = built.nodes.source;
      sink_is = built.nodes.sink;
      began = built.carries;
      flow = c.send_all.ensures.flow;
      cut = c.in_ok-levels.ensures.none;
      level_graph = c.in_ok-levels.ensures.levels;
      read = record {
        enter = c.in_ok-charges_of.ensures.enter;
        through = c.in_ok-charges_of.ensures.through;
        pay = c.in_ok-charges_of.ensures.pay;
        pass = c.in_ok-charges_of.ensures.pass;
      };
      marks_are = c.in_ok-plan.ensures;
    } in
    (sent_fair graph _ _ marks _ _ _ _ _ c.requires.graph c.requires.flowing all, sent_separates graph _ _ marks _ _ _ _ _ all)
