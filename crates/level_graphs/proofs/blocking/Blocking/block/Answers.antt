use Rattle.std.proofs.Common.{◌≡◌, ℕ, length, refl, ◌∙◌, subst, arith}
use Rattle.level_graphs.specs.Blocked.{IsBlocked}
use Rattle.level_graphs.proofs.Searched.{search_begins}
use Rattle.level_graphs.proofs.Sent.{none_down, down_on}
use Rattle.level_graphs.proofs.Flows.{no_flow, flow_with}
use Rattle.level_graphs.proofs.blocking.Blocking.block.Goals as goal

pub loop-next-init : goal.loop-next-init
loop-next-init c =
    let network = c.args.network.now in
    let levels = c.args.levels.now.of in
    let self = c.args.self.now in
    let nodes = c.requires.nodes in
    let path = c.requires.path in
    let few = c.requires.few in
    let current = c.copy_from_slice.ensures.len in
    let count : length levels.items ≡ length network.last.items = omega (arith, levels.ok.0, network.last.ok.0) in
    record {
      network = c.requires.network;
      nodes = refl;
      source = refl;
      sink = refl;
      current = refl;
      path = refl;
      search = search_begins network levels.items _ c.requires.network count c.requires.levels c.requires.reached (omega (arith, levels.ok.0)) (c.copy_from_slice.ensures.items ∙ c.as_slice.ensures.value) (omega (arith, self.path.ok.0, network.last.ok.0));
      flow = no_flow network.arcs.items network.source network.sink;
      sent = none_down network.arcs.items levels.items;
    }

pub loop-next-preserved : goal.loop-next-preserved
loop-next-preserved c =
    let inv = c.loop-next.invariant in
    let told = c.step.ensures in
    record {
      network = told.network;
      nodes = told.nodes ∙ inv.nodes;
      source = told.source ∙ inv.source;
      sink = told.sink ∙ inv.sink;
      current = told.current ∙ inv.current;
      path = told.path ∙ inv.path;
      search = c.in-Some.ensures.search;
      flow = flow_with _ _ _ _ _ _ _ inv.source inv.sink inv.flow told.flow;
      sent = down_on c.args.network.now.arcs.items c.loop-next.network.arcs.items c.step.new.network.arcs.items c.args.levels.now.of.items inv.sent told.sent;
    }

pub returns-clause-flow : goal.returns-clause-flow
returns-clause-flow c =
    let inv = c.loop-next.invariant in
    flow_with _ _ _ _ _ _ _ inv.source inv.sink inv.flow c.step.ensures.flow

pub returns-clause-sent : goal.returns-clause-sent
returns-clause-sent c =
    down_on c.args.network.now.arcs.items c.loop-next.network.arcs.items c.step.new.network.arcs.items c.args.levels.now.of.items c.loop-next.invariant.sent c.step.ensures.sent

pub returns-clause-blocked : goal.returns-clause-blocked
returns-clause-blocked c =
    let inv = c.loop-next.invariant in
    let arcs = c.step.new.network.arcs.items in
    let levels = c.args.levels.now.of.items in
    let B : ℕ → ℕ → Type 0 = IsBlocked arcs levels in
    subst (λ s. B s c.args.network.now.sink) inv.source (subst (λ t. B c.loop-next.network.source t) inv.sink c.in_default.ensures.blocked)
