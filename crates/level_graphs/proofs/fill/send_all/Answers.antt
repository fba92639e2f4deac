use Rattle.std.proofs.Common.{◌≡◌, ◌-◌, ◌<◌, MatchBool, get_or, refl, ◌∙◌, subst, arith}
use Rattle.level_graphs.specs.Arcs.{Reaches}
use Rattle.level_graphs.specs.Levels.{IsLevelGraph}
use Rattle.level_graphs.specs.Flow.{IsCut}
use Rattle.level_graphs.proofs.Farther.{farther, far_at_first, cut_off}
use Rattle.level_graphs.proofs.Flows.{no_flow, flow_with}
use Rattle.level_graphs.proofs.fill.send_all.Goals as goal

pub loop-blocking-init : goal.loop-blocking-init
loop-blocking-init c =
    let network = c.args.network.now in
    let good = c.requires.network in
    let source = good.source in
    let sink = good.sink in
    let ends = good.ends in
    let nodes = c.len-nodes.ensures in
    let levels = c.in_ok-levels.ensures in
    let current = c.in_ok-blocking.ensures.current in
    let path = c.in_ok-blocking.ensures.path in
    record {
      network = good;
      last = refl;
      source = refl;
      sink = refl;
      flow = no_flow network.arcs.items network.source network.sink;
      levels = omega arith;
      current = omega arith;
      path = omega arith;
      counted = omega arith;
      few = omega (arith, network.last.ok.0);
      far = λ k r. let far = far_at_first network.arcs.items network.source network.sink good.ends good.apart k r in omega arith;
    }

pub block-requires-clause-reached : goal.block-requires-clause-reached
block-requires-clause-reached c =
    let level = get_or c.build.new.self.of.items c.loop-blocking.network.sink 0 in
    subst (λ b. MatchBool b (0 < level) (level ≡ 0)) c.if-branch.true c.in_ok-build.ensures.reached

pub loop-blocking-preserved : goal.loop-blocking-preserved
loop-blocking-preserved c =
    let before = c.loop-blocking.network in
    let after = c.block.new.network in
    let inv = c.loop-blocking.invariant in
    let built = c.in_ok-build.ensures in
    let told = c.block.ensures in
    let levels = c.build.new.self.of in
    let level = get_or levels.items before.sink 0 in
    let reached = subst (λ b. MatchBool b (0 < level) (level ≡ 0)) c.if-branch.true built.reached in
    let near = built.levels.nearest before.sink (level - 1) (omega arith) in
    let was = inv.far (level - 1) near.reached in
    let few = built.few in
    let nodes = built.nodes in
    let phase = built.phase in
    let sizes = inv.levels in
    let counted = inv.counted in
    record {
      network = told.network;
      last = told.nodes ∙ inv.last;
      source = told.source ∙ inv.source;
      sink = told.sink ∙ inv.sink;
      flow = flow_with _ _ _ _ _ _ _ inv.source inv.sink inv.flow told.flow;
      levels = nodes ∙ sizes;
      current = told.current ∙ inv.current;
      path = told.path ∙ inv.path;
      counted = omega arith;
      few = omega arith;
      far = λ k r.
          let there : Reaches after.arcs.items before.source k before.sink = subst (λ s. Reaches after.arcs.items s k before.sink) told.source (subst (λ t. Reaches after.arcs.items after.source k t) told.sink r) in
          let most = farther before.arcs.items after.arcs.items levels.items before.source before.sink built.levels told.sent told.blocked k there in
          omega arith;
    }

pub returns-clause-levels : goal.returns-clause-levels
returns-clause-levels c =
    let network = c.loop-blocking.network in
    let inv = c.loop-blocking.invariant in
    let levels = c.build.new.self.of.items in
    subst (λ s. IsLevelGraph network.arcs.items s c.args.network.now.sink levels) inv.source (subst (λ t. IsLevelGraph network.arcs.items network.source t levels) inv.sink c.in_ok-build.ensures.levels)

pub returns-clause-none : goal.returns-clause-none
returns-clause-none c =
    let network = c.loop-blocking.network in
    let inv = c.loop-blocking.invariant in
    let levels = c.build.new.self.of.items in
    let level = get_or levels network.sink 0 in
    let none = subst (λ b. MatchBool b (0 < level) (level ≡ 0)) c.if-branch.false c.in_ok-build.ensures.reached in
    let cut = cut_off network.arcs.items levels network.source network.sink c.in_ok-build.ensures.levels none in
    subst (λ s. IsCut network.arcs.items s c.args.network.now.sink) inv.source (subst (λ t. IsCut network.arcs.items network.source t) inv.sink cut)
