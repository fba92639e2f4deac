use Rattle.std.proofs.Common.{◌≡◌, length, ap, ◌∙◌, arith}
use Rattle.level_graphs.specs.Arcs.{pushed}
use Rattle.flow_planner.proofs.Laid.{laid}
use Rattle.flow_planner.proofs.network.lay.Goals as goal

pub push-requires-clause-arc : goal.push-requires-clause-arc
push-requires-clause-arc c =
    let network = c.args.network.now in
    let counted = c.len-number.ensures in
    let more = c.in_ok-join.ensures.arcs.count in
    omega (arith, network.arcs.ok.0, c.join.new.self.arcs.ok.0)

pub returns-clause-laid : goal.returns-clause-laid
returns-clause-laid c =
    let network = c.args.network.now in
    let mid = c.join.new.self.arcs.items in
    let counted = c.len-number.ensures in
    let number : c.len-number.result ≡ length network.arcs.items = omega (arith, network.arcs.ok.0) in
    let is = c.push.ensures.arcs ∙ ap (λ k. pushed mid k c.args.amount) number in
    laid network.arcs.items mid c.push.new.self.arcs.items c.args.from c.args.to c.args.capacity c.args.amount c.requires.network.listed.paired c.in_ok-join.ensures.arcs c.requires.amount (omega arith) is
