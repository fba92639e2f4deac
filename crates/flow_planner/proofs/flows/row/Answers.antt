use Rattle.std.proofs.Common.{◌+◌, sym, ap, subst, arith}
use Rattle.level_graphs.specs.declared.network.Arc.{Arc}
use Rattle.flow_planner.specs.inner.Network.{IsRow}
use Rattle.flow_planner.proofs.Read.{row_more}
use Rattle.flow_planner.proofs.flows.row.Goals as goal

pub arc-requires : goal.arc-requires
arc-requires c =
    let all = c.requires in
    omega (arith, c.args.network.now.arcs.ok.0)

pub loop-parent-preserved : goal.loop-parent-preserved
loop-parent-preserved c =
    let arcs = c.args.network.now.arcs.items in
    let k = c.loop-parent.parent in
    let more = row_more arcs c.args.first c.loop-parent.row.items _ k c.loop-parent.invariant (ap (λ (a : Arc). a.room) c.arc.ensures) in
    subst (λ row. IsRow arcs c.args.first row (k + 1)) (sym c.in_ok-push.ensures.items) more
