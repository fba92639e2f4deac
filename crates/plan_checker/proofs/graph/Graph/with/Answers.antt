use Rattle.std.proofs.Common.{◌∙◌, sym, true≢false, arith}
use Rattle.plan_checker.proofs.GraphChanges.{refused_after, graph_after}
use Rattle.plan_checker.proofs.graph.Graph.with.Goals as goal

-- src/graph.rt:106:13
pub returns-then-not-fits-clause-refused : goal.returns-then-not-fits-clause-refused
returns-then-not-fits-clause-refused c =
    refused_after c.self.inside.vertices.items c.args.self c.args.vertex c.self.inside.entries c.len-number.result c.self.view_is c.self.invariant.2 (omega arith)
    (λ fits. true≢false (sym (c.fits.ensures.1 fits) ∙ c.if-not-fits.true))

-- src/graph.rt:108:12
pub longer-requires : goal.longer-requires
longer-requires c =
    graph_after c.self.inside.vertices.items c.args.self c.args.vertex c.self.inside.entries c.len-number.result c.self.view_is c.self.invariant.0 c.self.invariant.2 (omega arith) (c.fits.ensures.0 c.if-not-fits.false)
