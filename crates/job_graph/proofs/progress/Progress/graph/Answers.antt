use Rattle.std.proofs.Common.{◌≡◌, List, subst}
use Rattle.std.specs.Prelude.{IfOk}
use Rattle.plan_checker.specs.declared.vertex.Vertex.{Vertex}
use Rattle.job_graph.proofs.Vertices.{fits, is_present, many_flags}
use Rattle.job_graph.proofs.progress.Progress.graph.Goals as goal

pub vertices_of-requires-clause-needed : goal.vertices_of-requires-clause-needed
vertices_of-requires-clause-needed c = many_flags c.args.self.now c.args.needed.now c.as_slice-known.result.now c.requires.needed c.as_slice-known.ensures

pub graph_of-requires : goal.graph_of-requires
graph_of-requires c =
    fits c.args.self.now c.args.costs.now c.in_ok-vertices.vertices.items c.args.needed.now c.as_slice-known.result.now c.requires.stands c.requires.needed c.as_slice-known.ensures c.in_ok-vertices.ensures
    c.requires.each c.requires.within

pub returns-clause-ok : goal.returns-clause-ok
returns-clause-ok c =
    subst (λ (vertices : List Vertex). IfOk c.graph_of.result (λ graph. graph ≡ vertices))
    (is_present c.args.self.now c.args.costs.now c.in_ok-vertices.vertices.items c.args.needed.now c.as_slice-known.result.now c.requires.stands c.requires.needed c.as_slice-known.ensures
    c.in_ok-vertices.ensures)
    c.graph_of.ensures.ok
