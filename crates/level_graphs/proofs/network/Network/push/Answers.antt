use Rattle.std.proofs.Common.{◌≡◌, ◌≢◌, ℕ, ◌<◌, List, length, sym, subst, arith}
use Rattle.level_graphs.specs.declared.network.Arc.{Arc}
use Rattle.level_graphs.specs.Arcs.{AreListed, tail_of, head_of, pushed}
use Rattle.level_graphs.proofs.Pushed.{AreBounded, bounded_pushed, ends_pushed, listed_stays, pushed_is, apart_stays}
use Rattle.level_graphs.proofs.network.Network.push.Goals as goal

pub returns-clause-arcs : goal.returns-clause-arcs
returns-clause-arcs c =
    pushed_is c.args.self.now.arcs.items c.args.arc c.reverse-back.result c.args.amount c.saturating_sub.result c.saturating_add.result c.arc-held.result c.arc-held-2.result c.arc-held.ensures c.saturating_sub.ensures c.reverse-back.ensures c.arc-held-2.ensures c.saturating_add.ensures

pub returns-clause-network : goal.returns-clause-network
returns-clause-network c =
    let network = c.args.self.now in
    let arcs = network.arcs.items in
    let good = c.requires.network in
    let inside : c.args.arc < length arcs = omega (arith, c.requires.arc, network.arcs.ok.0) in
    let same = ends_pushed arcs c.args.arc c.args.amount good.listed.paired inside in
    let are = pushed_is arcs c.args.arc c.reverse-back.result c.args.amount c.saturating_sub.result c.saturating_add.result c.arc-held.result c.arc-held-2.result c.arc-held.ensures c.saturating_sub.ensures c.reverse-back.ensures c.arc-held-2.ensures c.saturating_add.ensures in
    let P : List Arc → Type 0 = λ xs. AreListed xs network.last.items in
    let Q : List Arc → Type 0 = λ xs. (a : ℕ) → a < length xs → tail_of xs a ≡ network.source → head_of xs a ≢ network.sink in
    record {
      listed = subst P (sym are) (listed_stays arcs (pushed arcs c.args.arc c.args.amount) network.last.items same good.listed);
      bounded = subst AreBounded (sym are) (bounded_pushed arcs c.args.arc c.args.amount good.listed.paired inside good.bounded);
      source = good.source;
      sink = good.sink;
      ends = good.ends;
      apart = subst Q (sym are) (apart_stays arcs (pushed arcs c.args.arc c.args.amount) network.source network.sink same good.apart);
    }
