use Rattle.std.proofs.Common.{◌≡◌, ◌-◌, ℕ, sym, ap, subst, arith}
use Rattle.std.proofs.lemmas.List.{get_or_read}
use Rattle.level_graphs.specs.declared.network.Arc.{Arc}
use Rattle.level_graphs.specs.Arcs.{tail_of, arc_at, IsLastBelow}
use Rattle.level_graphs.specs.inner.Search.{IsArcFrom, ArePassed}
use Rattle.level_graphs.proofs.Searched.{inside_all, way_next}
use Rattle.level_graphs.proofs.blocking.Blocking.next_way.Goals as goal

pub loop-next-init : goal.loop-next-init
loop-next-init c =
    let network = c.args.network.now in
    let arcs = network.arcs.items in
    let levels = c.args.levels.now.of.items in
    let current = c.args.self.now.current.items in
    let node = c.args.node in
    let s = c.requires.search in
    let inside = inside_all network levels c.args.self.now node s in
    let is = get_or_read current node c.index-next.result.now inside c.index-next.ensures 0 in
    record {
      from = subst (λ k. IsArcFrom arcs node k) (sym is) (s.pointing node);
      fewer = omega arith;
      passed = subst (λ k. ArePassed arcs levels current network.source node k) (sym is) (s.passed node);
    }

pub loop-next-preserved : goal.loop-next-preserved
loop-next-preserved c =
    let network = c.args.network.now in
    let arcs = network.arcs.items in
    let levels = c.args.levels.now.of.items in
    let current = c.args.self.now.current.items in
    let node = c.args.node in
    let number = c.loop-next.next in
    let inv = c.loop-next.invariant in
    let from = inv.from in
    let within = from.within in
    let fewer = inv.fewer in
    let some = c.loop-next-test.true in
    let leaves : tail_of arcs (number - 1) ≡ node = from.leaves (omega arith) in
    let listed = c.requires.network.listed.nexts (number - 1) (omega arith) in
    let L : ℕ → Type 0 = λ u. IsLastBelow arcs u (number - 1) (arc_at arcs (number - 1)).next in
    let M : ℕ → Type 0 = IsLastBelow arcs node (number - 1) in
    let next_is = ap (λ (a : Arc). a.next) c.arc-next.ensures in
    let is = subst M (sym next_is) (subst L leaves listed) in
    let low = is.within in
    record {
      from = record { within = omega arith; leaves = is.leaves };
      fewer = omega arith;
      passed = way_next arcs levels current network.source node c.args.before number c.arc-next.result.next (omega arith) is c.if-is_way_back.ensures c.requires.before inv.passed;
    }

pub returns-clause-passed : goal.returns-clause-passed
returns-clause-passed c b h tail low =
    let test = c.loop-next-test.false in
    c.loop-next.invariant.passed b h tail (omega arith)
