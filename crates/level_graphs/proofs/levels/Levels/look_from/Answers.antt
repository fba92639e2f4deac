use Rattle.std.proofs.Common.{◌≡◌, ◌<◌, ◌-◌, ℕ, length, sym, refl, ap, ◌∙◌, subst, arith}
use Rattle.level_graphs.specs.declared.network.Arc.{Arc}
use Rattle.level_graphs.specs.Arcs.{tail_of, arc_at, IsLastBelow}
use Rattle.level_graphs.proofs.Rounds.{inside_of, extends_on}
use Rattle.level_graphs.proofs.Lists.{first_looked, next_looked}
use Rattle.level_graphs.proofs.levels.Levels.look_from.Goals as goal

pub loop-next-init : goal.loop-next-init
loop-next-init c =
    let network = c.args.network.now in
    let arcs = network.arcs.items in
    let node = c.args.node in
    let levels = c.args.self.now in
    let some = c.requires.round.frontier.some in
    let at = c.requires.level in
    let nodes = c.requires.round.nodes in
    let inside = inside_of levels.of.items node (omega arith) in
    let is = c.requires.network.listed.lasts node (omega arith) in
    let L : ℕ → Type 0 = IsLastBelow arcs node (length arcs) in
    record {
      nodes = refl;
      round = c.requires.round;
      level = c.requires.level;
      more = record { count = omega arith; levels = λ v s. refl; places = λ p s. refl };
      looked = first_looked arcs levels.of.items node c.last_from-next.result (subst L (sym c.last_from-next.ensures) is);
    }

pub loop-next-preserved : goal.loop-next-preserved
loop-next-preserved c =
    let network = c.args.network.now in
    let arcs = network.arcs.items in
    let node = c.args.node in
    let number = c.loop-next.next in
    let before = c.loop-next.self in
    let after = c.look_along.new.self in
    let inv = c.loop-next.invariant in
    let looked = inv.looked in
    let within = looked.within in
    let some = c.loop-next-test.true in
    let first = inv.round.frontier.some in
    let level = inv.level in
    let told = c.in_ok-look_along.ensures in
    let leaves : tail_of arcs (number - 1) ≡ node = looked.leaves (omega arith) in
    let inside : number - 1 < length arcs = omega arith in
    let is = c.requires.network.listed.nexts (number - 1) inside in
    let L : ℕ → Type 0 = λ u. IsLastBelow arcs u (number - 1) (arc_at arcs (number - 1)).next in
    let M : ℕ → Type 0 = IsLastBelow arcs node (number - 1) in
    let next_is = ap (λ (a : Arc). a.next) c.arc-next.ensures in
    let nodes_now = told.nodes in
    record {
      nodes = (let was = inv.nodes in omega (arith, before.of.ok.0, after.of.ok.0));
      round = told.round;
      level = told.more.levels node (λ e. absurd (omega arith)) ∙ inv.level;
      more = extends_on c.args.self.now before after inv.more told.more;
      looked = next_looked arcs before.of.items after.of.items node number c.arc-next.result.next looked (omega arith) (subst M (sym next_is) (subst L leaves is)) told.more.levels told.seen;
    }
