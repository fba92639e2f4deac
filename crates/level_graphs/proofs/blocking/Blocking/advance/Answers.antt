use Rattle.std.proofs.Common.{ℕ, ◌-◌, set, ap, refl, arith}
use Rattle.level_graphs.specs.declared.network.Arc.{Arc}
use Rattle.level_graphs.proofs.Searched.{search_on, search_passes}
use Rattle.level_graphs.proofs.blocking.Blocking.advance.Goals as goal

pub returns-clause-search : goal.returns-clause-search
returns-clause-search c =
    let network = c.args.network.now in
    let levels = c.args.levels.now.of.items in
    let node = c.args.node in
    let next = c.next_way-next.result in
    let told = c.next_way-next.ensures in
    let s = c.requires.search in
    let some = c.if-next-eq0.false in
    let low = s.path.some in
    let at = c.at-before.ensures in
    let way = told.way (omega arith) in
    search_on network levels c.args.self.now _ node next _ c.arc.result.to (ap (λ (a : Arc). a.to) c.arc.ensures) c.requires.network s c.requires.other (omega arith) told.from told.fewer told.passed (omega arith) way.up refl (ap (λ (r : ℕ). set c.args.self.now.path.items (c.at-before.result - 1) r) c.reverse.ensures)

pub returns-then-next-eq0-clause-still : goal.returns-then-next-eq0-clause-still
returns-then-next-eq0-clause-still c =
    let told = c.next_way-next.ensures in
    search_passes c.args.network.now c.args.levels.now.of.items c.args.self.now _ c.args.node c.next_way-next.result c.requires.search told.from told.fewer told.passed refl refl
