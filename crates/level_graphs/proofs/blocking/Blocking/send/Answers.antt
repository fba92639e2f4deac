use Rattle.std.proofs.Common.{ℕ, ap, arith}
use Rattle.std.proofs.lemmas.List.{get_or_read}
use Rattle.level_graphs.specs.declared.network.Arc.{Arc}
use Rattle.level_graphs.specs.Arcs.{room_at}
use Rattle.level_graphs.proofs.blocking.Blocking.send.Goals as goal

pub push_all-requires-clause-room : goal.push_all-requires-clause-room
push_all-requires-clause-room c j from below =
    let arcs = c.args.network.now.arcs.items in
    let path = c.args.self.now.path in
    let told = c.tightest-full.ensures in
    let place = told.place in
    let top = c.requires.top in
    let is = get_or_read path.items c.tightest-full.result c.index.result.now (omega (arith, path.ok.0)) c.index.ensures 0 in
    let room = ap (λ (a : Arc). a.room) c.arc-most.ensures in
    let same = ap (λ (k : ℕ). room_at arcs k) is in
    let least = told.least j from below in
    omega arith
