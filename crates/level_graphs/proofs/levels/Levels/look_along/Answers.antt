use Rattle.std.proofs.Common.{◌≡◌, ◌++◌, ◌∷◌, [], ◌+◌, ◌<◌, ℕ, length, get_or, set, ap, ◌∙◌, arith}
use Rattle.std.proofs.lemmas.List.{get_or_read}
use Rattle.level_graphs.specs.declared.network.Arc.{Arc}
use Rattle.level_graphs.specs.Arcs.{head_of}
use Rattle.level_graphs.proofs.Rounds.{round_on}
use Rattle.level_graphs.proofs.levels.Levels.look_along.Goals as goal

pub returns-clause-round : goal.returns-clause-round
returns-clause-round c =
    let network = c.args.network.now in
    let arcs = network.arcs.items in
    let number = c.args.number in
    let before = c.args.self.now in
    let level = c.args.round.level in
    let inside : number < length arcs = omega (arith, c.requires.arc, network.arcs.ok.0) in
    let arc = c.arc-arc.result in
    let to_is : arc.to ≡ head_of arcs number = ap (λ (a : Arc). a.to) c.arc-arc.ensures in
    let room_is = ap (λ (a : Arc). a.room) c.arc-arc.ensures in
    let node = c.requires.network.listed.heads number inside in
    let nodes = c.requires.round.nodes in
    let at = get_or_read before.of.items arc.to c.index.result.now (omega arith) c.index.ensures 0 in
    let moved = ap (λ (x : ℕ). get_or before.of.items x 0) to_is in
    let fresh : get_or before.of.items (head_of arcs number) 0 ≡ 0 = omega arith in
    let of = c.in_ok-reach.ensures.of ∙ ap (λ (x : ℕ). set before.of.items x (level + 1)) to_is in
    let queue = c.in_ok-reach.ensures.queue ∙ ap (λ (x : ℕ). before.queue.items ++ x ∷ []) to_is in
    round_on network before c.reach.new.self c.args.round number c.requires.network c.requires.round inside c.requires.level (omega arith) fresh of queue
