use Rattle.std.proofs.Common.{◌++◌, ◌∷◌, [], List, ℕ, length, set, ap, ◌∙◌, vec_len, arith}
use Rattle.level_graphs.proofs.Rounds.{round_first}
use Rattle.level_graphs.proofs.levels.Levels.first_round.Goals as goal

pub returns-clause-round : goal.returns-clause-round
returns-clause-round c =
    let network = c.args.network.now in
    let source = network.source in
    let levels = c.reach.new.self in
    let of = c.in_ok-reach.ensures.of ∙ ap (λ (xs : List ℕ). set xs source 1) c.clear.ensures.of in
    let queue = c.in_ok-reach.ensures.queue ∙ ap (λ (xs : List ℕ). xs ++ source ∷ []) c.clear.ensures.queue in
    let inside = c.requires.network.source in
    let one = ap length queue in
    (round_first network levels (vec_len c.args.self.now.of) of queue (omega (arith, network.last.ok.0, c.requires.nodes)) (omega (arith, network.last.ok.0, c.requires.nodes)), omega (arith, levels.queue.ok.0))
