use Rattle.std.proofs.Common.{◌≡◌, ◌≢◌, ◌++◌, ◌∷◌, [], ◌+◌, ◌<◌, List, ℕ, length, get_or, set, sym, refl, ap, ◌∙◌, subst, arith}
use Rattle.std.proofs.lemmas.List.{get_or_read, length-set}
use Rattle.level_graphs.specs.declared.network.Arc.{Arc}
use Rattle.level_graphs.specs.Arcs.{AreListed, tail_of, head_of}
use Rattle.level_graphs.proofs.Lists.{joined, joined_apart, joined_bounded}
use Rattle.level_graphs.proofs.Pushed.{AreBounded}
use Rattle.level_graphs.proofs.network.Network.join.Goals as goal

pub returns-clause-network : goal.returns-clause-network
returns-clause-network c =
    let network = c.args.self.now in
    let arcs = network.arcs.items in
    let last = network.last.items in
    let from = c.args.from in
    let to = c.args.to in
    let n = length arcs in
    let number = c.len-number.result in
    let counted = c.len-number.ensures in
    let is_n : number ≡ n = omega (arith, network.arcs.ok.0) in
    let from_in : from < length last = omega (arith, c.requires.from, network.last.ok.0) in
    let to_in : to < length last = omega (arith, c.requires.to, network.last.ok.0) in
    let x : Arc = record { to = to; room = c.args.room; next = c.index-next.result.now } in
    let y : Arc = record { to = from; room = 0; next = c.index-next-2.result.now } in
    let x_next = get_or_read last from c.index-next.result.now from_in c.index-next.ensures 0 in
    let count : length (set last from (number + 1)) ≡ length last = length-set last from (number + 1) in
    let y_read = get_or_read (set last from (number + 1)) to c.index-next-2.result.now (omega arith) c.index-next-2.ensures 0 in
    let y_next = y_read ∙ ap (λ k. get_or (set last from (k + 1)) to 0) is_n in
    let made = joined arcs last from to x y c.requires.network.listed from_in to_in refl refl x_next y_next in
    let items = c.in_ok-push-2.ensures.items ∙ ap (λ (xs : List Arc). xs ++ y ∷ []) c.in_ok-push.ensures.items in
    let P : ℕ → Type 0 = λ k. AreListed ((arcs ++ x ∷ []) ++ y ∷ []) (set (set last from (k + 1)) to (k + 2)) in
    let Q : List Arc → Type 0 = λ xs. AreListed xs (set (set last from (number + 1)) to (number + 2)) in
    let R : List Arc → Type 0 = λ xs. (a : ℕ) → a < length xs → tail_of xs a ≡ network.source → head_of xs a ≢ network.sink in
    let size : length (set (set last from (number + 1)) to (number + 2)) ≡ length last = length-set (set last from (number + 1)) to (number + 2) ∙ count in
    record {
      listed = subst Q (sym items) (subst P (sym is_n) made);
      bounded = subst AreBounded (sym items) (joined_bounded arcs from to c.args.room x y c.requires.network.listed.paired refl refl refl refl (omega arith) c.requires.network.bounded);
      source = subst (λ m. network.source < m) (sym size) c.requires.network.source;
      sink = subst (λ m. network.sink < m) (sym size) c.requires.network.sink;
      ends = c.requires.network.ends;
      apart = subst R (sym items) (joined_apart arcs network.source network.sink from to x y c.requires.network.listed.paired refl refl c.requires.network.apart c.requires.apart c.requires.back);
    }
