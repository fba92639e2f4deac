-- Where a level graph ends, its levels are the fewest arcs.
use Rattle.std.proofs.Common.{◌≡◌, ◌≢◌, ℕ, zero, suc, ◌+◌, ◌<◌, ◌≤◌, List, length, get_or, ap, ⊎_elim, arith}
use Rattle.std.proofs.lemmas.Bool.{cases_lt}
use Rattle.level_graphs.specs.declared.network.Arc.{Arc}
use Rattle.level_graphs.specs.Arcs.{Leads, Reaches}
use Rattle.level_graphs.specs.Levels.{IsLevelGraph}
use Rattle.level_graphs.specs.inner.Rounds.{IsFrontier}

-- arcs lead on from nodes with a level below this to nodes with a level that is at most one more
abbrev IsClosed : List Arc → List ℕ → ℕ → Type 0
IsClosed arcs of bound =
    (u v : ℕ) → 1 ≤ get_or of u 0 → get_or of u 0 < bound → Leads arcs u v → (1 ≤ get_or of v 0) × (get_or of v 0 ≤ get_or of u 0 + 1)

-- so a node that few arcs lead to has a level
near : (arcs : List Arc) (source : ℕ) (of : List ℕ) (bound : ℕ) → get_or of source 0 ≡ 1 → IsClosed arcs of bound → (j v : ℕ) → j < bound → Reaches arcs source j v → (1 ≤ get_or of v 0) × (get_or of v 0 ≤ j + 1)
near arcs source of bound first closed zero v h r =
    let is : get_or of v 0 ≡ get_or of source 0 = ap (λ x. get_or of x 0) r in
    (omega arith, omega arith)
near arcs source of bound first closed (suc j) v h r =
    let before = near arcs source of bound first closed j r.0 (omega arith) r.1 in
    let some = before.0 in
    let most = before.1 in
    let step = closed r.0 v some (omega arith) r.2 in
    let reached = step.0 in
    let next = step.1 in
    (omega arith, omega arith)

-- nothing has a level beyond that of the last round
within : (arcs : List Arc) (source : ℕ) (of queue : List ℕ) (level start end : ℕ) → IsFrontier arcs source of queue level start end → end ≡ length queue → (v : ℕ) → get_or of v 0 ≤ level
within arcs source of queue level start end on last v =
    ⊎_elim
    (λ lt. omega arith)
    (λ ge.
    let most = on.most v in
    let stands = on.all_next v (omega arith) in
    let from = stands.from in
    let below = stands.below in
    absurd (omega arith))
    (cases_lt (get_or of v 0) (level + 1))

pub ends_at_sink : (arcs : List Arc) (source sink : ℕ) (of queue : List ℕ) (level start end : ℕ) → IsFrontier arcs source of queue level start end → end ≡ length queue → get_or of sink 0 ≢ 0 → IsLevelGraph arcs source sink of
ends_at_sink arcs source sink of queue level start end on last reached = record {
  nearest = λ v k e. record {
    reached = on.traced v k e;
    least = λ j r.
        ⊎_elim
        (λ lt.
        let most = within arcs source of queue level start end on last v in
        let close = near arcs source of level on.first on.closed j v (omega arith) r in
        let few = close.1 in
        absurd (omega arith))
        (λ ge. ge) (cases_lt j k);
  };
  beyond = λ v k none r.
      ⊎_elim (λ lt. let close = near arcs source of level on.first on.closed k v lt r in let some = close.0 in absurd (omega arith))
      (λ ge. let most = within arcs source of queue level start end on last sink in (omega arith, omega arith)) (cases_lt k level);
}

pub ends_empty : (arcs : List Arc) (source sink : ℕ) (of queue : List ℕ) (level start end : ℕ) → IsFrontier arcs source of queue level start end → end ≡ length queue → end ≤ start → IsLevelGraph arcs source sink of
ends_empty arcs source sink of queue level start end on last empty =
    let below : (v : ℕ) → get_or of v 0 < level = λ v.
    ⊎_elim (λ lt. lt)
    (λ ge.
    let most = within arcs source of queue level start end on last v in
    let stands = on.all_here v (omega arith) in
    let from = stands.from in
    let before = stands.below in
    absurd (omega arith))
    (cases_lt (get_or of v 0) level) in
    let closed : (bound : ℕ) → IsClosed arcs of bound = λ bound u v some most l. on.closed u v some (below u) l in
    record {
      nearest = λ v k e. record {
        reached = on.traced v k e;
        least = λ j r.
            ⊎_elim (λ lt. let close = near arcs source of (j + 1) on.first (closed (j + 1)) j v (omega arith) r in let few = close.1 in absurd (omega arith))
            (λ ge. ge) (cases_lt j k);
      };
      beyond = λ v k none r. let close = near arcs source of (k + 1) on.first (closed (k + 1)) k v (omega arith) r in let some = close.0 in absurd (omega arith);
    }
