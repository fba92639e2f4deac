-- How a level graph grows: by a node, by a level.
use Rattle.std.proofs.Common.{◌≡◌, ◌≢◌, ◌⊎◌, ℕ, zero, suc, ◌+◌, ◌-◌, ◌<◌, ◌≤◌, List, [], ◌∷◌, ◌++◌, length, get_or, set, replicate, sym, refl, ap, ◌∙◌, subst, inl, inr, ⊎_elim, arith}
use Rattle.std.specs.List.{sum_by}
use Rattle.std.proofs.lemmas.Bool.{cases_eq, cases_lt, eq-eqb, ne_eqb, cond-true, cond-false}
use Rattle.std.proofs.Common.{eqb}
use Rattle.std.proofs.lemmas.List.{get_or-set_same, get_or-set_other, length-set, length-replicate, get_or-replicate, get_or_past, get_or_append_left, get_or_push, length_push}
use Rattle.std.proofs.lemmas.List.Sums.{sum_by-set}
use Rattle.std.proofs.lemmas.List.Folds.{sum_by-replicate}
use Rattle.level_graphs.specs.declared.network.Arc.{Arc}
use Rattle.std.proofs.Math.Nat.{mul-one}
use Rattle.level_graphs.specs.declared.network.Network.{Network}
use Rattle.level_graphs.specs.declared.levels.Levels.{Levels}
use Rattle.level_graphs.specs.declared.levels.Round.{Round}
use Rattle.level_graphs.specs.Arcs.{tail_of, head_of, room_at, Leads, Reaches, IsNetwork}
use Rattle.level_graphs.specs.inner.Rounds.{unseen, StandsWithin, IsFrontier, IsRound, Extends, IsSeen}

-- what stands at a place of a list after a write at another or the same place
pub after_set : (of : List ℕ) (v l w : ℕ) → v < length of → ((w ≡ v) × (get_or (set of v l) w 0 ≡ l)) ⊎ ((w ≢ v) × (get_or (set of v l) w 0 ≡ get_or of w 0))
after_set of v l w h =
    ⊎_elim (λ e. inl (e, ap (λ x. get_or (set of v l) x 0) e ∙ get_or-set_same of v l 0 h)) (λ ne. inr (ne, get_or-set_other of v w l 0 ne)) (cases_eq w v)

pub unseen_none : (x : ℕ) → x ≡ 0 → unseen x ≡ 1
unseen_none x e = cond-true (eqb x 0) 1 0 (eq-eqb x 0 e)

pub unseen_some : (x : ℕ) → x ≢ 0 → unseen x ≡ 0
unseen_some x ne = cond-false (eqb x 0) 1 0 (ne_eqb x 0 ne)

-- a node that stands in a queue stands there when another one comes
stands_more : (queue : List ℕ) (low high v w : ℕ) → high ≤ length queue → StandsWithin queue low high w → StandsWithin (queue ++ v ∷ []) low high w
stands_more queue low high v w le s = record {
  place = s.place;
  from = s.from;
  below = s.below;
  is = (let below = s.below in get_or_append_left queue (v ∷ []) 0 s.place (omega arith)) ∙ s.is;
}

pub reach_on : (arcs : List Arc) (source : ℕ) (of queue : List ℕ) (level start end u v : ℕ) → IsFrontier arcs source of queue level start end → get_or of u 0 ≡ level → Leads arcs u v → v < length of → get_or of v 0 ≡ 0 → IsFrontier arcs source (set of v (level + 1)) (queue ++ v ∷ []) level start end
reach_on arcs source of queue level start end u v old at_u leads inside fresh =
    let new = set of v (level + 1) in
    let more = queue ++ v ∷ [] in
    let some = old.some in
    let ordered = old.ordered in
    let filled = old.filled in
    let count : length more ≡ length queue + 1 = length_push queue v in
    let at = λ (w : ℕ). after_set of v (level + 1) w inside in
    let seen = λ (w : ℕ) (is : get_or of w 0 ≢ 0). get_or-set_other of v w (level + 1) 0 (λ e. is (ap (λ x. get_or of x 0) e ∙ fresh)) in
    record {
      first = (let first = old.first in seen source (λ e. absurd (omega arith)) ∙ old.first);
      some = old.some;
      most = λ w. ⊎_elim (λ s. let is = s.1 in omega arith) (λ s. let is = s.1 in let most = old.most w in omega arith) (at w);
      traced = λ w k e.
          ⊎_elim
          (λ s.
          let is = s.1 in
          let before = old.traced u (level - 1) (omega arith) in
          let last : Reaches arcs source (suc (level - 1)) v = (u, before, leads) in
          let same : suc (level - 1) ≡ k = omega arith in
          let there = subst (λ n. Reaches arcs source n v) same last in
          subst (λ x. Reaches arcs source k x) (sym s.0) there)
          (λ s. old.traced w k (sym s.1 ∙ e)) (at w);
      closed = λ a b most below l.
          ⊎_elim (λ s. let is = s.1 in absurd (omega arith))
          (λ s.
          let is = s.1 in
          let step = old.closed a b (omega arith) (omega arith) l in
          let reached = step.0 in
          let near = step.1 in
          let same = seen b (λ e. absurd (omega arith)) in
          (omega arith, omega arith))
          (at a);
      ordered = old.ordered;
      filled = omega arith;
      here = λ p from below.
          let is = old.here p from below in
          let same = get_or_append_left queue (v ∷ []) 0 p (omega arith) in
          ap (λ x. get_or new x 0) same ∙ seen (get_or queue p 0) (λ e. absurd (omega arith)) ∙ is;
      next = λ p from below.
          ⊎_elim
          (λ lt.
          let is = old.next p from lt in
          let same = get_or_append_left queue (v ∷ []) 0 p lt in
          ap (λ x. get_or new x 0) same ∙ seen (get_or queue p 0) (λ e. absurd (omega arith)) ∙ is)
          (λ ge.
          let last = get_or_push queue v 0 p (omega arith) in
          ap (λ x. get_or new x 0) last ∙ get_or-set_same of v (level + 1) 0 inside)
          (cases_lt p (length queue));
      all_here = λ w e.
          ⊎_elim (λ s. let is = s.1 in absurd (omega arith))
          (λ s. stands_more queue start end v w old.filled (old.all_here w (sym s.1 ∙ e))) (at w);
      all_next = λ w e.
          ⊎_elim
          (λ s. record {
            place = length queue;
            from = old.filled;
            below = omega arith;
            is = get_or_push queue v 0 (length queue) refl ∙ sym s.0;
          })
          (λ s.
          let stands = stands_more queue end (length queue) v w (omega arith) (old.all_next w (sym s.1 ∙ e)) in
          let below = stands.below in
          record { place = stands.place; from = stands.from; below = omega arith; is = stands.is })
          (at w);
      counted = (let counted = old.counted in
          let change = sum_by-set unseen of v (level + 1) 0 inside in
          let none = unseen_none (get_or of v 0) fresh in
          let gone = unseen_some (level + 1) (λ e. absurd (omega arith)) in
          let size = length-set of v (level + 1) in
          omega arith);
      early = old.early;
    }

pub next_round : (arcs : List Arc) (source : ℕ) (of queue : List ℕ) (level start end : ℕ) → IsFrontier arcs source of queue level start end → start < end → ((p : ℕ) → start ≤ p → p < end → (v : ℕ) → Leads arcs (get_or queue p 0) v → 1 ≤ get_or of v 0) → IsFrontier arcs source of queue (level + 1) end (length queue)
next_round arcs source of queue level start end old some done = record {
  first = old.first;
  some = omega arith;
  most = λ v. let most = old.most v in omega arith;
  traced = old.traced;
  closed = λ u v seen below l.
      ⊎_elim (λ lt. old.closed u v seen lt l)
      (λ ge.
      let stands = old.all_here u (omega arith) in
      let reached = done stands.place stands.from stands.below v (subst (λ x. Leads arcs x v) (sym stands.is) l) in
      let most = old.most v in
      (reached, omega arith))
      (cases_lt (get_or of u 0) level);
  ordered = old.filled;
  filled = omega arith;
  here = old.next;
  next = λ p from below. absurd (omega arith);
  all_here = old.all_next;
  all_next = λ v e. let most = old.most v in absurd (omega arith);
  counted = old.counted;
  early = (let early = old.early in omega arith);
}

-- a source alone has a level
from_source : (arcs : List Arc) (source : ℕ) (of : List ℕ) → source < length of → ((w : ℕ) → get_or of w 0 ≡ 0) → sum_by unseen of ≡ length of → IsFrontier arcs source (set of source 1) (source ∷ []) 1 0 1
from_source arcs source of inside zero_at all =
    let new = set of source 1 in
    let at = λ (w : ℕ). after_set of source 1 w inside in
    let first : get_or new source 0 ≡ 1 = get_or-set_same of source 1 0 inside in
    let most : (w : ℕ) → get_or new w 0 ≤ 1 = λ w. ⊎_elim (λ s. let is = s.1 in omega arith) (λ s. let is = s.1 in let none = zero_at w in omega arith) (at w) in
    record {
      first = first;
      some = omega arith;
      most = λ w. let m = most w in omega arith;
      traced = λ w k e.
          ⊎_elim
          (λ s.
          let is = s.1 in
          let none : zero ≡ k = omega arith in
          let here : Reaches arcs source zero w = s.0 in
          subst (λ j. Reaches arcs source j w) none here)
          (λ s. let is = s.1 in let none = zero_at w in absurd (omega arith)) (at w);
      closed = λ u v seen below l. absurd (omega arith);
      ordered = omega arith;
      filled = omega arith;
      here = λ p from below.
          let only : p ≡ 0 = omega arith in
          ap (λ q. get_or new (get_or (source ∷ []) q 0) 0) only ∙ first;
      next = λ p from below. absurd (omega arith);
      all_here = λ w e.
          ⊎_elim (λ s. record { place = 0; from = omega arith; below = omega arith; is = sym s.0 })
          (λ s. let is = s.1 in let none = zero_at w in absurd (omega arith)) (at w);
      all_next = λ w e. let m = most w in absurd (omega arith);
      counted = (let change = sum_by-set unseen of source 1 0 inside in
          let none = unseen_none (get_or of source 0) (zero_at source) in
          let gone = unseen_some 1 (λ e. absurd (omega arith)) in
          let same = length-set of source 1 in
          omega arith);
      early = omega arith;
    }

first_round : (arcs : List Arc) (source n : ℕ) → source < n → IsFrontier arcs source (set (replicate n 0) source 1) (source ∷ []) 1 0 1
first_round arcs source n inside =
    let of : List ℕ = replicate n 0 in
    let size = length-replicate n (let zeros : ℕ = 0 in zeros) in
    let all = sum_by-replicate unseen n 0 in
    from_source arcs source of (subst (λ m. source < m) (sym size) inside)
    (λ w. ⊎_elim (λ lt. get_or-replicate n w 0 0 lt) (λ ge. get_or_past of w 0 (subst (λ m. m ≤ w) (sym size) ge)) (cases_lt w n))
    (all ∙ mul-one n ∙ sym size)

pub round_first : (network : Network) (levels : Levels) (n : ℕ) → levels.of.items ≡ set (replicate n 0) network.source 1 → levels.queue.items ≡ network.source ∷ [] → length network.last.items ≡ n → network.source < n → IsRound network levels (record { level = 1; start = 0; end = 1 })
round_first network levels n of queue nodes inside =
    let F : List ℕ → Type 0 = λ xs. IsFrontier network.arcs.items network.source xs levels.queue.items 1 0 1 in
    let G : List ℕ → Type 0 = λ q. IsFrontier network.arcs.items network.source (set (replicate n 0) network.source 1) q 1 0 1 in
    record {
      nodes = ap length of ∙ length-set (replicate n 0) network.source 1 ∙ length-replicate n 0 ∙ sym nodes;
      frontier = subst F (sym of) (subst G (sym queue) (first_round network.arcs.items network.source n inside));
    }

-- a node that was reached along an open arc
pub round_on : (network : Network) (before after : Levels) (round : Round) (number : ℕ) → IsNetwork network → IsRound network before round → number < length network.arcs.items → get_or before.of.items (tail_of network.arcs.items number) 0 ≡ round.level → 0 < room_at network.arcs.items number → get_or before.of.items (head_of network.arcs.items number) 0 ≡ 0 → after.of.items ≡ set before.of.items (head_of network.arcs.items number) (round.level + 1) → after.queue.items ≡ before.queue.items ++ head_of network.arcs.items number ∷ [] → IsRound network after round
round_on network before after round number good on inside at room fresh of queue =
    let arcs = network.arcs.items in
    let head = head_of arcs number in
    let F : List ℕ → Type 0 = λ xs. IsFrontier arcs network.source xs after.queue.items round.level round.start round.end in
    let G : List ℕ → Type 0 = λ q. IsFrontier arcs network.source (set before.of.items head (round.level + 1)) q round.level round.start round.end in
    let leads : Leads arcs (tail_of arcs number) head = record { arc = number; inside = inside; tail = refl; head = refl; some = room } in
    let node = good.listed.heads number inside in
    let nodes = on.nodes in
    record {
      nodes = ap length of ∙ length-set before.of.items head (round.level + 1) ∙ on.nodes;
      frontier = subst F (sym of) (subst G (sym queue) (reach_on arcs network.source before.of.items before.queue.items round.level round.start round.end (tail_of arcs number) head on.frontier at leads (omega arith) fresh));
    }

-- what has a level is a node
pub inside_of : (of : List ℕ) (v : ℕ) → 1 ≤ get_or of v 0 → v < length of
inside_of of v some = ⊎_elim (λ lt. lt) (λ ge. let none = get_or_past of v 0 ge in absurd (omega arith)) (cases_lt v (length of))

pub extends_on : (a b c : Levels) → Extends a b → Extends b c → Extends a c
extends_on a b c one two = record {
  count = (let first = one.count in let second = two.count in omega arith);
  levels = λ v some.
      let same = one.levels v some in
      two.levels v (λ e. some (sym same ∙ e)) ∙ same;
  places = λ p below. two.places p (let first = one.count in omega arith) ∙ one.places p below;
}

pub seen_more : (network : Network) (before after : Levels) (node : ℕ) → Extends before after → IsSeen network before node → IsSeen network after node
seen_more network before after node more seen v leads =
    let some = seen v leads in
    let same = more.levels v (λ e. absurd (omega arith)) in
    omega arith

pub all_seen_more : (network : Network) (before after : Levels) (start place node : ℕ) → Extends before after → place < length before.queue.items → ((p : ℕ) → start ≤ p → p < place → IsSeen network before (get_or before.queue.items p 0)) → node ≡ get_or before.queue.items place 0 → IsSeen network after node → (p : ℕ) → start ≤ p → p < place + 1 → IsSeen network after (get_or after.queue.items p 0)
all_seen_more network before after start place node more inside seen is here p from below =
    let S : ℕ → Type 0 = IsSeen network after in
    let same = more.places p (omega arith) in
    ⊎_elim (λ lt. subst S (sym same) (seen_more network before after (get_or before.queue.items p 0) more (seen p from lt)))
    (λ ge. let at : p ≡ place = omega arith in subst S (is ∙ ap (λ q. get_or before.queue.items q 0) (sym at) ∙ sym same) here)
    (cases_lt p place)

-- the round behind one whose nodes were all looked from
pub round_next : (network : Network) (levels : Levels) (round : Round) (level start end : ℕ) → IsRound network levels round → round.start < round.end → ((p : ℕ) → round.start ≤ p → p < round.end → IsSeen network levels (get_or levels.queue.items p 0)) → level ≡ round.level + 1 → start ≡ round.end → end ≡ length levels.queue.items → IsRound network levels (record { level = level; start = start; end = end })
round_next network levels round level start end on some done is_level is_start is_end =
    let next = next_round network.arcs.items network.source levels.of.items levels.queue.items round.level round.start round.end on.frontier some done in
    let A : ℕ → Type 0 = λ k. IsFrontier network.arcs.items network.source levels.of.items levels.queue.items k round.end (length levels.queue.items) in
    let B : ℕ → Type 0 = λ k. IsFrontier network.arcs.items network.source levels.of.items levels.queue.items level k (length levels.queue.items) in
    let C : ℕ → Type 0 = λ k. IsFrontier network.arcs.items network.source levels.of.items levels.queue.items level start k in
    record {
      nodes = on.nodes;
      frontier = subst C (sym is_end) (subst B (sym is_start) (subst A (sym is_level) next));
    }
