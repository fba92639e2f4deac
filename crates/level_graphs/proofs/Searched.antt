-- A search for ways: how it begins, goes on, goes back, and what it comes to.
use Rattle.std.proofs.Common.{◌≡◌, ◌≢◌, ℕ, zero, suc, ◌+◌, ◌-◌, ◌*◌, ◌%◌, ◌<◌, ◌≤◌, List, length, sum, get_or, set, sym, refl, ap, ◌∙◌, subst, ⊎_elim, arith}
use Rattle.std.proofs.lemmas.Bool.{cases_eq, cases_lt}
use Rattle.std.proofs.lemmas.List.{get_or-set_same, get_or-set_other, length-set, get_or_past}
use Rattle.std.proofs.lemmas.List.Sums.{sum_by-set}
use Rattle.std.proofs.Math.Nat.{mul-le-mul_right}
use Rattle.level_graphs.specs.declared.network.Arc.{Arc}
use Rattle.level_graphs.specs.declared.network.Network.{Network}
use Rattle.level_graphs.specs.declared.blocking.Blocking.{Blocking}
use Rattle.level_graphs.specs.Arcs.{arc_at, reverse_of, tail_of, head_of, IsLastBelow, IsNetwork}
use Rattle.level_graphs.specs.Levels.{IsLevelGraph}
use Rattle.level_graphs.specs.Blocked.{IsNext, Rises, IsBlocked}
use Rattle.level_graphs.specs.inner.Search.{AreUseful, IsDead, IsSpent, ArePassed, IsArcFrom, IsOnPath, IsPath, IsSearch, IsWayBack, left_of}
use Rattle.level_graphs.proofs.Rounds.{after_set, inside_of}
use Rattle.level_graphs.proofs.Pushed.{reverse_in}
use Rattle.level_graphs.proofs.Farther.{first_level}

-- the reverse of an arc's reverse is the arc
pub twice : (a : ℕ) → reverse_of (reverse_of a) ≡ a
twice a = omega arith

pub tail_back : (arcs : List Arc) (a : ℕ) → tail_of arcs (reverse_of a) ≡ head_of arcs a
tail_back arcs a = ap (head_of arcs) (twice a)

-- what is said of the arcs before a node's current one, where one more of them is no way back
pub way_next : (arcs : List Arc) (levels current : List ℕ) (source node before number next : ℕ) → 0 < number → IsLastBelow arcs node (number - 1) next → (IsWayBack arcs levels before (number - 1) → ⊥) → before + 1 ≡ get_or levels node 0 → ArePassed arcs levels current source node number → ArePassed arcs levels current source node next
way_next arcs levels current source node before number next some is shut level old b h tail low room up =
    let lift = up.up in
    ⊎_elim
    (λ (lt : b < number).
    ⊎_elim
    (λ (e : b ≡ number - 1).
    let from = ap (λ x. get_or levels x 0) (tail_back arcs b) in
    let to = ap (λ x. get_or levels x 0) tail in
    let W : ℕ → Type 0 = IsWayBack arcs levels before in
    let way : W b = record { room = room; up = omega arith } in
    absurd (shut (subst W e way)))
    (λ (ne : b ≢ number - 1). absurd (is.none b low (omega arith) tail))
    (cases_eq b (number - 1)))
    (λ (ge : number ≤ b). old b h tail ge room up)
    (cases_lt b number)

-- what a level graph tells a search
pub useful : (arcs : List Arc) (levels : List ℕ) (source sink count : ℕ) → IsLevelGraph arcs source sink levels → get_or levels sink 0 ≤ count → AreUseful levels source sink count
useful arcs levels source sink count graph few = record {
  first = first_level arcs levels source sink graph;
  only = λ v e. let near = graph.nearest v zero e in near.reached;
  few = few;
}

-- a search begins at the sink, with the last arc of each node
pub search_begins : (network : Network) (levels : List ℕ) (blocking : Blocking) → IsNetwork network → length levels ≡ length network.last.items → IsLevelGraph network.arcs.items network.source network.sink levels → 0 < get_or levels network.sink 0 → get_or levels network.sink 0 ≤ length levels → blocking.current.items ≡ network.last.items → length blocking.path.items ≡ length network.last.items → IsSearch network levels blocking network.sink
search_begins network levels blocking good nodes graph reached few is places =
    let arcs = network.arcs.items in
    let last = network.last.items in
    let A : List ℕ → Type 0 = λ xs. (v : ℕ) → IsArcFrom arcs v (get_or xs v 0) in
    let P : List ℕ → Type 0 = λ xs. (v : ℕ) → ArePassed arcs levels xs network.source v (get_or xs v 0) in
    let pointing : A last = λ v.
    ⊎_elim
    (λ (lt : v < length last). let l = good.listed.lasts v lt in record { within = l.within; leaves = l.leaves })
    (λ (ge : length last ≤ v).
    let none = get_or_past last v 0 ge in
    record { within = omega arith; leaves = λ some. absurd (omega arith) })
    (cases_lt v (length last)) in
    let passed : P last = λ v b h tail from room up.
    let back = good.listed.heads (reverse_of b) (reverse_in arcs b good.listed.paired h) in
    let l = good.listed.lasts v (subst (λ u. u < length last) tail back) in
    absurd (l.none b from h tail) in
    record {
      nodes = nodes;
      current = ap length is;
      places = places;
      useful = useful arcs levels network.source network.sink (length last) graph (omega arith);
      pointing = subst A (sym is) pointing;
      passed = subst P (sym is) passed;
      path = record {
        some = omega arith;
        ordered = omega arith;
        each = λ j from below. absurd (omega arith);
        begins = λ below. absurd (omega arith);
        linked = λ j from below. absurd (omega arith);
        ends = λ j from end. absurd (omega arith);
        none = λ e. refl;
      };
    }

-- a current arc that moves on leaves what is dead so
lower : (current : List ℕ) (node next : ℕ) → node < length current → next ≤ get_or current node 0 → (v : ℕ) → get_or (set current node next) v 0 ≤ get_or current v 0
lower current node next inside less v =
    ⊎_elim
    (λ s. let is = s.1 in let same = ap (λ x. get_or current x 0) s.0 in omega arith)
    (λ s. let is = s.1 in omega arith)
    (after_set current node next v inside)

passed_on : (arcs : List Arc) (levels current : List ℕ) (source node next : ℕ) → node < length current → next ≤ get_or current node 0 → ((v : ℕ) → ArePassed arcs levels current source v (get_or current v 0)) → ArePassed arcs levels current source node next → (v : ℕ) → ArePassed arcs levels (set current node next) source v (get_or (set current node next) v 0)
passed_on arcs levels current source node next inside less old here v b h tail from room up =
    let new = set current node next in
    let low = lower current node next inside less (tail_of arcs (reverse_of b)) in
    let stays : IsDead current source (tail_of arcs (reverse_of b)) → IsDead new source (tail_of arcs (reverse_of b)) = λ d. let none = d.none in record { none = omega arith; other = d.other } in
    stays
    (⊎_elim
    (λ s. let is = s.1 in here b h (tail ∙ s.0) (omega arith) room up)
    (λ s. let is = s.1 in old v b h tail (omega arith) room up)
    (after_set current node next v inside))

pointing_on : (arcs : List Arc) (current : List ℕ) (node next : ℕ) → node < length current → ((v : ℕ) → IsArcFrom arcs v (get_or current v 0)) → IsArcFrom arcs node next → (v : ℕ) → IsArcFrom arcs v (get_or (set current node next) v 0)
pointing_on arcs current node next inside old here v =
    let new = set current node next in
    ⊎_elim
    (λ s.
    let is = s.1 in
    let at : IsArcFrom arcs v next = subst (λ u. IsArcFrom arcs u next) (sym s.0) here in
    subst (λ k. IsArcFrom arcs v k) (sym is) at)
    (λ s. let is = s.1 in subst (λ k. IsArcFrom arcs v k) (sym is) (old v))
    (after_set current node next v inside)

-- a path stays one where the current arc of a node below it moves on
path_keeps : (arcs : List Arc) (levels current path : List ℕ) (sink node low top v next : ℕ) → IsPath arcs levels current path sink node low top → get_or levels v 0 ≤ low → IsPath arcs levels (set current v next) path sink node low top
path_keeps arcs levels current path sink node low top v next p below = record {
  some = p.some;
  ordered = p.ordered;
  each = λ j from before.
      let on = p.each j from before in
      let to = on.to in
      let same = get_or-set_other current v (head_of arcs (get_or path j 0)) next 0 (λ e. let at = ap (λ x. get_or levels x 0) e in absurd (omega arith)) in
      record { inside = on.inside; from = on.from; to = on.to; pointed = same ∙ on.pointed };
  begins = p.begins;
  linked = p.linked;
  ends = p.ends;
  none = p.none;
}

-- the part of a path behind one of its arcs
path_behind : (arcs : List Arc) (levels current path : List ℕ) (sink node low top place : ℕ) → IsPath arcs levels current path sink node low top → low ≤ place → place < top → IsPath arcs levels current path sink (head_of arcs (get_or path place 0)) (place + 1) top
path_behind arcs levels current path sink node low top place p from before = record {
  some = omega arith;
  ordered = omega arith;
  each = λ j h lt. p.each j (omega arith) lt;
  begins = λ lt. sym (p.linked place from lt);
  linked = λ j h lt. p.linked j (omega arith) lt;
  ends = λ j h e. p.ends j (omega arith) e;
  none = λ e. p.ends place from e;
}

-- a path with one more arc before it
path_on : (arcs : List Arc) (levels current path : List ℕ) (sink node low top next : ℕ) → length arcs % 2 ≡ 0 → IsPath arcs levels current path sink node low top → get_or levels node 0 ≡ low → node < length current → top ≤ length path → 2 ≤ low → 0 < next → IsArcFrom arcs node next → get_or levels (head_of arcs (next - 1)) 0 + 1 ≡ low → IsPath arcs levels (set current node next) (set path (low - 1) (reverse_of (next - 1))) sink (head_of arcs (next - 1)) (low - 1) top
path_on arcs levels current path sink node low top next even old at inside places more some arc up =
    let b = next - 1 in
    let a = reverse_of b in
    let new = set current node next in
    let way = set path (low - 1) a in
    let ordered = old.ordered in
    let within = arc.within in
    let p = path_keeps arcs levels current path sink node low top node next old (omega arith) in
    let here : get_or way (low - 1) 0 ≡ a = get_or-set_same path (low - 1) a 0 (omega arith) in
    let there : (j : ℕ) → low ≤ j → get_or way j 0 ≡ get_or path j 0 = λ j h. get_or-set_other path (low - 1) j a 0 (λ e. absurd (omega arith)) in
    let tail : tail_of arcs a ≡ head_of arcs b = tail_back arcs b in
    let head : head_of arcs a ≡ node = arc.leaves some in
    let tail_level = ap (λ x. get_or levels x 0) tail in
    let head_level = ap (λ x. get_or levels x 0) head in
    let pointed = ap (λ x. get_or new x 0) head ∙ get_or-set_same current node next 0 inside in
    let back = twice b in
    let first : IsOnPath arcs levels new (low - 1) a = record {
      inside = reverse_in arcs b even (omega arith);
      from = omega arith;
      to = omega arith;
      pointed = omega arith;
    } in
    let O : ℕ → ℕ → Type 0 = λ j x. IsOnPath arcs levels new j x in
    record {
      some = omega arith;
      ordered = omega arith;
      each = λ j h lt.
          ⊎_elim
          (λ (e : j ≡ low - 1).
          let is : get_or way j 0 ≡ a = ap (λ x. get_or way x 0) e ∙ here in
          subst (λ x. O j x) (sym is) (subst (λ k. O k a) (sym e) first))
          (λ (ne : j ≢ low - 1). subst (λ x. O j x) (sym (there j (omega arith))) (p.each j (omega arith) lt))
          (cases_eq j (low - 1));
      begins = λ lt. ap (tail_of arcs) here ∙ tail;
      linked = λ j h lt.
          ⊎_elim
          (λ (e : j ≡ low - 1).
          let is : get_or way j 0 ≡ a = ap (λ x. get_or way x 0) e ∙ here in
          let behind : j + 1 ≡ low = omega arith in
          let then : get_or way (j + 1) 0 ≡ get_or path low 0 = ap (λ x. get_or way x 0) behind ∙ there low (omega arith) in
          ap (head_of arcs) is ∙ head ∙ sym (p.begins (omega arith)) ∙ ap (tail_of arcs) (sym then))
          (λ (ne : j ≢ low - 1).
          ap (head_of arcs) (there j (omega arith)) ∙ p.linked j (omega arith) lt ∙ ap (tail_of arcs) (sym (there (j + 1) (omega arith))))
          (cases_eq j (low - 1));
      ends = λ j h e.
          ⊎_elim
          (λ (f : j ≡ low - 1).
          let is : get_or way j 0 ≡ a = ap (λ x. get_or way x 0) f ∙ here in
          ap (head_of arcs) is ∙ head ∙ p.none (omega arith))
          (λ (ne : j ≢ low - 1). ap (head_of arcs) (there j (omega arith)) ∙ p.ends j (omega arith) e)
          (cases_eq j (low - 1));
      none = λ e. absurd (omega arith);
    }

-- a node with a level is a place of each list
pub inside_all : (network : Network) (levels : List ℕ) (blocking : Blocking) (node : ℕ) → IsSearch network levels blocking node → node < length blocking.current.items
inside_all network levels blocking node s =
    let some = s.path.some in
    let inside = inside_of levels node some in
    let nodes = s.nodes in
    let current = s.current in
    omega arith

pub search_passes : (network : Network) (levels : List ℕ) (blocking after : Blocking) (node next : ℕ) → IsSearch network levels blocking node → IsArcFrom network.arcs.items node next → next ≤ get_or blocking.current.items node 0 → ArePassed network.arcs.items levels blocking.current.items network.source node next → after.current.items ≡ set blocking.current.items node next → after.path.items ≡ blocking.path.items → IsSearch network levels after node
search_passes network levels blocking after node next s from less passed current path =
    let arcs = network.arcs.items in
    let inside = inside_all network levels blocking node s in
    let new = set blocking.current.items node next in
    let A : List ℕ → Type 0 = λ xs. (v : ℕ) → IsArcFrom arcs v (get_or xs v 0) in
    let P : List ℕ → Type 0 = λ xs. (v : ℕ) → ArePassed arcs levels xs network.source v (get_or xs v 0) in
    let W : List ℕ → List ℕ → Type 0 = λ xs ys. IsPath arcs levels xs ys network.sink node (get_or levels node 0) (get_or levels network.sink 0) in
    let way = path_keeps arcs levels blocking.current.items blocking.path.items network.sink node (get_or levels node 0) (get_or levels network.sink 0) node next s.path (omega arith) in
    record {
      nodes = s.nodes;
      current = ap length current ∙ length-set blocking.current.items node next ∙ s.current;
      places = ap length path ∙ s.places;
      useful = s.useful;
      pointing = subst A (sym current) (pointing_on arcs blocking.current.items node next inside s.pointing from);
      passed = subst P (sym current) (passed_on arcs levels blocking.current.items network.source node next inside less s.passed passed);
      path = subst (λ xs. W xs after.path.items) (sym current) (subst (λ ys. W new ys) (sym path) way);
    }

pub search_on : (network : Network) (levels : List ℕ) (blocking after : Blocking) (node next before from_node : ℕ) → from_node ≡ head_of network.arcs.items (next - 1) → IsNetwork network → IsSearch network levels blocking node → node ≢ network.source → 0 < next → IsArcFrom network.arcs.items node next → next ≤ get_or blocking.current.items node 0 → ArePassed network.arcs.items levels blocking.current.items network.source node next → before + 1 ≡ get_or levels node 0 → get_or levels (head_of network.arcs.items (next - 1)) 0 ≡ before → after.current.items ≡ set blocking.current.items node next → after.path.items ≡ set blocking.path.items before (reverse_of (next - 1)) → IsSearch network levels after from_node
search_on network levels blocking after node next before from_node named good s other some from less passed level up current path =
    let arcs = network.arcs.items in
    let S : ℕ → Type 0 = IsSearch network levels after in
    let node' = head_of arcs (next - 1) in
    let inside = inside_all network levels blocking node s in
    let new = set blocking.current.items node next in
    let low = get_or levels node 0 in
    let top = get_or levels network.sink 0 in
    let first = s.path.some in
    let high : 2 ≤ low = ⊎_elim (λ (e : low ≡ 1). absurd (other (s.useful.only node e))) (λ ne. omega arith) (cases_eq low 1) in
    let few = s.useful.few in
    let places = s.places in
    let is : before ≡ low - 1 = omega arith in
    let A : List ℕ → Type 0 = λ xs. (v : ℕ) → IsArcFrom arcs v (get_or xs v 0) in
    let P : List ℕ → Type 0 = λ xs. (v : ℕ) → ArePassed arcs levels xs network.source v (get_or xs v 0) in
    let W : List ℕ → List ℕ → ℕ → Type 0 = λ xs ys k. IsPath arcs levels xs ys network.sink node' k top in
    let way = path_on arcs levels blocking.current.items blocking.path.items network.sink node low top next good.listed.paired s.path refl inside (omega arith) high some from (omega arith) in
    let path' : after.path.items ≡ set blocking.path.items (low - 1) (reverse_of (next - 1)) = path ∙ ap (λ k. set blocking.path.items k (reverse_of (next - 1))) is in
    let low' : low - 1 ≡ get_or levels node' 0 = omega arith in
    subst S (sym named) (record {
      nodes = s.nodes;
      current = ap length current ∙ length-set blocking.current.items node next ∙ s.current;
      places = ap length path ∙ length-set blocking.path.items before (reverse_of (next - 1)) ∙ s.places;
      useful = s.useful;
      pointing = subst A (sym current) (pointing_on arcs blocking.current.items node next inside s.pointing from);
      passed = subst P (sym current) (passed_on arcs levels blocking.current.items network.source node next inside less s.passed passed);
      path = subst (λ xs. W xs after.path.items (get_or levels node' 0)) (sym current) (subst (λ ys. W new ys (get_or levels node' 0)) (sym path') (subst (λ k. W new (set blocking.path.items (low - 1) (reverse_of (next - 1))) k) low' way));
    })

-- the arc of the path at this place is passed
pub search_back : (network : Network) (levels : List ℕ) (blocking after : Blocking) (node place to_node : ℕ) → to_node ≡ head_of network.arcs.items (get_or blocking.path.items place 0) → IsNetwork network → IsSearch network levels blocking node → get_or levels node 0 ≤ place → place < get_or levels network.sink 0 → IsSpent network.arcs.items levels blocking.current.items network.source (get_or blocking.path.items place 0) → after.current.items ≡ set blocking.current.items to_node (arc_at network.arcs.items (reverse_of (get_or blocking.path.items place 0))).next → after.path.items ≡ blocking.path.items → IsSearch network levels after to_node
search_back network levels blocking after node place to_node named good s from before spent current path =
    let arcs = network.arcs.items in
    let top = get_or levels network.sink 0 in
    let a = get_or blocking.path.items place 0 in
    let b = reverse_of a in
    let node' = head_of arcs a in
    let next = (arc_at arcs b).next in
    let on = s.path.each place from before in
    let pointed = on.pointed in
    let to = on.to in
    let inside_arc = reverse_in arcs a good.listed.paired on.inside in
    let is : IsLastBelow arcs node' b next = subst (λ u. IsLastBelow arcs u b next) (tail_back arcs a) (good.listed.nexts b inside_arc) in
    let within = is.within in
    let arc : IsArcFrom arcs node' next = record { within = omega arith; leaves = is.leaves } in
    let passed : ArePassed arcs levels blocking.current.items network.source node' next = λ c h tail low.
    ⊎_elim
    (λ (lt : c < b). absurd (is.none c low lt tail))
    (λ (ge : b ≤ c).
    ⊎_elim
    (λ (e : c ≡ b).
    let same : a ≡ reverse_of c = sym (twice a) ∙ ap reverse_of (sym e) in
    subst (λ x. IsSpent arcs levels blocking.current.items network.source x) same spent)
    (λ (ne : c ≢ b). s.passed node' c h tail (omega arith))
    (cases_eq c b))
    (cases_lt c b) in
    let behind = path_behind arcs levels blocking.current.items blocking.path.items network.sink node (get_or levels node 0) top place s.path from before in
    let half : IsSearch network levels blocking node' = record {
      nodes = s.nodes;
      current = s.current;
      places = s.places;
      useful = s.useful;
      pointing = s.pointing;
      passed = s.passed;
      path = subst (λ k. IsPath arcs levels blocking.current.items blocking.path.items network.sink node' k top) (sym to) behind;
    } in
    let S : ℕ → Type 0 = IsSearch network levels after in
    subst S (sym named) (search_passes network levels blocking after node' next half arc (omega arith) passed (current ∙ ap (λ v. set blocking.current.items v next) named) path)

distribute : (s m : ℕ) → (s + 1) * m ≡ s * m + m
distribute s m = grind arith

-- so less is left to do
pub less_left : (network : Network) (levels : List ℕ) (blocking after : Blocking) (node place to_node : ℕ) → to_node ≡ head_of network.arcs.items (get_or blocking.path.items place 0) → IsNetwork network → IsSearch network levels blocking node → get_or levels node 0 ≤ place → place < get_or levels network.sink 0 → after.current.items ≡ set blocking.current.items to_node (arc_at network.arcs.items (reverse_of (get_or blocking.path.items place 0))).next → left_of after levels to_node < left_of blocking levels node
less_left network levels blocking after node place to_node named good s from before current' =
    let arcs = network.arcs.items in
    let a = get_or blocking.path.items place 0 in
    let b = reverse_of a in
    let node' = head_of arcs a in
    let next = (arc_at arcs b).next in
    let old = blocking.current.items in
    let on = s.path.each place from before in
    let pointed = on.pointed in
    let to = on.to in
    let few = s.useful.few in
    let nodes = s.nodes in
    let size = s.current in
    let low = s.path.some in
    let is = good.listed.nexts b (reverse_in arcs a good.listed.paired on.inside) in
    let within = is.within in
    let inside : node' < length old = (let lv = inside_of levels node' (omega arith) in omega arith) in
    let current = current' ∙ ap (λ v. set old v next) named in
    let at = ap (λ v. get_or levels v 0) named in
    let change = sum_by-set (λ x. x) old node' next 0 inside in
    let now = ap sum current in
    let count : length after.current.items ≡ length old = ap length current ∙ length-set old node' next in
    let falls : sum after.current.items + 1 ≤ sum old = omega arith in
    let times = mul-le-mul_right (length old + 1) falls in
    let same = ap (λ n. sum after.current.items * (n + 1)) count in
    let split = distribute (sum after.current.items) (length old + 1) in
    omega arith

-- a node that is dead is on no way
dead_end : (arcs : List Arc) (levels current : List ℕ) (source : ℕ) → length arcs % 2 ≡ 0 → ((v : ℕ) → ArePassed arcs levels current source v (get_or current v 0)) → (k v : ℕ) → IsDead current source v → Rises arcs levels source k v → ⊥
dead_end arcs levels current source even passed zero v dead r = dead.other r
dead_end arcs levels current source even passed (suc k) v dead r =
    let u = r.0 in
    let leads = r.2 in
    let next = r.3 in
    let a = leads.arc in
    let b = reverse_of a in
    let none = dead.none in
    let tail : tail_of arcs b ≡ v = tail_back arcs a ∙ leads.head in
    let spent = passed v b (reverse_in arcs a even leads.inside) tail (omega arith) in
    let here : IsSpent arcs levels current source a = subst (λ x. IsSpent arcs levels current source x) (twice a) spent in
    let up : IsNext levels (tail_of arcs a) (head_of arcs a) = subst (λ x. IsNext levels x (head_of arcs a)) (sym leads.tail) (subst (λ x. IsNext levels u x) (sym leads.head) next) in
    let gone = here leads.some up in
    dead_end arcs levels current source even passed k u (subst (λ x. IsDead current source x) leads.tail gone) r.1

pub search_ends : (network : Network) (levels : List ℕ) (blocking : Blocking) (node : ℕ) → IsNetwork network → IsSearch network levels blocking node → node ≡ network.sink → get_or blocking.current.items node 0 ≡ 0 → IsBlocked network.arcs.items levels network.source network.sink
search_ends network levels blocking node good s at none k r =
    let dead : IsDead blocking.current.items network.source network.sink = record { none = sym (ap (λ x. get_or blocking.current.items x 0) at) ∙ none; other = λ e. good.ends (sym e) } in
    dead_end network.arcs.items levels blocking.current.items network.source good.listed.paired s.passed k network.sink dead r

-- a path that has come to the source
pub at_source : (network : Network) (levels : List ℕ) (blocking : Blocking) (node : ℕ) → IsSearch network levels blocking node → node ≡ network.source → IsPath network.arcs.items levels blocking.current.items blocking.path.items network.sink network.source 1 (get_or levels network.sink 0)
at_source network levels blocking node s at =
    let W : ℕ → ℕ → Type 0 = λ v k. IsPath network.arcs.items levels blocking.current.items blocking.path.items network.sink v k (get_or levels network.sink 0) in
    let first : get_or levels node 0 ≡ 1 = ap (λ x. get_or levels x 0) at ∙ s.useful.first in
    subst (λ v. W v 1) at (subst (λ k. W node k) first s.path)

-- it has an arc, since the source is not the sink
pub some_way : (network : Network) (levels : List ℕ) (blocking : Blocking) (node : ℕ) → IsNetwork network → IsSearch network levels blocking node → node ≢ network.sink → get_or levels node 0 < get_or levels network.sink 0
some_way network levels blocking node good s other =
    let ordered = s.path.ordered in
    ⊎_elim (λ (e : get_or levels node 0 ≡ get_or levels network.sink 0). absurd (other (s.path.none e))) (λ ne. omega arith) (cases_eq (get_or levels node 0) (get_or levels network.sink 0))

-- what is left to do where no more arcs are
pub left_lower : (a b : Blocking) (levels : List ℕ) (u v : ℕ) → sum a.current.items ≤ sum b.current.items → length a.current.items ≡ length b.current.items → get_or levels u 0 ≤ get_or levels v 0 → left_of a levels u ≤ left_of b levels v
left_lower a b levels u v fewer same lower_level =
    let times = mul-le-mul_right (length b.current.items + 1) fewer in
    let at = ap (λ n. sum a.current.items * (n + 1)) same in
    omega arith

pub left_below : (a b : Blocking) (levels : List ℕ) (u v : ℕ) → sum a.current.items ≤ sum b.current.items → length a.current.items ≡ length b.current.items → get_or levels u 0 < get_or levels v 0 → left_of a levels u < left_of b levels v
left_below a b levels u v fewer same lower_level =
    let times = mul-le-mul_right (length b.current.items + 1) fewer in
    let at = ap (λ n. sum a.current.items * (n + 1)) same in
    omega arith

pub less_then : (a b c : ℕ) → a < b → b ≤ c → a < c
less_then a b c lt le = omega arith
