-- What is sent along a path goes down the levels.
use Rattle.std.proofs.Common.{◌≡◌, ◌≢◌, ℕ, ◌+◌, ◌-◌, ◌%◌, ◌<◌, ◌≤◌, List, length, get_or, sym, refl, ap, ◌∙◌, subst, ⊎_elim, arith}
use Rattle.std.proofs.lemmas.Bool.{cases_eq, cases_lt}
use Rattle.level_graphs.specs.declared.network.Arc.{Arc}
use Rattle.level_graphs.specs.declared.network.Network.{Network}
use Rattle.level_graphs.specs.declared.blocking.Blocking.{Blocking}
use Rattle.level_graphs.specs.Arcs.{reverse_of, tail_of, head_of, room_at, pushed, HaveEnds}
use Rattle.level_graphs.specs.Blocked.{IsNext, AreSentDown}
use Rattle.level_graphs.specs.inner.Rounds.{StandsWithin}
use Rattle.level_graphs.specs.inner.Search.{IsDead, ArePassed, IsPath, IsSearch, AreSentAlong}
use Rattle.level_graphs.proofs.Pushed.{AreBounded, ends_pushed, ends_on, room_along, room_back, room_apart}
use Rattle.level_graphs.proofs.Searched.{twice, tail_back}

-- no arc of a path is the reverse of one
abbrev pub IsOneWay : List ℕ → ℕ → Type 0
IsOneWay path top = (i j : ℕ) → 1 ≤ i → i < top → 1 ≤ j → j < top → get_or path i 0 ≢ reverse_of (get_or path j 0)

ends_same : (arcs : List Arc) → HaveEnds arcs arcs
ends_same arcs = record { count = refl; head = λ a. refl; next = λ a. refl }

pub none_sent : (arcs : List Arc) (path : List ℕ) (top : ℕ) → AreSentAlong arcs arcs path top
none_sent arcs path top = record { ends = ends_same arcs; less = λ a h. absurd (omega arith); more = λ a h. absurd (omega arith) }

stands_on : (path : List ℕ) (place a : ℕ) → StandsWithin path 1 place a → StandsWithin path 1 (place + 1) a
stands_on path place a s = record { place = s.place; from = s.from; below = (let below = s.below in omega arith); is = s.is }

-- one more push, along the next arc of the path
pub sent_next : (before now after : List Arc) (path : List ℕ) (place amount : ℕ) → AreSentAlong before now path place → length now % 2 ≡ 0 → AreBounded now → get_or path place 0 < length now → 1 ≤ place → after ≡ pushed now (get_or path place 0) amount → AreSentAlong before after path (place + 1)
sent_next before now after path place amount sent even bounded inside some is =
    let x = get_or path place 0 in
    let new = pushed now x amount in
    let here : StandsWithin path 1 (place + 1) x = record { place = place; from = some; below = omega arith; is = refl } in
    let S : ℕ → Type 0 = StandsWithin path 1 (place + 1) in
    let along = room_along now x amount inside in
    let back = room_back now x amount even inside in
    let bound = bounded x in
    let made : AreSentAlong before new path (place + 1) = record {
      ends = ends_on before now new sent.ends (ends_pushed now x amount even inside);
      less = λ a h.
          ⊎_elim (λ (e : a ≡ x). subst S (sym e) here)
          (λ (ne : a ≢ x).
          ⊎_elim
          (λ (e : a ≡ reverse_of x).
          let one = ap (room_at new) e in
          let two = ap (room_at now) e in
          stands_on path place a (sent.less a (omega arith)))
          (λ (nr : a ≢ reverse_of x). let same = room_apart now x a amount ne nr in stands_on path place a (sent.less a (omega arith)))
          (cases_eq a (reverse_of x)))
          (cases_eq a x);
      more = λ a h.
          ⊎_elim
          (λ (e : a ≡ x).
          let one = ap (room_at new) e in
          let two = ap (room_at now) e in
          stands_on path place (reverse_of a) (sent.more a (omega arith)))
          (λ (ne : a ≢ x).
          ⊎_elim
          (λ (e : a ≡ reverse_of x). let turned : x ≡ reverse_of a = sym (twice x) ∙ ap reverse_of (sym e) in subst S turned here)
          (λ (nr : a ≢ reverse_of x). let same = room_apart now x a amount ne nr in stands_on path place (reverse_of a) (sent.more a (omega arith)))
          (cases_eq a (reverse_of x)))
          (cases_eq a x);
    } in
    let P : List Arc → Type 0 = λ xs. AreSentAlong before xs path (place + 1) in
    subst P (sym is) made

-- and the arcs so far have that much less room
pub rooms_next : (before now after : List Arc) (path : List ℕ) (place top amount : ℕ) → AreSentAlong before now path place → get_or path place 0 < length now → 1 ≤ place → place < top → IsOneWay path top → after ≡ pushed now (get_or path place 0) amount → ((j : ℕ) → 1 ≤ j → j < place → room_at now (get_or path j 0) ≤ room_at before (get_or path j 0) - amount) → (j : ℕ) → 1 ≤ j → j < place + 1 → room_at after (get_or path j 0) ≤ room_at before (get_or path j 0) - amount
rooms_next before now after path place top amount sent inside some below way is old j from lt =
    let x = get_or path place 0 in
    let y = get_or path j 0 in
    let new = pushed now x amount in
    let along = room_along now x amount inside in
    let kept : room_at now x ≤ room_at before x =
    ⊎_elim (λ (gt : room_at before x < room_at now x). let s = sent.more x gt in let within = s.below in absurd (way s.place place s.from (omega arith) some below s.is))
    (λ ge. ge) (cases_lt (room_at before x) (room_at now x)) in
    let same = ap (λ (xs : List Arc). room_at xs y) is in
    ⊎_elim
    (λ (e : y ≡ x).
    let one = ap (room_at new) e in
    let two = ap (room_at before) e in
    omega arith)
    (λ (ne : y ≢ x).
    let apart = room_apart now x y amount ne (way j place from (omega arith) some below) in
    ⊎_elim (λ (earlier : j < place). let was = old j from earlier in omega arith)
    (λ (ge : place ≤ j). let at : j ≡ place = omega arith in absurd (ne (ap (λ k. get_or path k 0) at)))
    (cases_lt j place))
    (cases_eq y x)

-- no arc of a path is the reverse of another: their levels tell
pub one_way : (arcs : List Arc) (levels current path : List ℕ) (sink node top : ℕ) → IsPath arcs levels current path sink node 1 top → IsOneWay path top
one_way arcs levels current path sink node top p i j i_from i_below j_from j_below e =
    let one = p.each i i_from i_below in
    let two = p.each j j_from j_below in
    let tail = ap (λ x. get_or levels (tail_of arcs x) 0) e in
    let head = ap (λ x. get_or levels (head_of arcs x) 0) e in
    let back = ap (λ x. get_or levels x 0) (tail_back arcs (get_or path j 0)) in
    let one_from = one.from in
    let one_to = one.to in
    let two_from = two.from in
    let two_to = two.to in
    absurd (omega arith)

-- what goes along a path goes down the levels
pub goes_down : (before after : List Arc) (levels current path : List ℕ) (sink node top : ℕ) → IsPath before levels current path sink node 1 top → AreSentAlong before after path top → AreSentDown before after levels
goes_down before after levels current path sink node top p sent =
    let rises : (a : ℕ) → StandsWithin path 1 top a → IsNext levels (tail_of before a) (head_of before a) = λ a s.
    let on = p.each s.place s.from s.below in
    let from = on.from in
    let to = on.to in
    let first = s.from in
    let up : IsNext levels (tail_of before (get_or path s.place 0)) (head_of before (get_or path s.place 0)) = record { some = omega arith; up = omega arith } in
    subst (λ x. IsNext levels (tail_of before x) (head_of before x)) s.is up in
    record {
      ends = sent.ends;
      less = λ a h. rises a (sent.less a h);
      more = λ a h. subst (λ u. IsNext levels u (tail_of before a)) (tail_back before a) (rises (reverse_of a) (sent.more a h));
    }

pub none_down : (arcs : List Arc) (levels : List ℕ) → AreSentDown arcs arcs levels
none_down arcs levels = record { ends = ends_same arcs; less = λ a h. absurd (omega arith); more = λ a h. absurd (omega arith) }

pub down_on : (a b c : List Arc) (levels : List ℕ) → AreSentDown a b levels → AreSentDown b c levels → AreSentDown a c levels
down_on a b c levels one two =
    let tail = λ (x : ℕ). one.ends.head (reverse_of x) in
    let head = λ (x : ℕ). one.ends.head x in
    let N : ℕ → ℕ → Type 0 = IsNext levels in
    record {
      ends = ends_on a b c one.ends two.ends;
      less = λ x h.
          ⊎_elim (λ (lt : room_at b x < room_at a x). one.less x lt)
          (λ (ge : room_at a x ≤ room_at b x). subst (λ u. N u (head_of a x)) (tail x) (subst (λ v. N (tail_of b x) v) (head x) (two.less x (omega arith))))
          (cases_lt (room_at b x) (room_at a x));
      more = λ x h.
          ⊎_elim (λ (lt : room_at a x < room_at b x). one.more x lt)
          (λ (ge : room_at b x ≤ room_at a x). subst (λ u. N u (tail_of a x)) (head x) (subst (λ v. N (head_of b x) v) (tail x) (two.more x (omega arith))))
          (cases_lt (room_at a x) (room_at b x));
    }

-- an arc that rises has no more room than before
rising_falls : (before after : List Arc) (levels : List ℕ) (a : ℕ) → AreSentDown before after levels → IsNext levels (tail_of before a) (head_of before a) → room_at after a ≤ room_at before a
rising_falls before after levels a sent next =
    ⊎_elim (λ (lt : room_at before a < room_at after a). let back = sent.more a lt in let up = next.up in let down = back.up in absurd (omega arith))
    (λ ge. ge) (cases_lt (room_at before a) (room_at after a))

passed_stays : (before after : List Arc) (levels current : List ℕ) (source v number : ℕ) → AreSentDown before after levels → ArePassed before levels current source v number → ArePassed after levels current source v number
passed_stays before after levels current source v number sent old b h tail low room up =
    let head = sent.ends.head in
    let count = sent.ends.count in
    let r = reverse_of b in
    let from = head (reverse_of r) in
    let up' : IsNext levels (tail_of before r) (head_of before r) = subst (λ u. IsNext levels u (head_of before r)) from (subst (λ w. IsNext levels (tail_of after r) w) (head r) up) in
    let fewer = rising_falls before after levels r sent up' in
    let dead = old b (omega arith) (sym (head r) ∙ tail) low (omega arith) up' in
    subst (λ u. IsDead current source u) (sym from) dead

path_stays : (before after : List Arc) (levels current path : List ℕ) (sink node low top : ℕ) → HaveEnds before after → IsPath before levels current path sink node low top → IsPath after levels current path sink node low top
path_stays before after levels current path sink node low top ends p =
    let count = ends.count in
    record {
      some = p.some;
      ordered = p.ordered;
      each = λ j from below.
          let on = p.each j from below in
          let inside = on.inside in
          let a = get_or path j 0 in
          let tail = ap (λ x. get_or levels x 0) (ends.head (reverse_of a)) in
          let head = ap (λ x. get_or levels x 0) (ends.head a) in
          record { inside = omega arith; from = tail ∙ on.from; to = head ∙ on.to; pointed = ap (λ x. get_or current x 0) (ends.head a) ∙ on.pointed };
      begins = λ below. ends.head (reverse_of (get_or path low 0)) ∙ p.begins below;
      linked = λ j from below. ends.head (get_or path j 0) ∙ p.linked j from below ∙ sym (ends.head (reverse_of (get_or path (j + 1) 0)));
      ends = λ j from e. ends.head (get_or path j 0) ∙ p.ends j from e;
      none = p.none;
    }

pub search_stays : (before after : Network) (levels : List ℕ) (blocking : Blocking) (node : ℕ) → IsSearch before levels blocking node → AreSentDown before.arcs.items after.arcs.items levels → length after.last.items ≡ length before.last.items → after.source ≡ before.source → after.sink ≡ before.sink → IsSearch after levels blocking node
search_stays before after levels blocking node s sent nodes source sink =
    let ends = sent.ends in
    let count = ends.count in
    let new = after.arcs.items in
    let current = blocking.current.items in
    let path = blocking.path.items in
    let low = get_or levels node 0 in
    let W : ℕ → Type 0 = λ t. IsPath new levels current path t node low (get_or levels t 0) in
    let way : W before.sink = path_stays before.arcs.items new levels current path before.sink node low (get_or levels before.sink 0) ends s.path in
    let first = s.useful.first in
    let few = s.useful.few in
    let at_source = ap (λ x. get_or levels x 0) source in
    let at_sink = ap (λ x. get_or levels x 0) sink in
    record {
      nodes = s.nodes ∙ sym nodes;
      current = s.current ∙ sym nodes;
      places = s.places ∙ sym nodes;
      useful = record { first = at_source ∙ first; only = λ v e. s.useful.only v e ∙ sym source; few = omega arith };
      pointing = λ v.
          let from = s.pointing v in
          let within = from.within in
          record { within = omega arith; leaves = λ some. ends.head (reverse_of (get_or current v 0 - 1)) ∙ from.leaves some };
      passed = λ v. subst (λ x. ArePassed new levels current x v (get_or current v 0)) (sym source) (passed_stays before.arcs.items new levels current before.source v (get_or current v 0) sent (s.passed v));
      path = subst W (sym sink) way;
    }
