-- Lists of the arcs from a node: what was looked along, and what a network's lists are with two more arcs.
use Rattle.std.proofs.Common.{◌≡◌, ◌≢◌, ℕ, ◌+◌, ◌-◌, ◌%◌, ◌^◌, ◌<◌, ◌≤◌, List, [], ◌∷◌, ◌++◌, length, get_or, set, sym, refl, ap, ◌∙◌, subst, ⊎_elim, arith}
use Rattle.std.proofs.lemmas.Bool.{cases_eq, cases_lt}
use Rattle.std.proofs.lemmas.List.{get_or-set_same, get_or-set_other, length-set, get_or_append_left, get_or_push, get_or_past, length_push}
use Rattle.level_graphs.specs.declared.network.Arc.{Arc}
use Rattle.level_graphs.specs.Arcs.{no_arc, arc_at, reverse_of, tail_of, head_of, room_at, IsLastBelow, AreListed}
use Rattle.level_graphs.proofs.Pushed.{AreBounded}

-- each arc from a node down to this number, where it has room, leads to a node with a level
pub record AreLooked (arcs : List Arc) (of : List ℕ) (node number : ℕ) : Type 0 where
  pub leaves : 0 < number → tail_of arcs (number - 1) ≡ node
  pub within : number ≤ length arcs
  pub seen : (a : ℕ) → number ≤ a → a < length arcs → tail_of arcs a ≡ node → 0 < room_at arcs a → 1 ≤ get_or of (head_of arcs a) 0

pub first_looked : (arcs : List Arc) (of : List ℕ) (node number : ℕ) → IsLastBelow arcs node (length arcs) number → AreLooked arcs of node number
first_looked arcs of node number is = record {
  leaves = is.leaves;
  within = is.within;
  seen = λ a from below tail some. absurd (is.none a from below tail);
}

pub next_looked : (arcs : List Arc) (before after : List ℕ) (node number next : ℕ) → AreLooked arcs before node number → 0 < number → IsLastBelow arcs node (number - 1) next → ((v : ℕ) → get_or before v 0 ≢ 0 → get_or after v 0 ≡ get_or before v 0) → (0 < room_at arcs (number - 1) → 1 ≤ get_or after (head_of arcs (number - 1)) 0) → AreLooked arcs after node next
next_looked arcs before after node number next looked some is kept here =
    let within = looked.within in
    let low = is.within in
    record {
      leaves = is.leaves;
      within = omega arith;
      seen = λ a from below tail room.
          ⊎_elim
          (λ lt.
          ⊎_elim
          (λ (e : a ≡ number - 1). subst (λ b. 1 ≤ get_or after (head_of arcs b) 0) (sym e) (here (subst (λ b. 0 < room_at arcs b) e room)))
          (λ ne. absurd (is.none a from (omega arith) tail))
          (cases_eq a (number - 1)))
          (λ ge.
          let old = looked.seen a ge below tail room in
          let same = kept (head_of arcs a) (λ e. absurd (omega arith)) in
          omega arith)
          (cases_lt a number);
    }

-- the same list, as far as one more arc
grows : (arcs : List Arc) (node top number : ℕ) → IsLastBelow arcs node top number → tail_of arcs top ≢ node → IsLastBelow arcs node (top + 1) number
grows arcs node top number is other =
    let within = is.within in
    record {
      within = omega arith;
      leaves = is.leaves;
      none = λ a from below tail.
          ⊎_elim (λ lt. is.none a from lt tail) (λ ge. let same : a ≡ top = omega arith in other (ap (tail_of arcs) (sym same) ∙ tail)) (cases_lt a top);
    }

-- the arc that was added last
is_last : (arcs : List Arc) (node top : ℕ) → tail_of arcs top ≡ node → IsLastBelow arcs node (top + 1) (top + 1)
is_last arcs node top tail =
    let same : top + 1 - 1 ≡ top = omega arith in
    record {
      within = omega arith;
      leaves = λ some. ap (tail_of arcs) same ∙ tail;
      none = λ a from below e. absurd (omega arith);
    }

as_said : (arcs : List Arc) (node node' top top' number number' : ℕ) → IsLastBelow arcs node top number → node ≡ node' → top ≡ top' → number ≡ number' → IsLastBelow arcs node' top' number'
as_said arcs node node' top top' number number' is a b c =
    let A : ℕ → Type 0 = λ n. IsLastBelow arcs n top number in
    let B : ℕ → Type 0 = λ t. IsLastBelow arcs node' t number in
    let C : ℕ → Type 0 = IsLastBelow arcs node' top' in
    subst C c (subst B b (subst A a is))

-- what two more arcs are
record IsJoined (arcs more : List Arc) (from to : ℕ) (x y : Arc) : Type 0 where
  pub size : length more ≡ length arcs + 2
  pub old : (a : ℕ) → a < length arcs → arc_at more a ≡ arc_at arcs a
  pub first : arc_at more (length arcs) ≡ x
  pub second : arc_at more (length arcs + 1) ≡ y
  pub old_tail : (a : ℕ) → a < length arcs → tail_of more a ≡ tail_of arcs a
  pub first_tail : tail_of more (length arcs) ≡ from
  pub second_tail : tail_of more (length arcs + 1) ≡ to

is_joined : (arcs : List Arc) (from to : ℕ) (x y : Arc) → length arcs % 2 ≡ 0 → x.to ≡ to → y.to ≡ from → IsJoined arcs ((arcs ++ x ∷ []) ++ y ∷ []) from to x y
is_joined arcs from to x y even x_to y_to =
    let n = length arcs in
    let half = arcs ++ x ∷ [] in
    let more = half ++ y ∷ [] in
    let one : length half ≡ n + 1 = length_push arcs x in
    let two : length more ≡ length half + 1 = length_push half y in
    let old : (a : ℕ) → a < n → arc_at more a ≡ arc_at arcs a = λ a h. get_or_append_left half (y ∷ []) no_arc a (omega arith) ∙ get_or_append_left arcs (x ∷ []) no_arc a h in
    let first : arc_at more n ≡ x = get_or_append_left half (y ∷ []) no_arc n (omega arith) ∙ get_or_push arcs x no_arc n refl in
    let second : arc_at more (n + 1) ≡ y = get_or_push half y no_arc (n + 1) one in
    let up : reverse_of n ≡ n + 1 = omega arith in
    let down : reverse_of (n + 1) ≡ n = omega arith in
    record {
      size = omega arith;
      old = old;
      first = first;
      second = second;
      old_tail = λ a h. ap (λ (b : Arc). b.to) (old (reverse_of a) (omega arith));
      first_tail = ap (λ r. (arc_at more r).to) up ∙ ap (λ (b : Arc). b.to) second ∙ y_to;
      second_tail = ap (λ r. (arc_at more r).to) down ∙ ap (λ (b : Arc). b.to) first ∙ x_to;
    }

keeps_list : (arcs more : List Arc) (from to : ℕ) (x y : Arc) (node top number : ℕ) → IsJoined arcs more from to x y → top ≤ length arcs → IsLastBelow arcs node top number → IsLastBelow more node top number
keeps_list arcs more from to x y node top number j le is =
    let within = is.within in
    record {
      within = is.within;
      leaves = λ some. j.old_tail (number - 1) (omega arith) ∙ is.leaves some;
      none = λ a low below tail. is.none a low below (sym (j.old_tail a (omega arith)) ∙ tail);
    }

joined_lasts : (arcs more : List Arc) (last : List ℕ) (from to : ℕ) (x y : Arc) → IsJoined arcs more from to x y → AreListed arcs last → from < length last → to < length last → (u : ℕ) → u < length last → IsLastBelow more u (length more) (get_or (set (set last from (length arcs + 1)) to (length arcs + 2)) u 0)
joined_lasts arcs more last from to x y j old from_in to_in u h =
    let n = length arcs in
    let one = set last from (n + 1) in
    let count : length one ≡ length last = length-set last from (n + 1) in
    let size = j.size in
    ⊎_elim
    (λ (e : u ≡ to).
    let got = get_or-set_same one to (n + 2) 0 (omega arith) in
    let here : get_or (set one to (n + 2)) u 0 ≡ n + 2 = ap (λ v. get_or (set one to (n + 2)) v 0) e ∙ got in
    as_said more u u (n + 1 + 1) (length more) (n + 1 + 1) (get_or (set one to (n + 2)) u 0) (is_last more u (n + 1) (j.second_tail ∙ sym e)) refl (omega arith) (omega arith))
    (λ (ne : u ≢ to).
    let skip = get_or-set_other one to u (n + 2) 0 ne in
    let apart : tail_of more (n + 1) ≢ u = λ e. ne (sym e ∙ j.second_tail) in
    ⊎_elim
    (λ (e : u ≡ from).
    let got = get_or-set_same last from (n + 1) 0 from_in in
    let here : get_or one u 0 ≡ n + 1 = ap (λ v. get_or one v 0) e ∙ got in
    as_said more u u (n + 1 + 1) (length more) (n + 1) (get_or (set one to (n + 2)) u 0) (grows more u (n + 1) (n + 1) (is_last more u n (j.first_tail ∙ sym e)) apart) refl (omega arith) (omega arith))
    (λ (nf : u ≢ from).
    let skip_too = get_or-set_other last from u (n + 1) 0 nf in
    let apart_too : tail_of more n ≢ u = λ e. nf (sym e ∙ j.first_tail) in
    let was = keeps_list arcs more from to x y u n (get_or last u 0) j (omega arith) (old.lasts u h) in
    as_said more u u (n + 1 + 1) (length more) (get_or last u 0) (get_or (set one to (n + 2)) u 0) (grows more u (n + 1) (get_or last u 0) (grows more u n (get_or last u 0) was apart_too) apart) refl (omega arith) (omega arith))
    (cases_eq u from))
    (cases_eq u to)

joined_nexts : (arcs more : List Arc) (last : List ℕ) (from to : ℕ) (x y : Arc) → IsJoined arcs more from to x y → AreListed arcs last → from < length last → to < length last → x.next ≡ get_or last from 0 → y.next ≡ get_or (set last from (length arcs + 1)) to 0 → (a : ℕ) → a < length more → IsLastBelow more (tail_of more a) a (arc_at more a).next
joined_nexts arcs more last from to x y j old from_in to_in x_next y_next a h =
    let n = length arcs in
    let P : ℕ → Type 0 = λ b. IsLastBelow more (tail_of more b) b (arc_at more b).next in
    let size = j.size in
    ⊎_elim
    (λ lt.
    let was = keeps_list arcs more from to x y (tail_of arcs a) a (arc_at arcs a).next j (omega arith) (old.nexts a lt) in
    as_said more (tail_of arcs a) (tail_of more a) a a (arc_at arcs a).next (arc_at more a).next was (sym (j.old_tail a lt)) refl (ap (λ (b : Arc). b.next) (sym (j.old a lt))))
    (λ ge.
    ⊎_elim
    (λ (e : a ≡ n).
    let was = keeps_list arcs more from to x y from n (get_or last from 0) j (omega arith) (old.lasts from from_in) in
    subst P (sym e) (as_said more from (tail_of more n) n n (get_or last from 0) (arc_at more n).next was (sym j.first_tail) refl (sym x_next ∙ ap (λ (b : Arc). b.next) (sym j.first))))
    (λ ne.
    let e : a ≡ n + 1 = omega arith in
    let is_next : get_or (set last from (n + 1)) to 0 ≡ (arc_at more (n + 1)).next = sym y_next ∙ ap (λ (b : Arc). b.next) (sym j.second) in
    subst P (sym e)
    (⊎_elim
    (λ (same : to ≡ from).
    let got : get_or (set last from (n + 1)) to 0 ≡ n + 1 = ap (λ v. get_or (set last from (n + 1)) v 0) same ∙ get_or-set_same last from (n + 1) 0 from_in in
    as_said more to (tail_of more (n + 1)) (n + 1) (n + 1) (n + 1) (arc_at more (n + 1)).next (is_last more to n (j.first_tail ∙ sym same)) (sym j.second_tail) refl (sym got ∙ is_next))
    (λ (other : to ≢ from).
    let skip = get_or-set_other last from to (n + 1) 0 other in
    let apart : tail_of more n ≢ to = λ f. other (sym f ∙ j.first_tail) in
    let was = keeps_list arcs more from to x y to n (get_or last to 0) j (omega arith) (old.lasts to to_in) in
    as_said more to (tail_of more (n + 1)) (n + 1) (n + 1) (get_or last to 0) (arc_at more (n + 1)).next (grows more to n (get_or last to 0) was apart) (sym j.second_tail) refl (sym skip ∙ is_next))
    (cases_eq to from)))
    (cases_eq a n))
    (cases_lt a n)

joined_heads : (arcs more : List Arc) (last : List ℕ) (from to : ℕ) (x y : Arc) → IsJoined arcs more from to x y → AreListed arcs last → from < length last → to < length last → x.to ≡ to → y.to ≡ from → (a : ℕ) → a < length more → head_of more a < length last
joined_heads arcs more last from to x y j old from_in to_in x_to y_to a h =
    let n = length arcs in
    let P : ℕ → Type 0 = λ b. head_of more b < length last in
    let size = j.size in
    let first = ap (λ (b : Arc). b.to) j.first in
    let second = ap (λ (b : Arc). b.to) j.second in
    ⊎_elim (λ lt. let same = ap (λ (b : Arc). b.to) (j.old a lt) in let was = old.heads a lt in omega arith)
    (λ ge. ⊎_elim (λ (e : a ≡ n). subst P (sym e) (omega arith)) (λ ne. let e : a ≡ n + 1 = omega arith in subst P (sym e) (omega arith)) (cases_eq a n))
    (cases_lt a n)

pub joined_apart : (arcs : List Arc) (source sink from to : ℕ) (x y : Arc) → length arcs % 2 ≡ 0 → x.to ≡ to → y.to ≡ from → ((a : ℕ) → a < length arcs → tail_of arcs a ≡ source → head_of arcs a ≢ sink) → (from ≡ source → to ≢ sink) → (to ≡ source → from ≢ sink) → (a : ℕ) → a < length ((arcs ++ x ∷ []) ++ y ∷ []) → tail_of ((arcs ++ x ∷ []) ++ y ∷ []) a ≡ source → head_of ((arcs ++ x ∷ []) ++ y ∷ []) a ≢ sink
joined_apart arcs source sink from to x y even x_to y_to apart forward back a h tail head =
    let n = length arcs in
    let more = (arcs ++ x ∷ []) ++ y ∷ [] in
    let j = is_joined arcs from to x y even x_to y_to in
    let size = j.size in
    let first = ap (λ (b : Arc). b.to) j.first in
    let second = ap (λ (b : Arc). b.to) j.second in
    ⊎_elim (λ lt. apart a lt (sym (j.old_tail a lt) ∙ tail) (sym (ap (λ (b : Arc). b.to) (j.old a lt)) ∙ head))
    (λ ge.
    ⊎_elim
    (λ (e : a ≡ n).
    forward (sym j.first_tail ∙ ap (tail_of more) (sym e) ∙ tail) (sym x_to ∙ sym first ∙ ap (head_of more) (sym e) ∙ head))
    (λ ne.
    let e : a ≡ n + 1 = omega arith in
    back (sym j.second_tail ∙ ap (tail_of more) (sym e) ∙ tail) (sym y_to ∙ sym second ∙ ap (head_of more) (sym e) ∙ head))
    (cases_eq a n))
    (cases_lt a n)

pub joined : (arcs : List Arc) (last : List ℕ) (from to : ℕ) (x y : Arc) → AreListed arcs last → from < length last → to < length last → x.to ≡ to → y.to ≡ from → x.next ≡ get_or last from 0 → y.next ≡ get_or (set last from (length arcs + 1)) to 0 → AreListed ((arcs ++ x ∷ []) ++ y ∷ []) (set (set last from (length arcs + 1)) to (length arcs + 2))
joined arcs last from to x y old from_in to_in x_to y_to x_next y_next =
    let more = (arcs ++ x ∷ []) ++ y ∷ [] in
    let j = is_joined arcs from to x y old.paired x_to y_to in
    let one = set last from (length arcs + 1) in
    let count : length (set one to (length arcs + 2)) ≡ length last = length-set one to (length arcs + 2) ∙ length-set last from (length arcs + 1) in
    let size = j.size in
    let paired = old.paired in
    record {
      paired = omega arith;
      heads = λ a h. subst (λ m. head_of more a < m) (sym count) (joined_heads arcs more last from to x y j old from_in to_in x_to y_to a h);
      lasts = λ u h. joined_lasts arcs more last from to x y j old from_in to_in u (subst (λ m. u < m) count h);
      nexts = λ a h. joined_nexts arcs more last from to x y j old from_in to_in x_next y_next a h;
    }

pub joined_bounded : (arcs : List Arc) (from to room : ℕ) (x y : Arc) → length arcs % 2 ≡ 0 → x.to ≡ to → y.to ≡ from → x.room ≡ room → y.room ≡ 0 → room < 2 ^ 64 → AreBounded arcs → AreBounded ((arcs ++ x ∷ []) ++ y ∷ [])
joined_bounded arcs from to room x y even x_to y_to x_room y_room few old a =
    let n = length arcs in
    let more = (arcs ++ x ∷ []) ++ y ∷ [] in
    let j = is_joined arcs from to x y even x_to y_to in
    let size = j.size in
    let R : Arc → ℕ = λ b. b.room in
    let first : room_at more n ≡ room = ap R j.first ∙ x_room in
    let second : room_at more (n + 1) ≡ 0 = ap R j.second ∙ y_room in
    let up : reverse_of n ≡ n + 1 = omega arith in
    let down : reverse_of (n + 1) ≡ n = omega arith in
    let up_room = ap (room_at more) up in
    let down_room = ap (room_at more) down in
    ⊎_elim
    (λ lt.
    let here = ap R (j.old a lt) in
    let back = ap R (j.old (reverse_of a) (omega arith)) in
    let was = old a in
    omega arith)
    (λ ge.
    ⊎_elim (λ (e : a ≡ n). subst (λ b. room_at more b + room_at more (reverse_of b) < 2 ^ 64) (sym e) (omega arith))
    (λ ne.
    ⊎_elim (λ (e : a ≡ n + 1). subst (λ b. room_at more b + room_at more (reverse_of b) < 2 ^ 64) (sym e) (omega arith))
    (λ nf.
    let here = ap R (get_or_past more a no_arc (omega arith)) in
    let back = ap R (get_or_past more (reverse_of a) no_arc (omega arith)) in
    omega arith)
    (cases_eq a (n + 1)))
    (cases_eq a n))
    (cases_lt a n)
