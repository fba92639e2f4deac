-- What is sent along a way is a flow: a push moves an amount from the node that an arc leaves to the one that it leads to.
use Rattle.std.proofs.Common.{◌≡◌, ◌≢◌, ℕ, zero, suc, ◌+◌, ◌-◌, ◌%◌, ◌^◌, min, ◌<◌, ◌≤◌, List, length, get_or, eqb, sym, refl, ap, ◌∙◌, subst, ⊎_elim, arith}
use Rattle.std.proofs.lemmas.Bool.{cases_eq, eq-eqb, ne_eqb, cond-true, cond-false}
use Rattle.level_graphs.specs.declared.network.Arc.{Arc}
use Rattle.level_graphs.specs.Arcs.{reverse_of, tail_of, head_of, room_at, with_room, pushed, HaveEnds}
use Rattle.level_graphs.specs.Flow.{sum_below, room_out, IsFlow}
use Rattle.level_graphs.specs.inner.Search.{IsPath, IsWay, IsFlowTo, only_at}
use Rattle.level_graphs.proofs.Pushed.{AreBounded, ends_with_room, ends_on, room_kept, room_written, room_along, room_back, room_apart}
use Rattle.level_graphs.proofs.Searched.{tail_back}
use Rattle.level_graphs.proofs.Sent.{one_way}

sum_same : (n : ℕ) (f g : ℕ → ℕ) → ((b : ℕ) → b < n → g b ≡ f b) → sum_below n g ≡ sum_below n f
sum_same zero f g same = refl
sum_same (suc n) f g same =
    let rest = sum_same n f g (λ b h. same b (omega arith)) in
    let here = same n (omega arith) in
    omega arith

sum_changed : (n i : ℕ) (f g : ℕ → ℕ) → i < n → ((b : ℕ) → b ≢ i → g b ≡ f b) → sum_below n g + f i ≡ sum_below n f + g i
sum_changed zero i f g h same = absurd (omega arith)
sum_changed (suc n) i f g h same =
    ⊎_elim
    (λ (e : i ≡ n).
    let rest = sum_same n f g (λ b lt. same b (λ x. absurd (omega arith))) in
    let one = ap f e in
    let two = ap g e in
    omega arith)
    (λ (ne : i ≢ n).
    let rest = sum_changed n i f g (omega arith) same in
    let here = same n (λ x. ne (sym x)) in
    omega arith)
    (cases_eq i n)

only_here : (v x w : ℕ) → v ≡ w → only_at v x w ≡ x
only_here v x w e = cond-true (eqb v w) x 0 (eq-eqb v w e)

only_other : (v x w : ℕ) → v ≢ w → only_at v x w ≡ 0
only_other v x w ne = cond-false (eqb v w) x 0 (ne_eqb v w ne)

only_sum : (v x y w : ℕ) → only_at v (x + y) w ≡ only_at v x w + only_at v y w
only_sum v x y w =
    ⊎_elim
    (λ (e : v ≡ w). let a = only_here v (x + y) w e in let b = only_here v x w e in let c = only_here v y w e in omega arith)
    (λ (ne : v ≢ w). let a = only_other v (x + y) w ne in let b = only_other v x w ne in let c = only_other v y w ne in omega arith)
    (cases_eq v w)

-- another room of an arc is another amount at the node that it leaves
change_room : (arcs : List Arc) (a room w : ℕ) → a < length arcs → room_out (with_room arcs a room) w + only_at (tail_of arcs a) (room_at arcs a) w ≡ room_out arcs w + only_at (tail_of arcs a) room w
change_room arcs a room w h =
    let new = with_room arcs a room in
    let ends = ends_with_room arcs a room h in
    let f : ℕ → ℕ = λ b. only_at (tail_of arcs b) (room_at arcs b) w in
    let g : ℕ → ℕ = λ b. only_at (tail_of new b) (room_at new b) w in
    let same : (b : ℕ) → b ≢ a → g b ≡ f b = λ b ne. ap (λ t. only_at t (room_at new b) w) (ends.head (reverse_of b)) ∙ ap (λ x. only_at (tail_of arcs b) x w) (room_kept arcs a b room ne) in
    let here : g a ≡ only_at (tail_of arcs a) room w = ap (λ t. only_at t (room_at new a) w) (ends.head (reverse_of a)) ∙ ap (λ x. only_at (tail_of arcs a) x w) (room_written arcs a room h) in
    let changed = sum_changed (length arcs) a f g h same in
    let count : room_out new w ≡ sum_below (length arcs) g = ap (λ n. sum_below n g) ends.count in
    omega arith

-- a push moves the amount
pushed_moves : (arcs : List Arc) (a amount w : ℕ) → length arcs % 2 ≡ 0 → a < length arcs → AreBounded arcs → amount ≤ room_at arcs a → room_out (pushed arcs a amount) w + only_at (tail_of arcs a) amount w ≡ room_out arcs w + only_at (head_of arcs a) amount w
pushed_moves arcs a amount w even h bounded fits =
    let u = tail_of arcs a in
    let v = head_of arcs a in
    let less = with_room arcs a (room_at arcs a - amount) in
    let back = room_at less (reverse_of a) in
    let more = min (back + amount) (2 ^ 64 - 1) in
    let ends = ends_with_room arcs a (room_at arcs a - amount) h in
    let count = ends.count in
    let one = change_room arcs a (room_at arcs a - amount) w h in
    let two = change_room less (reverse_of a) more w (omega arith) in
    let from : tail_of less (reverse_of a) ≡ v = ends.head (reverse_of (reverse_of a)) ∙ tail_back arcs a in
    let was : back ≡ room_at arcs (reverse_of a) = room_kept arcs a (reverse_of a) (room_at arcs a - amount) (λ e. absurd (omega arith)) in
    let bound = bounded a in
    let full : more ≡ back + amount = omega arith in
    let left : room_at arcs a ≡ room_at arcs a - amount + amount = omega arith in
    let split_u = ap (λ x. only_at u x w) left ∙ only_sum u (room_at arcs a - amount) amount w in
    let at_back = ap (λ t. only_at t back w) from in
    let at_more = ap (λ t. only_at t more w) from ∙ ap (λ x. only_at v x w) full ∙ only_sum v back amount w in
    omega arith

pushed_pairs : (arcs : List Arc) (a amount : ℕ) → length arcs % 2 ≡ 0 → a < length arcs → AreBounded arcs → amount ≤ room_at arcs a → (b : ℕ) → room_at (pushed arcs a amount) b + room_at (pushed arcs a amount) (reverse_of b) ≡ room_at arcs b + room_at arcs (reverse_of b)
pushed_pairs arcs a amount even h bounded fits b =
    let new = pushed arcs a amount in
    let bound = bounded a in
    let less = room_along arcs a amount h in
    let more = room_back arcs a amount even h in
    let sum : room_at new a + room_at new (reverse_of a) ≡ room_at arcs a + room_at arcs (reverse_of a) = omega arith in
    ⊎_elim (λ (e : b ≡ a). subst (λ x. room_at new x + room_at new (reverse_of x) ≡ room_at arcs x + room_at arcs (reverse_of x)) (sym e) sum)
    (λ (ne : b ≢ a).
    ⊎_elim
    (λ (e : b ≡ reverse_of a).
    let back : reverse_of b ≡ a = omega arith in
    let at = ap (room_at new) e in
    let at_back = ap (room_at new) back in
    let was = ap (room_at arcs) e in
    let was_back = ap (room_at arcs) back in
    omega arith)
    (λ (nr : b ≢ reverse_of a).
    let at = room_apart arcs a b amount ne nr in
    let back = room_apart arcs a (reverse_of b) amount (λ e. nr (omega arith)) (λ e. ne (omega arith)) in
    omega arith)
    (cases_eq b (reverse_of a)))
    (cases_eq b a)

pub flow_starts : (arcs : List Arc) (source u amount : ℕ) → source ≡ u → IsFlowTo arcs arcs source u amount
flow_starts arcs source u amount e = subst (λ x. IsFlowTo arcs arcs source x amount) e (record { pairs = λ a. refl; moved = λ w. refl })

pub flow_next : (before now after : List Arc) (source a amount u : ℕ) → length now % 2 ≡ 0 → a < length now → AreBounded now → amount ≤ room_at now a → after ≡ pushed now a amount → IsFlowTo before now source (tail_of now a) amount → head_of now a ≡ u → IsFlowTo before after source u amount
flow_next before now after source a amount u even h bounded fits is flow head =
    let new = pushed now a amount in
    let made : IsFlowTo before new source (head_of now a) amount = record {
      pairs = λ b. pushed_pairs now a amount even h bounded fits b ∙ flow.pairs b;
      moved = λ w.
          let step = pushed_moves now a amount w even h bounded fits in
          let was = flow.moved w in
          omega arith;
    } in
    subst (λ xs. IsFlowTo before xs source u amount) (sym is) (subst (λ x. IsFlowTo before new source x amount) head made)

pub flow_done : (before after : List Arc) (source sink amount : ℕ) → HaveEnds before after → IsFlowTo before after source sink amount → IsFlow before after source sink
flow_done before after source sink amount ends flow = record {
  ends = ends;
  pairs = flow.pairs;
  kept = λ v not_source not_sink.
      let moved = flow.moved v in
      let one = only_other source amount v (λ e. not_source (sym e)) in
      let two = only_other sink amount v (λ e. not_sink (sym e)) in
      omega arith;
}

pub no_flow : (arcs : List Arc) (source sink : ℕ) → IsFlow arcs arcs source sink
no_flow arcs source sink = record { ends = record { count = refl; head = λ a. refl; next = λ a. refl }; pairs = λ a. refl; kept = λ v s t. refl }

pub flow_on : (a b c : List Arc) (source sink : ℕ) → IsFlow a b source sink → IsFlow b c source sink → IsFlow a c source sink
flow_on a b c source sink one two = record {
  ends = ends_on a b c one.ends two.ends;
  pairs = λ x. two.pairs x ∙ one.pairs x;
  kept = λ v s t. two.kept v s t ∙ one.kept v s t;
}

-- the same, where the source and the sink of the second go by other names
pub flow_with : (a b c : List Arc) (source sink source' sink' : ℕ) → source' ≡ source → sink' ≡ sink → IsFlow a b source sink → IsFlow b c source' sink' → IsFlow a c source sink
flow_with a b c source sink source' sink' at_source at_sink one two =
    flow_on a b c source sink one (subst (λ s. IsFlow b c s sink) at_source (subst (λ t. IsFlow b c source' t) at_sink two))

-- a path that has come to the source is a way
pub is_way : (arcs : List Arc) (levels current path : List ℕ) (source sink top : ℕ) → IsPath arcs levels current path sink source 1 top → 1 < top → IsWay arcs path source sink top
is_way arcs levels current path source sink top p some = record {
  inside = λ j from below. let on = p.each j from below in on.inside;
  begins = p.begins some;
  linked = p.linked;
  ends = p.ends;
  apart = one_way arcs levels current path sink source top p;
  once = λ i j from lt below e.
      let one = p.each i from (omega arith) in
      let two = p.each j (omega arith) below in
      let tail = ap (λ x. get_or levels (tail_of arcs x) 0) e in
      let one_from = one.from in
      let two_from = two.from in
      absurd (omega arith);
}
