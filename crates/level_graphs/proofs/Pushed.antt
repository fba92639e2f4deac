-- What a push along an arc changes: rooms alone.
use Rattle.std.proofs.Common.{◌≡◌, ◌≢◌, ℕ, ◌+◌, ◌-◌, ◌%◌, ◌^◌, min, ◌<◌, List, length, get_or, set, sym, ap, ◌∙◌, subst, ⊎_elim, arith}
use Rattle.std.proofs.lemmas.Bool.{cases_eq}
use Rattle.std.proofs.lemmas.List.{get_or-set_same, get_or-set_other, length-set}
use Rattle.level_graphs.specs.declared.network.Arc.{Arc}
use Rattle.level_graphs.specs.Arcs.{no_arc, arc_at, reverse_of, tail_of, head_of, room_at, with_room, pushed, HaveEnds, IsLastBelow, AreListed}

pub room_written : (arcs : List Arc) (a room : ℕ) → a < length arcs → room_at (with_room arcs a room) a ≡ room
room_written arcs a room h = ap (λ (x : Arc). x.room) (get_or-set_same arcs a (record { to = head_of arcs a; room = room; next = (arc_at arcs a).next }) no_arc h)

pub room_kept : (arcs : List Arc) (a b room : ℕ) → b ≢ a → room_at (with_room arcs a room) b ≡ room_at arcs b
room_kept arcs a b room ne = ap (λ (x : Arc). x.room) (get_or-set_other arcs a b (record { to = head_of arcs a; room = room; next = (arc_at arcs a).next }) no_arc ne)

pub ends_with_room : (arcs : List Arc) (a room : ℕ) → a < length arcs → HaveEnds arcs (with_room arcs a room)
ends_with_room arcs a room h =
    let x : Arc = record { to = head_of arcs a; room = room; next = (arc_at arcs a).next } in
    let new = set arcs a x in
    let here = get_or-set_same arcs a x no_arc h in
    record {
      count = length-set arcs a x;
      head = λ b.
          ⊎_elim (λ (e : b ≡ a). ap (head_of new) e ∙ ap (λ (y : Arc). y.to) here ∙ ap (head_of arcs) (sym e))
          (λ ne. ap (λ (y : Arc). y.to) (get_or-set_other arcs a b x no_arc ne)) (cases_eq b a);
      next = λ b.
          ⊎_elim
          (λ (e : b ≡ a). ap (λ c. (arc_at new c).next) e ∙ ap (λ (y : Arc). y.next) here ∙ ap (λ c. (arc_at arcs c).next) (sym e))
          (λ ne. ap (λ (y : Arc). y.next) (get_or-set_other arcs a b x no_arc ne)) (cases_eq b a);
    }

pub ends_on : (a b c : List Arc) → HaveEnds a b → HaveEnds b c → HaveEnds a c
ends_on a b c one two = record {
  count = two.count ∙ one.count;
  head = λ x. two.head x ∙ one.head x;
  next = λ x. two.next x ∙ one.next x;
}

pub reverse_in : (arcs : List Arc) (a : ℕ) → length arcs % 2 ≡ 0 → a < length arcs → reverse_of a < length arcs
reverse_in arcs a even h = omega arith

pub ends_pushed : (arcs : List Arc) (a amount : ℕ) → length arcs % 2 ≡ 0 → a < length arcs → HaveEnds arcs (pushed arcs a amount)
ends_pushed arcs a amount even h =
    let less = with_room arcs a (room_at arcs a - amount) in
    let first = ends_with_room arcs a (room_at arcs a - amount) h in
    let count = first.count in
    let inside : reverse_of a < length less = omega arith in
    ends_on arcs less (pushed arcs a amount) first (ends_with_room less (reverse_of a) (min (room_at less (reverse_of a) + amount) (2 ^ 64 - 1)) inside)

-- lists of arcs go by their ends alone
last_stays : (before after : List Arc) (node top number : ℕ) → HaveEnds before after → IsLastBelow before node top number → IsLastBelow after node top number
last_stays before after node top number same is = record {
  within = is.within;
  leaves = λ some. same.head (reverse_of (number - 1)) ∙ is.leaves some;
  none = λ a low below tail. is.none a low below (sym (same.head (reverse_of a)) ∙ tail);
}

pub listed_stays : (before after : List Arc) (last : List ℕ) → HaveEnds before after → AreListed before last → AreListed after last
listed_stays before after last same old =
    let count = same.count in
    let paired = old.paired in
    record {
      paired = omega arith;
      heads = λ a h. subst (λ x. x < length last) (sym (same.head a)) (old.heads a (omega arith));
      lasts = λ u h.
          let was = last_stays before after u (length before) (get_or last u 0) same (old.lasts u h) in
          subst (λ t. IsLastBelow after u t (get_or last u 0)) (sym count) was;
      nexts = λ a h.
          let was = last_stays before after (tail_of before a) a (arc_at before a).next same (old.nexts a (omega arith)) in
          subst (λ u. IsLastBelow after u a (arc_at after a).next) (sym (same.head (reverse_of a)))
          (subst (λ k. IsLastBelow after (tail_of before a) a k) (sym (same.next a)) was);
    }

pub apart_stays : (before after : List Arc) (source sink : ℕ) → HaveEnds before after → ((a : ℕ) → a < length before → tail_of before a ≡ source → head_of before a ≢ sink) → (a : ℕ) → a < length after → tail_of after a ≡ source → head_of after a ≢ sink
apart_stays before after source sink same apart a h tail head =
    let count = same.count in
    apart a (omega arith) (sym (same.head (reverse_of a)) ∙ tail) (sym (same.head a) ∙ head)

-- what two writes leave, in a push
pub pushed_is : (arcs : List Arc) (a back amount less more : ℕ) (held second : Arc) → held ≡ arc_at arcs a → less ≡ held.room - amount → back ≡ reverse_of a → second ≡ arc_at (set arcs a (record { to = held.to; room = less; next = held.next })) back → more ≡ min (second.room + amount) (2 ^ 64 - 1) → set (set arcs a (record { to = held.to; room = less; next = held.next })) back (record { to = second.to; room = more; next = second.next }) ≡ pushed arcs a amount
pushed_is arcs a back amount less more held second held_is less_is back_is second_is more_is =
    let made : ℕ → ℕ → ℕ → Arc = λ t r n. record { to = t; room = r; next = n } in
    let top = λ (s : ℕ). min (s + amount) (2 ^ 64 - 1) in
    let room : less ≡ room_at arcs a - amount = less_is ∙ ap (λ (h : Arc). h.room - amount) held_is in
    let x_is = ap (λ (h : Arc). made h.to less h.next) held_is ∙ ap (λ r. made (head_of arcs a) r (arc_at arcs a).next) room in
    let first = ap (λ (x : Arc). set arcs a x) x_is in
    let low = with_room arcs a (room_at arcs a - amount) in
    let at = second_is ∙ ap (λ (xs : List Arc). arc_at xs back) first ∙ ap (λ k. arc_at low k) back_is in
    let y_is = ap (λ (h : Arc). made h.to more h.next) at ∙ ap (λ r. made (head_of low (reverse_of a)) r (arc_at low (reverse_of a)).next) (more_is ∙ ap (λ (h : Arc). top h.room) at) in
    let y = made second.to more second.next in
    ap (λ (xs : List Arc). set xs back y) first ∙ ap (λ k. set low k y) back_is ∙ ap (λ (z : Arc). set low (reverse_of a) z) y_is

-- a push along an arc takes the amount from its room, and adds it to that of its reverse
pub room_along : (arcs : List Arc) (a amount : ℕ) → a < length arcs → room_at (pushed arcs a amount) a ≡ room_at arcs a - amount
room_along arcs a amount h =
    let less = with_room arcs a (room_at arcs a - amount) in
    room_kept less (reverse_of a) a (min (room_at less (reverse_of a) + amount) (2 ^ 64 - 1)) (λ e. absurd (omega arith)) ∙ room_written arcs a (room_at arcs a - amount) h

pub room_back : (arcs : List Arc) (a amount : ℕ) → length arcs % 2 ≡ 0 → a < length arcs → room_at (pushed arcs a amount) (reverse_of a) ≡ min (room_at arcs (reverse_of a) + amount) (2 ^ 64 - 1)
room_back arcs a amount even h =
    let less = with_room arcs a (room_at arcs a - amount) in
    let first = ends_with_room arcs a (room_at arcs a - amount) h in
    let count = first.count in
    let same = room_kept arcs a (reverse_of a) (room_at arcs a - amount) (λ e. absurd (omega arith)) in
    room_written less (reverse_of a) (min (room_at less (reverse_of a) + amount) (2 ^ 64 - 1)) (omega arith) ∙ ap (λ r. min (r + amount) (2 ^ 64 - 1)) same

pub room_apart : (arcs : List Arc) (a b amount : ℕ) → b ≢ a → b ≢ reverse_of a → room_at (pushed arcs a amount) b ≡ room_at arcs b
room_apart arcs a b amount ne nr =
    let less = with_room arcs a (room_at arcs a - amount) in
    room_kept less (reverse_of a) b (min (room_at less (reverse_of a) + amount) (2 ^ 64 - 1)) nr ∙ room_kept arcs a b (room_at arcs a - amount) ne

-- what two arcs beside one another have stays within a number
abbrev pub AreBounded : List Arc → Type 0
AreBounded arcs = (a : ℕ) → room_at arcs a + room_at arcs (reverse_of a) < 2 ^ 64

pub bounded_pushed : (arcs : List Arc) (a amount : ℕ) → length arcs % 2 ≡ 0 → a < length arcs → AreBounded arcs → AreBounded (pushed arcs a amount)
bounded_pushed arcs a amount even h old b =
    let new = pushed arcs a amount in
    let here = old a in
    let less = room_along arcs a amount h in
    let more = room_back arcs a amount even h in
    let sum : room_at new a + room_at new (reverse_of a) < 2 ^ 64 = omega arith in
    ⊎_elim (λ (e : b ≡ a). subst (λ x. room_at new x + room_at new (reverse_of x) < 2 ^ 64) (sym e) sum)
    (λ (ne : b ≢ a).
    ⊎_elim
    (λ (e : b ≡ reverse_of a).
    let twice : reverse_of b ≡ a = omega arith in
    let at = ap (room_at new) e in
    let back = ap (room_at new) twice in
    omega arith)
    (λ (nr : b ≢ reverse_of a).
    let was = old b in
    let at = room_apart arcs a b amount ne nr in
    let back = room_apart arcs a (reverse_of b) amount (λ e. nr (omega arith)) (λ e. ne (omega arith)) in
    omega arith)
    (cases_eq b (reverse_of a)))
    (cases_eq b a)
