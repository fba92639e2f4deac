use Rattle.std.proofs.Common.{◌≡◌, ◌≢◌, ℕ, ◌+◌, ◌<◌, List, [], ◌∷◌, ◌++◌, cond, eqb, Contains, length, get_or, set, sum_by, sym, refl, ap, subst, ◌∙◌, ⊎_elim, arith, get_or-set_other, get_or-set_same}
use Rattle.std.proofs.lemmas.List.{length-set}
use Rattle.std.proofs.lemmas.List.Elements.{All-push, All-same, Contains-append_left, Contains-push}
use Rattle.std.proofs.lemmas.List.Sums.{sum_by_push}
use Rattle.std.proofs.lemmas.Bool.{cases_eq, cases_lt, eq-eqb, ne_eqb, cond-true, cond-false}
use Rattle.plan_checker.specs.declared.vertex.Vertex.{Vertex}
use Rattle.plan_checker.specs.declared.child.Child.{Child}
use Rattle.plan_checker.specs.declared.charges.Charges.{Charges}
use Rattle.plan_checker.specs.Sums.{sum_below}
use Rattle.plan_checker.specs.Graph.{IsChild, vertex}
use Rattle.plan_checker.specs.Charges.{passes, passed_to}
use Rattle.plan_checker.specs.inner.Children.{amount_from, AreChildrenBelow, AddsChild}
use Rattle.plan_checker.proofs.SumsBelow.{sum_below_more}

-- the lists after a child was put at the end of one of them
list_at : (cur new : List (List Child)) (p : ℕ) (y : Child) → p < length cur → new ≡ set cur p (get_or cur p [] ++ y ∷ []) → get_or new p [] ≡ get_or cur p [] ++ y ∷ []
list_at cur new p y h e = ap (λ lists. get_or lists p []) e ∙ get_or-set_same cur p (get_or cur p [] ++ y ∷ []) [] h

list_beside : (cur new : List (List Child)) (p q : ℕ) (y : Child) → q ≢ p → new ≡ set cur p (get_or cur p [] ++ y ∷ []) → get_or new q [] ≡ get_or cur q []
list_beside cur new p q y ne e = ap (λ lists. get_or lists q []) e ∙ get_or-set_other cur p q (get_or cur p [] ++ y ∷ []) [] ne

sum_at_parent : (old cur new : List (List Child)) (child : ℕ) (parents : List ℕ) (k : ℕ) (charges : Charges) → k < length parents → get_or parents k 0 < length cur → AddsChild old cur child parents k → new ≡ set cur (get_or parents k 0) (get_or cur (get_or parents k 0) [] ++ record { vertex = child; place = k } ∷ []) → sum_by (amount_from charges) (get_or new (get_or parents k 0) []) ≡ sum_by (amount_from charges) (get_or old (get_or parents k 0) []) + sum_below (k + 1) (λ j. cond (eqb (get_or parents j 0) (get_or parents k 0)) (get_or (passes charges child) j 0) 0)
sum_at_parent old cur new child parents k charges there within done e =
    let p : ℕ = get_or parents k 0 in
    let y : Child = record { vertex = child; place = k } in
    let count = done.one_each in
    let before = done.sums charges p (omega arith) in
    let more = sum_below_more k (λ j. cond (eqb (get_or parents j 0) p) (get_or (passes charges child) j 0) 0) in
    let now : sum_by (amount_from charges) (get_or new p []) ≡ sum_by (amount_from charges) (get_or cur p [] ++ y ∷ []) = ap (sum_by (amount_from charges)) (list_at cur new p y within e) in
    let push = sum_by_push (amount_from charges) (get_or cur p []) y in
    let term = cond-true (eqb p p) (get_or (passes charges child) k 0) 0 (eq-eqb p p refl) in
    omega arith

-- what was in a list stays there
stays_one : (cur new : List (List Child)) (p q : ℕ) (y one : Child) → p < length cur → new ≡ set cur p (get_or cur p [] ++ y ∷ []) → Contains (get_or cur q []) one → Contains (get_or new q []) one
stays_one cur new p q y one h e inside =
    let Has : List Child → Type 0 = λ xs. Contains xs one in
    let P : ℕ → Type 0 = λ q. Has (get_or cur q []) → Has (get_or new q []) in
    ⊎_elim
    (λ eq. subst P (sym eq) (λ was. subst Has (sym (list_at cur new p y h e)) (Contains-append_left (get_or cur p []) (y ∷ []) one was)) inside)
    (λ ne. subst Has (sym (list_beside cur new p q y ne e)) inside)
    (cases_eq q p)

pub adds_one : (old cur new : List (List Child)) (child : ℕ) (parents : List ℕ) (k : ℕ) → k < length parents → get_or parents k 0 < length cur → AddsChild old cur child parents k → new ≡ set cur (get_or parents k 0) (get_or cur (get_or parents k 0) [] ++ record { vertex = child; place = k } ∷ []) → AddsChild old new child parents (k + 1)
adds_one old cur new child parents k there within done e =
    let p : ℕ = get_or parents k 0 in
    let y : Child = record { vertex = child; place = k } in
    record {
      one_each = ap length e ∙ length-set cur p (get_or cur p [] ++ y ∷ []) ∙ done.one_each;
      there = λ graph below same was q.
          let before = done.there graph below same was q in
          let count = ap length same in
          let here : IsChild graph p y = record { numbered = below; placed = omega arith; of = ap (λ ps. get_or ps k 0) (sym same) } in
          ⊎_elim
          (λ eq. rw eq (All-same (IsChild graph p) (get_or new p []) (get_or cur p [] ++ y ∷ []) (list_at cur new p y within e) (All-push (IsChild graph p) (get_or cur p []) y (done.there graph below same was p) here)))
          (λ ne. All-same (IsChild graph q) (get_or new q []) (get_or cur q []) (list_beside cur new p q y ne e) before)
          (cases_eq q p);
      stays = λ q one inside. stays_one cur new p q y one within e (done.stays q one inside);
      listed = λ j hj.
          let Has : List Child → Type 0 = λ xs. Contains xs y in
          let P : ℕ → Type 0 = λ j. Contains (get_or new (get_or parents j 0) []) (record { vertex = child; place = j }) in
          ⊎_elim
          (λ lt. stays_one cur new p (get_or parents j 0) y (record { vertex = child; place = j }) within e (done.listed j lt))
          (λ le. let eq : k ≡ j = omega arith in subst P eq (subst Has (sym (list_at cur new p y within e)) (Contains-push (get_or cur p []) y)))
          (cases_lt j k);
      sums = λ charges q below.
          let before = done.sums charges q below in
          let more = sum_below_more k (λ k. cond (eqb (get_or parents k 0) q) (get_or (passes charges child) k 0) 0) in
          ⊎_elim
          (λ eq. rw eq (sum_at_parent old cur new child parents k charges there within done e))
          (λ ne.
          let now : sum_by (amount_from charges) (get_or new q []) ≡ sum_by (amount_from charges) (get_or cur q []) = ap (sum_by (amount_from charges)) (list_beside cur new p q y ne e) in
          let term = cond-false (eqb p q) (get_or (passes charges child) k 0) 0 (ne_eqb p q (λ eq. ne (sym eq))) in
          omega arith)
          (cases_eq q p);
    }

pub same_parents : (old new : List (List Child)) (child : ℕ) (ps qs : List ℕ) → ps ≡ qs → AddsChild old new child ps (length ps) → AddsChild old new child qs (length qs)
same_parents old new child ps qs e adds = let P : List ℕ → Type 0 = λ ps. AddsChild old new child ps (length ps) in subst P e adds

-- one more vertex, whose parents have been gone through
pub one_more_child : (graph : List Vertex) (cur new : List (List Child)) (i : ℕ) → i < length graph → AreChildrenBelow graph cur i → AddsChild cur new i (vertex graph i).parents (length (vertex graph i).parents) → AreChildrenBelow graph new (i + 1)
one_more_child graph cur new i h done adds = record {
  one_each = adds.one_each ∙ done.one_each;
  there = adds.there graph h refl done.there;
  listed = λ j k hj hk.
      let P : ℕ → Type 0 = λ j. k < length (vertex graph j).parents → Contains (get_or new (get_or (vertex graph j).parents k 0) []) (record { vertex = j; place = k }) in
      ⊎_elim
      (λ lt. adds.stays (get_or (vertex graph j).parents k 0) (record { vertex = j; place = k }) (done.listed j k lt hk))
      (λ le. let eq : i ≡ j = omega arith in subst P eq (λ within. adds.listed k within) hk)
      (cases_lt j i);
  sums = λ charges p below.
      let before = done.sums charges p below in
      let count = done.one_each in
      let now = adds.sums charges p (omega arith) in
      let more = sum_below_more i (λ i. passed_to p (vertex graph i).parents (passes charges i)) in
      now ∙ (omega arith);
}
