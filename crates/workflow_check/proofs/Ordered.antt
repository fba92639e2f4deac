-- Steps of which none is left after some rounds have an order: that of the rounds in which they go.
use Rattle.std.proofs.Common.{◌≡◌, ◌<◌, ◌⊎◌, ℕ, zero, suc, Bool, true, false, List, [], ◌∷◌, length, ap, sym, refl, subst, arith, inl, inr}
use Rattle.std.specs.Prelude.{◌||◌, Option, Some, None, cond}
use Rattle.std.specs.List.{list_any}
use Rattle.std.specs.Str.{bytes_eq}
use Rattle.std.proofs.lemmas.Slice.Eq.{bytes_eq-Decides}
use Rattle.cwl_process.specs.declared.links.Source.{Source}
use Rattle.document_links.specs.declared.process.Step.{Step, out-Step}
use Rattle.workflow_check.specs.Order.{is_cyclic, is_of, is_some_left, leads_to, left_after, some_lead, still_waiting, waits_for}
use Rattle.workflow_check.specs.Scope.{Named}
use Rattle.workflow_check.specs.Sound.{HasOrder, IsIn, is_fed_by, is_named, one_named}
use Rattle.workflow_check.proofs.Closed.{kept}

-- the round in which the step of that id goes
rank_at : ℕ → Named Step → List ℕ → ℕ
rank_at zero steps id = 0
rank_at (suc n) steps id = cond (is_of (still_waiting steps) id) (suc (rank_at n (still_waiting steps) id)) 0

-- ---- tests of elements

pub either : (a b : Bool) → (a || b) ≡ true → (a ≡ true) ⊎ (b ≡ true)
either true b is = inl refl
either false b is = inr is

pub left_true : (a b : Bool) → a ≡ true → (a || b) ≡ true
left_true a b is = ap (λ c. c || b) is

pub right_true : (a b : Bool) → b ≡ true → (a || b) ≡ true
right_true true b is = refl
right_true false b is = is

-- where one test passes another does
pub more : {X : Type 0} (p q : X → Bool) → ((x : X) → p x ≡ true → q x ≡ true) → (xs : List X) → list_any p xs ≡ true → list_any q xs ≡ true
more p q wider [] is = is
more p q wider (x ∷ xs) is =
    elim (either (p x) (list_any p xs) is) as (λ _. list_any q (x ∷ xs) ≡ true)
    [ inl here ↦ left_true (q x) (list_any q xs) (wider x here) | inr rest ↦ right_true (q x) (list_any q xs) (more p q wider xs rest) ]

pub has_id : (e : List ℕ × Step) (steps : Named Step) → IsIn e steps → is_of steps e.0 ≡ true
has_id e [] at = absurd at
has_id e (f ∷ fs) (inl same) = left_true (bytes_eq f.0 e.0) (is_of fs e.0) ((bytes_eq-Decides f.0 e.0).1 (ap (λ x. x.0) (sym same)))
has_id e (f ∷ fs) (inr rest) = right_true (bytes_eq f.0 e.0) (is_of fs e.0) (has_id e fs rest)

-- ---- a step whose source names one of these waits

module _ (steps : Named Step) (id : List ℕ) (at : is_of steps id ≡ true) where
  leads : (step : Option (List ℕ)) → is_named id step ≡ true → leads_to steps step ≡ true
  leads None is = absurd (cc)
  leads (Some other) is = subst (λ x. is_of steps x ≡ true) ((bytes_eq-Decides id other).0 is) at

  some_leads : (sources : Option (List Source)) → one_named id sources ≡ true → some_lead steps sources ≡ true
  some_leads None is = is
  some_leads (Some sources) is = more (λ s. is_named id s.step) (λ s. leads_to steps s.step) (λ s. leads s.step) sources is

  waits : (e : List ℕ × Step) → is_fed_by id e ≡ true → waits_for steps e ≡ true
  waits e is = more (λ i. one_named id i.1.links.sources) (λ i. some_lead steps i.1.links.sources) (λ i. some_leads i.1.links.sources) (out-Step e.1).inputs is

-- ---- the rounds

none_in : (e : List ℕ × Step) (steps : Named Step) → is_some_left steps ≡ false → IsIn e steps → ⊥
none_in e [] none at = at
none_in e (f ∷ fs) none at = cc

first_of_two : (c : Bool) (a b : ℕ) → (c ≡ true → a < b) → cond c (suc a) 0 < suc b
first_of_two true a b less = let here : a < b = less refl in omega arith
first_of_two false a b less = omega arith

ranked : (n : ℕ) (steps : Named Step) → is_some_left (left_after n steps) ≡ false → (e : List ℕ × Step) (id : List ℕ)
    → IsIn e steps → is_of steps id ≡ true → is_fed_by id e ≡ true → rank_at n steps id < rank_at n steps e.0
unfolding rank_at
ranked zero steps none e id at there fed = absurd (none_in e steps none at)
ranked (suc n) steps none e id at there fed =
    let next = still_waiting steps in
    let stays : IsIn e next = kept (waits_for steps) e steps (waits steps id there e fed) at in
    subst (λ c. rank_at (suc n) steps id < cond c (suc (rank_at n next e.0)) 0) (sym (has_id e next stays))
    (first_of_two (is_of next id) (rank_at n next id) (rank_at n next e.0) (λ again. ranked n next none e id stays again fed))

pub order : (steps : Named Step) → is_cyclic steps ≡ false → HasOrder steps
order steps none = (rank_at (length steps) steps, λ e id at there fed. ranked (length steps) steps none e id at there fed)
