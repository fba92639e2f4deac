-- Which steps are open within as many links as there are steps: all that are open.
use Rattle.std.proofs.Common.{◌≡◌, ◌⊎◌, inl, inr, ⊎_elim, ℕ, zero, suc, ◌<◌, ◌≤◌, ◌∙◌, ◌&&◌, ◌||◌, Bool, true, false, not, List, [], ◌∷◌, Some, ap, arith, length, map, refl, slice_get, subst}
use Rattle.std.specs.List.{list_any}
use Rattle.std.proofs.lemmas.Bool.{and_from, false≢true, not-true, or_cases}
use Rattle.std.proofs.lemmas.List.{length-map}
use Rattle.std.proofs.lemmas.List.Folds.{Any-from_list_any, list_any-from_Any}
use Rattle.plan_waits.specs.Waiting.{IsOpen, OpenStepsAreOpen, has_open, is_open, open_at, open_within, reads_open, waits}
use Rattle.plan_waits.specs.declared.waiting.Standing.{Standing}

-- what a step of a number is said to be
flag_of : (f : Standing → Bool) (steps : List Standing) (i : ℕ) → open_at (map f steps) i ≡ true → (step : Standing) × (slice_get steps i ≡ Some step) × (f step ≡ true)
flag_of f [] i said = absurd (false≢true said)
flag_of f (step ∷ steps) zero said = (step, refl, said)
flag_of f (step ∷ steps) (suc i) said = flag_of f steps i said

flag_is : (f : Standing → Bool) (steps : List Standing) (i : ℕ) (step : Standing) → slice_get steps i ≡ Some step → f step ≡ true → open_at (map f steps) i ≡ true
flag_is f [] i step there is = cc
flag_is f (first ∷ steps) zero step there is = let same : first ≡ step = cc in ap f same ∙ is
flag_is f (first ∷ steps) (suc i) step there is = flag_is f steps i step there is

both_true : (x y : Bool) → (x && y) ≡ true → (x ≡ true) × (y ≡ true)
both_true true y both = (refl, both)
both_true false y both = absurd (false≢true both)

left_true : (x y : Bool) → x ≡ true → (x || y) ≡ true
left_true true y is = refl
left_true false y is = absurd (false≢true is)

right_true : (x y : Bool) → y ≡ true → (x || y) ≡ true
right_true true y is = refl
right_true false y is = is

-- ---- what is open within some links is open

module _ (steps : List Standing) where
  reads_one : (k i : ℕ) (step : Standing) → ((read : ℕ) → open_at (open_within k steps) read ≡ true → IsOpen steps read)
      → slice_get steps i ≡ Some step → waits (open_within k steps) step ≡ true → IsOpen steps i
  reads_one k i step so there waiting =
      let parts = both_true (not step.is_known) (list_any (open_at (open_within k steps)) step.reads) waiting in
      let one = Any-from_list_any (open_at (open_within k steps)) step.reads parts.1 in
      reads_open step one.1 there (not-true step.is_known parts.0) (one.0, one.2, one.3) (so one.1 one.4)

  opened : (k i : ℕ) → open_at (open_within k steps) i ≡ true → IsOpen steps i
  opened zero i said =
      let found = flag_of (λ s. s.is_open) steps i said in
      has_open found.0 found.1 found.2
  opened (suc k) i said =
      let found = flag_of (is_open (open_within k steps)) steps i said in
      ⊎_elim
      (λ (has : found.0.is_open ≡ true). has_open found.0 found.1 has)
      (λ (waiting : waits (open_within k steps) found.0 ≡ true). reads_one k i found.0 (opened k) found.1 waiting)
      (or_cases found.0.is_open (waits (open_within k steps) found.0) found.2)

  -- ---- what is open is so within n links, where one link more gives nothing new

  module _ (n : ℕ) (same : open_within (suc n) steps ≡ open_within n steps) where
    here : (i : ℕ) (step : Standing) → slice_get steps i ≡ Some step → is_open (open_within n steps) step ≡ true → open_at (open_within n steps) i ≡ true
    here i step there is = subst (λ (flags : List Bool). open_at flags i ≡ true) same (flag_is (is_open (open_within n steps)) steps i step there is)

    found_open : (i : ℕ) → IsOpen steps i → open_at (open_within n steps) i ≡ true
    found_open i (has_open step there has) = here i step there (left_true step.is_open (waits (open_within n steps) step) has)
    found_open i (reads_open step read there unknown contained opens) =
        let one : list_any (open_at (open_within n steps)) step.reads ≡ true =
        list_any-from_Any (open_at (open_within n steps)) step.reads (contained.0, read, contained.1, contained.2, found_open read opens) in
        let waiting : waits (open_within n steps) step ≡ true = rw (unknown) one in
        here i step there (right_true step.is_open (waits (open_within n steps) step) waiting)

-- ---- within as many links as there are steps nothing new is left

abbrev trues : List Bool → ℕ
trues [] = 0
trues (true ∷ flags) = suc (trues flags)
trues (false ∷ flags) = trues flags

trues-le-length : (flags : List Bool) → trues flags ≤ length flags
trues-le-length [] = omega arith
trues-le-length (true ∷ flags) = let rest = trues-le-length flags in omega arith
trues-le-length (false ∷ flags) = let rest = trues-le-length flags in omega arith

-- each flag that is there stays
abbrev Stays : List Bool → List Bool → Type 0
Stays [] [] = Unit {0}
Stays [] (g ∷ gs) = ⊥
Stays (f ∷ fs) [] = ⊥
Stays (f ∷ fs) (g ∷ gs) = (f ≡ true → g ≡ true) × Stays fs gs

stays_map : (f g : Standing → Bool) (steps : List Standing) → ((s : Standing) → f s ≡ true → g s ≡ true) → Stays (map f steps) (map g steps)
stays_map f g [] more = tt
stays_map f g (s ∷ steps) more = (more s, stays_map f g steps more)

stays_at : (fs gs : List Bool) → Stays fs gs → (i : ℕ) → open_at fs i ≡ true → open_at gs i ≡ true
stays_at [] [] stay i is = is
stays_at [] (g ∷ gs) stay i is = absurd stay
stays_at (f ∷ fs) [] stay i is = absurd stay
stays_at (f ∷ fs) (g ∷ gs) stay zero is = stay.0 is
stays_at (f ∷ fs) (g ∷ gs) stay (suc i) is = stays_at fs gs stay.1 i is

fewer : (fs gs : List Bool) → Stays fs gs → trues fs ≤ trues gs
fewer [] [] stay = omega arith
fewer [] (g ∷ gs) stay = absurd stay
fewer (f ∷ fs) [] stay = absurd stay
fewer (true ∷ fs) (true ∷ gs) stay = let rest = fewer fs gs stay.1 in omega arith
fewer (true ∷ fs) (false ∷ gs) stay = absurd (false≢true (stay.0 refl))
fewer (false ∷ fs) (true ∷ gs) stay = let rest = fewer fs gs stay.1 in omega arith
fewer (false ∷ fs) (false ∷ gs) stay = fewer fs gs stay.1

same_or_more : (fs gs : List Bool) → Stays fs gs → (gs ≡ fs) ⊎ (trues fs < trues gs)
same_or_more [] [] stay = inl refl
same_or_more [] (g ∷ gs) stay = absurd stay
same_or_more (f ∷ fs) [] stay = absurd stay
same_or_more (true ∷ fs) (true ∷ gs) stay =
    ⊎_elim (λ (same : gs ≡ fs). inl (ap (λ l. true ∷ l) same)) (λ (more : trues fs < trues gs). inr (omega arith)) (same_or_more fs gs stay.1)
same_or_more (true ∷ fs) (false ∷ gs) stay = absurd (false≢true (stay.0 refl))
same_or_more (false ∷ fs) (true ∷ gs) stay = let rest = fewer fs gs stay.1 in inr (omega arith)
same_or_more (false ∷ fs) (false ∷ gs) stay =
    ⊎_elim (λ (same : gs ≡ fs). inl (ap (λ l. false ∷ l) same)) (λ (more : trues fs < trues gs). inr (omega arith)) (same_or_more fs gs stay.1)

any_more : (fs gs : List Bool) → Stays fs gs → (reads : List ℕ) → list_any (open_at fs) reads ≡ true → list_any (open_at gs) reads ≡ true
any_more fs gs stay reads one =
    let found = Any-from_list_any (open_at fs) reads one in
    list_any-from_Any (open_at gs) reads (found.0, found.1, found.2, found.3, stays_at fs gs stay found.1 found.4)

waits_more : (fs gs : List Bool) → Stays fs gs → (s : Standing) → waits fs s ≡ true → waits gs s ≡ true
waits_more fs gs stay s waiting =
    let parts = both_true (not s.is_known) (list_any (open_at fs) s.reads) waiting in
    and_from (not s.is_known) (list_any (open_at gs) s.reads) parts.0 (any_more fs gs stay s.reads parts.1)

open_more : (fs gs : List Bool) → Stays fs gs → (s : Standing) → is_open fs s ≡ true → is_open gs s ≡ true
open_more fs gs stay s is =
    ⊎_elim
    (λ (has : s.is_open ≡ true). left_true s.is_open (waits gs s) has)
    (λ (waiting : waits fs s ≡ true). right_true s.is_open (waits gs s) (waits_more fs gs stay s waiting))
    (or_cases s.is_open (waits fs s) is)

module _ (steps : List Standing) where
  link_stays : (k : ℕ) → Stays (open_within k steps) (open_within (suc k) steps)
  link_stays zero = stays_map (λ s. s.is_open) (is_open (open_within 0 steps)) steps (λ s is. left_true s.is_open (waits (open_within 0 steps) s) is)
  link_stays (suc k) =
      stays_map (is_open (open_within k steps)) (is_open (open_within (suc k) steps)) steps
      (open_more (open_within k steps) (open_within (suc k) steps) (link_stays k))

  one_link_more : (k : ℕ) → open_within (suc k) steps ≡ open_within k steps → open_within (suc (suc k)) steps ≡ open_within (suc k) steps
  one_link_more k same = ap (λ (flags : List Bool). map (is_open flags) steps) same

  same_or_many : (k : ℕ) → (open_within (suc k) steps ≡ open_within k steps) ⊎ (k < trues (open_within (suc k) steps))
  same_or_many zero =
      ⊎_elim
      (λ (same : open_within 1 steps ≡ open_within 0 steps). inl same)
      (λ (more : trues (open_within 0 steps) < trues (open_within 1 steps)). inr (omega arith))
      (same_or_more (open_within 0 steps) (open_within 1 steps) (link_stays 0))
  same_or_many (suc k) =
      ⊎_elim
      (λ (same : open_within (suc k) steps ≡ open_within k steps). inl (one_link_more k same))
      (λ (many : k < trues (open_within (suc k) steps)).
      ⊎_elim
      (λ (same : open_within (suc (suc k)) steps ≡ open_within (suc k) steps). inl same)
      (λ (more : trues (open_within (suc k) steps) < trues (open_within (suc (suc k)) steps)). inr (omega arith))
      (same_or_more (open_within (suc k) steps) (open_within (suc (suc k)) steps) (link_stays (suc k))))
      (same_or_many k)

  length_within : (k : ℕ) → length (open_within k steps) ≡ length steps
  length_within zero = length-map steps (λ s. s.is_open)
  length_within (suc k) = length-map steps (is_open (open_within k steps))

  settled : open_within (suc (length steps)) steps ≡ open_within (length steps) steps
  settled =
      ⊎_elim
      (λ (same : open_within (suc (length steps)) steps ≡ open_within (length steps) steps). same)
      (λ (many : length steps < trues (open_within (suc (length steps)) steps)).
      let few = trues-le-length (open_within (suc (length steps)) steps) in
      let long = length_within (suc (length steps)) in
      absurd (omega arith))
      (same_or_many (length steps))

pub open_steps_are_open : OpenStepsAreOpen
open_steps_are_open steps i = (opened steps (length steps) i, found_open steps (length steps) (settled steps) i)
