-- The first row of a query that sorts by a number has the least, or the greatest.
use Rattle.std.proofs.Common.{◌≡◌, inl, inr, ℕ, zero, suc, ◌+◌, ◌<◌, ◌≤◌, pos, true, false, List, [], ◌∷◌, length, get_or, refl, sym, ap, subst, ◌∙◌, Ordering, Less, Equal, Greater, arith, true≢false}
use Rattle.std.specs.Prelude.{nat_lt}
use Rattle.std.specs.Ordering.{is_lt, ordering_then, int_cmp}
use Rattle.std.specs.List.Sorted.{IsSorted}
use Rattle.std.proofs.lemmas.Bool.{le-leb}
use Rattle.std.proofs.lemmas.Bool.Decides.{leb_tells}
use Rattle.sqlite.specs.declared.types.Value.TheVariants.{Int}
use Rattle.sqlite.specs.Order.{Row}
use Rattle.sqlite.specs.Query.{Output, output_cmp}
use Rattle.sqlite_value.proofs.OrderLemmas.{value_cmp-Int}
use Rattle.sqlite_rules.specs.Lists.{Has}
use Rattle.job_record.specs.Commands.{greatest_on, oldest_on}

pub less_then : (o : Ordering) → is_lt (ordering_then o Equal) ≡ is_lt o
less_then Less = refl
less_then Equal = refl
less_then Greater = refl

int_less : (m n : ℕ) → m < n → is_lt (int_cmp (pos m) (pos n)) ≡ true
int_less m n under = let is : nat_lt m n ≡ true = le-leb (suc m) n under in rw is refl

pub not_less : (m n : ℕ) → is_lt (int_cmp (pos m) (pos n)) ≡ false → n ≤ m
not_less m n h = elim (leb_tells n m) [ inl under ↦ under.1 | inr over ↦ absurd (true≢false (sym (int_less m n over.1) ∙ h)) ]

down_rows : (x y s t : Row) (m n : ℕ) → x ≡ Int (pos m) ∷ [] → y ≡ Int (pos n) ∷ [] → is_lt (output_cmp (greatest_on 4) (x, s) (y, t)) ≡ is_lt (int_cmp (pos n) (pos m))
down_rows x y s t m n p q = rw (p, q) (less_then _ ∙ ap is_lt (value_cmp-Int (pos n) (pos m)))

up_rows : (x y s t : Row) (m n : ℕ) → x ≡ Int (pos m) ∷ [] → y ≡ Int (pos n) ∷ [] → is_lt (output_cmp (oldest_on 4) (x, s) (y, t)) ≡ is_lt (int_cmp (pos m) (pos n))
up_rows x y s t m n p q = rw (p, q) (less_then _ ∙ ap is_lt (value_cmp-Int (pos m) (pos n)))

-- the place of an element
pub has_at : {X : Type 0} (xs : List X) (x d : X) → Has xs x → (k : ℕ) × (k < length xs) × (get_or xs k d ≡ x)
has_at [] x d there = absurd there
has_at (y ∷ xs) x d (inl same) = (0, omega arith, sym same)
has_at (y ∷ xs) x d (inr later) = let h = has_at xs x d later in (suc h.0, omega (arith, h.1), h.2)

at_has : {X : Type 0} (xs : List X) (k : ℕ) (d : X) → k < length xs → Has xs (get_or xs k d)
at_has [] k d within = absurd (omega arith)
at_has (x ∷ xs) zero d within = inl refl
at_has (x ∷ xs) (suc k) d within = inr (at_has xs k d (omega arith))

module _ (os : List Output) (used : Output → ℕ) (are : (o : Output) → Has os o → o.0 ≡ Int (pos (used o)) ∷ []) (d : Output) where
  key_at : (k : ℕ) → k < length os → (get_or os k d).0 ≡ Int (pos (used (get_or os k d))) ∷ []
  key_at k within = are (get_or os k d) (at_has os k d within)

  down_cmp : (a b : Output) → a.0 ≡ Int (pos (used a)) ∷ [] → b.0 ≡ Int (pos (used b)) ∷ [] → is_lt (output_cmp (greatest_on 4) a b) ≡ is_lt (int_cmp (pos (used b)) (pos (used a)))
  down_cmp a b p q = down_rows a.0 b.0 a.1 b.1 (used a) (used b) p q

  up_cmp : (a b : Output) → a.0 ≡ Int (pos (used a)) ∷ [] → b.0 ≡ Int (pos (used b)) ∷ [] → is_lt (output_cmp (oldest_on 4) a b) ≡ is_lt (int_cmp (pos (used a)) (pos (used b)))
  up_cmp a b p q = up_rows a.0 b.0 a.1 b.1 (used a) (used b) p q

  falls : IsSorted (output_cmp (greatest_on 4)) os → (k : ℕ) → k < length os → used (get_or os k d) ≤ used (get_or os 0 d)
  falls sorted zero within = omega arith
  falls sorted (suc k) within =
      let next : k + 1 ≡ suc k = omega arith in
      let step : is_lt (output_cmp (greatest_on 4) (get_or os (suc k) d) (get_or os k d)) ≡ false = subst (λ j. is_lt (output_cmp (greatest_on 4) (get_or os j d) (get_or os k d)) ≡ false) next (sorted k d (omega arith) (omega arith)) in
      let low : used (get_or os (suc k) d) ≤ used (get_or os k d) =
      not_less (used (get_or os k d)) (used (get_or os (suc k) d)) (sym (down_cmp (get_or os (suc k) d) (get_or os k d) (key_at (suc k) within) (key_at k (omega arith))) ∙ step) in
      let before : used (get_or os k d) ≤ used (get_or os 0 d) = falls sorted k (omega arith) in
      omega arith

  rises : IsSorted (output_cmp (oldest_on 4)) os → (k : ℕ) → k < length os → used (get_or os 0 d) ≤ used (get_or os k d)
  rises sorted zero within = omega arith
  rises sorted (suc k) within =
      let next : k + 1 ≡ suc k = omega arith in
      let step : is_lt (output_cmp (oldest_on 4) (get_or os (suc k) d) (get_or os k d)) ≡ false = subst (λ j. is_lt (output_cmp (oldest_on 4) (get_or os j d) (get_or os k d)) ≡ false) next (sorted k d (omega arith) (omega arith)) in
      let high : used (get_or os k d) ≤ used (get_or os (suc k) d) =
      not_less (used (get_or os (suc k) d)) (used (get_or os k d)) (sym (up_cmp (get_or os (suc k) d) (get_or os k d) (key_at (suc k) within) (key_at k (omega arith))) ∙ step) in
      let before : used (get_or os 0 d) ≤ used (get_or os k d) = rises sorted k (omega arith) in
      omega arith

  pub most : IsSorted (output_cmp (greatest_on 4)) os → (p : Output) → Has os p → used p ≤ used (get_or os 0 d)
  most sorted p there = let at = has_at os p d there in subst (λ o. used o ≤ used (get_or os 0 d)) at.2 (falls sorted at.0 at.1)

  pub least : IsSorted (output_cmp (oldest_on 4)) os → (p : Output) → Has os p → used (get_or os 0 d) ≤ used p
  least sorted p there = let at = has_at os p d there in subst (λ o. used (get_or os 0 d) ≤ used o) at.2 (rises sorted at.0 at.1)
