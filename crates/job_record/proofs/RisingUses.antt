-- Archives that are sorted by their use, each of another one, are told by what they have.
use Rattle.std.proofs.Common.{◌≡◌, inl, inr, ℕ, suc, ◌+◌, ◌<◌, ◌≤◌, pos, Bool, true, false, cond, ◌==◌, List, [], ◌∷◌, map, get_or, refl, sym, ap, subst, ◌∙◌, arith}
use Rattle.std.specs.Prelude.{sum_by}
use Rattle.std.specs.Ordering.{is_lt, int_cmp}
use Rattle.std.specs.List.Sorted.{IsSorted}
use Rattle.std.proofs.lemmas.Bool.{eq-eqb, eqb-true}
use Rattle.std.proofs.lemmas.Bool.Decides.{leb_tells}
use Rattle.std.proofs.lemmas.List.Sums.{sum_by-cons}
use Rattle.sqlite.specs.declared.types.Value.TheVariants.{Int}
use Rattle.sqlite.specs.Order.{Row}
use Rattle.sqlite.specs.Query.{Output, output_cmp}
use Rattle.sqlite_value.proofs.OrderLemmas.{value_cmp-Int}
use Rattle.sqlite_trees.specs.Tree.{IsTable}
use Rattle.sqlite_rules.specs.Lists.{Has}
use Rattle.job_rows.specs.declared.archive.Archive.{Archive}
use Rattle.job_rows.specs.InStep.{AreRising}
use Rattle.job_record.specs.Commands.{archives_on}
use Rattle.job_record.proofs.Looking.{rising_above}
use Rattle.job_record.proofs.Ordered.{less_then, not_less}
use Rattle.job_record.proofs.Summed.{not_again}

-- ---- lists that rise

-- in a list that rises a use tells the archive
pub used_tells : (last : ℕ) (xs : List Archive) → AreRising last xs → (a b : Archive) → Has xs a → Has xs b → a.used ≡ b.used → a ≡ b
used_tells last [] rising a b p q same = absurd p
used_tells last (x ∷ xs) rising a b (inl p) (inl q) same = p ∙ sym q
used_tells last (x ∷ xs) rising a b (inl p) (inr q) same =
    absurd (let up : x.used < b.used = rising_above x.used xs b rising.1 q in let is : a.used ≡ x.used = ap (λ (z : Archive). z.used) p in omega (arith, up, is, same))
used_tells last (x ∷ xs) rising a b (inr p) (inl q) same =
    absurd (let up : x.used < a.used = rising_above x.used xs a rising.1 p in let is : b.used ≡ x.used = ap (λ (z : Archive). z.used) q in omega (arith, up, is, same))
used_tells last (x ∷ xs) rising a b (inr p) (inr q) same = used_tells x.used xs rising.1 a b p q same

-- lists that rise and have the same are the same
pub same_list : (low last : ℕ) (xs ys : List Archive) → AreRising low xs → AreRising last ys → ((a : Archive) → Has xs a → Has ys a) → ((a : Archive) → Has ys a → Has xs a) → xs ≡ ys
same_list low last [] [] up over to from = refl
same_list low last [] (y ∷ ys) up over to from = absurd (from y (inl refl))
same_list low last (x ∷ xs) [] up over to from = absurd (to x (inl refl))
same_list low last (x ∷ xs) (y ∷ ys) up over to from = joined first (same_list x.used y.used xs ys up.1 over.1 rest_to rest_from)
  where
    first : x ≡ y
    first = elim (to x (inl refl)) [
      | inl same ↦ same
      | inr later ↦ elim (from y (inl refl)) [
        | inl same ↦ sym same
        | inr after ↦ absurd (let one : y.used < x.used = rising_above y.used ys x over.1 later in let two : x.used < y.used = rising_above x.used xs y up.1 after in omega (arith, one, two))
      ]
    ]

    -- one that rises after this one is not this one
    not_first : (z : Archive) → Has xs z → z ≡ y → ⊥
    not_first z h is = let more : x.used < z.used = rising_above x.used xs z up.1 h in let same : z.used ≡ x.used = ap (λ (a : Archive). a.used) (is ∙ sym first) in omega (arith, more, same)

    not_own : (z : Archive) → Has ys z → z ≡ x → ⊥
    not_own z h is = let more : y.used < z.used = rising_above y.used ys z over.1 h in let same : z.used ≡ y.used = ap (λ (a : Archive). a.used) (is ∙ first) in omega (arith, more, same)

    rest_to : (z : Archive) → Has xs z → Has ys z
    rest_to z h = elim (to z (inr h)) [ inl is ↦ absurd (not_first z h is) | inr later ↦ later ]

    rest_from : (z : Archive) → Has ys z → Has xs z
    rest_from z h = elim (from z (inr h)) [ inl is ↦ absurd (not_own z h is) | inr later ↦ later ]

    joined : x ≡ y → xs ≡ ys → x ∷ xs ≡ y ∷ ys
    joined is rest = rw (is, rest) refl

-- ---- rows of a table

-- how many have this number
abbrev pub counts : {X : Type 0} → (X → ℕ) → ℕ → X → ℕ
counts number n x = cond (number x == n) 1 0

module _ (number : Row → ℕ) (n : ℕ) where
  none_later : (rows : List Row) → ((r : Row) → Has rows r → number r ≡ n → ⊥) → sum_by (counts number n) rows ≡ 0
  none_later [] none = refl
  none_later (r ∷ rows) none = sum_by-cons (counts number n) r rows ∙ (let first : counts number n r ≡ 0 = either (number r == n) refl in let rest = none_later rows (λ z h. none z (inr h)) in omega (arith, first, rest))
    where
      either : (b : Bool) → (number r == n) ≡ b → ◌≡◌ {A = ℕ} (cond b 1 0) 0
      either true is = absurd (none r (inl refl) (eqb-true (number r) n is))
      either false is = refl

  -- if a number tells the row, a table has at most one with it
  pub at_most_one : (rows : List Row) → IsTable rows → ((a b : Row) → Has rows a → Has rows b → number a ≡ n → number b ≡ n → a ≡ b) → sum_by (counts number n) rows ≤ 1
  at_most_one [] up tells = omega arith
  at_most_one (r ∷ rows) up tells = subst (λ m. m ≤ 1) (sym (sum_by-cons (counts number n) r rows)) (either (number r == n) refl (at_most_one rows up.1 (λ a b p q. tells a b (inr p) (inr q))))
    where
      either : (b : Bool) → (number r == n) ≡ b → sum_by (counts number n) rows ≤ 1 → cond b 1 0 + sum_by (counts number n) rows ≤ 1
      either true is rest =
          let none : sum_by (counts number n) rows ≡ 0 = none_later rows (λ z h same. not_again r rows up z h (tells z r (inr h) (inl refl) same (eqb-true (number r) n is))) in omega (arith, none)
      either false is rest = omega (arith, rest)

-- ---- outputs of the query

less_by : (a b : Output) (m n : ℕ) → a.0 ≡ Int (pos m) ∷ [] → b.0 ≡ Int (pos n) ∷ [] → is_lt (output_cmp (archives_on 4) a b) ≡ is_lt (int_cmp (pos m) (pos n))
less_by a b m n p q = rw (p, q) (less_then _ ∙ ap is_lt (value_cmp-Int (pos m) (pos n)))

tail_sorted : (o : Output) (os : List Output) → IsSorted (output_cmp (archives_on 4)) (o ∷ os) → IsSorted (output_cmp (archives_on 4)) os
tail_sorted o os sorted k d low high =
    let next : suc k + 1 ≡ suc (k + 1) = omega arith in
    subst (λ j. is_lt (output_cmp (archives_on 4) (get_or (o ∷ os) j d) (get_or os k d)) ≡ false) next (sorted (suc k) d (omega arith) (omega (arith, high)))

module _ (read : Output → Archive) where
  abbrev IsByUse : Output → Type 0
  IsByUse o = o.0 ≡ Int (pos (read o).used) ∷ []

  abbrev pub IsFirstAfter : ℕ → List Output → Type 0
  IsFirstAfter last [] = Unit {0}
  IsFirstAfter last (o ∷ os) = last < (read o).used

  -- how many outputs have this use
  abbrev pub uses : ℕ → Output → ℕ
  uses = counts (λ o. (read o).used)

  first_up : (o p : Output) (os : List Output) → IsByUse o → IsByUse p → IsSorted (output_cmp (archives_on 4)) (o ∷ p ∷ os) → (read o).used ≤ (read p).used
  first_up o p os by next sorted =
      not_less (read p).used (read o).used (sym (less_by p o (read p).used (read o).used next by) ∙ sorted 0 o (omega arith) (omega arith))

  -- outputs that are sorted by their use rise, if none comes twice
  pub sorted_rise : (last : ℕ) (os : List Output) → ((o : Output) → Has os o → IsByUse o) → IsSorted (output_cmp (archives_on 4)) os → ((n : ℕ) → sum_by (uses n) os ≤ 1) → IsFirstAfter last os
      → AreRising last (map read os)
  sorted_rise last [] by sorted once first = tt
  sorted_rise last (o ∷ []) by sorted once first = (first, tt)
  sorted_rise last (o ∷ p ∷ os) by sorted once first =
      (first, sorted_rise (read o).used (p ∷ os) (λ z h. by z (inr h)) (tail_sorted o (p ∷ os) sorted) fewer after)
    where
      fewer : (n : ℕ) → sum_by (uses n) (p ∷ os) ≤ 1
      fewer n = let all : sum_by (uses n) (o ∷ p ∷ os) ≤ 1 = once n in let split = sum_by-cons (uses n) o (p ∷ os) in omega (arith, all, split)

      other : (read o).used ≡ (read p).used → ⊥
      other same =
          let n = (read o).used in
          let own : uses n o ≡ 1 = ap (λ b. cond b 1 0) (eq-eqb n n refl) in
          let next : uses n p ≡ 1 = ap (λ b. cond b 1 0) (eq-eqb (read p).used n (sym same)) in
          let all : sum_by (uses n) (o ∷ p ∷ os) ≤ 1 = once n in
          let split = sum_by-cons (uses n) o (p ∷ os) in
          let split2 = sum_by-cons (uses n) p os in
          omega (arith, own, next, all, split, split2)

      after : (read o).used < (read p).used
      after = let up = first_up o p os (by o (inl refl)) (by p (inr (inl refl))) sorted in elim (leb_tells (suc (read o).used) (read p).used) [
        | inl under ↦ under.1
        | inr over ↦ absurd (other (let not : (read p).used < suc (read o).used = over.1 in omega (arith, up, not)))
      ]
