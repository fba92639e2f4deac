-- Of any outputs it can be told whether they are the same: what a value is coded by is a tree of numbers.
use Rattle.std.proofs.Common.{◌≡◌, ◌⊎◌, inl, inr, ℕ, zero, suc, ap}
use Rattle.std.specs.Coded.{Coded, coded_list, coded×, coded_ℕ}
use Rattle.cwl_value.specs.contracts.value.Value as value
use Rattle.collected_outputs.specs.Object.{Named}
use base.Stored.{Gv, gnil, gnum, gcons, num}

numbers : (m n : ℕ) → (m ≡ n) ⊎ (m ≡ n → ⊥)
numbers zero zero = inl (λ i. zero)
numbers zero (suc n) = inr (λ is. cc)
numbers (suc m) zero = inr (λ is. cc)
numbers (suc m) (suc n) = elim (numbers m n) [
  | inl same ↦ inl (ap suc same)
  | inr differ ↦ inr (λ is. differ (ap pred is))
]
  where
    pred : ℕ → ℕ
    pred zero = zero
    pred (suc n) = n

abbrev left : Gv → Gv
left (gcons u v) = u
left _ = gnil

abbrev right : Gv → Gv
right (gcons u v) = v
right _ = gnil

trees : (s t : Gv) → (s ≡ t) ⊎ (s ≡ t → ⊥)
trees gnil gnil = inl (λ i. gnil)
trees gnil (gnum n) = inr (λ is. cc)
trees gnil (gcons u v) = inr (λ is. cc)
trees (gnum m) gnil = inr (λ is. cc)
trees (gnum m) (gnum n) = elim (numbers m n) [
  | inl same ↦ inl (ap gnum same)
  | inr differ ↦ inr (λ is. differ (ap num is))
]
trees (gnum m) (gcons u v) = inr (λ is. cc)
trees (gcons u v) gnil = inr (λ is. cc)
trees (gcons u v) (gnum n) = inr (λ is. cc)
trees (gcons u v) (gcons x y) = elim (trees u x) [
  | inl one ↦ elim (trees v y) [
    | inl other ↦ inl (λ i. gcons (one i) (other i))
    | inr differ ↦ inr (λ is. differ (ap right is))
  ]
  | inr differ ↦ inr (λ is. differ (ap left is))
]

pub by_code : {A : Type 0} (coded : Coded A) (x y : A) → (x ≡ y) ⊎ (x ≡ y → ⊥)
by_code coded x y = elim (trees (coded.code x) (coded.code y)) [
  | inl same ↦ inl (coded.inj x y same)
  | inr differ ↦ inr (λ is. differ (ap coded.code is))
]

pub same_or_not : (one other : Named) → (one ≡ other) ⊎ (one ≡ other → ⊥)
same_or_not = by_code (coded_list (coded× (coded_list coded_ℕ) value.the_row.coded))
