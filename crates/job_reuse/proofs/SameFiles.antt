-- Of any files it can be told whether they are the same: each of them is among the others, or one is not.
use Rattle.std.specs.Prelude.{◌↔◌}
use Rattle.std.specs.List.{Contains}
use Rattle.std.proofs.Common.{◌≡◌, ◌⊎◌, inl, inr, ◌<◌, ℕ, suc, List, [], ◌∷◌, length, refl, subst, arith}
use Rattle.staging.proofs.Numbered.{contains_cons}
use Rattle.staging.specs.contracts.found.Found as found
use Rattle.staging.specs.declared.found.Found.{Found}
use Rattle.job_reuse.specs.Rows.{AreTheSame}
use Rattle.job_reuse.proofs.SameOrNot.{by_code}

first : (x : Found) (xs : List Found) → Contains (x ∷ xs) x
first x xs = (0, omega arith, refl)

later : (x : Found) (xs : List Found) (f : Found) → Contains xs f → Contains (x ∷ xs) f
later x xs f there = (suc there.0, omega (arith, there.1), there.2)

among_or_not : (xs : List Found) (f : Found) → Contains xs f ⊎ (Contains xs f → ⊥)
among_or_not [] f = inr (λ there. absurd (omega (arith, there.1)))
among_or_not (x ∷ xs) f = elim (by_code found.the_row.coded x f) [
  | inl same ↦ inl (0, omega arith, same)
  | inr differ ↦ elim (among_or_not xs f) [
    | inl there ↦ inl (later x xs f there)
    | inr none ↦ inr (λ there. elim (contains_cons x xs f there) [
      | inl same ↦ differ same
      | inr it ↦ none it
    ])
  ]
]

abbrev AllAmong : List Found → List Found → Type 0
AllAmong these those = (f : Found) → Contains these f → Contains those f

all_or_not : (these those : List Found) → AllAmong these those ⊎ (AllAmong these those → ⊥)
all_or_not [] those = inl (λ f there. absurd (omega (arith, there.1)))
all_or_not (x ∷ these) those = elim (among_or_not those x) [
  | inr none ↦ inr (λ all. none (all x (first x these)))
  | inl here ↦ elim (all_or_not these those) [
    | inr some ↦ inr (λ all. some (λ f there. all f (later x these f there)))
    | inl rest ↦ inl (λ f there. elim (contains_cons x these f there) [
      | inl same ↦ subst (Contains those) same here
      | inr it ↦ rest f it
    ])
  ]
]

pub files_same_or_not : (files fetched : List Found) → AreTheSame files fetched ⊎ (AreTheSame files fetched → ⊥)
files_same_or_not files fetched = elim (all_or_not files fetched) [
  | inr some ↦ inr (λ same. some (λ f. (same f).0))
  | inl there ↦ elim (all_or_not fetched files) [
    | inr some ↦ inr (λ same. some (λ f. (same f).1))
    | inl back ↦ inl (λ f. (there f, back f))
  ]
]
