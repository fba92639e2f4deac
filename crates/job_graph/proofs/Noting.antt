-- Noting who made what is in values, one place after another.
use Rattle.std.proofs.Common.{◌≡◌, ◌∙◌, ℕ, Bool, true, false, cond, List, Some, None, refl, sym, ap, subst}
use Rattle.std.specs.Prelude.{◌||◌}
use Rattle.std.specs.Borrow.{Bor}
use Rattle.std.specs.BTreeMap.{BTreeMap, Updates, get, is_at}
use Rattle.std.specs.List.{list_any}
use Rattle.std.specs.Option.{option_map_or}
use Rattle.std.specs.Ordering.{is_eq, nat_cmp}
use Rattle.std.proofs.Math.Bool.{or-false, or_comm}
use Rattle.std.proofs.lemmas.Map.Lookups.{exact_unsigned}
use Rattle.job_graph.specs.Words.{JobPlace, is_same_place}
use Rattle.job_graph.specs.inner.Makers.{is_this}
use Rattle.job_graph.specs.inner.Marks.{mark_of}
use Rattle.job_graph.proofs.Index.{is_equal, itself, not_both}
use Rattle.job_graph.proofs.Marks.{other_mark}
use Rattle.job_graph.proofs.laws_of_walks.Known.{same_place}

-- whether the place under a job's mark is the job's
abbrev is_under : JobPlace → BTreeMap ℕ (Bor JobPlace) → Bool
is_under job by_mark = option_map_or (is_this job) (get nat_cmp by_mark (mark_of job)) false

other_by_mark : (place job : JobPlace) → is_at (nat_cmp (mark_of place)) (mark_of job) ≡ false → is_same_place place job ≡ false
other_by_mark place job other = other_mark place job (λ same. not_both (is_at (nat_cmp (mark_of place)) (mark_of job)) (ap (λ m. is_eq (nat_cmp (mark_of place) m)) (sym same) ∙ itself (mark_of place)) other)

swapped : (a b c : Bool) → a ≡ false → (b || c) ≡ ((a || c) || b)
swapped a b c none = or_comm b c ∙ ap (λ x. (x || c) || b) (sym none)

module _ (old new : BTreeMap ℕ (Bor JobPlace)) (others : List (Bor JobPlace)) (place : Bor JobPlace) (mark : ℕ) (marked : mark ≡ mark_of place.now) where
  -- the first place of its mark
  pub noted_first : get nat_cmp old mark ≡ None → Updates nat_cmp old new mark (Some place) → (job : JobPlace)
      → (is_under job new || list_any (is_this job) others) ≡ ((is_under job old || list_any (is_this job) others) || is_same_place place.now job)
  noted_first none put job =
      ap (λ o. option_map_or (is_this job) o false || list_any (is_this job) others) (put.0 (mark_of job)) ∙ by (is_at (nat_cmp mark) (mark_of job)) refl
    where
      by : (same : Bool) → is_at (nat_cmp mark) (mark_of job) ≡ same
          → (option_map_or (is_this job) (cond same (Some place) (get nat_cmp old (mark_of job))) false || list_any (is_this job) others)
          ≡ ((is_under job old || list_any (is_this job) others) || is_same_place place.now job)
      by true same =
          swapped (is_under job old) (is_same_place place.now job) (list_any (is_this job) others)
          (ap (λ o. option_map_or (is_this job) o false) (ap (get nat_cmp old) (sym (exact_unsigned mark (mark_of job) (is_equal (nat_cmp mark (mark_of job)) same))) ∙ none))
      by false apart =
          sym (ap (λ b. (is_under job old || list_any (is_this job) others) || b) (other_by_mark place.now job (subst (λ m. is_at (nat_cmp m) (mark_of job) ≡ false) marked apart))
          ∙ or-false (is_under job old || list_any (is_this job) others))

  -- a place that is there already
  pub noted_again : (found : Bor JobPlace) → get nat_cmp old mark ≡ Some found → is_same_place found.now place.now ≡ true → (job : JobPlace)
      → (is_under job old || list_any (is_this job) others) ≡ ((is_under job old || list_any (is_this job) others) || is_same_place place.now job)
  noted_again found got here job = by (is_same_place place.now job) refl
    where
      there : place.now ≡ job → is_under job old ≡ true
      there same =
          ap (λ m. option_map_or (is_this job) (get nat_cmp old m) false) (ap mark_of (sym same) ∙ sym marked)
          ∙ ap (λ o. option_map_or (is_this job) o false) got
          ∙ ap (is_same_place found.now) (sym same) ∙ here

      by : (b : Bool) → is_same_place place.now job ≡ b → (is_under job old || list_any (is_this job) others) ≡ ((is_under job old || list_any (is_this job) others) || b)
      by true is = let held = ap (λ x. x || list_any (is_this job) others) (there (same_place place.now job is)) in held ∙ sym (ap (λ x. x || true) held)
      by false is = sym (or-false (is_under job old || list_any (is_this job) others))
