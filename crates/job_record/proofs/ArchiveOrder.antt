-- The archives of the rows that the query of the migration shows rise by the bytes of their keys.
use Rattle.std.proofs.Common.{◌≡◌, inl, inr, ℕ, zero, suc, ◌+◌, ◌<◌, List, [], ◌∷◌, length, map, get_or, refl, sym, ap, subst, ◌∙◌, Ordering, Less, Equal, Greater, arith}
use Rattle.std.specs.Ordering.{is_lt, ordering_then}
use Rattle.std.specs.List.Sorted.{IsSorted}
use Rattle.sqlite.specs.declared.types.Value.TheVariants.{Null, Text}
use Rattle.sqlite.specs.Order.{Row as Columns, column}
use Rattle.sqlite.specs.Tree.{Trees}
use Rattle.sqlite.specs.Program.{overlay}
use Rattle.sqlite.specs.Query.{Output, output, output_cmp, matches, inner, end, IsAnswer, IsSureAnswer}
use Rattle.sqlite_value.proofs.OrderLemmas.{value_cmp-Text}
use Rattle.sqlite_rules.specs.Lists.{Has}
use Rattle.sqlite_rules.proofs.ProbeLemmas.{has_mapped}
use Rattle.job_rows.specs.declared.archive.Archive.{Archive}
use Rattle.job_record.specs.OpenMap.{by_key}
use Rattle.job_record.specs.Commands.{archived_on, is_archived}
use Rattle.job_record.proofs.Numbered.{AreNumbered}
use Rattle.job_record.proofs.Shown.{permuted, passes, from_chosen}

less_then : (o : Ordering) → is_lt (ordering_then o Equal) ≡ is_lt o
less_then Less = refl
less_then Equal = refl
less_then Greater = refl

-- an output is sorted by the first column that it shows
abbrev IsByFirst : Output → Type 0
IsByFirst o = o.0 ≡ column o.1 0 ∷ []

abbrev shown_of : List Output → List Columns
shown_of = map (λ (o : Output). o.1)

keys_at : (used : ℕ) (os : List Output) (new : List Archive) → ((o : Output) → Has os o → IsByFirst o) → AreNumbered used (shown_of os) new → (k : ℕ) (d : Output) (e : Archive) → k < length new
    → (get_or os k d).0 ≡ Text (get_or new k e).key ∷ []
keys_at used [] [] by are k d e within = absurd (omega (arith, within))
keys_at used [] (own ∷ new) by are k d e within = absurd are
keys_at used (o ∷ os) [] by are k d e within = absurd are
keys_at used (o ∷ os) (own ∷ new) by are zero d e within = by o (inl refl) ∙ ap (λ v. v ∷ []) are.0.key_is.0
keys_at used (o ∷ os) (own ∷ new) by are (suc k) d e within = keys_at (used + 1) os new (λ p h. by p (inr h)) are.2 k d e (omega (arith, within))

as_long : (used : ℕ) (os : List Output) (new : List Archive) → AreNumbered used (shown_of os) new → length os ≡ length new
as_long used [] [] are = refl
as_long used [] (own ∷ new) are = absurd are
as_long used (o ∷ os) [] are = absurd are
as_long used (o ∷ os) (own ∷ new) are = let e = as_long (used + 1) os new are.2 in omega (arith, e)

same_order : (tree : ℕ) (a b : Output) (x y : Archive) → a.0 ≡ Text x.key ∷ [] → b.0 ≡ Text y.key ∷ [] → is_lt (output_cmp (archived_on tree) a b) ≡ is_lt (by_key x y)
same_order tree a b x y p q = rw (p, q) (less_then _ ∙ ap is_lt (value_cmp-Text x.key y.key))

sorted_archives : (tree used : ℕ) (os : List Output) (new : List Archive) → ((o : Output) → Has os o → IsByFirst o) → AreNumbered used (shown_of os) new → IsSorted (output_cmp (archived_on tree)) os → IsSorted by_key new
sorted_archives tree used os new by are sorted k e low high =
    let d : Output = ([], []) in
    let long = as_long used os new are in
    let p = keys_at used os new by are (k + 1) d e high in
    let q = keys_at used os new by are k d e (omega (arith, high)) in
    sym (same_order tree (get_or os (k + 1) d) (get_or os k d) (get_or new (k + 1) e) (get_or new k e) p q) ∙ sorted k d low (omega (arith, high, long))

module _ (tree : ℕ) (db : Trees) (all : List Columns) (sure : IsSureAnswer (archived_on tree) (overlay db []) [] all) where
  answer : IsAnswer (archived_on tree) (overlay db []) [] all
  answer = sure Null

  by_first : (o : Output) → Has answer.ordered o → IsByFirst o
  by_first o h =
      let every = matches (overlay db []) is_archived (inner tree end) ([] ∷ []) in
      let kept : answer.kept ≡ map (output (archived_on tree)) every = answer.distinct ∙ ap (map (output (archived_on tree))) answer.grouped in
      let e = has_mapped (output (archived_on tree)) every o (subst (λ l. Has l o) kept (permuted answer.kept answer.ordered o answer.same h)) in
      let r = from_chosen (passes is_archived []) (λ (z : Columns). [] ∷ z ∷ []) (overlay db [] tree) e.0 e.1 in
      let is : o ≡ output (archived_on tree) ([] ∷ r.0 ∷ []) = e.2 ∙ ap (output (archived_on tree)) r.3 in
      ap (λ (p : Output). p.0) is ∙ ap (λ v. v ∷ []) (sym (ap (λ (p : Output). column p.1 0) is))

  pub archives_sorted : (used : ℕ) (new : List Archive) → AreNumbered used all new → IsSorted by_key new
  unfolding answer
  archives_sorted used new are = sorted_archives tree used answer.ordered new by_first (subst (λ l. AreNumbered used l new) answer.shown are) answer.sorted
