-- The rows that the query for all rows shows ascend by the bytes of their keys.
use Rattle.std.proofs.Common.{◌≡◌, inl, inr, ℕ, zero, suc, ◌+◌, ◌<◌, List, [], ◌∷◌, length, map, get_or, refl, sym, ap, subst, ◌∙◌, Ordering, Less, Equal, Greater, arith}
use Rattle.std.specs.Ordering.{is_lt, ordering_then}
use Rattle.std.specs.List.Sorted.{IsSorted}
use Rattle.sqlite.specs.declared.types.Value.TheVariants.{Null, Text}
use Rattle.sqlite.specs.Order.{Row as Columns, column}
use Rattle.sqlite.specs.Tree.{Trees}
use Rattle.sqlite.specs.Program.{overlay}
use Rattle.sqlite.specs.Query.{Output, output, output_cmp, matches, inner, end, IsAnswer, IsSureAnswer}
use Rattle.sqlite_value.proofs.OrderLemmas.{value_cmp-Text}
use Rattle.sqlite_rules.specs.Lists.{Has}
use Rattle.sqlite_rules.proofs.ProbeLemmas.{has_mapped}
use Rattle.job_rows.specs.declared.row.Row.{Row}
use Rattle.job_record.specs.Columns.{IsRowOf, AreRowsOf}
use Rattle.job_record.specs.Map.{by_key}
use Rattle.job_record.specs.Commands.{list_on}
use Rattle.job_record.proofs.Shapes.{Laid}
use Rattle.job_record.proofs.Shown.{permuted, passes, from_chosen, overlay_none}

less_then : (o : Ordering) → is_lt (ordering_then o Equal) ≡ is_lt o
less_then Less = refl
less_then Equal = refl
less_then Greater = refl

text_at : (a b : List ℕ) → Text a ≡ Text b → a ≡ b
text_at a b e = cc

-- the key by which a row is sorted is its first column
pub record IsSortedBy (o : Output) : Type 0 where
  pub key : List ℕ
  pub sorted : o.0 ≡ Text key ∷ []
  pub shown : column o.1 0 ≡ Text key

abbrev shown_of : List Output → List Columns
shown_of = map (λ (o : Output). o.1)

key_at : (o : Output) (by : IsSortedBy o) (row : Row) → IsRowOf o.1 row → o.0 ≡ Text row.key ∷ []
key_at o by row (s, c, r) = by.sorted ∙ ap (λ t. Text t ∷ []) (text_at by.key s.key (sym by.shown ∙ c.key.0) ∙ sym r.key)

keys_at : (os : List Output) (rows : List Row) → ((o : Output) → Has os o → IsSortedBy o) → AreRowsOf (shown_of os) rows → (k : ℕ) (d : Output) (e : Row) → k < length rows
    → (get_or os k d).0 ≡ Text (get_or rows k e).key ∷ []
keys_at [] [] by are k d e within = absurd (omega arith)
keys_at [] (row ∷ rows) by are k d e within = absurd are
keys_at (o ∷ os) [] by are k d e within = absurd are
keys_at (o ∷ os) (row ∷ rows) by are zero d e within = key_at o (by o (inl refl)) row are.0
keys_at (o ∷ os) (row ∷ rows) by are (suc k) d e within = keys_at os rows (λ p h. by p (inr h)) are.1 k d e (omega arith)

as_long : (os : List Output) (rows : List Row) → AreRowsOf (shown_of os) rows → length os ≡ length rows
as_long [] [] are = refl
as_long [] (row ∷ rows) are = absurd are
as_long (o ∷ os) [] are = absurd are
as_long (o ∷ os) (row ∷ rows) are = let e = as_long os rows are.1 in omega arith

same_order : (tree : ℕ) (a b : Output) (x y : Row) → a.0 ≡ Text x.key ∷ [] → b.0 ≡ Text y.key ∷ [] → is_lt (output_cmp (list_on tree) a b) ≡ is_lt (by_key x y)
same_order tree a b x y p q = rw (p, q) (less_then _ ∙ ap is_lt (value_cmp-Text x.key y.key))

sorted_rows : (tree : ℕ) (os : List Output) (rows : List Row) → ((o : Output) → Has os o → IsSortedBy o) → AreRowsOf (shown_of os) rows → IsSorted (output_cmp (list_on tree)) os → IsSorted by_key rows
sorted_rows tree os rows by are sorted k e low high =
    let d : Output = ([], []) in
    let long = as_long os rows are in
    let p = keys_at os rows by are (k + 1) d e high in
    let q = keys_at os rows by are k d e (omega arith) in
    sym (same_order tree (get_or os (k + 1) d) (get_or os k d) (get_or rows (k + 1) e) (get_or rows k e) p q) ∙ sorted k d low (omega arith)

module _ (tree : ℕ) (db : Trees) (laid : (r : Columns) → Has (db tree) r → Laid r) (all : List Columns) (sure : IsSureAnswer (list_on tree) (overlay db []) [] all) where
  answer : IsAnswer (list_on tree) (overlay db []) [] all
  answer = sure Null

  sorted_by : (o : Output) → Has answer.ordered o → IsSortedBy o
  sorted_by o h =
      let every = matches (overlay db []) [] (inner tree end) ([] ∷ []) in
      let kept : answer.kept ≡ map (output (list_on tree)) every = answer.distinct ∙ ap (map (output (list_on tree))) answer.grouped in
      let e = has_mapped (output (list_on tree)) every o (subst (λ l. Has l o) kept (permuted answer.kept answer.ordered o answer.same h)) in
      let r = from_chosen (passes [] []) (λ (z : Columns). [] ∷ z ∷ []) (overlay db [] tree) e.0 e.1 in
      let l = laid r.0 (subst (λ l. Has l r.0) (overlay_none db tree) r.1) in
      let is : o ≡ output (list_on tree) ([] ∷ r.0 ∷ []) = e.2 ∙ ap (output (list_on tree)) r.3 in
      let key_is : column r.0 1 ≡ Text l.key = ap (λ (z : Columns). column z 1) l.is in
      record { key = l.key; sorted = ap (λ (p : Output). p.0) is ∙ ap (λ v. v ∷ []) key_is; shown = ap (λ (p : Output). column p.1 0) is ∙ key_is }

  pub rows_sorted : (rows : List Row) → AreRowsOf all rows → IsSorted by_key rows
  unfolding answer
  rows_sorted rows are = sorted_rows tree answer.ordered rows sorted_by (subst (λ l. AreRowsOf l rows) answer.shown are) answer.sorted
