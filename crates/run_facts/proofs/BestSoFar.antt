-- The best of the rows that were looked at.
use Rattle.std.proofs.Common.{◌≡◌, ◌<◌, ◌≤◌, ◌+◌, ◌∙◌, ◌&&◌, ℕ, Bool, true, false, true≢false, List, Option, Some, None, IfNone, IfSome, ap, arith, below_more, bytes_eq, cond, length, nat_lt, option_map, refl, slice_get, subst, sym}
use Rattle.std.specs.Bool.{Decides}
use Rattle.std.specs.Cmp.Lexicographic.{pointwise}
use Rattle.std.proofs.lemmas.Bool.Decides.{nat_tests}
use Rattle.std.proofs.lemmas.Slice.Eq.{bytes_eq-Decides, slice_eq-Decides}
use Rattle.std.proofs.lemmas.Option.{none-some, slice_get_within}
use Rattle.run_facts.specs.NearestJob.{Differ, InputsDiffer, FieldsDiffer, IsNearest, IsNoneAlike, nearer}
use Rattle.run_facts.specs.declared.key_parts.KeyParts.{KeyParts}
use Rattle.run_facts.specs.declared.nearest_job.Alike.{Alike}
use Rattle.run_facts.specs.declared.nearest_job.Alike.TheVariants.{ToolAndEnvironment, Inputs}
use Rattle.run_facts.specs.declared.nearest_job.Best.{Best}

-- there is one number of differences
pub one_count : (alike : Alike) (own row : KeyParts) (m n : ℕ) → Differ alike own row m → Differ alike own row n → m ≡ n
one_count ToolAndEnvironment own row m n a b = a.counted ∙ sym b.counted
one_count Inputs own row m n a b = a.counted ∙ sym b.counted

module _ (alike : Alike) (own : KeyParts) (rows : List KeyParts) where
  -- this row is not alike
  abbrev pub Unlike : ℕ → Type 0
  Unlike k = (row : KeyParts) (n : ℕ) → slice_get rows k ≡ Some row → Differ alike own row n → ⊥

  -- if this row is alike, it has so many differences or more
  abbrev pub HasAtLeast : (least k : ℕ) → Type 0
  HasAtLeast least k = (row : KeyParts) (n : ℕ) → slice_get rows k ≡ Some row → Differ alike own row n → least ≤ n

  -- below the bound no row is alike
  abbrev pub NoneBelow : ℕ → Type 0
  NoneBelow bound = (k : ℕ) → k < bound → Unlike k

  pub record FirstBelow (bound : ℕ) (best : Best) : Type 0 where
    pub row : KeyParts
    pub within : best.index < bound
    pub there : slice_get rows best.index ≡ Some row
    pub differs : Differ alike own row best.count
    pub fewest : (k : ℕ) → k < bound → HasAtLeast best.count k
    pub first : (k : ℕ) → k < best.index → HasAtLeast (best.count + 1) k

  abbrev pub BestBelow : ℕ → Option Best → Type 0
  BestBelow bound None = NoneBelow bound
  BestBelow bound (Some best) = FirstBelow bound best

  -- the row that is there is the only one there
  same_row : (k : ℕ) (row other : KeyParts) → slice_get rows k ≡ Some row → slice_get rows k ≡ Some other → row ≡ other
  same_row k row other there also = cc

  -- what is there has so many differences
  has_so_many : (k : ℕ) (row : KeyParts) (m n : ℕ) → m ≤ n → slice_get rows k ≡ Some row → Differ alike own row n → HasAtLeast m k
  has_so_many k row m n least there differs other count also differ =
      let same : row ≡ other = same_row k row other there also in
      let differ_too : Differ alike own row count = subst (λ (r : KeyParts). Differ alike own r count) (sym same) differ in
      let counts : n ≡ count = one_count alike own row n count differs differ_too in
      omega arith

  has_none : (k : ℕ) (row : KeyParts) (m : ℕ) → slice_get rows k ≡ Some row → ((n : ℕ) → Differ alike own row n → ⊥) → HasAtLeast m k
  has_none k row m there unlike other count also differ =
      absurd (unlike count (subst (λ (r : KeyParts). Differ alike own r count) (sym (same_row k row other there also)) differ))

  unlike_there : (k : ℕ) (row : KeyParts) → slice_get rows k ≡ Some row → ((n : ℕ) → Differ alike own row n → ⊥) → Unlike k
  unlike_there k row there unlike other count also differ =
      unlike count (subst (λ (r : KeyParts). Differ alike own r count) (sym (same_row k row other there also)) differ)

  -- none was alike so far, and this one is
  first_alike : (i : ℕ) (row : KeyParts) (n : ℕ) → slice_get rows i ≡ Some row → Differ alike own row n → NoneBelow i → FirstBelow (i + 1) (record { index = i; count = n })
  first_alike i row n there differs none = record {
    row = row;
    within = omega arith;
    there = there;
    differs = differs;
    fewest = below_more (HasAtLeast n) i (λ k below other count also differ. absurd (none k below other count also differ)) (has_so_many i row n n (omega arith) there differs);
    first = λ k below other count also differ. absurd (none k below other count also differ);
  }

  -- this one has fewer
  fewer_there : (i : ℕ) (row : KeyParts) (n : ℕ) (best : Best) → slice_get rows i ≡ Some row → Differ alike own row n → n < best.count → FirstBelow i best → FirstBelow (i + 1) (record { index = i; count = n })
  fewer_there i row n best there differs less before = record {
    row = row;
    within = omega arith;
    there = there;
    differs = differs;
    fewest = below_more (HasAtLeast n) i (λ k below other count also differ. let more : best.count ≤ count = before.fewest k below other count also differ in omega arith) (has_so_many i row n n (omega arith) there differs);
    first = λ k below other count also differ. let more : best.count ≤ count = before.fewest k below other count also differ in omega arith;
  }

  -- this one has no fewer
  kept : (i : ℕ) (best : Best) → HasAtLeast best.count i → FirstBelow i best → FirstBelow (i + 1) best
  kept i best here before = record {
    row = before.row;
    within = let below : best.index < i = before.within in omega arith;
    there = before.there;
    differs = before.differs;
    fewest = below_more (HasAtLeast best.count) i before.fewest here;
    first = before.first;
  }

  fewer_or_kept : (i : ℕ) (row : KeyParts) (n : ℕ) (best : Best) → slice_get rows i ≡ Some row → Differ alike own row n → FirstBelow i best → (b : Bool) → b ≡ nat_lt n best.count →
      BestBelow (i + 1) (cond b (Some (record { index = i; count = n })) (Some best))
  fewer_or_kept i row n best there differs before true is = fewer_there i row n best there differs (grind (arith, nat_tests, is)) before
  fewer_or_kept i row n best there differs before false is =
      let least : best.count ≤ n = grind (arith, nat_tests, is) in
      kept i best (has_so_many i row best.count n least there differs) before

  pub best_more : (i : ℕ) (row : KeyParts) → slice_get rows i ≡ Some row → (best : Option Best) (count : Option ℕ) →
      IfSome count (Differ alike own row) → IfNone count ((n : ℕ) → Differ alike own row n → ⊥) → BestBelow i best → BestBelow (i + 1) (nearer best i count)
  best_more i row there None None some none before = below_more Unlike i before (unlike_there i row there none)
  best_more i row there None (Some n) some none before = first_alike i row n there some before
  best_more i row there (Some best) None some none before = kept i best (has_none i row best.count there none) before
  best_more i row there (Some best) (Some n) some none before = fewer_or_kept i row n best there some before (nat_lt n best.count) refl

  -- among all rows
  pub no_row : NoneBelow (length rows) → IsNoneAlike alike own rows
  no_row none k row n there differ = none k (slice_get_within rows k row there) row n there differ

  pub first_row : (best : Best) → (first : FirstBelow (length rows) best) → IsNearest alike own rows first.row
  first_row best first = record {
    index = best.index;
    least = best.count;
    there = first.there;
    differs = first.differs;
    fewest = λ k other n there differ. first.fewest k (slice_get_within rows k other there) other n there differ;
    first = λ k other n below there differ. let more : best.count + 1 ≤ n = first.first k below other n there differ in omega arith;
  }

  -- the row that was looked up by its number
  pub found_row : {R : Type 0} (now : R → KeyParts) (found : Option R) (best : Best) → option_map now found ≡ slice_get rows best.index →
      FirstBelow (length rows) best → IfSome found (λ row. IsNearest alike own rows (now row))
  found_row now None best same first = tt
  found_row now (Some row) best same first =
      let is : Some first.row ≡ Some (now row) = sym first.there ∙ sym same in
      let rows_same : first.row ≡ now row = cc in
      subst (λ (r : KeyParts). IsNearest alike own rows r) rows_same (first_row best first)

  -- it is there
  pub never_lost : {R : Type 0} (now : R → KeyParts) (found : Option R) (best : Best) → option_map now found ≡ slice_get rows best.index →
      FirstBelow (length rows) best → IfNone found (IsNoneAlike alike own rows)
  never_lost now (Some row) best same first = tt
  never_lost now None best same first = let no : None ≡ Some first.row = same ∙ first.there in absurd (none-some first.row no)

-- ---- the same texts

both_true : (a b : Bool) → a && b ≡ true → (a ≡ true) × (b ≡ true)
both_true true b e = (refl, e)
both_true false b e = absurd (true≢false (sym e))

-- `==` of names with texts decides whether they are the same
pub entries_decide : (p q : List ℕ × List ℕ) → Decides (bytes_eq p.0 q.0 && bytes_eq p.1 q.1) (p ≡ q)
entries_decide p q = (
  (λ e i. let both = both_true _ _ e in ((bytes_eq-Decides p.0 q.0).0 both.0 i, (bytes_eq-Decides p.1 q.1).0 both.1 i)),
  λ e i. (bytes_eq-Decides p.0 q.0).1 (ap (λ (u : List ℕ × List ℕ). u.0) e) i && (bytes_eq-Decides p.1 q.1).1 (ap (λ (u : List ℕ × List ℕ). u.1) e) i,
)

pub texts_decide : (xs ys : List (List ℕ × List ℕ)) (r : Bool) → r ≡ pointwise (λ (p q : List ℕ × List ℕ). bytes_eq p.0 q.0 && bytes_eq p.1 q.1) xs ys → Decides r (xs ≡ ys)
texts_decide xs ys r is = slice_eq-Decides entries_decide xs ys r is
