-- The rows of the archives have the bytes of the list.
use Rattle.std.proofs.Common.{◌≡◌, inl, inr, ℕ, ◌+◌, ◌-◌, option_map, unwrap_or, Bool, true, false, List, [], ◌∷◌, ◌++◌, bytes_eq, refl, sym, ap, subst, ◌∙◌, arith, true≢false, Less, Equal}
use Rattle.std.specs.Prelude.{sum_by, find}
use Rattle.std.specs.Cmp.Lexicographic.{bytes_decides}
use Rattle.std.proofs.lemmas.List.Sums.{sum_by-cons}
use Rattle.std.proofs.lemmas.Cmp.{tied_itself}
use Rattle.sqlite.specs.declared.types.Value.{Value}
use Rattle.sqlite.specs.declared.types.Value.TheVariants.{Text}
use Rattle.sqlite.specs.Order.{Row, column, value_cmp}
use Rattle.sqlite_value.proofs.OrderLemmas.{value_cmp_total}
use Rattle.sqlite_trees.specs.Tree.{rowid, IsTable}
use Rattle.sqlite_rules.specs.Lists.{Has}
use Rattle.sqlite_rules.proofs.ListLemmas.{all_has}
use Rattle.job_rows.specs.declared.archive.Archive.{Archive}
use Rattle.job_rows.specs.Map.{is_of, has_archive, without_archive, total_bytes}
use Rattle.job_rows.specs.InStep.{AreApart}
use Rattle.job_record.specs.Keyed.{AreKeysApart}
use Rattle.job_record.specs.Archives.{archive_columns}
use Rattle.job_record.specs.inner.Inside.{number_in, bytes_at}
use Rattle.job_record.specs.Map.{KeyMap}
use Rattle.job_record.proofs.ArchiveList.{apart_without, has_without, without_has, without_absent, keys_differ, found_cases, found_in, none_there}

-- a row of an archive
abbrev pub IsRowOf : Row → Archive → Type 0
IsRowOf r a = (id : Value) × (r ≡ id ∷ archive_columns a)

-- the bytes of one archive, and of the others
pub total_split : (xs : List Archive) (a : Archive) → AreApart xs → Has xs a → total_bytes xs ≡ a.bytes + total_bytes (without_archive a.key xs)
total_split [] a apart there = absurd there
total_split (x ∷ xs) a apart (inl same) =
    let key : bytes_eq a.key x.key ≡ true = (bytes_decides a.key x.key).1 (ap (λ (z : Archive). z.key) same) in
    let free : has_archive a.key xs ≡ false = ap (λ (z : Archive). has_archive z.key xs) same ∙ apart.0 in
    let rest : without_archive a.key xs ≡ xs = without_absent a.key xs free in
    let bytes : a.bytes ≡ x.bytes = ap (λ (z : Archive). z.bytes) same in rw (key, rest, bytes) refl
total_split (x ∷ xs) a apart (inr later) =
    let other : bytes_eq a.key x.key ≡ false = keys_differ x xs a apart later in
    let rest = total_split xs a apart.1 later in
    rw other (omega (arith, rest))

pub total_append : (xs ys : List Archive) → total_bytes (xs ++ ys) ≡ total_bytes xs + total_bytes ys
total_append [] ys = omega arith
total_append (x ∷ xs) ys = let rest : total_bytes (xs ++ ys) ≡ total_bytes xs + total_bytes ys = total_append xs ys in omega arith

no_more : (xs : List Archive) → ((a : Archive) → Has xs a → ⊥) → total_bytes xs ≡ 0
no_more [] none = refl
no_more (x ∷ xs) none = absurd (none x (inl refl))

key_of : (r : Row) (a : Archive) → IsRowOf r a → column r 1 ≡ Text a.key
key_of r a is = ap (λ (z : Row). column z 1) is.1

text_at : (a b : List ℕ) → Text a ≡ Text b → a ≡ b
text_at a b e = cc

-- no later row of a table is this one
pub not_again : (r : Row) (rows : List Row) → IsTable (r ∷ rows) → (z : Row) → Has rows z → z ≡ r → ⊥
not_again r rows up z there same =
    let below : value_cmp (rowid r) (rowid z) ≡ Less = all_has (λ y. value_cmp (rowid r) (rowid y) ≡ Less) rows z up.0 there in
    let tie : value_cmp (rowid r) (rowid r) ≡ Equal = tied_itself value_cmp_total (rowid r) in
    let both : value_cmp (rowid r) (rowid r) ≡ Less = subst (λ (y : Row). value_cmp (rowid r) (rowid y) ≡ Less) same below in
    let e : Less ≡ Equal = sym both ∙ tie in cc

pub sum_archives : (rows : List Row) → IsTable rows → AreKeysApart rows → (xs : List Archive) → AreApart xs → ((r : Row) → Has rows r → (a : Archive) × Has xs a × IsRowOf r a) → ((a : Archive) → Has xs a → (r : Row) × Has rows r × IsRowOf r a)
    → sum_by (λ (r : Row). number_in (column r 2)) rows ≡ total_bytes xs
sum_archives [] up keys xs apart each every = sym (no_more xs (λ a h. (every a h).1))
sum_archives (r ∷ rows) up keys xs apart each every =
    let own = each r (inl refl) in
    let a = own.0 in
    let first : number_in (column r 2) ≡ a.bytes = ap (λ (z : Row). number_in (column z 2)) own.2.1 in
    let later = sum_archives rows up.1 (λ x y hx hy e. keys x y (inr hx) (inr hy) e) (without_archive a.key xs) (apart_without a.key xs apart) other_rows others in
    sum_by-cons (λ (z : Row). number_in (column z 2)) r rows ∙ (let all = total_split xs a apart own.1 in omega (arith, first, later, all))
  where
    other_rows : (z : Row) → Has rows z → (b : Archive) × Has (without_archive (each r (inl refl)).0.key xs) b × IsRowOf z b
    other_rows z there =
        let a = (each r (inl refl)).0 in
        let b = each z (inr there) in
        (b.0, has_without a.key xs b.0 b.1 (differ (bytes_eq a.key b.0.key) refl), b.2)
      where
        differ : (t : Bool) → bytes_eq (each r (inl refl)).0.key (each z (inr there)).0.key ≡ t → t ≡ false
        differ false is = refl
        differ true is =
            let same : (each r (inl refl)).0.key ≡ (each z (inr there)).0.key = (bytes_decides _ _).0 is in
            absurd (not_again r rows up z there (keys z r (inr there) (inl refl) (key_of z (each z (inr there)).0 (each z (inr there)).2 ∙ ap Text (sym same) ∙ sym (key_of r (each r (inl refl)).0 (each r (inl refl)).2))))

    others : (b : Archive) → Has (without_archive (each r (inl refl)).0.key xs) b → (z : Row) × Has rows z × IsRowOf z b
    others b there =
        let kept = without_has (each r (inl refl)).0.key xs b there in
        let z = every b kept.0 in elim z.1 [
          | inl same ↦ absurd (let keys_same : (each r (inl refl)).0.key ≡ b.key = text_at _ _ (sym (key_of r (each r (inl refl)).0 (each r (inl refl)).2) ∙ ap (λ (y : Row). column y 1) (sym same) ∙ key_of z.0 b z.2) in
              true≢false (sym ((bytes_decides _ _).1 keys_same) ∙ kept.1))
          | inr later ↦ (z.0, later, z.2)
        ]

-- the bytes that are left without those of a key
pub left_bytes : (key : List ℕ) (map : KeyMap) → AreApart map.archives → total_bytes (without_archive key map.archives) ≡ total_bytes map.archives - unwrap_or (bytes_at key map) 0
left_bytes key map apart = elim (found_cases (find (is_of key) map.archives)) [
  | inl none ↦
      let same = ap total_bytes (without_absent key map.archives (none_there key map.archives none)) in
      let bytes : unwrap_or (bytes_at key map) 0 ≡ 0 = ap (λ o. unwrap_or (option_map (λ (archive : Archive). archive.bytes) o) 0) none in omega (arith, same, bytes)
  | inr some ↦
      let a = some.0 in
      let at = found_in key map.archives a some.1 in
      let split : total_bytes map.archives ≡ a.bytes + total_bytes (without_archive key map.archives) = total_split map.archives a apart at.1 ∙ ap (λ k. a.bytes + total_bytes (without_archive k map.archives)) at.0 in
      let bytes : unwrap_or (bytes_at key map) 0 ≡ a.bytes = ap (λ o. unwrap_or (option_map (λ (archive : Archive). archive.bytes) o) 0) some.1 in omega (arith, split, bytes)
]
