-- Lists of archives, and the maps from key to columns that they are.
use Rattle.std.proofs.Common.{◌≡◌, ◌⊎◌, inl, inr, ℕ, ◌+◌, ◌^◌, ◌*◌, ◌≤◌, ◌<◌, max, Bool, true, false, not, ◌||◌, cond, if◌then◌else◌, List, [], ◌∷◌, ◌++◌, Option, Some, None, option_map, bytes_eq, refl, sym, ap, subst, ◌∙◌, arith, true≢false}
use Rattle.std.specs.Prelude.{filter, find}
use Rattle.std.specs.Cmp.Lexicographic.{bytes_decides}
use Rattle.std.proofs.lemmas.List.Folds.{list_any-append}
use Rattle.sqlite.specs.Order.{Row as Columns}
use Rattle.sqlite_rules.specs.Lists.{Has}
use Rattle.job_rows.specs.declared.archive.Archive.{Archive}
use Rattle.job_rows.specs.Map.{is_of, has_archive, without_archive, greatest_used, total_bytes, greatest_number}
use Rattle.job_rows.specs.InStep.{AreApart, AreRising}
use Rattle.job_record.specs.Keyed.{held_in}
use Rattle.job_record.specs.Archives.{archive_columns, IsWithinStore, AreArchives}

-- ---- what is found for a key

pub found_cases : (o : Option Archive) → (o ≡ None) ⊎ ((a : Archive) × (o ≡ Some a))
found_cases None = inl refl
found_cases (Some a) = inr (a, refl)

pub or_false : (a b : Bool) → (a || b) ≡ false → (a ≡ false) × (b ≡ false)
or_false false b is = (refl, is)
or_false true b is = absurd (true≢false is)

pub or_none : (a b : Bool) → b ≡ false → (a || b) ≡ a
or_none true b is = refl
or_none false b is = is

pub find_none : (key : List ℕ) (xs : List Archive) → has_archive key xs ≡ false → find (is_of key) xs ≡ None
find_none key [] none = refl
find_none key (x ∷ xs) none = let both = or_false (is_of key x) (has_archive key xs) none in rw both.0 (find_none key xs both.1)

pub none_there : (key : List ℕ) (xs : List Archive) → find (is_of key) xs ≡ None → has_archive key xs ≡ false
none_there key [] is = refl
none_there key (x ∷ xs) is = either (is_of key x) is (none_there key xs)
  where
    either : (b : Bool) → cond b (Some x) (find (is_of key) xs) ≡ None → (find (is_of key) xs ≡ None → has_archive key xs ≡ false) → (b || has_archive key xs) ≡ false
    either true is rest = let e = is in cc
    either false is rest = rest is

pub found_there : (key : List ℕ) (xs : List Archive) (a : Archive) → find (is_of key) xs ≡ Some a → has_archive key xs ≡ true
found_there key xs a is = either (has_archive key xs) refl
  where
    either : (b : Bool) → has_archive key xs ≡ b → b ≡ true
    either true there = refl
    either false none = let e = sym is ∙ find_none key xs none in cc

-- an archive that is found is in the list, and has the key
pub found_in : (key : List ℕ) (xs : List Archive) (a : Archive) → find (is_of key) xs ≡ Some a → (a.key ≡ key) × Has xs a
found_in key [] a is = let e = is in cc
found_in key (x ∷ xs) a is = either (is_of key x) refl is (found_in key xs a)
  where
    either : (b : Bool) → is_of key x ≡ b → cond b (Some x) (find (is_of key) xs) ≡ Some a → (find (is_of key) xs ≡ Some a → (a.key ≡ key) × Has xs a) → (a.key ≡ key) × Has (x ∷ xs) a
    either true same is rest = let e : x ≡ a = cc in (ap (λ (r : Archive). r.key) (sym e) ∙ sym ((bytes_decides key x.key).0 same), inl (sym e))
    either false differs is rest = let r = rest is in (r.0, inr r.1)

pub find_without : (key k : List ℕ) (xs : List Archive) → find (is_of k) (without_archive key xs) ≡ if bytes_eq k key then None else find (is_of k) xs
find_without key k [] = either (bytes_eq k key)
  where
    either : (b : Bool) → ◌≡◌ {A = Option Archive} None (if b then None else None)
    either true = refl
    either false = refl
find_without key k (x ∷ xs) = step (is_of key x) (is_of k x) (bytes_eq k key) refl refl refl (find_without key k xs)
  where
    step : (own mine same : Bool) → is_of key x ≡ own → is_of k x ≡ mine → bytes_eq k key ≡ same → find (is_of k) (without_archive key xs) ≡ (if same then None else find (is_of k) xs)
        → find (is_of k) (cond (not own) (x ∷ without_archive key xs) (without_archive key xs)) ≡ if same then None else (cond mine (Some x) (find (is_of k) xs))
    step true mine true o m s rest = rest
    step true true false o m s rest =
        let keys : k ≡ key = (bytes_decides k x.key).0 m ∙ sym ((bytes_decides key x.key).0 o) in absurd (true≢false (sym ((bytes_decides k key).1 keys) ∙ s))
    step true false false o m s rest = rest
    step false true true o m s rest =
        let keys : key ≡ x.key = sym ((bytes_decides k key).0 s) ∙ (bytes_decides k x.key).0 m in absurd (true≢false (sym ((bytes_decides key x.key).1 keys) ∙ o))
    step false false true o m s rest = rw m rest
    step false true false o m s rest = rw m refl
    step false false false o m s rest = rw m rest

pub find_append : (k : List ℕ) (xs : List Archive) (own : Archive) → has_archive own.key xs ≡ false
    → find (is_of k) (xs ++ own ∷ []) ≡ if bytes_eq k own.key then Some own else find (is_of k) xs
find_append k [] own free = either (bytes_eq k own.key)
  where
    either : (b : Bool) → cond b (Some own) None ≡ if b then Some own else None
    either true = refl
    either false = refl
find_append k (x ∷ xs) own free =
    let both = or_false (is_of own.key x) (has_archive own.key xs) free in
    step (is_of k x) (bytes_eq k own.key) refl refl both.0 (find_append k xs own both.1)
  where
    step : (mine same : Bool) → is_of k x ≡ mine → bytes_eq k own.key ≡ same → is_of own.key x ≡ false → find (is_of k) (xs ++ own ∷ []) ≡ (if same then Some own else find (is_of k) xs)
        → cond mine (Some x) (find (is_of k) (xs ++ own ∷ [])) ≡ if same then Some own else (cond mine (Some x) (find (is_of k) xs))
    step true true m s other rest =
        let keys : own.key ≡ x.key = sym ((bytes_decides k own.key).0 s) ∙ (bytes_decides k x.key).0 m in absurd (true≢false (sym ((bytes_decides own.key x.key).1 keys) ∙ other))
    step true false m s other rest = refl
    step false same m s other rest = rest

-- ---- no key has two

pub has_append : (key : List ℕ) (xs ys : List Archive) → has_archive key (xs ++ ys) ≡ (has_archive key xs || has_archive key ys)
has_append key xs ys = list_any-append (is_of key) xs ys

differs_back : (t : Bool) (a b : List ℕ) → bytes_eq a b ≡ t → bytes_eq b a ≡ false → t ≡ false
differs_back false a b is differs = refl
differs_back true a b is differs = sym ((bytes_decides b a).1 (sym ((bytes_decides a b).0 is))) ∙ differs

pub apart_more : (own : Archive) (xs : List Archive) → AreApart xs → has_archive own.key xs ≡ false → AreApart (xs ++ own ∷ [])
apart_more own [] apart new = (refl, tt)
apart_more own (x ∷ xs) apart new =
    let both = or_false (is_of own.key x) (has_archive own.key xs) new in
    let other : bytes_eq x.key own.key ≡ false = differs_back (bytes_eq x.key own.key) x.key own.key refl both.0 in
    let none : has_archive x.key (own ∷ []) ≡ false = or_none (bytes_eq x.key own.key) false refl ∙ other in
    (has_append x.key xs (own ∷ []) ∙ or_none (has_archive x.key xs) (has_archive x.key (own ∷ [])) none ∙ apart.0, apart_more own xs apart.1 both.1)

pub without_own : (key : List ℕ) (xs : List Archive) → has_archive key (without_archive key xs) ≡ false
without_own key xs = none_there key (without_archive key xs) (find_without key key xs ∙ rw ((bytes_decides key key).1 refl) refl)

-- lists in which the same is found for a key both have it or not
pub has_same : (k : List ℕ) (xs ys : List Archive) → find (is_of k) xs ≡ find (is_of k) ys → has_archive k xs ≡ has_archive k ys
has_same k xs ys same = elim (found_cases (find (is_of k) xs)) [
  | inl none ↦ none_there k xs none ∙ sym (none_there k ys (sym same ∙ none))
  | inr some ↦ found_there k xs some.0 some.1 ∙ sym (found_there k ys some.0 (sym same ∙ some.1))
]

pub has_other : (key k : List ℕ) (xs : List Archive) → bytes_eq k key ≡ false → has_archive k (without_archive key xs) ≡ has_archive k xs
has_other key k xs differs = has_same k (without_archive key xs) xs (find_without key k xs ∙ rw differs refl)

without_free : (key k : List ℕ) (xs : List Archive) → has_archive k xs ≡ false → has_archive k (without_archive key xs) ≡ false
without_free key k xs none = none_there k (without_archive key xs) (find_without key k xs ∙ either (bytes_eq k key))
  where
    either : (b : Bool) → (if b then None else find (is_of k) xs) ≡ None
    either true = refl
    either false = find_none k xs none

pub apart_without : (key : List ℕ) (xs : List Archive) → AreApart xs → AreApart (without_archive key xs)
apart_without key [] apart = tt
apart_without key (x ∷ xs) apart = kept (not (is_of key x)) (apart_without key xs apart.1)
  where
    kept : (b : Bool) → AreApart (without_archive key xs) → AreApart (cond b (x ∷ without_archive key xs) (without_archive key xs))
    kept true rest = (without_free key x.key xs apart.0, rest)
    kept false rest = rest

free_of : (key : List ℕ) (xs : List Archive) (a : Archive) → has_archive key xs ≡ false → Has xs a → bytes_eq key a.key ≡ false
free_of key [] a none there = absurd there
free_of key (x ∷ xs) a none (inl same) = ap (λ (z : Archive). bytes_eq key z.key) same ∙ (or_false (is_of key x) (has_archive key xs) none).0
free_of key (x ∷ xs) a none (inr later) = free_of key xs a (or_false (is_of key x) (has_archive key xs) none).1 later

pub keys_differ : (x : Archive) (xs : List Archive) (a : Archive) → AreApart (x ∷ xs) → Has xs a → bytes_eq a.key x.key ≡ false
keys_differ x xs a apart later = differs_back (bytes_eq a.key x.key) a.key x.key refl (free_of x.key xs a apart.0 later)

pub has_without : (key : List ℕ) (xs : List Archive) (a : Archive) → Has xs a → bytes_eq key a.key ≡ false → Has (without_archive key xs) a
has_without key [] a there other = there
has_without key (x ∷ xs) a (inl same) other = rw (ap (λ (z : Archive). bytes_eq key z.key) (sym same) ∙ other) (inl same)
has_without key (x ∷ xs) a (inr later) other = either (is_of key x) (has_without key xs a later other)
  where
    either : (b : Bool) → Has (without_archive key xs) a → Has (cond (not b) (x ∷ without_archive key xs) (without_archive key xs)) a
    either true rest = rest
    either false rest = inr rest

pub without_has : (key : List ℕ) (xs : List Archive) (a : Archive) → Has (without_archive key xs) a → Has xs a × (bytes_eq key a.key ≡ false)
without_has key [] a there = absurd there
without_has key (x ∷ xs) a there = either (is_of key x) refl there (without_has key xs a)
  where
    either : (b : Bool) → is_of key x ≡ b → Has (cond (not b) (x ∷ without_archive key xs) (without_archive key xs)) a → (Has (without_archive key xs) a → Has xs a × (bytes_eq key a.key ≡ false)) → Has (x ∷ xs) a × (bytes_eq key a.key ≡ false)
    either true is h rest = let r = rest h in (inr r.0, r.1)
    either false is (inl same) rest = (inl same, ap (λ (z : Archive). bytes_eq key z.key) same ∙ is)
    either false is (inr later) rest = let r = rest later in (inr r.0, r.1)

-- an archive of the list is found by its key
pub find_has : (xs : List Archive) (a : Archive) → AreApart xs → Has xs a → find (is_of a.key) xs ≡ Some a
find_has [] a apart there = absurd there
find_has (x ∷ xs) a apart (inl same) = rw ((bytes_decides a.key x.key).1 (ap (λ (z : Archive). z.key) same)) (ap Some (sym same))
find_has (x ∷ xs) a apart (inr later) =
    let other : is_of a.key x ≡ false = keys_differ x xs a apart later in rw other (find_has xs a apart.1 later)

-- without a key that it does not have, a list is as it was
pub without_absent : (key : List ℕ) (xs : List Archive) → has_archive key xs ≡ false → without_archive key xs ≡ xs
without_absent key [] none = refl
without_absent key (x ∷ xs) none = let both = or_false (is_of key x) (has_archive key xs) none in rw both.0 (ap (λ (l : List Archive). x ∷ l) (without_absent key xs both.1))

-- without the key of its first, the rest is left
pub without_first : (x : Archive) (xs : List Archive) → AreApart (x ∷ xs) → without_archive x.key (x ∷ xs) ≡ xs
without_first x xs apart = rw ((bytes_decides x.key x.key).1 refl) (without_absent x.key xs apart.0)

-- ---- numbers rise

rising_from : (low high : ℕ) (xs : List Archive) → low ≤ high → AreRising high xs → AreRising low xs
rising_from low high [] under rising = tt
rising_from low high (x ∷ xs) under rising = let next : high < x.used = rising.0 in (omega arith, rising.1)

rising_kept : (keeps : Archive → Bool) (last : ℕ) (xs : List Archive) → AreRising last xs → AreRising last (filter keeps xs)
rising_kept keeps last [] rising = tt
rising_kept keeps last (x ∷ xs) rising = either (keeps x) (rising_kept keeps x.used xs rising.1)
  where
    either : (b : Bool) → AreRising x.used (filter keeps xs) → AreRising last (cond b (x ∷ filter keeps xs) (filter keeps xs))
    either true rest = (rising.0, rest)
    either false rest = let next : last < x.used = rising.0 in rising_from last x.used (filter keeps xs) (omega arith) rest

greatest_kept : (keeps : Archive → Bool) (xs : List Archive) → greatest_used (filter keeps xs) ≤ greatest_used xs
greatest_kept keeps [] = omega arith
greatest_kept keeps (x ∷ xs) = either (keeps x) (greatest_kept keeps xs)
  where
    either : (b : Bool) → greatest_used (filter keeps xs) ≤ greatest_used xs → greatest_used (cond b (x ∷ filter keeps xs) (filter keeps xs)) ≤ max x.used (greatest_used xs)
    either true rest = omega arith
    either false rest = omega arith

pub greatest_without : (key : List ℕ) (xs : List Archive) → greatest_used (without_archive key xs) ≤ greatest_used xs
greatest_without key xs = greatest_kept (λ archive. not (is_of key archive)) xs

rising_more : (last : ℕ) (xs : List Archive) (own : Archive) → AreRising last xs → last < own.used → greatest_used xs < own.used → AreRising last (xs ++ own ∷ [])
rising_more last [] own rising first all = (first, tt)
rising_more last (x ∷ xs) own rising first all = (rising.0, rising_more x.used xs own rising.1 (omega arith) (omega arith))

-- ---- all numbers are within the store

has_filtered : (keeps : Archive → Bool) (xs : List Archive) (a : Archive) → Has (filter keeps xs) a → Has xs a
has_filtered keeps [] a h = h
has_filtered keeps (x ∷ xs) a h = either (keeps x) h (has_filtered keeps xs a)
  where
    either : (b : Bool) → Has (cond b (x ∷ filter keeps xs) (filter keeps xs)) a → (Has (filter keeps xs) a → Has xs a) → Has (x ∷ xs) a
    either true (inl same) rest = inl same
    either true (inr later) rest = inr (rest later)
    either false there rest = inr (rest there)

has_more : (own : Archive) (xs : List Archive) (a : Archive) → Has (xs ++ own ∷ []) a → Has xs a ⊎ (a ≡ own)
has_more own [] a (inl same) = inr same
has_more own [] a (inr none) = absurd none
has_more own (x ∷ xs) a (inl same) = inl (inl same)
has_more own (x ∷ xs) a (inr later) = elim (has_more own xs a later) [ inl there ↦ inl (inr there) | inr is ↦ inr is ]

-- ---- a list as a map

-- what each key has in a list
pub record IsListOf (f : List ℕ → Option Columns) (xs : List Archive) : Type 0 where
  pub there : (k : List ℕ) → f k ≡ option_map archive_columns (find (is_of k) xs)
  pub apart : AreApart xs
  pub rising : AreRising 0 xs
  pub within : (a : Archive) → Has xs a → IsWithinStore a

pub list_of : (rows : List Columns) (xs : List Archive) → AreArchives rows xs → IsListOf (held_in rows) xs
list_of rows xs it = record { there = it.there; apart = it.apart; rising = it.rising; within = it.within }

pub archives_of : (rows : List Columns) (f : List ℕ → Option Columns) (xs : List Archive) → ((k : List ℕ) → held_in rows k ≡ f k) → IsListOf f xs → AreArchives rows xs
archives_of rows f xs same it = record { there = λ k. same k ∙ it.there k; apart = it.apart; rising = it.rising; within = it.within }

module _ (f : List ℕ → Option Columns) (xs : List Archive) (it : IsListOf f xs) where
  module _ (key : List ℕ) where
    pub list_without : IsListOf (λ k. if bytes_eq k key then None else f k) (without_archive key xs)
    list_without = record {
      there = λ k. either k (bytes_eq k key) ∙ ap (option_map archive_columns) (sym (find_without key k xs));
      apart = apart_without key xs it.apart;
      rising = rising_kept (λ archive. not (is_of key archive)) 0 xs it.rising;
      within = λ a h. it.within a (has_filtered (λ archive. not (is_of key archive)) xs a h);
    }
      where
        either : (k : List ℕ) (b : Bool) → (if b then None else f k) ≡ option_map archive_columns (if b then None else find (is_of k) xs)
        either k true = refl
        either k false = it.there k

  module _ (own : Archive) (free : has_archive own.key xs ≡ false) (later : greatest_used xs < own.used) (fits : IsWithinStore own) where
    pub list_more : IsListOf (λ k. if bytes_eq k own.key then Some (archive_columns own) else f k) (xs ++ own ∷ [])
    list_more = record {
      there = λ k. either k (bytes_eq k own.key) ∙ ap (option_map archive_columns) (sym (find_append k xs own free));
      apart = apart_more own xs it.apart free;
      rising = rising_more 0 xs own it.rising (omega (arith, later)) later;
      within = λ a h. elim (has_more own xs a h) [ inl there ↦ it.within a there | inr is ↦ subst IsWithinStore (sym is) fits ];
    }
      where
        either : (k : List ℕ) (b : Bool) → (if b then Some (archive_columns own) else f k) ≡ option_map archive_columns (if b then Some own else find (is_of k) xs)
        either k true = refl
        either k false = it.there k

  -- the columns of a key are those of its archive
  pub columns_found : (key : List ℕ) (c : Columns) → f key ≡ Some c → (a : Archive) × (find (is_of key) xs ≡ Some a) × (c ≡ archive_columns a) × Has xs a × (a.key ≡ key)
  columns_found key c is = elim (found_cases (find (is_of key) xs)) [
    | inl none ↦ absurd (let e : Some c ≡ None = sym is ∙ it.there key ∙ ap (option_map archive_columns) none in cc)
    | inr some ↦
        let e : Some c ≡ Some (archive_columns some.0) = sym is ∙ it.there key ∙ ap (option_map archive_columns) some.1 in
        let same : c ≡ archive_columns some.0 = cc in
        let r = found_in key xs some.0 some.1 in
        (some.0, some.1, same, r.1, r.0)
  ]

  pub columns_none : (key : List ℕ) → f key ≡ None → has_archive key xs ≡ false
  columns_none key is = elim (found_cases (find (is_of key) xs)) [
    | inl none ↦ none_there key xs none
    | inr some ↦ absurd (let e : None ≡ Some (archive_columns some.0) = sym is ∙ it.there key ∙ ap (option_map archive_columns) some.1 in cc)
  ]

  -- an archive of the list is found by its key
  pub free_columns : (key : List ℕ) → has_archive key xs ≡ false → f key ≡ None
  free_columns key none = it.there key ∙ ap (option_map archive_columns) (find_none key xs none)

-- ---- sums

total_of : (last : ℕ) (xs : List Archive) → AreRising last xs → last ≤ greatest_number → ((a : Archive) → Has xs a → IsWithinStore a) → total_bytes xs + last * greatest_number ≤ greatest_number * greatest_number
total_of last [] rising low within = omega arith
total_of last (x ∷ xs) rising low within =
    let own = within x (inl refl) in
    let rest : total_bytes xs + x.used * greatest_number ≤ greatest_number * greatest_number = total_of x.used xs rising.1 own.used (λ a h. within a (inr h)) in
    let next : last < x.used = rising.0 in
    let bytes : x.bytes ≤ greatest_number = own.bytes in
    omega arith

-- all archives together have fewer bytes than 2^127
pub total_bound : (f : List ℕ → Option Columns) (xs : List Archive) → IsListOf f xs → total_bytes xs < 2 ^ 127
total_bound f xs it = let most : total_bytes xs + 0 * greatest_number ≤ greatest_number * greatest_number = total_of 0 xs it.rising (omega arith) it.within in omega arith
