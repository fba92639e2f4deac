-- Which archives go, oldest first, and what is left of a map.
use Rattle.std.proofs.Common.{◌≡◌, inl, inr, ℕ, suc, zero, ◌≤◌, ◌<◌, Bool, true, false, not, ◌&&◌, ◌||◌, cond, if◌then◌else◌, List, [], ◌∷◌, ◌++◌, length, take, drop, Option, Some, None, option_map, is_some, bytes_eq, nat_le, refl, sym, ap, subst, ◌∙◌, append-nil, arith, true≢false}
use Rattle.std.specs.Prelude.{slice_get, find}
use Rattle.std.specs.Cmp.Lexicographic.{bytes_decides}
use Rattle.std.proofs.lemmas.Bool.{leb-true, le-leb}
use Rattle.std.proofs.lemmas.Bool.Decides.{leb_tells}
use Rattle.std.proofs.lemmas.List.{take-append-drop}
use Rattle.job_rows.specs.declared.archive.Archive.{Archive}
use Rattle.job_rows.specs.declared.row.Row.{Row}
use Rattle.job_rows.specs.Map.{is_of, has_archive, without_archive, total_bytes, keys_in, next_used, lost_count, bytes_of, fits, keeps_archive, archives_with, lost_for, left_for, lost_by, loses_own}
use Rattle.job_rows.specs.InStep.{AreApart}
use Rattle.job_record.specs.Statements.{put_params}
use Rattle.job_record.specs.Map.{KeyMap, unarchived, kept_as, changed_by, sets, columns_after}
use Rattle.job_record.specs.inner.Inside.{with_archives, without_flag, putting_of, set_alone, after_loss, lost_in, lost_keys, own_key, bytes_at}
use Rattle.job_record.proofs.ArchiveList.{or_false, or_none, has_append, has_other, apart_more, apart_without, without_own, without_first}

pub or_second : (a b : Bool) → b ≡ true → (a || b) ≡ true
or_second true b is = refl
or_second false b is = is

pub has_parts : (key : List ℕ) (n : ℕ) (xs : List Archive) → has_archive key xs ≡ (has_archive key (take n xs) || has_archive key (drop n xs))
has_parts key n xs = ap (has_archive key) (sym (take-append-drop n xs)) ∙ has_append key (take n xs) (drop n xs)

has_rest : (key : List ℕ) (n : ℕ) (xs : List Archive) → has_archive key xs ≡ false → has_archive key (drop n xs) ≡ false
has_rest key n xs none = (or_false (has_archive key (take n xs)) (has_archive key (drop n xs)) (sym (has_parts key n xs) ∙ none)).1

has_start : (key : List ℕ) (n : ℕ) (xs : List Archive) → has_archive key xs ≡ false → has_archive key (take n xs) ≡ false
has_start key n xs none = (or_false (has_archive key (take n xs)) (has_archive key (drop n xs)) (sym (has_parts key n xs) ∙ none)).0

first_apart : (b : Bool) (key : List ℕ) (n : ℕ) (x : Archive) (xs : List Archive) → is_of key x ≡ b → has_archive x.key xs ≡ false
    → (has_archive key (take n xs) ≡ true → has_archive key (drop n xs) ≡ false) → (b || has_archive key (take n xs)) ≡ true → has_archive key (drop n xs) ≡ false
first_apart true key n x xs is alone rest there = has_rest key n xs (ap (λ k. has_archive k xs) ((bytes_decides key x.key).0 is) ∙ alone)
first_apart false key n x xs is alone rest there = rest there

-- an archive that goes is the only one of its key
pub gone_apart : (key : List ℕ) (n : ℕ) (xs : List Archive) → AreApart xs → has_archive key (take n xs) ≡ true → has_archive key (drop n xs) ≡ false
gone_apart key zero xs apart there = absurd (true≢false (sym there))
gone_apart key (suc n) [] apart there = absurd (true≢false (sym there))
gone_apart key (suc n) (x ∷ xs) apart there = first_apart (is_of key x) key n x xs refl apart.0 (gone_apart key n xs apart.1) there

own_there : (key : List ℕ) (own : Archive) → is_of key own ≡ true → has_archive key (own ∷ []) ≡ true
own_there key own is = or_none (is_of key own) false refl ∙ is

-- ---- how many go

not_within : (a b : ℕ) → b < a → nat_le a b ≡ false
not_within a b more = elim (leb_tells a b) [ inl under ↦ absurd (let low : a ≤ b = under.1 in omega arith) | inr over ↦ over.0 ]

total_rest : (n : ℕ) (xs : List Archive) → total_bytes (drop n xs) ≤ total_bytes xs
total_rest zero xs = omega arith
total_rest (suc n) [] = omega arith
total_rest (suc n) (x ∷ xs) = let rest : total_bytes (drop n xs) ≤ total_bytes xs = total_rest n xs in omega arith

-- so many as leave the rest within the budget, if one fewer does not
pub count_is : (b : ℕ) (xs : List Archive) (n : ℕ) → n ≤ length xs → total_bytes (drop n xs) ≤ b → ((m : ℕ) → n ≡ suc m → b < total_bytes (drop m xs)) → lost_count (Some b) xs ≡ n
count_is b [] zero short within past = refl
count_is b [] (suc n) short within past = absurd (omega arith)
count_is b (x ∷ xs) zero short within past = rw (le-leb (total_bytes (x ∷ xs)) b within) refl
count_is b (x ∷ xs) (suc n) short within past =
    let more : b < total_bytes (drop n (x ∷ xs)) = past n refl in
    let part : total_bytes (drop n (x ∷ xs)) ≤ total_bytes (x ∷ xs) = total_rest n (x ∷ xs) in
    let over : nat_le (total_bytes (x ∷ xs)) b ≡ false = not_within (total_bytes (x ∷ xs)) b (omega arith) in
    rw over (ap suc (count_is b xs n (omega arith) within (λ m is. subst (λ k. b < total_bytes (drop k (x ∷ xs))) is more)))

-- an archive that is within the budget stays if it comes last
last_stays : (b : ℕ) (key : List ℕ) (own : Archive) (xs : List Archive) → is_of key own ≡ true → own.bytes ≤ b
    → has_archive key (drop (lost_count (Some b) (xs ++ own ∷ [])) (xs ++ own ∷ [])) ≡ true
last_stays b key own [] is within =
    let low : total_bytes (own ∷ []) ≤ b = omega arith in
    rw (le-leb (total_bytes (own ∷ [])) b low) (own_there key own is)
last_stays b key own (x ∷ xs) is within = either (nat_le (total_bytes (x ∷ xs ++ own ∷ [])) b) (last_stays b key own xs is within)
  where
    at_end : has_archive key (xs ++ own ∷ []) ≡ true
    at_end = has_append key xs (own ∷ []) ∙ or_second (has_archive key xs) (has_archive key (own ∷ [])) (own_there key own is)

    either : (low : Bool) → has_archive key (drop (lost_count (Some b) (xs ++ own ∷ [])) (xs ++ own ∷ [])) ≡ true
        → has_archive key (drop (if low then 0 else suc (lost_count (Some b) (xs ++ own ∷ []))) (x ∷ xs ++ own ∷ [])) ≡ true
    either true rest = or_second (is_of key x) (has_archive key (xs ++ own ∷ [])) at_end
    either false rest = rest

own_stays : (budget : Option ℕ) (key : List ℕ) (own : Archive) (xs : List Archive) → is_of key own ≡ true → fits own.bytes budget ≡ true
    → has_archive key (drop (lost_count budget (xs ++ own ∷ [])) (xs ++ own ∷ [])) ≡ true
own_stays None key own xs is within = has_append key xs (own ∷ []) ∙ or_second (has_archive key xs) (has_archive key (own ∷ [])) (own_there key own is)
own_stays (Some b) key own xs is within = last_stays b key own xs is (leb-true own.bytes b within)

and_second : (a b : Bool) → (a && b) ≡ true → b ≡ true
and_second true b is = is
and_second false b is = absurd (true≢false (sym is))

-- ---- one goes after the other

pub first_more : (xs : List Archive) (n : ℕ) (a : Archive) → slice_get (drop n xs) 0 ≡ Some a → (take (suc n) xs ≡ take n xs ++ a ∷ []) × (drop n xs ≡ a ∷ drop (suc n) xs) × (suc n ≤ length xs)
first_more [] zero a is = absurd (let e = is in cc)
first_more [] (suc n) a is = absurd (let e = is in cc)
first_more (x ∷ xs) zero a is = let same : x ≡ a = cc in (ap (λ (z : Archive). z ∷ []) same, ap (λ (z : Archive). z ∷ xs) same, omega arith)
first_more (x ∷ xs) (suc n) a is = let h = first_more xs n a is in (ap (λ (l : List Archive). x ∷ l) h.0, h.1, omega (arith, h.2))

keys_more : (xs : List Archive) (a : Archive) → keys_in (xs ++ a ∷ []) ≡ keys_in xs ++ a.key ∷ []
keys_more [] a = refl
keys_more (x ∷ xs) a = ap (λ (l : List (List ℕ)). x.key ∷ l) (keys_more xs a)

pub apart_rest : (n : ℕ) (xs : List Archive) → AreApart xs → AreApart (drop n xs)
apart_rest zero xs apart = apart
apart_rest (suc n) [] apart = tt
apart_rest (suc n) (x ∷ xs) apart = apart_rest n xs apart.1

-- the first of a list goes, and its row has the flag at 0
pub loses_first : (map : KeyMap) (a : Archive) (rest : List Archive) → map.archives ≡ a ∷ rest → AreApart map.archives → with_archives (without_archive a.key map.archives) (without_flag a.key map) ≡ after_loss 1 map
loses_first map a rest is apart = λ i. record {
  rows = λ k. rows k i;
  archives = left i;
  budget = map.budget;
  beside = map.beside;
}
  where
    left : without_archive a.key map.archives ≡ drop 1 map.archives
    left = ap (without_archive a.key) is ∙ without_first a rest (subst AreApart is apart) ∙ sym (ap (drop 1) is)

    rows : (k : List ℕ) → (if bytes_eq k a.key then option_map unarchived (map.rows k) else map.rows k) ≡ (if has_archive k (take 1 map.archives) then option_map unarchived (map.rows k) else map.rows k)
    rows k = ap (λ b. if b then option_map unarchived (map.rows k) else map.rows k) (sym (ap (λ l. has_archive k (take 1 l)) is ∙ or_none (bytes_eq k a.key) false refl))

-- one more goes
pub loses_more : (map : KeyMap) (n : ℕ) (a : Archive) → slice_get (drop n map.archives) 0 ≡ Some a → AreApart map.archives → after_loss 1 (after_loss n map) ≡ after_loss (suc n) map
loses_more map n a is apart = λ i. record { rows = λ k. rows k i; archives = left i; budget = map.budget; beside = map.beside }
  where
    parts : (take (suc n) map.archives ≡ take n map.archives ++ a ∷ []) × (drop n map.archives ≡ a ∷ drop (suc n) map.archives) × (suc n ≤ length map.archives)
    parts = first_more map.archives n a is

    left : drop 1 (drop n map.archives) ≡ drop (suc n) map.archives
    left = ap (drop 1) parts.1

    first : (k : List ℕ) → has_archive k (take 1 (drop n map.archives)) ≡ bytes_eq k a.key
    first k = ap (λ l. has_archive k (take 1 l)) parts.1 ∙ or_none (bytes_eq k a.key) false refl

    both : (k : List ℕ) → has_archive k (take (suc n) map.archives) ≡ (has_archive k (take n map.archives) || bytes_eq k a.key)
    both k = ap (has_archive k) parts.0 ∙ has_append k (take n map.archives) (a ∷ []) ∙ ap (λ b. has_archive k (take n map.archives) || b) (or_none (bytes_eq k a.key) false refl)

    rows : (k : List ℕ) → (if has_archive k (take 1 (drop n map.archives)) then option_map unarchived (if has_archive k (take n map.archives) then option_map unarchived (map.rows k) else map.rows k) else (if has_archive k (take n map.archives) then option_map unarchived (map.rows k) else map.rows k))
        ≡ (if has_archive k (take (suc n) map.archives) then option_map unarchived (map.rows k) else map.rows k)
    rows k = ap (λ b. if b then option_map unarchived (if has_archive k (take n map.archives) then option_map unarchived (map.rows k) else map.rows k) else (if has_archive k (take n map.archives) then option_map unarchived (map.rows k) else map.rows k)) (first k)
        ∙ either (bytes_eq k a.key) (has_archive k (take n map.archives)) refl refl ∙ sym (ap (λ b. if b then option_map unarchived (map.rows k) else map.rows k) (both k))
      where
        either : (own gone : Bool) → bytes_eq k a.key ≡ own → has_archive k (take n map.archives) ≡ gone
            → (if own then option_map unarchived (if gone then option_map unarchived (map.rows k) else map.rows k) else (if gone then option_map unarchived (map.rows k) else map.rows k)) ≡ (if (gone || own) then option_map unarchived (map.rows k) else map.rows k)
        either true true own_is gone_is =
            let none = gone_apart k n map.archives apart gone_is in
            let there : has_archive k (drop n map.archives) ≡ true = ap (has_archive k) parts.1 ∙ rw own_is refl in absurd (true≢false (sym there ∙ none))
        either true false own_is gone_is = refl
        either false true own_is gone_is = refl
        either false false own_is gone_is = refl

pub keys_after : (xs : List Archive) (n : ℕ) (a : Archive) → slice_get (drop n xs) 0 ≡ Some a → keys_in (take (suc n) xs) ≡ keys_in (take n xs) ++ a.key ∷ []
keys_after xs n a is = ap keys_in (first_more xs n a is).0 ∙ keys_more (take n xs) a

-- ---- a row that is put

module _ (budget : Option ℕ) (row : Row) (map : KeyMap) (within : map.budget ≡ budget) (apart : AreApart map.archives) where
  abbrev alone : KeyMap
  alone = set_alone (putting_of budget row) map

  abbrev all : List Archive
  all = archives_with row map.budget map.archives

  own_apart : (keeps : Bool) (used : ℕ) → AreApart (without_archive row.key map.archives ++ (if keeps then record { key = row.key; bytes = bytes_of row; used = used } ∷ [] else []))
  own_apart true used = apart_more _ (without_archive row.key map.archives) (apart_without row.key map.archives apart) (without_own row.key map.archives)
  own_apart false used = subst AreApart (sym (append-nil (without_archive row.key map.archives))) (apart_without row.key map.archives apart)

  pub all_are : alone.archives ≡ all
  all_are = ap (λ b. archives_with row b map.archives) (sym within)

  pub all_apart : AreApart alone.archives
  all_apart = own_apart (keeps_archive row budget) (next_used map.archives)

  -- the row's own archive does not go
  own_left : (keeps : Bool) → keeps_archive row map.budget ≡ keeps → (xs : List Archive) → xs ≡ without_archive row.key map.archives ++ (if keeps then record { key = row.key; bytes = bytes_of row; used = next_used map.archives } ∷ [] else [])
      → AreApart xs → has_archive row.key (take (lost_count map.budget xs) xs) ≡ false
  own_left true keeps xs is xs_apart = either (has_archive row.key (take (lost_count map.budget xs) xs)) refl
    where
      stays : has_archive row.key (drop (lost_count map.budget xs) xs) ≡ true
      stays = subst (λ l. has_archive row.key (drop (lost_count map.budget l) l) ≡ true) (sym is)
          (own_stays map.budget row.key (record { key = row.key; bytes = bytes_of row; used = next_used map.archives }) (without_archive row.key map.archives) ((bytes_decides row.key row.key).1 refl) (and_second row.archived (fits (bytes_of row) map.budget) keeps))

      either : (b : Bool) → has_archive row.key (take (lost_count map.budget xs) xs) ≡ b → b ≡ false
      either false there = refl
      either true there = absurd (true≢false (sym stays ∙ gone_apart row.key (lost_count map.budget xs) xs xs_apart there))
  own_left false keeps xs is xs_apart = has_start row.key (lost_count map.budget xs) xs (ap (has_archive row.key) (is ∙ append-nil (without_archive row.key map.archives)) ∙ without_own row.key map.archives)

  -- the row's key has an archive if the row keeps one
  pub own_kept : has_archive row.key (left_for row map.budget map.archives) ≡ keeps_archive row map.budget
  own_kept = either (keeps_archive row map.budget) refl
    where
      either : (keeps : Bool) → keeps_archive row map.budget ≡ keeps → has_archive row.key (left_for row map.budget map.archives) ≡ keeps
      either true keeps = subst (λ l. has_archive row.key (drop (lost_count map.budget l) l) ≡ true) (sym (ap (λ b. without_archive row.key map.archives ++ (if b then record { key = row.key; bytes = bytes_of row; used = next_used map.archives } ∷ [] else [])) keeps))
          (own_stays map.budget row.key (record { key = row.key; bytes = bytes_of row; used = next_used map.archives }) (without_archive row.key map.archives) ((bytes_decides row.key row.key).1 refl) (and_second row.archived (fits (bytes_of row) map.budget) keeps))
      either false keeps = has_rest row.key (lost_count map.budget all) all
          (ap (λ b. has_archive row.key (without_archive row.key map.archives ++ (if b then record { key = row.key; bytes = bytes_of row; used = next_used map.archives } ∷ [] else []))) keeps
          ∙ ap (has_archive row.key) (append-nil (without_archive row.key map.archives)) ∙ without_own row.key map.archives)

  other_in : (k : List ℕ) → bytes_eq k row.key ≡ false → has_archive k all ≡ has_archive k map.archives
  other_in k differs = either (keeps_archive row map.budget)
    where
      own : Archive
      own = record { key = row.key; bytes = bytes_of row; used = next_used map.archives }

      alone_has : has_archive k (own ∷ []) ≡ false
      alone_has = or_none (bytes_eq k row.key) false refl ∙ differs

      either : (keeps : Bool) → has_archive k (without_archive row.key map.archives ++ (if keeps then own ∷ [] else [])) ≡ has_archive k map.archives
      either true = has_append k (without_archive row.key map.archives) (own ∷ []) ∙ or_none (has_archive k (without_archive row.key map.archives)) (has_archive k (own ∷ [])) alone_has ∙ has_other row.key k map.archives differs
      either false = ap (has_archive k) (append-nil (without_archive row.key map.archives)) ∙ has_other row.key k map.archives differs

  -- and each other key has what it had, unless its archive had to go
  pub other_kept : (k : List ℕ) → bytes_eq k row.key ≡ false → (gone : Bool) → has_archive k (lost_for row map.budget map.archives) ≡ gone → has_archive k (left_for row map.budget map.archives) ≡ (if gone then false else has_archive k map.archives)
  other_kept k differs true is = gone_apart k (lost_count map.budget all) all (subst AreApart all_are all_apart) is
  other_kept k differs false is = sym (ap (λ b. b || has_archive k (left_for row map.budget map.archives)) is) ∙ sym (has_parts k (lost_count map.budget all) all) ∙ other_in k differs

  -- what is left once the row is set is the map with the change
  pub puts_all : after_loss (lost_in alone) alone ≡ changed_by (sets row) map
  puts_all = λ i. record { rows = λ k. rows k i; archives = left i; budget = map.budget; beside = map.beside }
    where
      count : lost_in alone ≡ lost_count map.budget all
      count = ap (lost_count map.budget) all_are

      left : drop (lost_in alone) alone.archives ≡ left_for row map.budget map.archives
      left = ap (λ l. drop (lost_count map.budget l) l) all_are

      gone : (k : List ℕ) → has_archive k (take (lost_in alone) alone.archives) ≡ has_archive k (lost_for row map.budget map.archives)
      gone k = ap (λ l. has_archive k (take (lost_count map.budget l) l)) all_are

      own_stands : has_archive row.key (lost_for row map.budget map.archives) ≡ false
      own_stands = own_left (keeps_archive row map.budget) refl all refl (subst AreApart all_are all_apart)

      params : put_params (kept_as budget row) ≡ put_params (kept_as map.budget row)
      params = ap (λ b. put_params (kept_as b row)) (sym within)

      rows : (k : List ℕ) → (if has_archive k (take (lost_in alone) alone.archives) then option_map unarchived (if bytes_eq k row.key then Some (put_params (kept_as budget row)) else map.rows k) else (if bytes_eq k row.key then Some (put_params (kept_as budget row)) else map.rows k))
          ≡ columns_after row map k
      rows k = ap (λ b. if b then option_map unarchived (if bytes_eq k row.key then Some (put_params (kept_as budget row)) else map.rows k) else (if bytes_eq k row.key then Some (put_params (kept_as budget row)) else map.rows k)) (gone k)
          ∙ either (bytes_eq k row.key) (has_archive k (lost_for row map.budget map.archives)) refl refl
        where
          either : (own lost : Bool) → bytes_eq k row.key ≡ own → has_archive k (lost_for row map.budget map.archives) ≡ lost
              → (if lost then option_map unarchived (if own then Some (put_params (kept_as budget row)) else map.rows k) else (if own then Some (put_params (kept_as budget row)) else map.rows k))
              ≡ (if own then Some (put_params (kept_as map.budget row)) else (if lost then option_map unarchived (map.rows k) else map.rows k))
          either true true own_is lost_is = absurd (true≢false (sym lost_is ∙ ap (λ j. has_archive j (lost_for row map.budget map.archives)) ((bytes_decides k row.key).0 own_is) ∙ own_stands))
          either true false own_is lost_is = ap Some params
          either false true own_is lost_is = refl
          either false false own_is lost_is = refl

  -- and the keys are those that the rule answers
  pub keys_all : lost_keys alone ++ own_key (putting_of budget row) (bytes_at row.key map) ≡ lost_by row map.budget map.archives
  keys_all = ap (λ l. keys_in (take (lost_count map.budget l) l) ++ own_key (putting_of budget row) (bytes_at row.key map)) all_are ∙ ap (λ own. keys_in (lost_for row map.budget map.archives) ++ own) own
    where
      found : is_some (bytes_at row.key map) ≡ has_archive row.key map.archives
      found = is_found map.archives
        where
          is_found : (xs : List Archive) → is_some (option_map (λ (archive : Archive). archive.bytes) (find (is_of row.key) xs)) ≡ has_archive row.key xs
          is_found [] = refl
          is_found (x ∷ xs) = either (is_of row.key x) (is_found xs)
            where
              either : (b : Bool) → is_some (option_map (λ (archive : Archive). archive.bytes) (find (is_of row.key) xs)) ≡ has_archive row.key xs
                  → is_some (option_map (λ (archive : Archive). archive.bytes) (cond b (Some x) (find (is_of row.key) xs))) ≡ (b || has_archive row.key xs)
              either true rest = refl
              either false rest = rest

      own : own_key (putting_of budget row) (bytes_at row.key map) ≡ (if loses_own row map.budget map.archives then row.key ∷ [] else [])
      own = ap (λ b. if b then row.key ∷ [] else []) (ap (λ b. not (keeps_archive row b) && (row.archived || is_some (bytes_at row.key map))) (sym within) ∙ ap (λ b. not (keeps_archive row map.budget) && (row.archived || b)) found)
