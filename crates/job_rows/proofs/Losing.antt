-- Lists of archives: which keys they have, how many have to go, and the next number.
use Rattle.std.proofs.Common.{◌≡◌, inl, inr, ℕ, suc, zero, ◌+◌, ◌-◌, ◌≤◌, ◌<◌, Bool, true, false, not, ◌&&◌, ◌||◌, cond, if◌then◌else◌, List, [], ◌∷◌, ◌++◌, length, take, drop, get_or, Option, Some, None, option_map, bytes_eq, nat_le, refl, sym, ap, subst, ◌∙◌, arith, true≢false}
use Rattle.std.specs.Prelude.{find, option_to_list}
use Rattle.std.specs.Cmp.Lexicographic.{bytes_decides}
use Rattle.std.proofs.lemmas.Bool.{leb-true, le-leb}
use Rattle.std.proofs.lemmas.Bool.Decides.{leb_tells}
use Rattle.std.proofs.lemmas.List.{take-append-drop}
use Rattle.std.proofs.lemmas.List.Folds.{list_any-append}
use Rattle.job_rows.specs.declared.archive.Archive.{Archive}
use Rattle.job_rows.specs.declared.row.Row.{Row}
use Rattle.job_rows.specs.Map.{is_of, has_archive, without_archive, total_bytes, keys_in, next_used, touched, lost_count, bytes_of, fits, keeps_archive, own_archives, archives_with}
use Rattle.job_rows.specs.InStep.{AreApart, AlwaysKeepsBudget}

-- ---- which keys have an archive

without_step : (b : Bool) (key : List ℕ) (a : Archive) (list : List Archive) → is_of key a ≡ b → has_archive key list ≡ false → has_archive key (cond (not b) (a ∷ list) list) ≡ false
without_step true key a list is rest = rest
without_step false key a list is rest = rw is rest

-- what is taken out is gone
pub without_own : (key : List ℕ) (list : List Archive) → has_archive key (without_archive key list) ≡ false
without_own key [] = refl
without_own key (a ∷ list) = without_step (is_of key a) key a (without_archive key list) refl (without_own key list)

other_step : (b : Bool) (key k : List ℕ) (a : Archive) (list all : List Archive) → is_of key a ≡ b → bytes_eq k key ≡ false → has_archive k list ≡ has_archive k all → has_archive k (cond (not b) (a ∷ list) list) ≡ (is_of k a || has_archive k all)
other_step true key k a list all is differs rest =
    let same : is_of k a ≡ false = ap (bytes_eq k) (sym ((bytes_decides key a.key).0 is)) ∙ differs in rw same rest
other_step false key k a list all is differs rest = ap (λ b. is_of k a || b) rest

-- and each other key has what it had
pub without_other : (key k : List ℕ) (list : List Archive) → bytes_eq k key ≡ false → has_archive k (without_archive key list) ≡ has_archive k list
without_other key k [] differs = refl
without_other key k (a ∷ list) differs = other_step (is_of key a) key k a (without_archive key list) list refl differs (without_other key k list differs)

pub has_append : (key : List ℕ) (xs ys : List Archive) → has_archive key (xs ++ ys) ≡ (has_archive key xs || has_archive key ys)
has_append key xs ys = list_any-append (is_of key) xs ys

pub has_parts : (key : List ℕ) (n : ℕ) (xs : List Archive) → has_archive key xs ≡ (has_archive key (take n xs) || has_archive key (drop n xs))
has_parts key n xs = ap (has_archive key) (sym (take-append-drop n xs)) ∙ has_append key (take n xs) (drop n xs)

pub or_false : (a b : Bool) → (a || b) ≡ false → (a ≡ false) × (b ≡ false)
or_false false b is = (refl, is)
or_false true b is = absurd (true≢false is)

pub or_none : (a b : Bool) → b ≡ false → (a || b) ≡ a
or_none true b is = refl
or_none false b is = is

pub or_second : (a b : Bool) → b ≡ true → (a || b) ≡ true
or_second true b is = refl
or_second false b is = is

differs_back_by : (t : Bool) (a b : List ℕ) → bytes_eq a b ≡ t → bytes_eq b a ≡ false → t ≡ false
differs_back_by false a b is differs = refl
differs_back_by true a b is differs = sym ((bytes_decides b a).1 (sym ((bytes_decides a b).0 is))) ∙ differs

differs_back : (a b : List ℕ) → bytes_eq b a ≡ false → bytes_eq a b ≡ false
differs_back a b differs = differs_back_by (bytes_eq a b) a b refl differs

pub has_rest : (key : List ℕ) (n : ℕ) (xs : List Archive) → has_archive key xs ≡ false → has_archive key (drop n xs) ≡ false
has_rest key n xs none = (or_false (has_archive key (take n xs)) (has_archive key (drop n xs)) (sym (has_parts key n xs) ∙ none)).1

-- ---- no key has two

push_apart : (own : Archive) (xs : List Archive) → AreApart xs → has_archive own.key xs ≡ false → AreApart (xs ++ own ∷ [])
push_apart own [] apart new = (refl, tt)
push_apart own (x ∷ xs) apart new =
    let both = or_false (is_of own.key x) (has_archive own.key xs) new in
    let other : bytes_eq x.key own.key ≡ false = differs_back x.key own.key both.0 in
    let none : has_archive x.key (own ∷ []) ≡ false = or_none (bytes_eq x.key own.key) false refl ∙ other in
    (has_append x.key xs (own ∷ []) ∙ or_none (has_archive x.key xs) (has_archive x.key (own ∷ [])) none ∙ apart.0, push_apart own xs apart.1 both.1)

-- what is left of a list that has no such key has none either
without_none : (key k : List ℕ) (list : List Archive) → has_archive k list ≡ false → has_archive k (without_archive key list) ≡ false
without_none key k [] none = refl
without_none key k (a ∷ list) none =
    let both = or_false (is_of k a) (has_archive k list) none in
    kept (not (is_of key a)) (without_none key k list both.1) both.0
  where
    kept : (b : Bool) → has_archive k (without_archive key list) ≡ false → is_of k a ≡ false → has_archive k (cond b (a ∷ without_archive key list) (without_archive key list)) ≡ false
    kept true rest first = rw first rest
    kept false rest first = rest

pub without_apart : (key : List ℕ) (list : List Archive) → AreApart list → AreApart (without_archive key list)
without_apart key [] apart = tt
without_apart key (a ∷ list) apart = kept (not (is_of key a)) (without_apart key list apart.1)
  where
    kept : (b : Bool) → AreApart (without_archive key list) → AreApart (cond b (a ∷ without_archive key list) (without_archive key list))
    kept true rest = (without_none key a.key list apart.0, rest)
    kept false rest = rest

pub renewed_apart : (key : List ℕ) (own : Archive) (list : List Archive) → own.key ≡ key → AreApart list → AreApart (without_archive key list ++ own ∷ [])
renewed_apart key own list is apart = push_apart own (without_archive key list) (without_apart key list apart) (rw is (without_own key list))

pub rest_apart : (n : ℕ) (xs : List Archive) → AreApart xs → AreApart (drop n xs)
rest_apart zero xs apart = apart
rest_apart (suc n) [] apart = tt
rest_apart (suc n) (x ∷ xs) apart = rest_apart n xs apart.1

first_apart : (b : Bool) (key : List ℕ) (n : ℕ) (x : Archive) (xs : List Archive) → is_of key x ≡ b → has_archive x.key xs ≡ false
    → (has_archive key (take n xs) ≡ true → has_archive key (drop n xs) ≡ false) → (b || has_archive key (take n xs)) ≡ true → has_archive key (drop n xs) ≡ false
first_apart true key n x xs is alone rest there = has_rest key n xs (ap (λ k. has_archive k xs) ((bytes_decides key x.key).0 is) ∙ alone)
first_apart false key n x xs is alone rest there = rest there

-- an archive that goes is the only one of its key
pub gone_apart : (key : List ℕ) (n : ℕ) (xs : List Archive) → AreApart xs → has_archive key (take n xs) ≡ true → has_archive key (drop n xs) ≡ false
gone_apart key zero xs apart there = absurd (true≢false (sym there))
gone_apart key (suc n) [] apart there = absurd (true≢false (sym there))
gone_apart key (suc n) (x ∷ xs) apart there = first_apart (is_of key x) key n x xs refl apart.0 (gone_apart key n xs apart.1) there

-- ---- the archive of a key is used

own_there : (key : List ℕ) (own : Archive) → is_of key own ≡ true → has_archive key (own ∷ []) ≡ true
own_there key own is = or_none (is_of key own) false refl ∙ is

-- the archive that is found is that of the key, and of no other
found_own : (key : List ℕ) (used : ℕ) (list : List Archive) → has_archive key list ≡ true → has_archive key (option_to_list (option_map (λ (archive : Archive). record archive { used = used }) (find (is_of key) list))) ≡ true
found_own key used [] there = absurd (true≢false (sym there))
found_own key used (a ∷ list) there = either (is_of key a) refl there (found_own key used list)
  where
    either : (b : Bool) → is_of key a ≡ b → (b || has_archive key list) ≡ true
        → (has_archive key list ≡ true → has_archive key (option_to_list (option_map (λ (archive : Archive). record archive { used = used }) (find (is_of key) list))) ≡ true)
        → has_archive key (option_to_list (option_map (λ (archive : Archive). record archive { used = used }) (cond b (Some a) (find (is_of key) list)))) ≡ true
    either true is there rest = own_there key (record a { used = used }) is
    either false is there rest = rest there

found_other : (k key : List ℕ) (used : ℕ) (list : List Archive) → bytes_eq k key ≡ false → has_archive k (option_to_list (option_map (λ (archive : Archive). record archive { used = used }) (find (is_of key) list))) ≡ false
found_other k key used [] differs = refl
found_other k key used (a ∷ list) differs = either (is_of key a) refl (found_other k key used list differs)
  where
    either : (b : Bool) → is_of key a ≡ b → has_archive k (option_to_list (option_map (λ (archive : Archive). record archive { used = used }) (find (is_of key) list))) ≡ false
        → has_archive k (option_to_list (option_map (λ (archive : Archive). record archive { used = used }) (cond b (Some a) (find (is_of key) list)))) ≡ false
    either true is rest = or_none (is_of k a) false refl ∙ ap (bytes_eq k) (sym ((bytes_decides key a.key).0 is)) ∙ differs
    either false is rest = rest

-- each key has an archive as before
pub has_touched : (k key : List ℕ) (list : List Archive) → has_archive key list ≡ true → has_archive k (touched key list) ≡ has_archive k list
has_touched k key list there = has_append k (without_archive key list) _ ∙ either (bytes_eq k key) refl
  where
    either : (b : Bool) → bytes_eq k key ≡ b → (has_archive k (without_archive key list) || has_archive k (option_to_list (option_map (λ (archive : Archive). record archive { used = next_used list }) (find (is_of key) list)))) ≡ has_archive k list
    either true is = let same : k ≡ key = (bytes_decides k key).0 is in rw (same, without_own key list, found_own key (next_used list) list there, there) refl
    either false is = rw (found_other k key (next_used list) list is) (or_none (has_archive k (without_archive key list)) false refl ∙ without_other key k list is)

find_none : (key : List ℕ) (list : List Archive) → has_archive key list ≡ false → find (is_of key) list ≡ None
find_none key [] none = refl
find_none key (a ∷ list) none = let both = or_false (is_of key a) (has_archive key list) none in rw both.0 (find_none key list both.1)

-- also where the key has none
pub has_absent : (k key : List ℕ) (list : List Archive) → has_archive key list ≡ false → has_archive k (touched key list) ≡ has_archive k list
has_absent k key list none = has_append k (without_archive key list) _ ∙ either (bytes_eq k key) refl
  where
    either : (b : Bool) → bytes_eq k key ≡ b → (has_archive k (without_archive key list) || has_archive k (option_to_list (option_map (λ (archive : Archive). record archive { used = next_used list }) (find (is_of key) list)))) ≡ has_archive k list
    either true is = let same : k ≡ key = (bytes_decides k key).0 is in rw (same, find_none key list none, without_own key list, none) refl
    either false is = rw (found_other k key (next_used list) list is) (or_none (has_archive k (without_archive key list)) false refl ∙ without_other key k list is)

-- ---- the archive that is found

some_step : {P : Type 0} (b : Bool) (key : List ℕ) (x a : Archive) (rest : Option Archive) → is_of key x ≡ b → cond b (Some x) rest ≡ Some a → (rest ≡ Some a → P) → (a.key ≡ key → P) → P
some_step true key x a rest same is later here = let e : x ≡ a = cc in here (ap (λ (r : Archive). r.key) (sym e) ∙ sym ((bytes_decides key x.key).0 same))
some_step false key x a rest differs is later here = later is

-- it has the key
pub found_key : (key : List ℕ) (list : List Archive) (a : Archive) → find (is_of key) list ≡ Some a → a.key ≡ key
found_key key [] a is = let e = is in cc
found_key key (x ∷ list) a is = some_step (is_of key x) key x a (find (is_of key) list) refl is (found_key key list a) (λ same. same)

pub found_there : (key : List ℕ) (list : List Archive) (a : Archive) → find (is_of key) list ≡ Some a → has_archive key list ≡ true
found_there key list a is = either (has_archive key list) refl
  where
    either : (b : Bool) → has_archive key list ≡ b → b ≡ true
    either true there = refl
    either false none = let e = sym is ∙ find_none key list none in cc

pub none_there : (key : List ℕ) (list : List Archive) → find (is_of key) list ≡ None → has_archive key list ≡ false
none_there key [] is = refl
none_there key (x ∷ list) is = either (is_of key x) is (none_there key list)
  where
    either : (b : Bool) → cond b (Some x) (find (is_of key) list) ≡ None → (find (is_of key) list ≡ None → has_archive key list ≡ false) → (b || has_archive key list) ≡ false
    either true is rest = let e = is in cc
    either false is rest = rest is

-- and it comes last, with the next number
pub touched_is : (key : List ℕ) (list : List Archive) (a : Archive) → find (is_of key) list ≡ Some a
    → touched key list ≡ without_archive key list ++ record { key = key; bytes = a.bytes; used = next_used list } ∷ []
touched_is key list a is = rw is (ap (λ k. without_archive key list ++ record { key = k; bytes = a.bytes; used = next_used list } ∷ []) (found_key key list a is))

pub renewed : (key : List ℕ) (list : List Archive) (a : Archive) (k : List ℕ) (used : ℕ) (old new : List Archive) → find (is_of key) list ≡ Some a → k ≡ key → used ≡ next_used list → old ≡ list
    → new ≡ without_archive k old ++ record { key = k; bytes = a.bytes; used = used } ∷ [] → new ≡ touched key list
renewed key list a k used old new found key_is used_is old_is new_is =
    let last : without_archive k old ++ record { key = k; bytes = a.bytes; used = used } ∷ [] ≡ without_archive key list ++ record { key = key; bytes = a.bytes; used = next_used list } ∷ [] = rw (key_is, used_is, old_is) refl in
    new_is ∙ last ∙ sym (touched_is key list a found)

-- ---- how many have to go

pub count_le : (budget : Option ℕ) (xs : List Archive) → lost_count budget xs ≤ length xs
count_le None xs = omega arith
count_le (Some b) [] = omega arith
count_le (Some b) (x ∷ xs) = either (nat_le (total_bytes (x ∷ xs)) b) (count_le (Some b) xs)
  where
    either : (within : Bool) → lost_count (Some b) xs ≤ length xs → (if within then 0 else suc (lost_count (Some b) xs)) ≤ suc (length xs)
    either true rest = omega arith
    either false rest = omega arith

total_rest : (n : ℕ) (xs : List Archive) → total_bytes (drop n xs) ≤ total_bytes xs
total_rest zero xs = omega arith
total_rest (suc n) [] = omega arith
total_rest (suc n) (x ∷ xs) = let rest : total_bytes (drop n xs) ≤ total_bytes xs = total_rest n xs in omega arith

pub total_append : (xs ys : List Archive) → total_bytes (xs ++ ys) ≡ total_bytes xs + total_bytes ys
total_append [] ys = omega arith
total_append (x ∷ xs) ys = let rest : total_bytes (xs ++ ys) ≡ total_bytes xs + total_bytes ys = total_append xs ys in omega arith

not_within : (a b : ℕ) → b < a → nat_le a b ≡ false
not_within a b more = elim (leb_tells a b) [ inl under ↦ absurd (let low : a ≤ b = under.1 in omega arith) | inr over ↦ over.0 ]

-- So many as leave the rest within the budget, where one fewer does not.
pub count_is : (b : ℕ) (xs : List Archive) (n : ℕ) → n ≤ length xs → total_bytes (drop n xs) ≤ b → ((m : ℕ) → n ≡ suc m → b < total_bytes (drop m xs)) → lost_count (Some b) xs ≡ n
count_is b [] zero short within past = refl
count_is b [] (suc n) short within past = absurd (omega arith)
count_is b (x ∷ xs) zero short within past = rw (le-leb (total_bytes (x ∷ xs)) b within) refl
count_is b (x ∷ xs) (suc n) short within past =
    let more : b < total_bytes (drop n (x ∷ xs)) = past n refl in
    let part : total_bytes (drop n (x ∷ xs)) ≤ total_bytes (x ∷ xs) = total_rest n (x ∷ xs) in
    let over : nat_le (total_bytes (x ∷ xs)) b ≡ false = not_within (total_bytes (x ∷ xs)) b (omega arith) in
    rw over (ap suc (count_is b xs n (omega arith) within (λ m is. subst (λ k. b < total_bytes (drop k (x ∷ xs))) is more)))

-- An archive that is within the budget stays where it comes last.
last_stays : (b : ℕ) (key : List ℕ) (own : Archive) (xs : List Archive) → is_of key own ≡ true → own.bytes ≤ b
    → has_archive key (drop (lost_count (Some b) (xs ++ own ∷ [])) (xs ++ own ∷ [])) ≡ true
last_stays b key own [] is within =
    let low : total_bytes (own ∷ []) ≤ b = omega arith in
    rw (le-leb (total_bytes (own ∷ [])) b low) (own_there key own is)
last_stays b key own (x ∷ xs) is within = either (nat_le (total_bytes (x ∷ xs ++ own ∷ [])) b) (last_stays b key own xs is within)
  where
    at_end : has_archive key (xs ++ own ∷ []) ≡ true
    at_end = has_append key xs (own ∷ []) ∙ or_second (has_archive key xs) (has_archive key (own ∷ [])) (own_there key own is)

    either : (low : Bool) → has_archive key (drop (lost_count (Some b) (xs ++ own ∷ [])) (xs ++ own ∷ [])) ≡ true
        → has_archive key (drop (if low then 0 else suc (lost_count (Some b) (xs ++ own ∷ []))) (x ∷ xs ++ own ∷ [])) ≡ true
    either true rest = or_second (is_of key x) (has_archive key (xs ++ own ∷ [])) at_end
    either false rest = rest

pub own_stays : (budget : Option ℕ) (key : List ℕ) (own : Archive) (xs : List Archive) → is_of key own ≡ true → fits own.bytes budget ≡ true
    → has_archive key (drop (lost_count budget (xs ++ own ∷ [])) (xs ++ own ∷ [])) ≡ true
own_stays None key own xs is within = has_append key xs (own ∷ []) ∙ or_second (has_archive key xs) (has_archive key (own ∷ [])) (own_there key own is)
own_stays (Some b) key own xs is within = last_stays b key own xs is (leb-true own.bytes b within)

-- ---- how many go beside one that comes last

total_without : (key : List ℕ) (xs : List Archive) → total_bytes (without_archive key xs) ≤ total_bytes xs
total_without key [] = omega arith
total_without key (x ∷ xs) = kept (not (is_of key x)) (total_without key xs)
  where
    kept : (b : Bool) → total_bytes (without_archive key xs) ≤ total_bytes xs → total_bytes (cond b (x ∷ without_archive key xs) (without_archive key xs)) ≤ x.bytes + total_bytes xs
    kept true rest = omega arith
    kept false rest = omega arith

none_within : (c : ℕ) (xs : List Archive) → total_bytes xs ≤ c → lost_count (Some c) xs ≡ 0
none_within c [] within = refl
none_within c (x ∷ xs) within = rw (le-leb (total_bytes (x ∷ xs)) c within) refl

count_without : (c : ℕ) (key : List ℕ) (xs : List Archive) → lost_count (Some c) (without_archive key xs) ≤ lost_count (Some c) xs
count_without c key [] = omega arith
count_without c key (x ∷ xs) = elim (leb_tells (total_bytes (x ∷ xs)) c) [
  | inl under ↦ all_within under.1
  | inr over ↦ rw over.0 (kept (not (is_of key x)) (count_without c key xs))
]
  where
    all_within : total_bytes (x ∷ xs) ≤ c → lost_count (Some c) (without_archive key (x ∷ xs)) ≤ lost_count (Some c) (x ∷ xs)
    all_within low =
        let less : total_bytes (without_archive key (x ∷ xs)) ≤ total_bytes (x ∷ xs) = total_without key (x ∷ xs) in
        let none : lost_count (Some c) (without_archive key (x ∷ xs)) ≡ 0 = none_within c (without_archive key (x ∷ xs)) (omega arith) in
        omega arith

    either : (b : Bool) → lost_count (Some c) (without_archive key xs) ≤ lost_count (Some c) xs → (if b then 0 else suc (lost_count (Some c) (without_archive key xs))) ≤ suc (lost_count (Some c) xs)
    either true rest = omega arith
    either false rest = omega arith

    kept : (b : Bool) → lost_count (Some c) (without_archive key xs) ≤ lost_count (Some c) xs → lost_count (Some c) (cond b (x ∷ without_archive key xs) (without_archive key xs)) ≤ suc (lost_count (Some c) xs)
    kept true rest = either (nat_le (total_bytes (x ∷ without_archive key xs)) c) rest
    kept false rest = omega arith

count_beside : (b : ℕ) (own xs : List Archive) → total_bytes own ≤ b → lost_count (Some b) (xs ++ own) ≡ lost_count (Some (b - total_bytes own)) xs
count_beside b own [] within = none_within b own within
count_beside b own (x ∷ xs) within =
    let whole : total_bytes (xs ++ own) ≡ total_bytes xs + total_bytes own = total_append xs own in
    elim (leb_tells (total_bytes (x ∷ xs)) (b - total_bytes own)) [
      | inl under ↦ let low : total_bytes (x ∷ xs) ≤ b - total_bytes own = under.1 in let all : total_bytes (x ∷ xs ++ own) ≤ b = omega arith in rw (under.0, le-leb (total_bytes (x ∷ xs ++ own)) b all) refl
      | inr over ↦ let high : b - total_bytes own < total_bytes (x ∷ xs) = over.1 in let past : b < total_bytes (x ∷ xs ++ own) = omega arith in rw (over.0, not_within (total_bytes (x ∷ xs ++ own)) b past) (ap suc (count_beside b own xs within))
    ]

-- room for as many keys as have to go beside the own archive
pub room_suffices : (budget : Option ℕ) (key : List ℕ) (own xs : List Archive) → ((b : ℕ) → budget ≡ Some b → total_bytes own ≤ b)
    → lost_count budget (without_archive key xs ++ own) ≤ lost_count (option_map (λ b. b - total_bytes own) budget) xs
room_suffices None key own xs within = omega arith
room_suffices (Some b) key own xs within =
    let beside = count_beside b own (without_archive key xs) (within b refl) in
    let fewer_left : lost_count (Some (b - total_bytes own)) (without_archive key xs) ≤ lost_count (Some (b - total_bytes own)) xs = count_without (b - total_bytes own) key xs in
    rw beside fewer_left

pub and_second : (a b : Bool) → (a && b) ≡ true → b ≡ true
and_second true b is = is
and_second false b is = absurd (true≢false (sym is))

own_within : (row : Row) (budget : Option ℕ) (list : List Archive) (b : ℕ) → budget ≡ Some b → total_bytes (own_archives row budget list) ≤ b
own_within row budget list b is = either (keeps_archive row budget) refl
  where
    alone : (bytes : ℕ) → fits bytes budget ≡ true → bytes + 0 ≤ b
    alone bytes fit = let low : bytes ≤ b = leb-true bytes b (ap (fits bytes) (sym is) ∙ fit) in omega arith

    either : (keeps : Bool) → keeps_archive row budget ≡ keeps → total_bytes (if keeps then record { key = row.key; bytes = bytes_of row; used = next_used list } ∷ [] else []) ≤ b
    either true keeps = alone (bytes_of row) (and_second row.archived (fits (bytes_of row) budget) keeps)
    either false keeps = omega arith

pub room_made : (row : Row) (budget : Option ℕ) (list own : List Archive) (count room : ℕ) → own ≡ own_archives row budget list → count ≡ lost_count (option_map (λ bytes. bytes - total_bytes own) budget) list → count < room
    → lost_count budget (archives_with row budget list) < room
room_made row budget list own count room own_is count_is_so enough =
    let most : lost_count budget (archives_with row budget list) ≤ lost_count (option_map (λ bytes. bytes - total_bytes (own_archives row budget list)) budget) list =
    room_suffices budget row.key (own_archives row budget list) list (λ b is. own_within row budget list b is) in
    let same : count ≡ lost_count (option_map (λ bytes. bytes - total_bytes (own_archives row budget list)) budget) list =
    subst (λ (archives : List Archive). count ≡ lost_count (option_map (λ bytes. bytes - total_bytes archives) budget) list) own_is count_is_so in
    omega arith

-- ---- what is left is within the budget, and no more goes than has to

within_after : (b : ℕ) (xs : List Archive) → total_bytes (drop (lost_count (Some b) xs) xs) ≤ b
within_after b [] = omega arith
within_after b (x ∷ xs) = elim (leb_tells (total_bytes (x ∷ xs)) b) [ inl under ↦ rw under.0 under.1 | inr over ↦ rw over.0 (within_after b xs) ]

past_before : (b : ℕ) (xs : List Archive) (n : ℕ) → n < lost_count (Some b) xs → b < total_bytes (drop n xs)
past_before b [] n few = absurd (omega arith)
past_before b (x ∷ xs) n few = elim (leb_tells (total_bytes (x ∷ xs)) b) [
  | inl under ↦ absurd (let none : n < 0 = rw under.0 at few in omega arith)
  | inr over ↦ later n over.1 (rw over.0 at few) (past_before b xs)
]
  where
    later : (n : ℕ) → b < total_bytes (x ∷ xs) → n < suc (lost_count (Some b) xs) → ((k : ℕ) → k < lost_count (Some b) xs → b < total_bytes (drop k xs)) → b < total_bytes (drop n (x ∷ xs))
    later zero over few rest = over
    later (suc n) over few rest = rest n (omega arith)

pub keeps_budget : AlwaysKeepsBudget
keeps_budget row b archives = record {
  within = within_after b (archives_with row (Some b) archives);
  fewest = past_before b (archives_with row (Some b) archives);
}

-- ---- one archive after the other

pub total_from : (xs : List Archive) (m : ℕ) (d : Archive) → m < length xs → total_bytes (drop m xs) ≡ (get_or xs m d).bytes + total_bytes (drop (suc m) xs)
total_from [] m d within = absurd (omega arith)
total_from (x ∷ xs) zero d within = refl
total_from (x ∷ xs) (suc m) d within = total_from xs m d (omega arith)

pub none_left : (xs : List Archive) → drop (length xs) xs ≡ []
none_left [] = refl
none_left (x ∷ xs) = none_left xs

pub length_left : (xs : List Archive) (m : ℕ) → m < length xs → 0 < length (drop m xs)
length_left [] m within = absurd (omega arith)
length_left (x ∷ xs) zero within = omega arith
length_left (x ∷ xs) (suc m) within = length_left xs m (omega arith)

pub keys_more : (xs : List Archive) (m : ℕ) (d : Archive) → m < length xs → keys_in (take (suc m) xs) ≡ keys_in (take m xs) ++ (get_or xs m d).key ∷ []
keys_more [] m d within = absurd (omega arith)
keys_more (x ∷ xs) zero d within = refl
keys_more (x ∷ xs) (suc m) d within = ap (λ keys. x.key ∷ keys) (keys_more xs m d (omega arith))

-- the walk from the newest archive stops at one that does not fit
pub count_stops : (most : ℕ) (xs : List Archive) (n room : ℕ) (d : Archive) → n ≤ length xs → total_bytes (drop n xs) + room ≡ most → 0 < n → room < (get_or xs (n - 1) d).bytes → lost_count (Some most) xs ≡ n
count_stops most xs zero room d within sum some over = absurd (omega arith)
count_stops most xs (suc m) room d within sum some over =
    let before : suc m - 1 ≡ m = omega arith in
    let more : room < (get_or xs m d).bytes = subst (λ k. room < (get_or xs k d).bytes) before over in
    let whole : total_bytes (drop m xs) ≡ (get_or xs m d).bytes + total_bytes (drop (suc m) xs) = total_from xs m d (omega arith) in
    let past : most < total_bytes (drop m xs) = omega arith in
    count_is most xs (suc m) within (omega arith) (λ k same. let alike : m ≡ k = omega arith in subst (λ j. most < total_bytes (drop j xs)) alike past)
