-- What `find` gives of rows that are kept in memory, and what the other commands make of them.
use Rattle.std.proofs.Common.{◌≡◌, inl, inr, ℕ, Bool, true, false, ◌||◌, cond, List, [], ◌∷◌, ◌++◌, Option, Some, None, option_map, Result, Ok, Err, bytes_eq, if◌then◌else◌, refl, sym, ap, subst, ◌∙◌, append-nil}
use Rattle.std.specs.Prelude.{OnOk, OnErr, IfOk, IfErr, IfSome, IsSome, IsTrue, find, option_to_list}
use Rattle.std.specs.Cmp.Lexicographic.{bytes_decides}
use Rattle.plain_data.specs.ByName.{value_at, with_value}
use Rattle.plain_data.proofs.Lookup.{value_at-with_value}
use Rattle.job_rows.specs.declared.archive.Archive.{Archive}
use Rattle.job_rows.specs.declared.row.Row.{Row}
use Rattle.job_rows.specs.declared.refusal.RecordError.{RecordError}
use Rattle.job_rows.specs.declared.refusal.RecordError.TheVariants.{Refused, OutOfMemory}
use Rattle.job_rows.specs.declared.refusal.RecordRefusal.TheVariants.{NotARecord, WrongVersion, NoRow, Store, UsesSpent}
use Rattle.job_rows.specs.Map.{Kept, reads, RowMap, changed_by, sets, touches, unarchives, unarchived, Finds, Puts, Touches, Drops, is_of, has_archive, without_archive, touched, next_used, fits, bytes_of, keeps_archive, archives_with, lost_for, left_for, lost_by, lost_count, AreSpent, AreUnspent}
use Rattle.job_rows.specs.InStep.{AreApart}
use Rattle.job_rows.specs.Memory.{MemoryState, HaveTheirKeys, IsMapOf, Leaves, Stays, SetsRow, TouchesArchive, DropsArchive, CannotPut, CannotTouch, CannotDrop, row_with, row_at}
use Rattle.job_rows.proofs.Losing.{and_second, or_none, without_own, without_other, without_apart, has_append, has_parts, has_rest, renewed_apart, rest_apart, gone_apart, own_stays, has_touched}

-- ---- each row stands under its own key

keyed_at : (b : Bool) (key : List ℕ) (row : Row) (o : Option Row) → (b ≡ true → row.key ≡ key) → IfSome o (λ other. other.key ≡ key) → IfSome (cond b (Some row) o) (λ other. other.key ≡ key)
keyed_at true key row o its are = its refl
keyed_at false key row o its are = are

set_keyed : (name : List ℕ) (row : Row) (rows : List (List ℕ × Row)) → row.key ≡ name → HaveTheirKeys rows → HaveTheirKeys (with_value name row rows)
set_keyed name row rows its are key =
    subst (λ o. IfSome o (λ other. other.key ≡ key)) (sym (value_at-with_value key name row rows))
    (keyed_at (bytes_eq key name) key row (value_at key rows) (λ same. its ∙ sym ((bytes_decides key name).0 same)) (are key))

pub put_keyed : {T E : Type 0} (old new : List (List ℕ × Row)) → HaveTheirKeys old → (row : Row) (result : Result T E) → OnOk result (new ≡ with_value row.key row old) → OnErr result (new ≡ old) → HaveTheirKeys new
put_keyed old new are row (Ok done) ok err = subst HaveTheirKeys (sym ok) (set_keyed row.key row old refl are)
put_keyed old new are row (Err e) ok err = subst HaveTheirKeys (sym err) are

-- ---- no key has two archives

own_apart : (b : Bool) (row : Row) (used : ℕ) (list : List Archive) → AreApart list → AreApart (without_archive row.key list ++ (if b then record { key = row.key; bytes = bytes_of row; used = used } ∷ [] else []))
own_apart true row used list apart = renewed_apart row.key _ list refl apart
own_apart false row used list apart = subst AreApart (sym (append-nil (without_archive row.key list))) (without_apart row.key list apart)

pub all_apart : (row : Row) (budget : Option ℕ) (list : List Archive) → AreApart list → AreApart (archives_with row budget list)
all_apart row budget list apart = own_apart (keeps_archive row budget) row (next_used list) list apart

pub put_apart : {T E : Type 0} (row : Row) (budget : Option ℕ) (old new : List Archive) → AreApart old → (result : Result T E) → OnOk result (new ≡ left_for row budget old) → OnErr result (new ≡ old) → AreApart new
put_apart row budget old new apart (Ok done) ok same = subst AreApart (sym ok) (rest_apart (lost_count budget (archives_with row budget old)) (archives_with row budget old) (all_apart row budget old apart))
put_apart row budget old new apart (Err e) ok same = subst AreApart (sym same) apart

pub found_apart : (key : List ℕ) (used : ℕ) (all list : List Archive) → AreApart all → AreApart (without_archive key all ++ option_to_list (option_map (λ (archive : Archive). record archive { used = used }) (find (is_of key) list)))
found_apart key used all [] apart = subst AreApart (sym (append-nil (without_archive key all))) (without_apart key all apart)
found_apart key used all (a ∷ list) apart = either (is_of key a) refl (found_apart key used all list apart)
  where
    either : (b : Bool) → is_of key a ≡ b → AreApart (without_archive key all ++ option_to_list (option_map (λ (archive : Archive). record archive { used = used }) (find (is_of key) list)))
        → AreApart (without_archive key all ++ option_to_list (option_map (λ (archive : Archive). record archive { used = used }) (cond b (Some a) (find (is_of key) list))))
    either true is rest = renewed_apart key (record a { used = used }) all (sym ((bytes_decides key a.key).0 is)) apart
    either false is rest = rest

pub touch_apart : {T E : Type 0} (key : List ℕ) (old new : List Archive) → AreApart old → (result : Result T E) → OnOk result (new ≡ touched key old) → OnErr result (new ≡ old) → AreApart new
touch_apart key old new apart (Ok done) ok same = subst AreApart (sym ok) (found_apart key (next_used old) old old apart)
touch_apart key old new apart (Err e) ok same = subst AreApart (sym same) apart

pub drop_apart : {T E : Type 0} (key : List ℕ) (old new : List Archive) → AreApart old → (result : Result T E) → OnOk result (new ≡ without_archive key old) → OnErr result (new ≡ old) → AreApart new
drop_apart key old new apart (Ok done) ok same = subst AreApart (sym ok) (without_apart key old apart)
drop_apart key old new apart (Err e) ok same = subst AreApart (sym same) apart

-- ---- what each call answers

keyed_with : (key : List ℕ) (list : List Archive) (o : Option Row) → IfSome o (λ row. row.key ≡ key) → IfSome (option_map (row_with key list) o) (λ row. row.key ≡ key)
keyed_with key list None are = tt
keyed_with key list (Some row) are = are

pub found_keyed : (rows : List (List ℕ × Row)) (list : List Archive) → HaveTheirKeys rows → (key : List ℕ) (result : Result (Option Row) RecordError)
    → IfOk result (λ found. found ≡ option_map (row_with key list) (value_at key rows)) → IfOk result (λ found. IfSome found (λ row. row.key ≡ key))
found_keyed rows list are key (Ok found) is = subst (λ o. IfSome o (λ row. row.key ≡ key)) (sym is) (keyed_with key list (value_at key rows) (are key))
found_keyed rows list are key (Err e) is = tt

pub finds : (memory : MemoryState) → HaveTheirKeys memory.rows → (key : List ℕ) (map : RowMap) → IsMapOf memory map → (result : Result (Option Row) RecordError)
    → IfOk result (λ found. found ≡ row_at key memory) → IfErr result (λ e. e ≡ OutOfMemory) → Finds map key result
finds memory are key map is (Ok None) found no_memory = is.rows key ∙ ap (option_map reads) (sym found)
finds memory are key map is (Ok (Some row)) found no_memory = (is.rows key ∙ ap (option_map reads) (sym found), found_keyed memory.rows memory.archives are key (Ok (Some row)) found)
finds memory are key map is (Err OutOfMemory) found no_memory = tt
finds memory are key map is (Err (Refused refusal)) found no_memory = absurd (let e = no_memory in cc)

-- the row of a key says what its archive says, whatever else it holds
pub at_archives : (key : List ℕ) (list bs : List Archive) (o : Option Row) → has_archive key list ≡ has_archive key bs → option_map reads (option_map (row_with key list) o) ≡ option_map reads (option_map (row_with key bs) o)
at_archives key list bs None is = refl
at_archives key list bs (Some row) is = ap (λ b. Some (reads (record row { archived = b }))) is

gone_archive : (key : List ℕ) (list bs : List Archive) (o : Option Row) → has_archive key bs ≡ false
    → option_map unarchived (option_map reads (option_map (row_with key list) o)) ≡ option_map reads (option_map (row_with key bs) o)
gone_archive key list bs None is = refl
gone_archive key list bs (Some row) is = ap (λ b. Some (reads (record row { archived = b }))) (sym is)

-- ---- a row is put

module _ (row : Row) (budget : Option ℕ) (list : List Archive) (apart : AreApart list) where
  abbrev all : List Archive
  all = archives_with row budget list

  abbrev left : List Archive
  left = left_for row budget list

  own_one : (keeps : Bool) → keeps_archive row budget ≡ keeps → has_archive row.key left ≡ keeps
  own_one true is =
      let own : Archive = record { key = row.key; bytes = bytes_of row; used = next_used list } in
      let itself : is_of row.key own ≡ true = (bytes_decides row.key row.key).1 refl in
      rw is (own_stays budget row.key own (without_archive row.key list) itself (and_second row.archived (fits (bytes_of row) budget) is))
  own_one false is =
      let none : has_archive row.key all ≡ false = rw is (has_append row.key (without_archive row.key list) [] ∙ or_none (has_archive row.key (without_archive row.key list)) false refl ∙ without_own row.key list) in
      has_rest row.key (lost_count budget all) all none

  -- once the row is put, its key has an archive where it keeps one
  pub own_kept : has_archive row.key left ≡ keeps_archive row budget
  own_kept = own_one (keeps_archive row budget) refl

  other_in : (key : List ℕ) → bytes_eq key row.key ≡ false → has_archive key all ≡ has_archive key list
  other_in key differs = either (keeps_archive row budget)
    where
      own : Archive
      own = record { key = row.key; bytes = bytes_of row; used = next_used list }

      alone : has_archive key (own ∷ []) ≡ false
      alone = or_none (bytes_eq key row.key) false refl ∙ differs

      either : (keeps : Bool) → has_archive key (without_archive row.key list ++ (if keeps then own ∷ [] else [])) ≡ has_archive key list
      either true = has_append key (without_archive row.key list) (own ∷ []) ∙ or_none (has_archive key (without_archive row.key list)) (has_archive key (own ∷ [])) alone ∙ without_other row.key key list differs
      either false = has_append key (without_archive row.key list) [] ∙ or_none (has_archive key (without_archive row.key list)) false refl ∙ without_other row.key key list differs

  -- and each other key has what it had, unless its archive had to go
  pub other_kept : (key : List ℕ) → bytes_eq key row.key ≡ false → (gone : Bool) → has_archive key (lost_for row budget list) ≡ gone → has_archive key left ≡ (if gone then false else has_archive key list)
  other_kept key differs true is = gone_apart key (lost_count budget all) all (all_apart row budget list apart) is
  other_kept key differs false is = sym (ap (λ b. b || has_archive key left) is) ∙ sym (has_parts key (lost_count budget all) all) ∙ other_in key differs

  set_other : (key : List ℕ) → bytes_eq key row.key ≡ false → (kept : Option Kept) (o : Option Row) → kept ≡ option_map reads (option_map (row_with key list) o) → (gone : Bool) → has_archive key (lost_for row budget list) ≡ gone
      → (if gone then option_map unarchived kept else kept) ≡ option_map reads (option_map (row_with key left) o)
  set_other key differs kept o is true lost = ap (option_map unarchived) is ∙ gone_archive key list left o (other_kept key differs true lost)
  set_other key differs kept o is false lost = is ∙ at_archives key list left o (sym (other_kept key differs false lost))

  set_at : (key : List ℕ) (kept : Option Kept) (o : Option Row) → kept ≡ option_map reads (option_map (row_with key list) o) → (b : Bool) → bytes_eq key row.key ≡ b
      → (if b then Some (reads (record row { archived = keeps_archive row budget })) else if has_archive key (lost_for row budget list) then option_map unarchived kept else kept)
      ≡ option_map reads (option_map (row_with key left) (cond b (Some row) o))
  set_at key kept o is true same = ap (λ b. Some (reads (record row { archived = b }))) (sym own_kept ∙ ap (λ k. has_archive k left) (sym ((bytes_decides key row.key).0 same)))
  set_at key kept o is false differs = set_other key differs kept o is (has_archive key (lost_for row budget list)) refl

module _ (old new : MemoryState) (map : RowMap) (is : IsMapOf old map) where
  row_in : (key : List ℕ) → map.rows key ≡ option_map reads (option_map (row_with key map.archives) (value_at key old.rows))
  row_in key = subst (λ list. map.rows key ≡ option_map reads (option_map (row_with key list) (value_at key old.rows))) (sym is.archives) (is.rows key)

  row_now : (key : List ℕ) (list : List Archive) (rows : List (List ℕ × Row)) → new.archives ≡ list → new.rows ≡ rows → option_map reads (option_map (row_with key list) (value_at key rows)) ≡ option_map reads (row_at key new)
  row_now key list rows archives_are rows_are =
      ap (λ bs. option_map reads (option_map (row_with key bs) (value_at key rows))) (sym archives_are) ∙ ap (λ r. option_map reads (option_map (row_with key new.archives) (value_at key r))) (sym rows_are)

  pub stays : Stays old new → IsMapOf new map
  stays same = record {
    rows = λ key. is.rows key ∙ row_now key old.archives old.rows same.archives_are same.rows_are;
    archives = is.archives ∙ sym same.archives_are;
    budget = is.budget ∙ sym same.budget_is;
  }

  put_rows : AreApart old.archives → (row : Row) → SetsRow row old new → IsMapOf new (changed_by (sets row) map)
  put_rows apart row set =
      let left_is : new.archives ≡ left_for row map.budget map.archives = set.archives_are ∙ ap (λ b. left_for row b old.archives) (sym is.budget) ∙ ap (left_for row map.budget) (sym is.archives) in record {
        rows = λ key.
            set_at row map.budget map.archives (subst AreApart (sym is.archives) apart) key (map.rows key) (value_at key old.rows) (row_in key) (bytes_eq key row.key) refl
            ∙ ap (λ o. option_map reads (option_map (row_with key (left_for row map.budget map.archives)) o)) (sym (value_at-with_value key row.key row old.rows))
            ∙ row_now key (left_for row map.budget map.archives) (with_value row.key row old.rows) left_is set.rows_are;
        archives = sym left_is;
        budget = is.budget ∙ sym set.budget_is;
      }

  pub puts : AreApart old.archives → (row : Row) (result : Result (List (List ℕ)) RecordError) → OnOk result (SetsRow row old new) → IfOk result (λ keys. keys ≡ lost_by row old.budget old.archives)
      → OnOk result (IsTrue (keeps_archive row old.budget) → AreUnspent old.archives) → OnErr result (Stays old new) → IfErr result (CannotPut row old.budget old.archives) → Puts (IsMapOf new) map row result
  puts apart row (Ok keys) set lost can same err = (
    lost ∙ ap (λ b. lost_by row b old.archives) (sym is.budget) ∙ ap (lost_by row map.budget) (sym is.archives),
    λ keeps. subst AreUnspent (sym is.archives) (can (subst (λ b. IsTrue (keeps_archive row b)) is.budget keeps)),
    λ kept. put_rows apart row set,
  )
  puts apart row (Err OutOfMemory) set lost can same err = stays same
  puts apart row (Err (Refused NotARecord)) set lost can same (inl memory) = let e = memory in cc
  puts apart row (Err (Refused NotARecord)) set lost can same (inr spent) = let e = spent.0 in cc
  puts apart row (Err (Refused WrongVersion)) set lost can same (inl memory) = let e = memory in cc
  puts apart row (Err (Refused WrongVersion)) set lost can same (inr spent) = let e = spent.0 in cc
  puts apart row (Err (Refused NoRow)) set lost can same (inl memory) = let e = memory in cc
  puts apart row (Err (Refused NoRow)) set lost can same (inr spent) = let e = spent.0 in cc
  puts apart row (Err (Refused Store)) set lost can same err = stays same
  puts apart row (Err (Refused UsesSpent)) set lost can same (inl memory) = absurd (let e = memory in cc)
  puts apart row (Err (Refused UsesSpent)) set lost can same (inr spent) =
      (subst (λ b. IsTrue (keeps_archive row b)) (sym is.budget) spent.1, subst AreSpent (sym is.archives) spent.2, stays same)

  touch_rows : (key : List ℕ) → IsTrue (has_archive key old.archives) → TouchesArchive key old new → IsMapOf new (changed_by (touches key) map)
  touch_rows key there set = record {
    rows = λ k. row_in k ∙ at_archives k map.archives new.archives (value_at k old.rows) (as_before k) ∙ row_now k new.archives old.rows refl set.rows_are;
    archives = ap (touched key) is.archives ∙ sym set.archives_are;
    budget = is.budget ∙ sym set.budget_is;
  }
    where
      as_before : (k : List ℕ) → has_archive k map.archives ≡ has_archive k new.archives
      as_before k = ap (has_archive k) is.archives ∙ sym (has_touched k key old.archives there) ∙ ap (has_archive k) (sym set.archives_are)

  pub touches_so : (key : List ℕ) (result : Result (Unit {0}) RecordError) → OnOk result (TouchesArchive key old new) → OnOk result (IsTrue (has_archive key old.archives) × AreUnspent old.archives)
      → OnErr result (Stays old new) → IfErr result (CannotTouch key old.archives) → Touches (IsMapOf new) map key result
  touches_so key (Ok done) set can same err = (subst (λ list. IsTrue (has_archive key list)) (sym is.archives) can.0, subst AreUnspent (sym is.archives) can.1, touch_rows key can.0 set)
  touches_so key (Err OutOfMemory) set can same err = stays same
  touches_so key (Err (Refused NotARecord)) set can same (inl memory) = let e = memory in cc
  touches_so key (Err (Refused NotARecord)) set can same (inr (inl none)) = let e = none.0 in cc
  touches_so key (Err (Refused NotARecord)) set can same (inr (inr spent)) = let e = spent.0 in cc
  touches_so key (Err (Refused WrongVersion)) set can same (inl memory) = let e = memory in cc
  touches_so key (Err (Refused WrongVersion)) set can same (inr (inl none)) = let e = none.0 in cc
  touches_so key (Err (Refused WrongVersion)) set can same (inr (inr spent)) = let e = spent.0 in cc
  touches_so key (Err (Refused NoRow)) set can same (inl memory) = absurd (let e = memory in cc)
  touches_so key (Err (Refused NoRow)) set can same (inr (inl none)) = (ap (has_archive key) is.archives ∙ none.1, stays same)
  touches_so key (Err (Refused NoRow)) set can same (inr (inr spent)) = absurd (let e = spent.0 in cc)
  touches_so key (Err (Refused Store)) set can same err = stays same
  touches_so key (Err (Refused UsesSpent)) set can same (inl memory) = absurd (let e = memory in cc)
  touches_so key (Err (Refused UsesSpent)) set can same (inr (inl none)) = absurd (let e = none.0 in cc)
  touches_so key (Err (Refused UsesSpent)) set can same (inr (inr spent)) =
      (subst (λ list. IsTrue (has_archive key list)) (sym is.archives) spent.1, subst AreSpent (sym is.archives) spent.2, stays same)

  drop_rows : (key : List ℕ) → DropsArchive key old new → IsMapOf new (changed_by (unarchives key) map)
  drop_rows key set = record {
    rows = λ k. dropped k (bytes_eq k key) refl ∙ row_now k (without_archive key old.archives) old.rows set.archives_are set.rows_are;
    archives = ap (without_archive key) is.archives ∙ sym set.archives_are;
    budget = is.budget ∙ sym set.budget_is;
  }
    where
      dropped : (k : List ℕ) (b : Bool) → bytes_eq k key ≡ b → (if b then option_map unarchived (map.rows k) else map.rows k) ≡ option_map reads (option_map (row_with k (without_archive key old.archives)) (value_at k old.rows))
      dropped k true same =
          ap (option_map unarchived) (is.rows k)
          ∙ gone_archive k old.archives (without_archive key old.archives) (value_at k old.rows) (ap (λ n. has_archive n (without_archive key old.archives)) ((bytes_decides k key).0 same) ∙ without_own key old.archives)
      dropped k false differs = is.rows k ∙ at_archives k old.archives (without_archive key old.archives) (value_at k old.rows) (sym (without_other key k old.archives differs))

  some_kept : (key : List ℕ) (o : Option Row) → IsSome o → (kept : Kept) × (option_map reads (option_map (row_with key old.archives) o) ≡ Some kept)
  some_kept key None there = absurd (let e = there in cc)
  some_kept key (Some row) there = (reads (row_with key old.archives row), refl)

  pub drops : (key : List ℕ) (result : Result (Unit {0}) RecordError) → OnOk result (IsSome (value_at key old.rows)) → OnOk result (DropsArchive key old new) → OnErr result (Stays old new) → IfErr result (CannotDrop key old.rows)
      → Drops (IsMapOf new) map key result
  drops key (Ok done) there set same err = let kept = some_kept key (value_at key old.rows) there in ((kept.0, is.rows key ∙ kept.1), drop_rows key set)
  drops key (Err OutOfMemory) there set same err = stays same
  drops key (Err (Refused NotARecord)) there set same (inl memory) = let e = memory in cc
  drops key (Err (Refused NotARecord)) there set same (inr none) = let e = none.0 in cc
  drops key (Err (Refused WrongVersion)) there set same (inl memory) = let e = memory in cc
  drops key (Err (Refused WrongVersion)) there set same (inr none) = let e = none.0 in cc
  drops key (Err (Refused NoRow)) there set same (inl memory) = absurd (let e = memory in cc)
  drops key (Err (Refused NoRow)) there set same (inr none) = (is.rows key ∙ ap (λ o. option_map reads (option_map (row_with key old.archives) o)) none.1, stays same)
  drops key (Err (Refused Store)) there set same err = stays same
  drops key (Err (Refused UsesSpent)) there set same (inl memory) = let e = memory in cc
  drops key (Err (Refused UsesSpent)) there set same (inr none) = let e = none.0 in cc

-- ---- what a command leaves, from what it leaves of the rows and of the archives

pub ok_leaves : {T E : Type 0} (old new : MemoryState) (rows : List (List ℕ × Row)) (archives : List Archive) (result : Result T E) → OnOk result (new.rows ≡ rows) → OnOk result (new.archives ≡ archives) → new.budget ≡ old.budget
    → OnOk result (Leaves old new rows archives)
ok_leaves old new rows archives (Ok x) r a b = record { rows_are = r; archives_are = a; budget_is = b }
ok_leaves old new rows archives (Err e) r a b = tt

pub ok_archives : {T E : Type 0} (old new : MemoryState) (archives : List Archive) (result : Result T E) → new.rows ≡ old.rows → OnOk result (new.archives ≡ archives) → new.budget ≡ old.budget → OnOk result (Leaves old new old.rows archives)
ok_archives old new archives (Ok x) r a b = record { rows_are = r; archives_are = a; budget_is = b }
ok_archives old new archives (Err e) r a b = tt

pub err_stays : {T E : Type 0} (old new : MemoryState) (result : Result T E) → OnErr result ((new.rows ≡ old.rows) × (new.archives ≡ old.archives)) → new.budget ≡ old.budget → OnErr result (Stays old new)
err_stays old new (Ok x) same b = tt
err_stays old new (Err e) same b = record { rows_are = same.0; archives_are = same.1; budget_is = b }

pub err_same : {T E : Type 0} (old new : MemoryState) (result : Result T E) → new.rows ≡ old.rows → OnErr result (new.archives ≡ old.archives) → new.budget ≡ old.budget → OnErr result (Stays old new)
err_same old new (Ok x) r same b = tt
err_same old new (Err e) r same b = record { rows_are = r; archives_are = same; budget_is = b }
