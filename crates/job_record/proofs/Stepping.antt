-- What a statement inside a transaction makes of a record's map.
use Rattle.std.proofs.Common.{◌≡◌, ◌⊎◌, inl, inr, ℕ, suc, ◌-◌, ◌^◌, ◌≤◌, ◌<◌, min, pos, Bool, true, false, if◌then◌else◌, List, [], ◌∷◌, ◌++◌, Option, Some, None, is_some, option_map, Ok, Err, refl, sym, ap, subst, ◌∙◌, arith, true≢false}
use Rattle.std.specs.Prelude.{find, bytes_eq, nat_lt, option_to_list}
use Rattle.std.proofs.lemmas.Bool.{le-leb}
use Rattle.std.proofs.Math.Nat.{min-eq_left}
use Rattle.sqlite.specs.declared.types.Value.TheVariants.{Int, Text}
use Rattle.sqlite.specs.Order.{Row}
use Rattle.sqlite.specs.declared.error.Error.{Error}
use Rattle.sqlite_rules.specs.Lists.{Has}
use Rattle.sqlite.specs.State.{State, IsUnchanged, IsRolledBack, KeepsCommit, ExecutesInside}
use Rattle.job_rows.specs.declared.archive.Archive.{Archive}
use Rattle.job_rows.specs.Map.{is_of, has_archive, without_archive, touched, next_used, greatest_used, greatest_number, AreUnspent}
use Rattle.job_record.specs.declared.fault.RecordFault.{RecordFault}
use Rattle.job_record.specs.declared.fault.RecordFault.TheVariants.{Store}
use Rattle.job_record.specs.declared.texts.Stored.{Stored}
use Rattle.job_record.specs.Archives.{add_text, use_text, remove_text, archive_params, use_params, archive_columns, AreArchives, IsWithinStore}
use Rattle.job_record.specs.Columns.{columns_of}
use Rattle.job_record.specs.Statements.{put_text, drop_archive_text, forget_text, key_params}
use Rattle.job_record.specs.Keyed.{held_in}
use Rattle.job_record.specs.Map.{KeyMap, HoldsMap, unarchived}
use Rattle.job_record.specs.inner.Inside.{GoesOn, Answer, Steps, Always, Never, Makes, Meets, with_row, without_flag, without_row, with_archives, CanAdd, CanRenumber}
use Rattle.job_record.proofs.ArchiveList.{IsListOf, list_of, archives_of, list_without, list_more, columns_found, free_columns, without_own, none_there, found_cases, greatest_without}
use Rattle.job_record.proofs.ArchiveRows.{Archived, removes, renumbers, adds}
use Rattle.job_record.proofs.JobRows.{Wrote, drops, forgets}
use Rattle.job_record.proofs.Placed.{not_job, not_archive}
use Rattle.job_record.proofs.Putting.{puts}
use Rattle.job_record.proofs.Standing.{rows_at, archives_at, tables_of, MeetsKey}

-- ---- the transaction

module _ (sql : List ℕ) (params : Row) (old new : State) where
  pub goes_on : (n : ℕ) → ExecutesInside 0 sql params old new (Ok n) → GoesOn old new
  goes_on n h = record { was_open = h.1.was_open; is_open = h.1.is_open; committed = h.1.committed_is; going = h.1.mode }

  pub kept_by : IsUnchanged old new ⊎ IsRolledBack old new → KeepsCommit old new
  kept_by (inl u) = record { was_open = λ _. u.0.was_open; committed = λ _. u.0.committed_is }
  kept_by (inr r) = record { was_open = r.was_open; committed = λ now. (r.undone now).1 }

  keeps : (e : Error) → ExecutesInside 0 sql params old new (Err e) → KeepsCommit old new
  keeps e (inl h) = kept_by h.1
  keeps e (inr h) = kept_by (inl h.2)

  pub refused : {T : Type 0} (Given : KeyMap → Type 0) (Told : Answer T) (Why : KeyMap → RecordFault → Type 0) (e : Error) → ExecutesInside 0 sql params old new (Err e) → Steps old new Given Told Why (Err (Store e))
  refused Given Told Why e h = (keeps e h, inl tt, λ map it given. inl tt)

-- ---- the map that is left

module _ (old new : State) (map : KeyMap) (it : HoldsMap old.now map) where
  jobs_left : (rows : List ℕ → Option Row) → Wrote map.beside.schema old.now new.now rows → (next : List ℕ → Option Row) → ((k : List ℕ) → rows k ≡ next k) → HoldsMap new.now (record map { rows = next })
  jobs_left rows w next same = record {
    schema = w.tables.schema;
    has = it.has;
    beside = λ t there other. w.others_are t there (not_job map.beside.schema it.has t there other) ∙ it.beside t there other;
    sound = w.tables.sound;
    keyed = w.tables.keyed;
    kept = w.tables.kept;
    ordered = w.tables.ordered;
    rows = λ k. w.rows_are k ∙ same k;
    archives = subst (λ l. AreArchives l map.archives) (sym w.archives_are) it.archives;
  }

  archives_left : (f : List ℕ → Option Row) (archives : List Archive) → Archived map.beside.schema old.now new.now f → IsListOf f archives → HoldsMap new.now (with_archives archives map)
  archives_left f archives w list = record {
    schema = w.tables.schema;
    has = it.has;
    beside = λ t there other. w.others_are t there (not_archive map.beside.schema it.has t there other) ∙ it.beside t there other;
    sound = w.tables.sound;
    keyed = w.tables.keyed;
    kept = w.tables.kept;
    ordered = w.tables.ordered;
    rows = λ k. ap (λ l. held_in l k) w.jobs_are ∙ it.rows k;
    archives = archives_of (new.now.trees (archives_at map)) f archives w.rows_are list;
  }

  list : IsListOf (held_in (old.now.trees (archives_at map))) map.archives
  list = list_of (old.now.trees (archives_at map)) map.archives it.archives

-- ---- the rows of the jobs

met_is : (count : ℕ) (was now : Option Row) → MeetsKey count was → was ≡ now → nat_lt 0 count ≡ is_some now
met_is count was now (inl h) same = rw (h.0, ← same, h.1) refl
met_is count was now (inr h) same = rw (h.1, ← same, h.3, le-leb 1 (suc h.0) (omega arith)) refl

pub drop_step : (key : List ℕ) (old new : State) (n : ℕ) → ExecutesInside 0 drop_archive_text (key_params key) old new (Ok n) → Steps old new Always (Meets key (without_flag key)) Never (Ok (nat_lt 0 n))
drop_step key old new n h = (
  goes_on drop_archive_text (key_params key) old new n h,
  λ map it given.
      let w = drops map.beside.schema old new key (tables_of old.now map it) n h.0 in (
        without_flag key map,
        jobs_left old new map it _ w.0 (without_flag key map).rows (λ k. ap (λ o. if bytes_eq k key then option_map unarchived o else o) (it.rows k)),
        (refl, met_is n (held_in (old.now.trees (rows_at map)) key) (map.rows key) w.1 (it.rows key)),
      ),
)

pub forget_step : (key : List ℕ) (old new : State) (n : ℕ) → ExecutesInside 0 forget_text (key_params key) old new (Ok n) → Steps old new Always (Meets key (without_row key)) Never (Ok (nat_lt 0 n))
forget_step key old new n h = (
  goes_on forget_text (key_params key) old new n h,
  λ map it given.
      let w = forgets map.beside.schema old new key (tables_of old.now map it) n h.0 in (
        without_row key map,
        jobs_left old new map it _ w.0 (without_row key map).rows (λ k. ap (λ o. if bytes_eq k key then None else o) (it.rows k)),
        (refl, met_is n (held_in (old.now.trees (rows_at map)) key) (map.rows key) w.1 (it.rows key)),
      ),
)

pub put_step : (stored : Stored) (old new : State) (n : ℕ) → ExecutesInside 0 put_text (columns_of stored) old new (Ok n) → Makes old new (with_row stored) (Ok (tt {0}))
put_step stored old new n h = (
  goes_on put_text (columns_of stored) old new n h,
  λ map it given.
      let w = puts map.beside.schema old new stored.key stored.outputs stored.files (pos (min stored.cost (2 ^ 63 - 1))) (if stored.archived then pos 1 else pos 0) (tables_of old.now map it) n h.0 in (
        with_row stored map,
        jobs_left old new map it _ w (with_row stored map).rows (λ k. ap (λ o. if bytes_eq k stored.key then Some (columns_of stored) else o) (it.rows k)),
        refl,
      ),
)

-- ---- the archives

pub remove_step : (key : List ℕ) (old new : State) (n : ℕ) → ExecutesInside 0 remove_text (key_params key) old new (Ok n) → Makes old new (λ map. with_archives (without_archive key map.archives) map) (Ok (tt {0}))
remove_step key old new n h = (
  goes_on remove_text (key_params key) old new n h,
  λ map it given.
      let w = removes map.beside.schema old new key (tables_of old.now map it) n h.0 in
      (with_archives (without_archive key map.archives) map, archives_left old new map it _ _ w (list_without _ map.archives (list old new map it) key), refl),
)

-- the numbers are not past those of the store
numbers_are : (bytes used : ℕ) (key : List ℕ) → bytes ≤ greatest_number → used ≤ greatest_number → archive_params key bytes used ≡ Text key ∷ Int (pos bytes) ∷ Int (pos used) ∷ []
numbers_are bytes used key low next =
    let b : min bytes (2 ^ 63 - 1) ≡ bytes = min-eq_left low in
    let u : min used (2 ^ 63 - 1) ≡ used = min-eq_left next in
    rw (b, u) refl

next_low : (xs : List Archive) (used : ℕ) → used ≡ next_used xs → AreUnspent xs → (used ≤ greatest_number) × (greatest_used xs < used)
next_low xs used is left = (omega (arith, is, left), omega (arith, is))

pub add_step : (key : List ℕ) (bytes used : ℕ) (old new : State) (n : ℕ) → ExecutesInside 0 add_text (archive_params key bytes used) old new (Ok n)
    → Steps old new (CanAdd key bytes used) (λ map done next. next ≡ with_archives (map.archives ++ record { key = key; bytes = bytes; used = used } ∷ []) map) Never (Ok (tt {0}))
add_step key bytes used old new n h = (
  goes_on add_text (archive_params key bytes used) old new n h,
  λ map it given.
      let own : Archive = record { key = key; bytes = bytes; used = used } in
      let free = free_columns _ map.archives (list old new map it) key given.0 in
      let ran = rw (numbers_are bytes used key given.3 given.2) at h.0 in
      let w = adds map.beside.schema old new key (pos bytes) (pos used) (tables_of old.now map it) free n ran in
      let fits : IsWithinStore own = record { key = given.4; bytes = given.3; used = given.2 } in
      (with_archives (map.archives ++ own ∷ []) map, archives_left old new map it _ _ w (list_more _ map.archives (list old new map it) own given.0 given.1 fits), refl),
)

used_are : (key : List ℕ) (used : ℕ) → used ≤ greatest_number → use_params key used ≡ Text key ∷ Int (pos used) ∷ []
used_are key used low = let u : min used (2 ^ 63 - 1) ≡ used = min-eq_left low in rw u refl

-- the archive is taken out, and comes last
twice : (k key : List ℕ) (c : Row) (f : List ℕ → Option Row) → (if bytes_eq k key then Some c else f k) ≡ (if bytes_eq k key then Some c else (if bytes_eq k key then None else f k))
twice k key c f = either (bytes_eq k key)
  where
    either : (b : Bool) → (if b then Some c else f k) ≡ (if b then Some c else (if b then None else f k))
    either true = refl
    either false = refl

module _ (key : List ℕ) (used : ℕ) (old new : State) (n : ℕ) (ran : ExecutesInside 0 use_text (use_params key used) old new (Ok n)) (map : KeyMap) (it : HoldsMap old.now map) (given : CanRenumber key used map) where
  -- what becomes of the archive of the key
  used_again : (a : Archive) → find (is_of key) map.archives ≡ Some a → HoldsMap new.now (with_archives (without_archive key map.archives ++ record a { used = used } ∷ []) map)
  used_again a is =
      let l = list old new map it in
      let c = l.there key ∙ ap (option_map archive_columns) is in
      let r = columns_found _ map.archives l key (archive_columns a) c in
      let same : Some r.0 ≡ Some a = sym r.1 ∙ is in
      let alike : r.0 ≡ a = cc in
      let key_is : a.key ≡ key = subst (λ (z : Archive). z.key ≡ key) alike r.4 in
      let own : Archive = record a { used = used } in
      let low = next_low map.archives used given.1.0 given.1.1 in
      let there : held_in (old.now.trees (archives_at map)) key ≡ Some (Text key ∷ Int (pos a.bytes) ∷ Int (pos a.used) ∷ []) = c ∙ ap (λ k. Some (Text k ∷ Int (pos a.bytes) ∷ Int (pos a.used) ∷ [])) key_is in
      let here = rw (used_are key used low.0) at ran.0 in
      let w = renumbers map.beside.schema old new key (pos a.bytes) (pos a.used) (pos used) (tables_of old.now map it) there n here in
      let rest = list_without (held_in (old.now.trees (archives_at map))) map.archives l key in
      let free : has_archive own.key (without_archive key map.archives) ≡ false = ap (λ k. has_archive k (without_archive key map.archives)) key_is ∙ without_own key map.archives in
      let fewer : greatest_used (without_archive key map.archives) ≤ greatest_used map.archives = greatest_without key map.archives in
      let later : greatest_used (without_archive key map.archives) < used = omega (arith, fewer, low.1) in
      let was = l.within a (subst (Has map.archives) alike r.3) in
      let fits : IsWithinStore own = record { key = was.key; bytes = was.bytes; used = low.0 } in
      let full = list_more (λ k. if bytes_eq k key then None else held_in (old.now.trees (archives_at map)) k) (without_archive key map.archives) rest own free later fits in
      let columns : List ℕ → List ℕ → Option Row = λ j k. if bytes_eq k j then Some (Text j ∷ Int (pos a.bytes) ∷ Int (pos used) ∷ []) else (if bytes_eq k key then None else held_in (old.now.trees (archives_at map)) k) in
      archives_left old new map it (columns a.key) (without_archive key map.archives ++ own ∷ []) (record {
        tables = w.tables;
        others_are = w.others_are;
        rows_are = λ k. w.rows_are k ∙ twice k key (Text key ∷ Int (pos a.bytes) ∷ Int (pos used) ∷ []) (held_in (old.now.trees (archives_at map))) ∙ ap (λ j. columns j k) (sym key_is);
        jobs_are = w.jobs_are;
      }) full

  touched_as : (a : Archive) → find (is_of key) map.archives ≡ Some a → without_archive key map.archives ++ record a { used = used } ∷ [] ≡ touched key map.archives
  touched_as a is = ap (λ n. without_archive key map.archives ++ record a { used = n } ∷ []) given.1.0 ∙ sym (ap (λ o. without_archive key map.archives ++ option_to_list (option_map (λ (archive : Archive). record archive { used = next_used map.archives }) o)) is)

  uses : (next : KeyMap) × HoldsMap new.now next × (next ≡ with_archives (touched key map.archives) map)
  uses = elim (found_cases (find (is_of key) map.archives)) [
    | inl none ↦ absurd (true≢false (sym given.0 ∙ none_there key map.archives none))
    | inr some ↦ (with_archives (without_archive key map.archives ++ record some.0 { used = used } ∷ []) map, used_again some.0 some.1, ap (λ l. with_archives l map) (touched_as some.0 some.1))
  ]

pub use_step : (key : List ℕ) (used : ℕ) (old new : State) (n : ℕ) → ExecutesInside 0 use_text (use_params key used) old new (Ok n)
    → Steps old new (CanRenumber key used) (λ map done next. next ≡ with_archives (touched key map.archives) map) Never (Ok (tt {0}))
use_step key used old new n h = (goes_on use_text (use_params key used) old new n h, λ map it given. uses key used old new n h map it given)
