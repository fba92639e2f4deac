-- The archives that are listed are those of the map, in their order.
use Rattle.std.proofs.Common.{◌≡◌, ◌⊎◌, inl, inr, ℕ, ◌+◌, ◌<◌, ◌≤◌, pos, false, List, [], ◌∷◌, ◌++◌, map as mapped, take, length, get_or, Ok, Err, Result, IsTrue, refl, sym, ap, subst, ◌∙◌, arith}
use Rattle.std.specs.Prelude.{sum_by}
use Rattle.std.proofs.lemmas.List as lists
use Rattle.std.proofs.lemmas.List.Sorted.{sum_by-IsPermutation}
use Rattle.std.proofs.lemmas.List.Sums.{sum_by-cons}
use Rattle.sqlite.specs.Store.{Ghosts}
use Rattle.sqlite.specs.declared.types.Value.{Value}
use Rattle.sqlite.specs.declared.types.Value.TheVariants.{Int, Text}
use Rattle.sqlite.specs.Order.{Row as Columns, column}
use Rattle.sqlite.specs.Program.{overlay}
use Rattle.sqlite.specs.Query.{Output, output, IsSureAnswer}
use Rattle.sqlite.specs.Tree.{Trees}
use Rattle.sqlite.specs.Listing.{understood}
use Rattle.sqlite.specs.declared.error.Error.{Error}
use Rattle.sqlite.specs.declared.error.Error.TheVariants.{SqlInputError}
use Rattle.sqlite.specs.State.{State, store_error, IsUnchanged, IsRolledBack, IsNotRun, FailsToQuery, Shown, HasCleanDisk, Survives, CommitsShowing}
use Rattle.sqlite.specs.Held.{Held, state}
use Rattle.sqlite.proofs.Callers.{IsPlain, reads_as}
use Rattle.sqlite_trees.specs.declared.error.StoreError.{StoreError}
use Rattle.sqlite_resolve.specs.declared.error.CompileError.TheVariants.{NoSuchTable}
use Rattle.sqlite_rules.specs.Lists.{Has}
use Rattle.sqlite_rules.proofs.ListLemmas.{any_has}
use Rattle.sqlite_rules.proofs.ProbeLemmas.{has_mapped, mapped_has}
use Rattle.job_rows.specs.declared.archive.Archive.{Archive}
use Rattle.job_rows.specs.InStep.{AreRising}
use Rattle.job_record.specs.declared.fault.RecordFault.{RecordFault}
use Rattle.job_record.specs.declared.fault.RecordFault.TheVariants.{NotARecord, WrongVersion, NoRow, Store, UsesSpent, OutOfMemory}
use Rattle.job_record.specs.Archives.{archives_text, archive_columns, IsArchiveIn, IsNoArchive, AreArchivesIn}
use Rattle.job_record.specs.RecordMap.{ListsArchives}
use Rattle.job_record.specs.Map.{KeyMap, HoldsMap, IsRecord, Stands, ArchivesIn}
use Rattle.job_record.specs.Crash.{ReadsSafely}
use Rattle.job_record.specs.OpenMap.{IsFirst}
use Rattle.job_record.specs.Seen.{SeesNone}
use Rattle.job_record.specs.inner.Crash.{RunsOpen}
use Rattle.job_record.specs.inner.Inside.{number_in}
use Rattle.job_record.specs.Commands.{archive_project, archives_on}
use Rattle.job_record.proofs.ArchiveMade.{archive_free}
use Rattle.job_record.proofs.Compiled.{archives_is, archives_plain, archives_absent}
use Rattle.job_record.proofs.Looking.{row_archive, order, outs, answer, shown_are, sorted_are, kept_are, out_archive, archive_out, rising_above}
use Rattle.job_record.proofs.MapSteps.{same_shows, undone_stands}
use Rattle.job_record.proofs.Queries.{shown_same, failed_same}
use Rattle.job_record.proofs.RisingUses.{counts, at_most_one, IsFirstAfter, uses, sorted_rise, same_list, used_tells}
use Rattle.job_record.proofs.SafeCalls.{reads_safe}
use Rattle.job_record.proofs.Seen.{first_undone}
use Rattle.job_record.proofs.Shown.{passes, chosen, overlay_none}
use Rattle.job_record.proofs.Standing.{archives_at}

-- ---- archives that are read one after another

archives_more : (cs : List Columns) (xs : List Archive) (c : Columns) (a : Archive) → AreArchivesIn cs xs → IsArchiveIn c a → AreArchivesIn (cs ++ c ∷ []) (xs ++ a ∷ [])
archives_more [] [] c a before now = (now, tt)
archives_more (d ∷ cs) (x ∷ xs) c a before now = (before.0, archives_more cs xs c a before.1 now)
archives_more [] (x ∷ xs) c a before now = absurd before
archives_more (d ∷ cs) [] c a before now = absurd before

pub archives_taken : (cs : List Columns) (i : ℕ) (xs : List Archive) (c : Columns) (a : Archive) → i < length cs → c ≡ get_or cs i c → AreArchivesIn (take i cs) xs → IsArchiveIn c a
    → AreArchivesIn (take (i + 1) cs) (xs ++ a ∷ [])
archives_taken cs i xs c a within is before now =
    subst (λ some. AreArchivesIn some (xs ++ a ∷ [])) (ap (λ last. take i cs ++ last ∷ []) is ∙ sym (lists.take_more cs i c within)) (archives_more (take i cs) xs c a before now)

-- the text of a value
text_in : Value → List ℕ
text_in (Text t) = t
text_in _ = []

-- the archive that columns read as, if any
abbrev read : Columns → Archive
read c = record { key = text_in (column c 0); bytes = number_in (column c 1); used = number_in (column c 2) }

read_is : (c : Columns) (a : Archive) → IsArchiveIn c a → read c ≡ a
unfolding text_in
read_is c a is = rw (is.key.0, is.bytes, is.used) refl

read_columns : (a : Archive) → read (archive_columns a) ≡ a
unfolding text_in
read_columns a = refl

all_read : (cs : List Columns) (xs : List Archive) → AreArchivesIn cs xs → xs ≡ mapped read cs
all_read [] [] are = refl
all_read (c ∷ cs) (x ∷ xs) are = let first = read_is c x are.0 in let rest = all_read cs xs are.1 in rw (first, ← rest) refl
all_read [] (x ∷ xs) are = absurd are
all_read (c ∷ cs) [] are = absurd are

read_twice : (os : List Output) → mapped read (mapped (λ (o : Output). o.1) os) ≡ mapped (λ (o : Output). read o.1) os
read_twice [] = refl
read_twice (o ∷ os) = ap (λ (l : List Archive). read o.1 ∷ l) (read_twice os)

-- ---- the query on all archives

module _ (old : State) (map : KeyMap) (it : HoldsMap old.now map) (all : List Columns) (sure : IsSureAnswer (archives_on (archives_at map)) (overlay old.now.trees []) [] all) where
  abbrev os : List Output
  os = outs old map it archive_project false all sure

  abbrev read_out : Output → Archive
  read_out o = read o.1

  out_read : (o : Output) → Has os o → Has map.archives (read_out o) × (o.0 ≡ Int (pos (read_out o).used) ∷ []) × (o.1 ≡ archive_columns (read_out o))
  out_read o h =
      let a = out_archive old map it archive_project false all sure o h in
      let own : a.0 ≡ read_out o = sym (ap read_out a.3 ∙ read_columns a.0) in (
        subst (Has map.archives) own a.1,
        ap (λ (p : Output). p.0) a.3 ∙ ap (λ (z : Archive). Int (pos z.used) ∷ []) own,
        ap (λ (p : Output). p.1) a.3 ∙ ap archive_columns own,
      )

  read_has : (a : Archive) → Has map.archives a → Has (mapped read_out os) a
  read_has a h =
      let o = archive_out old map it archive_project false all sure a h in
      subst (Has (mapped read_out os)) (read_columns a) (mapped_has read_out os (output (archives_on (archives_at map)) ([] ∷ (o.0 ∷ archive_columns a) ∷ [])) o.1)

  has_read : (a : Archive) → Has (mapped read_out os) a → Has map.archives a
  has_read a h = let o = has_mapped read_out os a h in subst (Has map.archives) (sym o.2) (out_read o.0 o.1).0

  -- each use comes once
  row_use : Columns → ℕ
  row_use r = number_in (column r 3)

  use_tells : (n : ℕ) (a b : Columns) → Has (old.now.trees (archives_at map)) a → Has (old.now.trees (archives_at map)) b → row_use a ≡ n → row_use b ≡ n → a ≡ b
  unfolding row_use
  use_tells n a b p q own other =
      let x = row_archive old map it a p in
      let y = row_archive old map it b q in
      let used : x.0.used ≡ y.0.used = sym (ap (λ (z : Columns). number_in (column z 3)) x.2) ∙ own ∙ sym other ∙ ap (λ (z : Columns). number_in (column z 3)) y.2 in
      let same = used_tells 0 map.archives it.archives.rising x.0 y.0 x.1 y.1 used in
      it.kept.keys a b p q (ap (λ (z : Columns). column z 1) x.2 ∙ ap (λ (z : Archive). Text z.key) same ∙ sym (ap (λ (z : Columns). column z 1) y.2))

  rows_count : (n : ℕ) (rows : List Columns)
      → sum_by (uses read_out n) (mapped (output (archives_on (archives_at map))) (chosen (passes [] []) (λ (z : Columns). [] ∷ z ∷ []) rows)) ≡ sum_by (counts row_use n) rows
  unfolding row_use
  rows_count n [] = refl
  rows_count n (r ∷ rows) =
      sum_by-cons (uses read_out n) (output (archives_on (archives_at map)) ([] ∷ r ∷ [])) (mapped (output (archives_on (archives_at map))) (chosen (passes [] []) (λ (z : Columns). [] ∷ z ∷ []) rows))
      ∙ ap (λ m. counts row_use n r + m) (rows_count n rows) ∙ sym (sum_by-cons (counts row_use n) r rows)

  once : (n : ℕ) → sum_by (uses read_out n) os ≤ 1
  once n =
      let f = uses read_out n in
      let db = old.now.trees in
      let order = order old map it archive_project false all in
      let moved : sum_by f os ≡ sum_by f (answer (archives_at map) archive_project order db all sure).kept = sum_by-IsPermutation f _ _ (answer (archives_at map) archive_project order db all sure).same in
      let kept = ap (sum_by f) (kept_are (archives_at map) archive_project order db all sure) in
      let rows = rows_count n (overlay db [] (archives_at map)) in
      let at = ap (sum_by (counts row_use n)) (overlay_none db (archives_at map)) in
      subst (λ m. m ≤ 1) (sym (moved ∙ kept ∙ rows ∙ at)) (at_most_one row_use n (db (archives_at map)) it.ordered (use_tells n))

  rising : AreRising 0 (mapped read_out os)
  rising = sorted_rise read_out 0 os (λ o h. (out_read o h).1) (sorted_are (archives_at map) archive_project (order old map it archive_project false all) old.now.trees all sure) once (first os (λ o h. h))
    where
      first : (some : List Output) → ((o : Output) → Has some o → Has os o) → IsFirstAfter read_out 0 some
      first [] within = tt
      first (o ∷ more) within = rising_above 0 map.archives (read_out o) it.archives.rising (out_read o (within o (inl refl))).0

  pub archives_are : (xs : List Archive) → AreArchivesIn all xs → xs ≡ map.archives
  archives_are xs are =
      all_read all xs are ∙ ap (mapped read) (shown_are (archives_at map) archive_project (order old map it archive_project false all) old.now.trees all sure) ∙ read_twice os
      ∙ same_list 0 0 (mapped read_out os) map.archives rising it.archives.rising has_read read_has

  -- each of them reads
  pub columns_read : (c : Columns) → Has all c → IsNoArchive c → ⊥
  columns_read c h none =
      let o = has_mapped (λ (k : Output). k.1) os c (subst (λ l. Has l c) (shown_are (archives_at map) archive_project (order old map it archive_project false all) old.now.trees all sure) h) in
      let r = out_read o.0 o.1 in
      let is : c ≡ archive_columns (read_out o.0) = o.2 ∙ r.2 in
      none (read_out o.0) (record {
        width = subst (λ (z : Columns). 2 < length z) (sym is) (omega arith);
        key = (ap (λ (z : Columns). column z 0) is, (it.archives.within (read_out o.0) r.0).key);
        bytes = ap (λ (z : Columns). column z 1) is;
        used = ap (λ (z : Columns). column z 2) is;
      })

-- ---- the map

module _ {S : Type 0} (g : Ghosts S) (old new : Held S) where
  module _ (it : IsRecord (state g old)) where
    is_plain : IsPlain (understood (state g old).now.schema archives_text)
    is_plain = archives_plain (state g old).now.schema it.schema.tables

    same : (all : List Columns) → Shown archives_text [] (state g old) (state g new) all → IsUnchanged (state g old) (state g new)
    same all h = shown_same archives_text [] (state g old) (state g new) is_plain all h

  sure_of : (map : KeyMap) → HoldsMap (state g old).now map → (all : List Columns) → Shown archives_text [] (state g old) (state g new) all → IsSureAnswer (archives_on (archives_at map)) (overlay (state g old).now.trees []) [] all
  sure_of map holds all h =
      let schema = map.beside.schema in
      let tables = holds.has.tables in
      (reads_as archives_text [] (state g old) (state g new) schema holds.schema _ (archives_is schema tables).0 (archives_plain schema tables) (archives_is schema tables).1 all h).answer

  pub archives_are_map : (result : Result (List Archive) RecordFault) → ListsArchives g old new result → IsRecord (state g old) → (map : KeyMap) → HoldsMap (state g old).now map
      → ArchivesIn map (state g old) (state g new) result
  archives_are_map (Ok xs) h it map holds =
      let u = same it h.0 h.1 in
      (archives_are (state g old) map holds h.0 (sure_of map holds h.0 h.1) xs h.2, u, (same_shows (state g old) (state g new) it u).1)
  archives_are_map (Err NotARecord) h it map holds = let c = any_has IsNoArchive h.0 h.2 in columns_read (state g old) map holds h.0 (sure_of map holds h.0 h.1) c.0 c.1 c.2
  archives_are_map (Err WrongVersion) h it map holds = absurd h
  archives_are_map (Err NoRow) h it map holds = absurd h
  archives_are_map (Err UsesSpent) h it map holds = absurd h
  archives_are_map (Err (Store e)) (inl h) it map holds = undone_stands (state g old) (state g new) it (failed_same archives_text [] (state g old) (state g new) (is_plain it) e h)
  archives_are_map (Err (Store e)) (inr h) it map holds = λ open_now. same_shows (state g old) (state g new) it (same it h.1 h.2)
  archives_are_map (Err OutOfMemory) h it map holds = λ open_now. same_shows (state g old) (state g new) it (same it h.0 h.1)

  archives_stand : (result : Result (List Archive) RecordFault) → ListsArchives g old new result → IsRecord (state g old) → Stands (state g old) (state g new)
  archives_stand (Ok xs) h it open_now = same_shows (state g old) (state g new) it (same it h.0 h.1)
  archives_stand (Err NotARecord) h it open_now = same_shows (state g old) (state g new) it (same it h.0 h.1)
  archives_stand (Err WrongVersion) h it open_now = absurd h
  archives_stand (Err NoRow) h it open_now = absurd h
  archives_stand (Err UsesSpent) h it open_now = absurd h
  archives_stand (Err (Store e)) (inl h) it open_now =
      undone_stands (state g old) (state g new) it (failed_same archives_text [] (state g old) (state g new) (is_plain it) e h) open_now
  archives_stand (Err (Store e)) (inr h) it open_now = same_shows (state g old) (state g new) it (same it h.1 h.2)
  archives_stand (Err OutOfMemory) h it open_now = same_shows (state g old) (state g new) it (same it h.0 h.1)

  pub archives_safe : (law : (s : S) (trees : Trees) → IsTrue (g.view s).is_open → g.recovers s trees → trees ≡ (g.view s).committed) (result : Result (List Archive) RecordFault)
      → ListsArchives g old new result → RunsOpen (state g old) (state g new) → HasCleanDisk (state g new) → Survives (state g old) (state g new) (CommitsShowing archives_text [] (state g old))
      → ReadsSafely (state g old) (state g new)
  archives_safe law result lists = reads_safe g old new law archives_text [] (archives_stand result lists) is_plain

-- ---- a record of version 1

module _ (old new : State) (absent : understood old.now.schema archives_text ≡ Err NoSuchTable) where
  not_shown : (rows : List Columns) → Shown archives_text [] old new rows → ⊥
  unfolding Shown
  not_shown rows h = absurd (let e : Ok h.0 ≡ Err NoSuchTable = sym h.1.is ∙ absent in cc)

  abbrev Told : Error → Type 0
  Told e = ((e ≡ SqlInputError NoSuchTable) ⊎ ((cause : StoreError) × (e ≡ store_error cause))) × (IsUnchanged old new ⊎ IsRolledBack old new)

  refused : (e : Error) → FailsToQuery archives_text [] old new e → Told e
  unfolding FailsToQuery IsNotRun
  refused e (inl (inl (inl none, same))) = (inl (none.2 ∙ ap SqlInputError (let is : Err none.0 ≡ Err NoSuchTable = sym none.1 ∙ absent in cc)), inl same)
  refused e (inl (inl (inr some, same))) = absurd (let is : Ok some.0 ≡ Err NoSuchTable = sym some.1 ∙ absent in cc)
  refused e (inl (inr failed)) = (inr (failed.0, failed.1), inr failed.3)
  refused e (inr ran) = absurd (let is : Ok ran.0 ≡ Err NoSuchTable = sym ran.1.is ∙ absent in cc)

module _ {S : Type 0} (g : Ghosts S) (old new : Held S) where
  pub archives_see_none : (result : Result (List Archive) RecordFault) → ListsArchives g old new result → IsFirst (state g old) → SeesNone (state g old) (state g new) result
  archives_see_none result h it = sees result h
    where
      absent : understood (state g old).now.schema archives_text ≡ Err NoSuchTable
      absent = archives_absent (state g old).now.schema (archive_free (state g old).now.schema it.schema)

      none : (rows : List Columns) → Shown archives_text [] (state g old) (state g new) rows → ⊥
      none rows shown = not_shown (state g old) (state g new) absent rows shown

      sees : (r : Result (List Archive) RecordFault) → ListsArchives g old new r → SeesNone (state g old) (state g new) r
      sees (Ok xs) h = absurd (none h.0 h.1)
      sees (Err NotARecord) h = absurd (none h.0 h.1)
      sees (Err WrongVersion) h = absurd h
      sees (Err NoRow) h = absurd h
      sees (Err UsesSpent) h = absurd h
      sees (Err (Store e)) (inl h) = let told = refused (state g old) (state g new) absent e h in (e, refl, told.0, first_undone (state g old) (state g new) it told.1)
      sees (Err (Store e)) (inr h) = absurd (none h.1 h.2)
      sees (Err OutOfMemory) h = absurd (none h.0 h.1)
