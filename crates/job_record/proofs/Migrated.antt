-- The record that one of version 1 becomes.
use Rattle.std.proofs.Common.{◌≡◌, inl, inr, ℕ, suc, pos, Bool, true, false, if◌then◌else◌, List, [], ◌∷◌, codes, drop, Option, Some, refl, sym, ap, subst, ◌∙◌, arith, true≢false}
use Rattle.std.specs.Prelude.{find, IsSome}
use Rattle.std.specs.List.Sorted.{IsSorted}
use Rattle.sqlite.specs.declared.types.Value.TheVariants.{Int, Text}
use Rattle.sqlite.specs.Collation.TheVariants.{Binary}
use Rattle.sqlite_value.specs.Keys.{ascending}
use Rattle.sqlite_value.specs.declared.keys.Key.{Key}
use Rattle.sqlite.specs.Order.{Row as Columns, column}
use Rattle.sqlite.specs.Store.{Ghosts}
use Rattle.sqlite.specs.Term.{Term, col}
use Rattle.sqlite.specs.Program.{overlay}
use Rattle.sqlite.specs.Query.{IsSureAnswer}
use Rattle.sqlite.specs.Schema.{Schema}
use Rattle.sqlite.specs.Table.{Table}
use Rattle.sqlite.specs.Effect.{Database}
use Rattle.sqlite.specs.Listing.{understood}
use Rattle.sqlite.specs.State.{State}
use Rattle.sqlite.specs.Held.{Held, state}
use Rattle.sqlite.proofs.Callers.{IsPlain, reads_as}
use Rattle.sqlite_trees.specs.Tree.{IsTable}
use Rattle.sqlite_rules.specs.Lists.{Has}
use Rattle.sqlite_rules.proofs.ListLemmas.{all_has, has_left}
use Rattle.sqlite_catalog.proofs.StepLemmas.{table_below}
use Rattle.job_rows.specs.declared.archive.Archive.{Archive}
use Rattle.job_rows.specs.Map.{is_of, has_archive}
use Rattle.job_rows.specs.InStep.{AreApart}
use Rattle.job_record.specs.Tables.{archive_at}
use Rattle.job_record.specs.Places.{meta_tree, meta_in, job_tree, job_in, archive_tree, archive_in, IsOther, HasRecord, with_archive}
use Rattle.job_record.specs.Archives.{make_archive, archived_text, AreArchives}
use Rattle.job_record.specs.Keyed.{held_in, IsKeyed}
use Rattle.job_record.specs.Map.{KeyMap, migrated_beside, held, HoldsMap, IsInStep}
use Rattle.job_record.specs.Opening.{begun, HasBytes, MigratesFrom}
use Rattle.job_record.specs.OpenMap.{IsFirst, IsArchiveOf, AreArchivesOf, IsMigrated, AreOfVersion, SaysVersion, by_key}
use Rattle.job_record.proofs.ArchiveList.{IsListOf, archives_of, found_cases, found_in, find_has, found_there, none_there}
use Rattle.job_record.proofs.ArchiveMade.{archive_free, counted, meta_was, job_was, same_meta, same_job, new_archive, becomes_record, meta_idle, other_was, not_meta}
use Rattle.job_record.proofs.ArchiveOrder.{archives_sorted}
use Rattle.job_record.specs.Commands.{is_archived, archived_on}
use Rattle.job_record.proofs.Compiled.{archived_is, archived_plain, makes_archive}
use Rattle.job_record.proofs.Flagged.{flag_passes, passed_flag, flag_is}
use Rattle.job_record.proofs.Made.{Created, Renoted, creates, renotes}
use Rattle.job_record.proofs.Numbered.{AreNumbered, GrownBy, of_row, row_of, use_at, grows_all}
use Rattle.job_record.proofs.Placed.{job_there, archive_there, meta_not_job, meta_not_archive}
use Rattle.job_record.proofs.Queries.{shown_same}
use Rattle.job_record.proofs.Renoted.{says_two as renoted_says_two}
use Rattle.job_record.proofs.RowMap.{held_row, row_held}
use Rattle.job_record.proofs.Shown.{AreShown, shown_rows}
use Rattle.job_record.proofs.Standing.{AreTables, laid_row}

pub keyed_none : IsKeyed []
keyed_none = record { ids = λ r h. absurd h; rowids = λ a b h. absurd h; keys = λ a b h. absurd h }

abbrev key_and_files : List Term
key_and_files = col 1 1 ∷ col 1 3 ∷ []

abbrev by_first : List (Term × Key)
by_first = (col 1 1, ascending Binary) ∷ []

after_rowid : (r : Columns) (n : ℕ) → column (drop 1 r) n ≡ column r (suc n)
after_rowid [] n = refl
after_rowid (v ∷ r) n = refl

-- ---- the archives are those of the rows

module _ (schema : Schema) (db : Database) (it : AreTables schema db) (all : List Columns) (new : List Archive) (numbered : AreNumbered 0 all new) (apart : AreApart new) (shown : AreShown is_archived key_and_files (db.trees (job_tree schema)) [] all) where
  abbrev rows : List ℕ → Option Columns
  rows = held_in (db.trees (job_tree schema))

  -- the archive of a row that is archived
  archive_of : (r : Columns) (own : Archive) → column r 1 ≡ Text own.key → column r 5 ≡ Int (pos 1) → (key : List ℕ) → HasBytes (column r 1 ∷ column r 3 ∷ []) key own.bytes → IsArchiveOf (drop 1 r) own
  archive_of r own key_is flag key has = record {
    key = after_rowid r 0 ∙ key_is;
    archived = after_rowid r 4 ∙ flag;
    text = has.text;
    files = has.files;
    text_is = (after_rowid r 2 ∙ has.text_is.0, has.text_is.1);
    reads = has.reads;
    bytes = has.bytes_is;
  }

  each : (key : List ℕ) (c : Columns) → rows key ≡ Some c → column c 4 ≡ Int (pos 1) → (own : Archive) × (find (is_of key) new ≡ Some own) × IsArchiveOf c own
  each key c is flag =
      let r = row_held (db.trees (job_tree schema)) key c is in
      let five : column r.0 5 ≡ Int (pos 1) = sym (after_rowid r.0 4) ∙ ap (λ (z : Columns). column z 4) (sym r.3) ∙ flag in
      let there = shown.complete r.0 r.1 (flag_passes r.0 five) in
      let own = of_row 0 all new numbered (column r.0 1 ∷ column r.0 3 ∷ []) there in
      let own_key : column r.0 1 ≡ Text own.0.key = own.2.key_is.0 in
      let texts : Text own.0.key ≡ Text key = sym own_key ∙ r.2 in
      let same : own.0.key ≡ key = cc in
      (own.0, ap (λ k. find (is_of k) new) (sym same) ∙ find_has new own.0 apart own.1, subst (λ (z : Columns). IsArchiveOf z own.0) (sym r.3) (archive_of r.0 own.0 own_key five own.0.key own.2))

  only : (own : Archive) → Has new own → (c : Columns) × (rows own.key ≡ Some c) × IsArchiveOf c own
  only own there =
      let c = row_of 0 all new numbered own there in
      let s = shown.sound c.0 c.1 in
      let has : HasBytes (column s.0 1 ∷ column s.0 3 ∷ []) own.key own.bytes = subst (λ (z : Columns). HasBytes z own.key own.bytes) s.3 c.2 in
      let key_is : column s.0 1 ≡ Text own.key = has.key_is.0 in
      let five = passed_flag s.0 (laid_row schema db it s.0 s.1) s.2 in
      (drop 1 s.0, held_row (db.trees (job_tree schema)) own.key it.keyed.keys s.0 s.1 key_is, archive_of s.0 own key_is five own.key has)

  -- ---- flags and archives agree

  abbrev flag_of : Bool → ℕ
  flag_of b = if b then 1 else 0

  flagged : (key : List ℕ) (c : Columns) → rows key ≡ Some c → (b : Bool) → has_archive key new ≡ b → column c 4 ≡ Int (pos (flag_of b))
  flagged key c is true has = elim (found_cases (find (is_of key) new)) [
    | inl none ↦ absurd (true≢false (sym has ∙ none_there key new none))
    | inr found ↦
        let own = found_in key new found.0 found.1 in
        let o = only found.0 own.1 in
        let both : Some o.0 ≡ Some c = sym o.1 ∙ ap rows own.0 ∙ is in
        let same : o.0 ≡ c = cc in
        ap (λ (z : Columns). column z 4) (sym same) ∙ o.2.archived
  ]
  flagged key c is false none =
      let r = row_held (db.trees (job_tree schema)) key c is in
      let four : column c 4 ≡ column r.0 5 = ap (λ (z : Columns). column z 4) r.3 ∙ after_rowid r.0 4 in
      elim (flag_is schema db it r.0 r.1) [
        | inl zero ↦ four ∙ zero
        | inr one ↦ let own = each key c is (four ∙ one) in absurd (true≢false (sym (found_there key new own.0 own.1) ∙ none))
      ]

  owned : (key : List ℕ) → has_archive key new ≡ true → IsSome (rows key)
  owned key has = elim (found_cases (find (is_of key) new)) [
    | inl none ↦ absurd (true≢false (sym has ∙ none_there key new none))
    | inr found ↦
        let own = found_in key new found.0 found.1 in
        let o = only found.0 own.1 in
        let there : rows key ≡ Some o.0 = ap rows (sym own.0) ∙ o.1 in
        subst IsSome (sym there) refl
  ]

  pub are_archives : IsSorted by_key new → AreArchivesOf (held_in (db.trees (job_tree schema))) new
  are_archives sorted = record { each = each; only = only; ordered = sorted; counted = λ i d within. let at = use_at 0 all new numbered i d within in omega (arith, at) }

  pub in_step : (budget : Option ℕ) (beside : Database) → IsInStep (record { rows = held_in (db.trees (job_tree schema)); archives = new; budget = budget; beside = beside })
  in_step budget beside = record { flags = λ key c is. flagged key c is (has_archive key new) refl; owned = owned }

-- ---- the whole

pub record MigratedTo (budget : Option ℕ) (old : State) (db : Database) : Type 0 where
  pub map : KeyMap
  pub budget_is : map.budget ≡ budget
  pub is : IsMigrated old map
  pub holds : HoldsMap db map
  pub in_step : IsInStep map

pub no_list : IsListOf (held_in []) []
no_list = record { there = λ k. refl; apart = tt; rising = tt; within = λ a h. absurd h }

module _ {S : Type 0} (g : Ghosts S) (old last : Held S) (f : IsFirst (state g old)) (m : MigratesFrom g (begun g old) last) where
  abbrev was : Database
  was = (state g old).now

  abbrev made : Database
  made = (state g m.made).now

  abbrev read : Database
  read = (state g m.read).now

  abbrev grown_to : Database
  grown_to = (state g m.added).now

  abbrev whole : Schema
  whole = with_archive was.schema

  has : HasRecord whole
  has = becomes_record was.schema f.schema

  -- ---- the table of the archives is made

  with_table : Created (state g (begun g old)) (state g m.made) was.schema (archive_at 0)
  with_table = creates make_archive (state g (begun g old)) (state g m.made) was.schema refl (archive_at 0) (makes_archive was.schema (archive_free was.schema f.schema)) (counted was.schema f.schema) m.counts.0 m.makes

  first_stay : (t : Table) → Has was.schema.tables t → made.trees t.tree ≡ was.trees t.tree
  first_stay t there = all_has _ was.schema.tables t with_table.others there

  jobs_stay : made.trees (job_tree whole) ≡ was.trees (job_tree was.schema)
  jobs_stay = ap made.trees (same_job was.schema f.schema) ∙ first_stay (job_in was.schema) (job_was was.schema f.schema)

  none_yet : made.trees (archive_tree whole) ≡ []
  none_yet = ap made.trees (new_archive was.schema f.schema) ∙ with_table.empty

  tables : AreTables whole made
  tables = record {
    schema = with_table.schema_is;
    has = has;
    sound = with_table.sound;
    keyed = subst IsKeyed (sym jobs_stay) f.keyed;
    kept = subst IsKeyed (sym none_yet) keyed_none;
    ordered = subst IsTable (sym none_yet) tt;
  }

  -- ---- the archives are added

  read_is : read ≡ made
  read_is = (shown_same archived_text [] (state g m.made) (state g m.read) (subst (λ s. IsPlain (understood s archived_text)) (sym with_table.schema_is) (archived_plain whole has.tables)) m.all m.shows).0.now_is

  answered : IsSureAnswer (archived_on (job_tree whole)) (overlay made.trees []) [] m.all
  answered =
      let asks = archived_is whole has.tables in
      (reads_as archived_text [] (state g m.made) (state g m.read) whole with_table.schema_is _ asks.0 (archived_plain whole has.tables) asks.1 m.all m.shows).answer

  shown : AreShown is_archived key_and_files (made.trees (job_tree whole)) [] m.all
  shown = shown_rows (job_tree whole) is_archived key_and_files by_first made.trees [] m.all answered

  grown : GrownBy whole read grown_to 0 m.all []
  grown =
      let empty = ap (λ (d : Database). d.trees (archive_tree whole)) read_is ∙ none_yet in
      grows_all g whole m.read m.added 0 m.all [] (subst (AreTables whole) (sym read_is) tables) (subst (λ l. IsListOf (held_in l) []) (sym empty) no_list) (omega arith) (omega (arith, m.few)) m.adds

  -- a table that was there keeps its rows
  stays : (t : Table) → Has was.schema.tables t → grown_to.trees t.tree ≡ was.trees t.tree
  stays t there =
      let low = table_below was.schema t there in
      let last_one = new_archive was.schema f.schema in
      grown.grown.others t (has_left was.schema.tables _ t there) (λ same. omega (arith, same, last_one, low)) ∙ ap (λ (d : Database). d.trees t.tree) read_is ∙ first_stay t there

  meta_stays : grown_to.trees (meta_tree whole) ≡ was.trees (meta_tree was.schema)
  meta_stays = ap grown_to.trees (same_meta was.schema f.schema) ∙ stays (meta_in was.schema) (meta_was was.schema f.schema)

  -- ---- the version is noted

  renoted : Renoted whole (state g m.added) (state g last)
  renoted = renotes whole has (meta_idle was.schema f.schema) (state g m.added) (state g last) grown.grown.tables.schema m.counts.1 m.notes

  -- a version that was noted is now 2
  pub says_two : IsKeyed (was.trees (meta_tree was.schema)) → (r : Columns) → Has (was.trees (meta_tree was.schema)) r → column r 1 ≡ Text (codes "version") → SaysVersion (state g last).now 2
  says_two keyed r there is =
      subst (λ (t : Schema). AreOfVersion ((state g last).now.trees (meta_tree t)) 2) (sym renoted.schema_is)
      (renoted_says_two whole (state g m.added) (state g last) renoted (subst IsKeyed (sym meta_stays) keyed) r (subst (λ l. Has l r) (sym meta_stays) there) is)

  jobs : (state g last).now.trees (job_tree whole) ≡ was.trees (job_tree was.schema)
  jobs =
      renoted.others (job_in whole) (job_there whole has.tables) (λ same. meta_not_job whole has (sym same))
      ∙ ap grown_to.trees (same_job was.schema f.schema) ∙ stays (job_in was.schema) (job_was was.schema f.schema)

  archives : (state g last).now.trees (archive_tree whole) ≡ grown_to.trees (archive_tree whole)
  archives = renoted.others (archive_in whole) (archive_there whole has.tables) (λ same. meta_not_archive whole has (sym same))

  others : (t : Table) → Has whole.tables t → IsOther whole t → (state g last).now.trees t.tree ≡ was.trees t.tree
  others t there other = renoted.others t there (not_meta was.schema f.schema t there other) ∙ stays t (other_was was.schema f.schema t there other)

  pub migrated : (budget : Option ℕ) → MigratedTo budget (state g old) (state g last).now
  migrated budget =
      let new = grown.new in
      let list = grown.grown.list in
      let sorted = archives_sorted (job_tree whole) made.trees m.all answered 0 new grown.numbered in
      let beside = migrated_beside was in
      record {
        map = record { rows = held (state g old); archives = new; budget = budget; beside = beside };
        budget_is = refl;
        is = record { rows = λ key. refl; archives = subst (λ l. AreArchivesOf (held_in l) new) jobs_stay (are_archives whole made tables m.all new grown.numbered list.apart shown sorted); beside = refl };
        holds = record {
          schema = renoted.schema_is;
          has = has;
          beside = others;
          sound = renoted.sound;
          keyed = subst IsKeyed (sym jobs) f.keyed;
          kept = subst IsKeyed (sym archives) grown.grown.tables.kept;
          ordered = subst IsTable (sym archives) grown.grown.tables.ordered;
          rows = λ key. ap (λ l. held_in l key) jobs;
          archives = subst (λ l. AreArchives l new) (sym archives) (archives_of (grown_to.trees (archive_tree whole)) (held_in (grown_to.trees (archive_tree whole))) new (λ k. refl) list);
        };
        in_step = subst (λ l. IsInStep (record { rows = held_in l; archives = new; budget = budget; beside = beside })) jobs_stay (in_step whole made tables m.all new grown.numbered list.apart shown budget beside);
      }
